use Rattle.std.proofs.Common.{◌≡◌, ◌∙◌, Some, None, sym, subst, refl, arith, add-one}
use Rattle.std.proofs.lemmas.Bool.{false≢true}
use Rattle.star_cache.specs.declared.entry.Entry.TheVariants.{Running}
use Rattle.star_cache.specs.State.{entry_at}
use Rattle.star_cache.specs.Rows.{book_state}
use Rattle.star_cache.proofs.Meets.{IsAt-start, IsAt-step, IsAt-bounded, MeetsSeat-found, MeetsSeat-missed, below_running, below_owners, below_loaders, owner_read, waits_read, entry_read}
use Rattle.star_cache.proofs.book.Book.meets.Goals as goal

pub loop-walked-init : goal.loop-walked-init
loop-walked-init g c =
    IsAt-start _ _ _ _ _ _ _ _ c.self.invariant.0 _ _ (rw (← c.self.view_is) at c.requires.running)

pub index-owner-requires : goal.index-owner-requires
index-owner-requires g c =
    let low = below_owners _ _ _ _ _ _ _ _ c.self.invariant.0 _ c.loop-walked.invariant.running in
    omega (arith, low, c.self.inside.owners.ok.0)

pub returns-then-owner-seat : goal.returns-then-owner-seat
returns-then-owner-seat g c =
    let own = owner_read _ _ _ _ _ _ _ _ c.self.invariant.0 _ _ c.loop-walked.invariant.running c.index-owner.ensures in
    let met = MeetsSeat-found _ _ _ _ _ _ _ _ c.self.invariant.0 _ _ _ _ (rw (← c.self.view_is) at c.requires.running) c.loop-walked.invariant (own ∙ c.if-owner-seat.true) in
    rw (← c.self.view_is) ((λ _. met), (λ _. refl))

pub index-requires : goal.index-requires
index-requires g c =
    let own = owner_read _ _ _ _ _ _ _ _ c.self.invariant.0 _ _ c.loop-walked.invariant.running c.index-owner.ensures in
    let low = below_loaders _ _ _ _ _ _ _ _ c.self.invariant.0 _ c.loop-walked.invariant.running in
    omega (arith, own, low, c.self.inside.loaders.ok.0)

pub returns-in-None : goal.returns-in-None
returns-in-None g c =
    let own = owner_read _ _ _ _ _ _ _ _ c.self.invariant.0 _ _ c.loop-walked.invariant.running c.index-owner.ensures in
    let waits = waits_read _ _ _ _ _ _ _ _ c.self.invariant.0 _ _ _ c.loop-walked.invariant.running own c.index.ensures in
    let missed = MeetsSeat-missed _ _ _ _ _ _ _ _ c.self.invariant.0 _ _ _ _ c.loop-walked.invariant (λ e. c.if-owner-seat.false (sym own ∙ e)) (λ next w r. let clash : Some next ≡ None = sym w ∙ waits ∙ c.in-None.is in cc) in
    rw (← c.self.view_is) ((λ t. absurd (false≢true t)), (λ m. absurd (missed m)))

pub index-requires-in-Some : goal.index-requires-in-Some
index-requires-in-Some g c =
    let own = owner_read _ _ _ _ _ _ _ _ c.self.invariant.0 _ _ c.loop-walked.invariant.running c.index-owner.ensures in
    let waits = waits_read _ _ _ _ _ _ _ _ c.self.invariant.0 _ _ _ c.loop-walked.invariant.running own c.index.ensures in
    let low = below_running (book_state c.self.inside.entries.items c.self.inside.parents.items c.self.inside.loaders.items) c.in-Some.next (c.self.invariant.0.lawful.awaits_begun _ _ (waits ∙ c.in-Some.is)) in
    omega (arith, low, c.self.inside.entries.ok.0)

pub returns-in_default : goal.returns-in_default
returns-in_default g c =
    let own = owner_read _ _ _ _ _ _ _ _ c.self.invariant.0 _ _ c.loop-walked.invariant.running c.index-owner.ensures in
    let waits = waits_read _ _ _ _ _ _ _ _ c.self.invariant.0 _ _ _ c.loop-walked.invariant.running own c.index.ensures in
    let missed = MeetsSeat-missed _ _ _ _ _ _ _ _ c.self.invariant.0 _ _ _ _ c.loop-walked.invariant (λ e. c.if-owner-seat.false (sym own ∙ e)) (λ next w r. let same : Some next ≡ Some c.in-Some.next = sym w ∙ waits ∙ c.in-Some.is in let at : next ≡ c.in-Some.next = cc in let begun = c.self.invariant.0.lawful.awaits_begun _ _ (waits ∙ c.in-Some.is) in let found = entry_read _ _ _ _ _ _ _ _ c.self.invariant.0 _ _ begun c.index-in-Some.ensures in c.in_default.not-Running (sym found ∙ subst (λ v. entry_at (book_state c.self.inside.entries.items c.self.inside.parents.items c.self.inside.loaders.items) v ≡ Running) at r)) in
    rw (← c.self.view_is) ((λ t. absurd (false≢true t)), (λ m. absurd (missed m)))

pub loop-walked-preserved : goal.loop-walked-preserved
loop-walked-preserved g c =
    let own = owner_read _ _ _ _ _ _ _ _ c.self.invariant.0 _ _ c.loop-walked.invariant.running c.index-owner.ensures in
    let waits = waits_read _ _ _ _ _ _ _ _ c.self.invariant.0 _ _ _ c.loop-walked.invariant.running own c.index.ensures in
    let begun = c.self.invariant.0.lawful.awaits_begun _ _ (waits ∙ c.in-Some.is) in
    let found = entry_read _ _ _ _ _ _ _ _ c.self.invariant.0 _ _ begun c.index-in-Some.ensures in
    rw add-one (IsAt-step _ _ _ _ _ _ _ _ c.self.invariant.0 _ _ _ _ _ c.loop-walked.invariant (λ e. c.if-owner-seat.false (sym own ∙ e)) (waits ∙ c.in-Some.is) (found ∙ c.in-Running.is))

pub unreachable-requires : goal.unreachable-requires
unreachable-requires g c =
    let h = c.loop-walked-test.false in
    IsAt-bounded _ _ _ _ _ _ _ _ c.self.invariant.0 _ _ _ _ c.loop-walked.invariant (omega (arith, c.self.inside.loaders.ok.0))
