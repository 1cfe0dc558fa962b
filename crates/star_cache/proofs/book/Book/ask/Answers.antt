use Rattle.std.proofs.Common.{◌≡◌, ◌∙◌, ℕ, Some, sym, subst, arith}
use Rattle.std.proofs.lemmas.Bool.{false≢true}
use Rattle.star_cache.specs.State.{Loads, top_of, stack_of}
use Rattle.star_cache.specs.Step.{MeetsSeat}
use Rattle.star_cache.proofs.Ask.{known-again, Reached-target, Loads-target, IsCyclic-target, MeetsSeat-alone, Tells-ended}
use Rattle.star_cache.proofs.book.Book.ask.Goals as goal

pub standing-requires : goal.standing-requires
standing-requires g c =
    let turn = c.in_ok-check_turn.ensures.turn in
    let book = c.in_ok-check_turn.ensures.book in
    let reached = Reached-target g.P.Product.loads g.P.Product.IsGood g.P.Product.IsReached g.P.Product.IsRight g.P.Product.files c.args.self.now book g.met.P.Product.next_reached c.args.seat c.args.target c.args.parent turn c.requires.load in
    omega (arith, g.met.P.Product.reached_below c.args.target reached, book.size)

pub begin-requires-clause-known : goal.begin-requires-clause-known
begin-requires-clause-known g c =
    let turn = c.in_ok-check_turn.ensures.turn in
    let book = c.in_ok-check_turn.ensures.book in
    let reached = Reached-target g.P.Product.loads g.P.Product.IsGood g.P.Product.IsReached g.P.Product.IsRight g.P.Product.files c.args.self.now book g.met.P.Product.next_reached c.args.seat c.args.target c.args.parent turn c.requires.load in
    known-again _ _ c.args.target c.in_ok-reply.ensures.same (omega (arith, g.met.P.Product.reached_below c.args.target reached, book.size))

pub begin-requires-clause-reached : goal.begin-requires-clause-reached
begin-requires-clause-reached g c =
    Reached-target g.P.Product.loads g.P.Product.IsGood g.P.Product.IsReached g.P.Product.IsRight g.P.Product.files c.args.self.now c.in_ok-check_turn.ensures.book g.met.P.Product.next_reached c.args.seat c.args.target c.args.parent c.in_ok-check_turn.ensures.turn c.requires.load

pub begin-requires-clause-loaded : goal.begin-requires-clause-loaded
begin-requires-clause-loaded g c =
    subst (λ v. (x : ℕ) → top_of (stack_of v c.args.seat) ≡ Some x → Loads g.P.Product.loads x c.args.target) (sym c.in_ok-reply.ensures.same)
    (Loads-target g.P.Product.loads g.P.Product.IsGood g.P.Product.IsReached g.P.Product.IsRight g.P.Product.files c.args.self.now c.in_ok-check_turn.ensures.book c.args.seat c.args.target c.args.parent c.in_ok-check_turn.ensures.turn c.requires.load)

pub wait_for-requires-clause-loaded : goal.wait_for-requires-clause-loaded
wait_for-requires-clause-loaded g c =
    subst (λ v. (x : ℕ) → top_of (stack_of v c.args.seat) ≡ Some x → Loads g.P.Product.loads x c.args.target) (sym c.in_ok-reply.ensures.same)
    (Loads-target g.P.Product.loads g.P.Product.IsGood g.P.Product.IsReached g.P.Product.IsRight g.P.Product.files c.args.self.now c.in_ok-check_turn.ensures.book c.args.seat c.args.target c.args.parent c.in_ok-check_turn.ensures.turn c.requires.load)

pub returns-in-Ended-clause-tells : goal.returns-in-Ended-clause-tells
returns-in-Ended-clause-tells g c =
    Tells-ended g.P.Product.loads g.P.Product.IsGood g.P.Product.IsReached g.P.Product.IsRight g.P.Product.files c.args.self.now c.in_ok-check_turn.ensures.book _ _ g.P.Product.is_good g.met.P.Product.right_good c.args.target c.in-Ended.reply (rw c.in-Ended.is at c.in_ok-reply.ensures.standing)

pub returns-then-meets-clause-tells : goal.returns-then-meets-clause-tells
returns-then-meets-clause-tells g c =
    IsCyclic-target g.P.Product.loads g.P.Product.IsGood g.P.Product.IsReached g.P.Product.IsRight g.P.Product.files c.args.self.now c.in_ok-check_turn.ensures.book c.args.seat c.args.target c.args.parent c.in_ok-check_turn.ensures.turn c.requires.load (subst (λ v. MeetsSeat v c.args.target c.args.seat) c.in_ok-reply.ensures.same (c.meets.ensures.0 c.if-meets.true))

pub returns-else-meets-clause-alone : goal.returns-else-meets-clause-alone
returns-else-meets-clause-alone g c = λ one _.
    let met = MeetsSeat-alone g.P.Product.loads g.P.Product.IsGood g.P.Product.IsReached g.P.Product.IsRight g.P.Product.files c.args.self.now c.in_ok-check_turn.ensures.book c.args.seat c.args.target c.in_ok-check_turn.ensures.turn.there one (rw c.in-Running.is at c.in_ok-reply.ensures.standing) in
    false≢true (sym c.if-meets.false ∙ c.meets.ensures.1 (subst (λ v. MeetsSeat v c.args.target c.args.seat) (sym c.in_ok-reply.ensures.same) met))
