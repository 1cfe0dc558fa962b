use Rattle.std.proofs.Common.{◌≡◌, inl, inr, refl, ap, sym, ◌∙◌, subst}
use Rattle.star_plan.specs.Shelves.{Needs}
use Rattle.star_outcome.specs.Gathered.{GivenView, IsGathered, IsListed}
use Rattle.star_outcome.specs.Reaches.{StoreRowView, row_of}
use Rattle.star_outcome.proofs.Stores.{gathered_more, listed_front, listed_last}
use Rattle.star_reading.proofs.Finds.{by_cases}
use Rattle.star_outcome.proofs.reachable.ReachableStores.add.Goals as goal

pub returns-then-has-clause-there : goal.returns-then-has-clause-there
returns-then-has-clause-there g c =
    let row : row_of c.self.inside.reaches ≡ c.args.self.now.reaches = ap (λ (v : GivenView). v.reaches) c.self.view_is in
    subst (λ rs. IsListed rs c.args.reach.now.number) row
    (subst (IsListed (row_of c.self.inside.reaches)) c.number-number.ensures (c.self.invariant.listed c.number-number.result (c.has.ensures c.if-has.true)))

pub invariant_of-self-in_err-push_again : goal.invariant_of-self-in_err-push_again
invariant_of-self-in_err-push_again g c =
    subst (λ (s : StoreRowView). IsGathered g.J.RunId.plan c.self.inside.file c.make_room.new.self (row_of s)) (sym c.in_err-push_again.ensures.refused)
    (record {
      needed = c.self.invariant.needed;
      listed = λ k h. c.self.invariant.listed k ((c.in_ok-make_room.ensures.same k).0 h);
    })

pub invariant_of-self-2 : goal.invariant_of-self-2
invariant_of-self-2 g c =
    let plan = g.J.RunId.plan in
    let reach = c.args.reach.now in
    let file : c.args.self.now.file ≡ c.self.inside.file = sym (ap (λ (v : GivenView). v.file) c.self.view_is) in
    subst (IsGathered plan c.self.inside.file c.insert.new.self) (sym c.in_ok-push_again.ensures.added)
    (gathered_more plan c.self.inside.file c.self.inside.numbers c.insert.new.self (row_of c.self.inside.reaches) reach
    (λ k h. by_cases ((c.insert.ensures k).0 h) (λ e. inl (e ∙ c.number-number.ensures)) (λ old. inr ((c.in_ok-make_room.ensures.same k).0 old)))
    c.self.invariant (subst (λ n. Needs plan n reach.number) file c.requires.needed) c.requires.own)

pub returns-clause-stays : goal.returns-clause-stays
returns-clause-stays g c = λ k h.
    let row : row_of c.self.inside.reaches ≡ c.args.self.now.reaches = ap (λ (v : GivenView). v.reaches) c.self.view_is in
    subst (λ rs. IsListed rs k) (sym c.in_ok-push_again.ensures.added) (listed_front (row_of c.self.inside.reaches) c.args.reach.now k (subst (λ rs. IsListed rs k) (sym row) h))

pub returns-clause-there : goal.returns-clause-there
returns-clause-there g c =
    subst (λ rs. IsListed rs c.args.reach.now.number) (sym c.in_ok-push_again.ensures.added) (listed_last (row_of c.self.inside.reaches) c.args.reach.now c.args.reach.now.number refl)
