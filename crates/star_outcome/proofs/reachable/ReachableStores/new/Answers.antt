use Rattle.std.proofs.Common.{[], subst, sym}
use Rattle.star_outcome.specs.Gathered.{IsGathered}
use Rattle.star_outcome.specs.Reaches.{StoreRowView, row_of}
use Rattle.star_outcome.proofs.Stores.{gathered_none}
use Rattle.star_outcome.proofs.reachable.ReachableStores.new.Goals as goal

pub invariant_of-result : goal.invariant_of-result
invariant_of-result g c =
    let plan = g.J.RunId.plan in
    subst (λ ws. IsGathered plan c.args.file ws (row_of c.new-2.result)) (sym c.new.ensures)
    (subst (λ (s : StoreRowView). IsGathered plan c.args.file [] (row_of s)) (sym c.new-2.ensures) (gathered_none plan c.args.file))
