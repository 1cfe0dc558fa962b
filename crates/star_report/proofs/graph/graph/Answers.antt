use Rattle.std.proofs.Common.{map, sym, subst}
use Rattle.std.proofs.lemmas.Result.{IfOk-weaker}
use Rattle.star_outcome.specs.Kept.{AreModules}
use Rattle.star_report.specs.Drawn.{node_view}
use Rattle.star_report.specs.Graph.{IsGraph}
use Rattle.star_report.specs.Table.{IsTable}
use Rattle.star_report.proofs.Planned.{read_plan}
use Rattle.star_report.proofs.graph.graph.Goals as goal

pub returns-clause-text : goal.returns-clause-text
returns-clause-text c =
    let files = c.args.files.now in
    let row = c.args.reads.now.all.items in
    let same = c.in_ok-kept.ensures.same in
    IfOk-weaker c.dot.result _ _ (λ s h plan planned was_read are.
    let read = read_plan files row plan c.len.ensures.ordered planned was_read in
    let table : IsTable plan c.as_slice.result.now = subst (IsTable plan) (sym c.as_slice.ensures.value) (c.in_ok-table.ensures.modules plan (subst (λ r. AreModules plan r.kept) (sym same) are)) in
    (map node_view c.as_slice-2.result.now, subst (λ vs. IsGraph plan (map node_view vs)) (sym c.as_slice-2.ensures.value) (c.in_ok-nodes.ensures.graph plan read table), h))
    c.dot.ensures
