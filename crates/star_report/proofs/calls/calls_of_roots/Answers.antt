use Rattle.std.proofs.Common.{◌≡◌, ap, arith, length, sym, subst}
use Rattle.std.proofs.lemmas.Result.{IfOk-weaker}
use Rattle.star_outcome.specs.Kept.{AreModules}
use Rattle.star_report.specs.Table.{IsTable}
use Rattle.star_report.proofs.calls.calls_of_roots.Goals as goal

pub returns-clause-got : goal.returns-clause-got
returns-clause-got c =
    let files = c.args.files.now in
    let same = c.in_ok-kept.ensures.same in
    let value = c.as_slice.ensures.value in
    let size : length files ≡ length c.as_slice.result.now =
    let a = c.len.ensures.len in let b = c.in_ok-table.ensures.size in let k = c.in_ok-table.table.ok.0 in let l = ap length value in omega (arith, a, b, k, l) in
    IfOk-weaker c.lines_of.result _ _ (λ g h plan planned roots are.
    h files plan planned size (subst (IsTable plan) (sym value) (c.in_ok-table.ensures.modules plan (subst (λ r. AreModules plan r.kept) (sym same) are))) roots)
    c.lines_of.ensures.got
