use Rattle.std.proofs.Common.{◌≡◌, ◌∙◌, Some, sym}
use Rattle.std.proofs.lemmas.Result.{IfOk-weaker}
use Rattle.std.specs.Prelude.{slice_get}
use Rattle.star_report.proofs.CallRows.{root_added}
use Rattle.star_report.proofs.Gets.{flat_some, not_missing}
use Rattle.star_report.proofs.calls.root_is_added.Goals as goal

pub returns-in-Some : goal.returns-in-Some
returns-in-Some c =
    let table = c.args.table.now in
    let there : slice_get table c.args.root ≡ Some (Some c.in-Some.it) = flat_some (slice_get table c.args.root) c.in-Some.it (sym c.module_at.ensures ∙ c.in-Some.is) in
    IfOk-weaker c.push_root.result _ _ (λ ok h files plan planned size is reached. root_added c.args.files.now plan c.args.root c.args.name.now c.in-Some.it.now c.args.text.now.items c.push_root.new.text.items ok (is.right c.args.root c.in-Some.it there).1 h) c.push_root.ensures

pub returns-in-None : goal.returns-in-None
returns-in-None c = λ files plan planned size is reached. not_missing plan c.args.table.now c.args.root is reached (sym c.module_at.ensures ∙ c.in-None.is)
