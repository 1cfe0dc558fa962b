use Rattle.std.proofs.Common.{◌≡◌, ◌∙◌, Some, sym}
use Rattle.std.proofs.lemmas.Result.{IfOk-weaker}
use Rattle.std.specs.Prelude.{slice_get}
use Rattle.star_report.proofs.Gets.{flat_some, json_has, not_missing}
use Rattle.star_report.proofs.got.json_at.Goals as goal

pub returns-in-Some : goal.returns-in-Some
returns-in-Some c =
    let table = c.args.table.now in
    let there : slice_get table c.args.root ≡ Some (Some c.in-Some.it) = flat_some (slice_get table c.args.root) c.in-Some.it (sym c.module_at.ensures ∙ c.in-Some.is) in
    IfOk-weaker c.json_in.result _ _ (λ r h files plan planned size is reached. json_has files plan table c.args.root c.in-Some.it c.args.name.now r planned size is there h) c.json_in.ensures

pub returns-in-None : goal.returns-in-None
returns-in-None c = λ files plan planned size is reached. not_missing plan c.args.table.now c.args.root is reached (sym c.module_at.ensures ∙ c.in-None.is)
