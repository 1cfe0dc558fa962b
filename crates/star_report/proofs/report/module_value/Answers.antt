use Rattle.std.proofs.Common.{sym, subst}
use Rattle.std.proofs.lemmas.Result.{IfOk-weaker}
use Rattle.serde_json.specs.View.{view}
use Rattle.star_report.specs.Shown.{IsShown}
use Rattle.star_report.proofs.report.module_value.Goals as goal

pub returns-in-Load : goal.returns-in-Load
returns-in-Load c = IfOk-weaker c.load_module.result _ _ (λ v h. subst (λ e. IsShown c.args.files.now c.args.causes.now c.args.it.now.number e (view v)) (sym c.in-Load.is) h) c.load_module.ensures
