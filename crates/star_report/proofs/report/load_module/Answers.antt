use Rattle.std.proofs.Common.{◌≡◌, ◌∙◌, subst}
use Rattle.std.proofs.lemmas.Result.{IfOk-weaker}
use Rattle.serde_json.specs.View.{view}
use Rattle.star_cause.specs.Causes.{IsBelow, cause_of}
use Rattle.star_label.specs.Files.{label_at}
use Rattle.star_plan.specs.Text.{load_data}
use Rattle.star_report.proofs.report.load_module.Goals as goal

pub load_value-requires : goal.load_value-requires
load_value-requires c = subst (λ k. IsBelow k (cause_of c.in_ok-cause.cause)) c.requires.files c.in_ok-cause.ensures.files

pub returns : goal.returns
returns c =
    let files = c.args.files.now in
    let cause = cause_of c.in_ok-cause.cause in
    let same : c.text-label.result.now ≡ label_at files c.args.n = c.text-label.ensures ∙ c.label.ensures in
    IfOk-weaker c.load_value.result _ _ (λ v e. (cause, c.in_ok-cause.ensures.cause, subst (λ l. view v ≡ load_data files l cause c.args.line) same e)) c.load_value.ensures
