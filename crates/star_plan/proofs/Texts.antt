-- One text for files.
use Rattle.std.proofs.Common.{◌≡◌, ℕ, List, ap, sym, subst, ◌∙◌}
use Rattle.star_label.specs.Files.{File}
use Rattle.star_plan.specs.Laws.{OneText}
use Rattle.star_plan.specs.Plan.{Plan}
use Rattle.star_plan.specs.Text.{IsReportText, report_text}
use Rattle.star_plan.proofs.Plans.{one-plan}
use Rattle.star_plan.proofs.Reports.{one-report}

one_text_of : (files : List File) (plan : Plan) (a b : List ℕ) → IsReportText files plan a → IsReportText files plan b → a ≡ b
one_text_of files plan a b (m, ms, x, is) (k, ks, y, also) =
    let same = one-report plan m k ms ks x y in
    is ∙ (ap (λ z. report_text files z ms) same.0 ∙ (ap (report_text files k) same.1 ∙ sym also))

pub one_text : OneText
one_text files ordered p q is also roots prelude mode a b x y =
    let same : p ≡ q = one-plan files ordered p q is also roots prelude mode in
    one_text_of files q a b (subst (λ z. IsReportText files z a) same x) y
