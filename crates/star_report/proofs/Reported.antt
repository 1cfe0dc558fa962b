-- The pages of a run's modules, once they are written and joined, are the text of its report.
use Rattle.std.proofs.Common.{◌≡◌, ◌∙◌, ◌++◌, ℕ, Bool, List, Vec, Result, IfOk, IsSome, ap, sym, subst, length, map, take}
use Rattle.std.proofs.lemmas.Result.{IfOk-weaker}
use Rattle.std.specs.Prelude.{All}
use Rattle.star_cause.specs.Causes.{AreNextsOf}
use Rattle.star_cause.specs.Ways.{Nexts}
use Rattle.star_label.specs.Files.{File, IsOrdered}
use Rattle.star_outcome.specs.Kept.{KeptView, RunView}
use Rattle.star_outcome.proofs.Lent.{written_back}
use Rattle.star_reading.specs.Found.{AreMarked, IsReadOf}
use Rattle.star_reading.specs.Readings.{Row, readings}
use Rattle.star_report.specs.Fails.{AreFails}
use Rattle.star_report.specs.Joined.{joined_text}
use Rattle.star_report.specs.Pages.{AreWritten, HasItsLoads, SaysShown, known_of, shown_texts_of}
use Rattle.star_report.specs.Shown.{IsReportBut, ReportsRun}
use Rattle.star_report.specs.declared.pages.Page.{Page}
use Rattle.star_report.specs.declared.wanted.Wanted.{Wanted}
use Rattle.star_report.proofs.Planned.{read_plan}
use Rattle.star_report.proofs.Sheets.{both_ok, pages_text}

-- `lent` are the pages as they were lent to be written, `wrote` as they came back, and `new` as they are joined
pub run_reported : {Z E : Type 0} (wanted : Wanted) (files : List File) (row : Row) (roots : List ℕ) (run after : RunView) (nexts fails : Nexts) (marks : List Bool) (old lent wrote rest new : List Page) (count begun : ℕ) (r : Result (Vec ℕ Z) E)
    → IsOrdered files → after ≡ run → AreFails run.kept fails → nexts ≡ fails → AreMarked roots marks
    → map known_of old ≡ map (λ (k : KeptView). k.known) after.kept → ((rs : List ℕ) → AreMarked rs marks → All (SaysShown wanted rs) old) → All (HasItsLoads row) old
    → lent ≡ old → AreWritten wanted files nexts lent wrote → length wrote ≡ length lent → length wrote ≡ count → new ≡ take count (wrote ++ rest)
    → begun ≡ after.begun → IfOk r (λ _. All (λ (p : Page). IsSome p.text) new) → IfOk r (λ s. s.items ≡ joined_text begun (shown_texts_of new))
    → IfOk r (λ s. ReportsRun wanted files row roots run s.items)
run_reported wanted files row roots run after nexts fails marks old lent wrote rest new count begun r ordered same failing nexts_are marked known shown loads lent_is written whole long back begun_is some text =
    let known_in : map known_of old ≡ map (λ (k : KeptView). k.known) run.kept = known ∙ ap (λ (x : RunView). map (λ (k : KeptView). k.known) x.kept) same in
    let is : new ≡ wrote = back ∙ written_back count wrote rest long in
    let of_old : AreWritten wanted files nexts old wrote = subst (λ (o : List Page). AreWritten wanted files nexts o wrote) lent_is written in
    let of_new : AreWritten wanted files nexts old new = subst (AreWritten wanted files nexts old) (sym is) of_old in
    let as_long : length new ≡ length old = ap length is ∙ (whole ∙ ap length lent_is) in
    IfOk-weaker r _ _ (λ s h plan planned of_roots was_read are.
    let read : readings row ≡ plan.reads = read_plan files row plan ordered planned (subst (λ rs. IsReadOf files rs plan.prelude plan.mode.language row) (sym of_roots) was_read) in
    subst (λ b. IsReportBut wanted files plan (length run.kept) b s.items) (begun_is ∙ ap (λ (x : RunView). x.begun) same)
    (pages_text wanted files row plan nexts run.kept old new begun s.items known_in (subst (λ rs. All (SaysShown wanted rs) old) (sym of_roots) (shown roots marked)) loads of_new as_long h.0 h.1 planned read are (subst (AreNextsOf plan) (sym nexts_are) (failing files plan planned are))))
    (both_ok r _ _ some text)
