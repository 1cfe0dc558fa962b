-- If nothing more is wanted, the report is the plain one.
use Rattle.std.proofs.Common.{arith, ◌≡◌, ◌<◌, ℕ, zero, suc, List, [], ◌∷◌, ◌++◌, length, map, refl, ap, sym, subst, ◌∙◌}
use Rattle.std.specs.Prelude.{codes, slice_index_or}
use Rattle.std.specs.List.{All, filter}
use Rattle.serde_json.specs.Data.{Data, Members, array, member, no_members, number, object, unsigned}
use Rattle.serde_json.specs.View.{items_of}
use Rattle.serde_json.specs.Written.{compact_text}
use Rattle.star_label.specs.Files.{File}
use Rattle.star_plan.specs.Plan.{Plan}
use Rattle.star_plan.specs.Report.{IsReport, Module}
use Rattle.star_plan.specs.Text.{IsReportText, module_data, report_text}
use Rattle.star_report.specs.Wanted.{AreMore, Full, IsFullText, added, followed, full_data, full_text, is_shown, nothing_more}
use Rattle.star_report.specs.Laws.{NothingMore}

abbrev Mores : List File → Plan → List Full → Type 0
Mores files plan fs = All (λ (f : Full). AreMore nothing_more files plan f.shown.file f.more) fs

abbrev modules_in : List Full → List Module
modules_in fs = map (λ (f : Full). f.shown) fs

-- if nothing more is wanted, there are no further members
no_more : (files : List File) (plan : Plan) (n : ℕ) (ms : Members) → AreMore nothing_more files plan n ms → ms ≡ no_members
no_more files plan n ms (l, s, v, a, b, c, is) = is ∙ (ap (λ x. followed x (followed s v)) a ∙ (ap (λ x. followed x v) b ∙ c))

none_more : (files : List File) (plan : Plan) (n : ℕ) (ms : Members) → ms ≡ no_members → AreMore nothing_more files plan n ms
none_more files plan n ms e = (no_members, no_members, no_members, refl, refl, refl, e)

rows : (files : List File) (plan : Plan) (fs : List Full) → Mores files plan fs → map (full_data files) (filter (is_shown nothing_more plan) fs) ≡ map (module_data files) (modules_in fs)
rows files plan [] h = refl
rows files plan (f ∷ fs) h =
    let none : f.more ≡ no_members = no_more files plan f.shown.file f.more (h zero f (omega arith)) in
    let one : full_data files f ≡ module_data files f.shown = ap (λ z. added z (module_data files f.shown)) none in
    let rest : map (full_data files) (filter (is_shown nothing_more plan) fs) ≡ map (module_data files) (modules_in fs) = rows files plan fs (λ k d less. h (suc k) d (omega (arith, less))) in
    ap (λ z. z ∷ map (full_data files) (filter (is_shown nothing_more plan) fs)) one ∙ ap (λ zs. module_data files f.shown ∷ zs) rest

abbrev text_of : ℕ → List Data → List ℕ
text_of begun ds = compact_text (object (member (codes "begun") (number (unsigned begun)) (member (codes "modules") (array (items_of ds)) no_members))) ++ 10 ∷ []

to_plain : (files : List File) (plan : Plan) (text : List ℕ) → IsFullText nothing_more files plan text → IsReportText files plan text
unfolding report_text full_text
to_plain files plan text is = (is.begun, modules_in is.fulls, is.report, is.text_is ∙ ap (text_of is.begun) (rows files plan is.fulls is.more))

abbrev plain : Module → Full
plain m = record { shown = m; more = no_members }

back : (ms : List Module) → modules_in (map plain ms) ≡ ms
back [] = refl
back (m ∷ ms) = ap (λ zs. m ∷ zs) (back ms)

bare : (ms : List Module) (k : ℕ) (d : Full) → k < length (map plain ms) → (slice_index_or (map plain ms) k d).more ≡ no_members
bare [] k d less = absurd (let no : ⊥ = omega (arith, less) in no)
bare (m ∷ ms) zero d less = refl
bare (m ∷ ms) (suc k) d less = bare ms k d (omega (arith, less))

mores : (files : List File) (plan : Plan) (ms : List Module) → Mores files plan (map plain ms)
mores files plan ms k d less = none_more files plan (slice_index_or (map plain ms) k d).shown.file (slice_index_or (map plain ms) k d).more (bare ms k d less)

from_plain : (files : List File) (plan : Plan) (text : List ℕ) → IsReportText files plan text → IsFullText nothing_more files plan text
unfolding report_text full_text
from_plain files plan text (begun, ms, report, is) = record {
  begun = begun;
  fulls = map plain ms;
  report = subst (IsReport plan begun) (sym (back ms)) report;
  more = mores files plan ms;
  text_is = is ∙ ap (text_of begun) (sym (rows files plan (map plain ms) (mores files plan ms) ∙ ap (map (module_data files)) (back ms)));
}

pub nothing_more_wanted : NothingMore
nothing_more_wanted files plan text = (to_plain files plan text, from_plain files plan text)
