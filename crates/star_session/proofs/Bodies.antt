-- The text of a report without its line end, and the outcomes that its run leaves.
use Rattle.std.proofs.Common.{◌≡◌, ◌-◌, ◌+◌, ℕ, List, [], ◌∷◌, ◌++◌, Bool, false, true, Option, length, take, refl, ap, sym, ◌∙◌, subst, length-append, append_assoc, arith}
use Rattle.std.proofs.Math.Seq.{take-append_seam}
use Rattle.std.specs.List.{filter}
use Rattle.std.specs.Prelude.{map}
use Rattle.std.specs.Prelude.{codes, decimal}
use Rattle.serde_json.specs.Data.{Data, array, member, no_members, number, object, unsigned}
use Rattle.serde_json.specs.View.{items_of}
use Rattle.serde_json.specs.Written.{compact_text}
use Rattle.star_dialect.specs.declared.Mode.{Mode}
use Rattle.star_report.specs.Joined.{joined_text, listed}
use Rattle.star_report.specs.Wanted.{Full, full_data, full_row, is_shown, whole_text}
use Rattle.star_label.specs.Files.{File, IsOrdered}
use Rattle.star_outcome.specs.GoodEnds.{AreReachedEnds}
use Rattle.star_outcome.specs.declared.good_end.GoodEnd.{GoodEnd}
use Rattle.star_memo.specs.Outcomes.{AreOutcomes}
use Rattle.star_memo.proofs.Staying.{left_by}
use Rattle.star_plan.specs.Plan.{Plan}
use Rattle.star_report.specs.Output.{InPlanOf, IsOutput}
use Rattle.star_report.specs.Wanted.{IsFullText, full_text}
use Rattle.star_report.specs.declared.wanted.Output.TheVariants.{Report}
use Rattle.star_report.specs.declared.wanted.Wanted.{Wanted}

without_end : (text body : List ℕ) → text ≡ body ++ 10 ∷ [] → take (length text - 1) text ++ 10 ∷ [] ≡ text
without_end text body is =
    let size : length text ≡ length body + 1 = ap length is ∙ length-append body (10 ∷ []) in
    let one : length text - 1 ≡ length body = omega (arith, size) in
    let front : take (length text - 1) text ≡ body = ap (λ n. take n text) one ∙ ap (take (length body)) is ∙ take-append_seam body (10 ∷ []) in
    ap (λ t. t ++ 10 ∷ []) front ∙ sym is

-- a text that ends with a line end
record Ends (text : List ℕ) : Type 0 where
  body : List ℕ
  is : text ≡ body ++ 10 ∷ []

joined_text-ends : (begun : ℕ) (texts : List (List ℕ)) → Ends (joined_text begun texts)
joined_text-ends begun texts =
    let all : List ℕ = listed false texts in
    record {
      body = codes "{\"begun\":" ++ (decimal begun ++ (codes ",\"modules\":[" ++ (all ++ codes "]}")));
      is = sym (ap (λ x. codes "{\"begun\":" ++ x) (append_assoc (decimal begun) (codes ",\"modules\":[" ++ (all ++ codes "]}")) (10 ∷ []) ∙ ap (λ x. decimal begun ++ (codes ",\"modules\":[" ++ x)) (append_assoc all (codes "]}") (10 ∷ []))));
    }

full_text-ends : (wanted : Wanted) (files : List File) (plan : Plan) (begun : ℕ) (fulls : List Full) → Ends (full_text wanted files plan begun fulls)
unfolding full_text
full_text-ends wanted files plan begun fulls = record {
  body = compact_text (object (member (codes "begun") (number (unsigned begun)) (member (codes "modules") (array (items_of (map (full_data files) (filter (is_shown wanted plan) fulls)))) no_members)));
  is = refl;
}

whole_text-ends : (b : Bool) (wanted : Wanted) (files : List File) (plan : Plan) (begun : ℕ) (fulls : List Full) → Ends (whole_text b wanted files plan begun fulls)
whole_text-ends false wanted files plan begun fulls = full_text-ends wanted files plan begun fulls
whole_text-ends true wanted files plan begun fulls = joined_text-ends begun (map (full_row wanted files) (filter (is_shown wanted plan) fulls))

ends : (wanted : Wanted) (files : List File) (plan : Plan) (text : List ℕ) → IsFullText wanted files plan text → take (length text - 1) text ++ 10 ∷ [] ≡ text
ends wanted files plan text full = by (whole_text wanted.calls wanted files plan full.begun full.fulls) (whole_text-ends wanted.calls wanted files plan full.begun full.fulls) full.text_is
  where
    by : (t : List ℕ) → Ends t → text ≡ t → take (length text - 1) text ++ 10 ∷ [] ≡ text
    by t h e = without_end text h.body (e ∙ h.is)

pub body_of : (wanted : Wanted) (files : List File) (roots : List ℕ) (prelude : Option ℕ) (mode : Mode) (text body : List ℕ) (n : ℕ) (ok : Bool) → n ≡ length text → body ≡ take (n - 1) text
    → InPlanOf files roots prelude mode (λ plan. IsOutput (Report wanted) files plan text ok) → InPlanOf files roots prelude mode (λ plan. IsOutput (Report wanted) files plan (body ++ 10 ∷ []) ok)
body_of wanted files roots prelude mode text body n ok size is (plan, planned, of_roots, of_prelude, of_mode, both) =
    let same : body ++ 10 ∷ [] ≡ text = ap (λ b. b ++ 10 ∷ []) (is ∙ ap (λ m. take (m - 1) text) size) ∙ ends wanted files plan text both.0 in
    (plan, planned, of_roots, of_prelude, of_mode, (subst (IsFullText wanted files plan) (sym same) both.0, both.1))

-- the good ends that a run leaves are outcomes of its files
pub left_in : (files : List File) (roots : List ℕ) (prelude : Option ℕ) (mode : Mode) (es : List (Option GoodEnd)) → IsOrdered files → InPlanOf files roots prelude mode (λ plan. AreReachedEnds plan es) → AreOutcomes files prelude mode es
left_in files roots prelude mode es ordered (plan, planned, of_roots, of_prelude, of_mode, are) =
    subst (λ n. AreOutcomes files prelude n es) of_mode
    (subst (λ p. AreOutcomes files p plan.mode es) of_prelude (left_by files plan es ordered planned are))
