-- Questions that ask for the same.
use Rattle.std.proofs.Common.{◌≡◌, Bool, true, false, ◌&&◌, not, refl, sym, ap, ◌∙◌, map, string_bytes}
use mathlib.Core.Bool.{beq}
use Rattle.std.specs.Prelude.{option_map}
use Rattle.std.proofs.lemmas.Bool.{and_parts, not-false}
use Rattle.star_session.specs.Requests.{question_of}
use Rattle.star_session.specs.declared.question.Question.{Question}
use Rattle.star_report.specs.declared.wanted.Wanted.{Wanted}

bit : (a b : Bool) → beq a b ≡ true → a ≡ b
bit true true h = refl
bit true false h = sym h
bit false true h = h
bit false false h = refl

abbrev wanted_of : Bool → Bool → Bool → Bool → Bool → Wanted
wanted_of values loads steps calls only_roots = record {
  values = values;
  loads = loads;
  steps = steps;
  calls = calls;
  only_roots = only_roots;
}

-- the same members are wanted where no comparison finds another
pub same_wanted : (w v : Wanted) → not (beq w.values v.values && (beq w.loads v.loads && (beq w.steps v.steps && (beq w.calls v.calls && beq w.only_roots v.only_roots)))) ≡ false
    → w ≡ v
same_wanted w v h =
    let values = and_parts _ _ (not-false _ h) in
    let loads = and_parts _ _ values.1 in
    let steps = and_parts _ _ loads.1 in
    let calls = and_parts _ _ steps.1 in
    ap (λ x. wanted_of x w.loads w.steps w.calls w.only_roots) (bit _ _ values.0)
    ∙ ap (λ x. wanted_of v.values x w.steps w.calls w.only_roots) (bit _ _ loads.0)
    ∙ ap (λ x. wanted_of v.values v.loads x w.calls w.only_roots) (bit _ _ steps.0)
    ∙ ap (λ x. wanted_of v.values v.loads v.steps x w.only_roots) (bit _ _ calls.0)
    ∙ ap (λ x. wanted_of v.values v.loads v.steps v.calls x) (bit _ _ calls.1)

-- questions with the same members are the same
pub same_question : (q r : Question) → map string_bytes q.roots.items ≡ map string_bytes r.roots.items → option_map string_bytes q.prelude ≡ option_map string_bytes r.prelude
    → q.mode ≡ r.mode → q.wanted ≡ r.wanted → question_of q ≡ question_of r
same_question q r roots prelude mode wanted = rw (roots, prelude, mode, wanted) refl
