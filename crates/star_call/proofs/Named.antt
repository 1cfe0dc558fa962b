-- Named values whose names become keys, one after another.
use Rattle.std.proofs.Common.{◌≡◌, ℕ, List, [], ◌∷◌, ◌++◌, map, refl, ap, sym, ◌∙◌}
use denote.Ref.{Bor}
use Rattle.std.proofs.lemmas.List.{append_assoc}
use Rattle.star_store.specs.declared.values.Value.{Value}
use Rattle.star_meaning.specs.Arguments.{key_for}
use Rattle.star_meaning.specs.Binding.{key_and_value}
use Rattle.star_meaning.specs.Run.{State, Outcome, Done, Failed, and_then, give, each}
use Rattle.star_meaning.specs.declared.given.KeywordArgument.{KeywordArgument}
use Rattle.star_machine.specs.Refines.{with_front}
use Rattle.star_call.specs.BoundArguments.{all_named}

front_more : {B : Type 0} (o : Outcome (List B)) (front : List B) (y : B) → with_front (front ++ y ∷ []) o ≡ with_front front (and_then o (λ ys. give (y ∷ ys)))
front_more (Done ys u) front y = ap (λ xs. Done xs u) (append_assoc front (y ∷ []) ys)
front_more (Failed f lines) front y = refl

-- one entry more
pub named_more : (line : ℕ) (ns rest : List (Bor KeywordArgument)) (x : Bor KeywordArgument) (s t : State) (es fs : List (Value × Value)) (k : Value) (whole : Outcome (List (Value × Value))) → ns ≡ x ∷ rest → key_for line x.now s ≡ Done k t
    → fs ≡ es ++ (k, x.now.value) ∷ [] → with_front es (each (key_and_value line) (all_named ns) s) ≡ whole → with_front fs (each (key_and_value line) (all_named rest) t) ≡ whole
named_more line ns rest x s t es fs k whole next key pushed before =
    let after = λ (u : State). each (key_and_value line) (all_named rest) u in
    let done : key_and_value line x.now s ≡ Done (k, x.now.value) t = ap (λ o. and_then o (λ j. give (j, x.now.value))) key in
    let step : each (key_and_value line) (all_named (x ∷ rest)) s ≡ and_then (after t) (λ ys. give ((k, x.now.value) ∷ ys)) = ap (λ o. and_then o (λ z. λ u. and_then (after u) (λ ys. give (z ∷ ys)))) done in
    ap (λ xs. with_front xs (after t)) pushed
    ∙ (front_more (after t) es (k, x.now.value) ∙ (ap (with_front es) (sym step) ∙ (ap (λ xs. with_front es (each (key_and_value line) (all_named xs) s)) (sym next) ∙ before)))
