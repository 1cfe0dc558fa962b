-- Items that are done one after another, each with its answer.
use Rattle.std.proofs.Common.{◌≡◌, List, [], ◌∷◌, ◌++◌, refl, ap, sym, ◌∙◌, append_assoc}
use Rattle.star_meaning.specs.Run.{State, Outcome, Done, Failed, Action, and_then, give, each}
use Rattle.star_machine.specs.Refines.{with_front}

front_more : {B : Type 0} (o : Outcome (List B)) (front : List B) (y : B) → with_front (front ++ y ∷ []) o ≡ with_front front (and_then o (λ ys. give (y ∷ ys)))
front_more (Done ys u) front y = ap (λ xs. Done xs u) (append_assoc front (y ∷ []) ys)
front_more (Failed f lines) front y = refl

-- an item that went well leaves those after it
pub each_more : {A B : Type 0} (f : A → Action B) (xs rest : List A) (x : A) (s t : State) (front answers : List B) (y : B) (whole : Outcome (List B)) → xs ≡ x ∷ rest → f x s ≡ Done y t → answers ≡ front ++ y ∷ [] → with_front front (each f xs s) ≡ whole → with_front answers (each f rest t) ≡ whole
each_more f xs rest x s t front answers y whole next done pushed before =
    let step : each f (x ∷ rest) s ≡ and_then (each f rest t) (λ ys. give (y ∷ ys)) = ap (λ o. and_then o (λ z. λ u. and_then (each f rest u) (λ ys. give (z ∷ ys)))) done in
    ap (λ zs. with_front zs (each f rest t)) pushed
    ∙ (front_more (each f rest t) front y ∙ (ap (with_front front) (sym step) ∙ (ap (λ zs. with_front front (each f zs s)) (sym next) ∙ before)))
