-- Texts one after another.
use Rattle.std.proofs.Common.{◌≡◌, ℕ, ◌+◌, ◌<◌, List, [], ◌∷◌, ◌++◌, length, map, drop, get_or, String, string_bytes, add-one, refl, ap, sym, ◌∙◌, append_assoc, arith}
use Rattle.std.proofs.lemmas.List.{map-append}
use Rattle.std.proofs.Math.Seq.{drop-cons}
use Rattle.star_machine.specs.Refines.{with_front}
use Rattle.star_meaning.specs.Run.{State, Outcome, Done, Failed, Action, and_then, give, each}
use Rattle.star_module.specs.Globals.{owned}

front_more : {B : Type 0} (o : Outcome (List B)) (front : List B) (y : B) → with_front (front ++ y ∷ []) o ≡ with_front front (and_then o (λ ys. give (y ∷ ys)))
front_more (Done ys u) front y = ap (λ xs. Done xs u) (append_assoc front (y ∷ []) ys)
front_more (Failed f lines) front y = refl

each_next : {A B : Type 0} {Z : Type 0} (f : List ℕ × A → Action B) (xs : List (String Z × A)) (i : ℕ) (d : String Z × A) (s : State) → i < length xs
    → each f (owned (drop i xs)) s ≡ and_then (f (string_bytes (get_or xs i d).0, (get_or xs i d).1) s) (λ y. λ t. and_then (each f (owned (drop (i + 1) xs)) t) (λ ys. give (y ∷ ys)))
each_next f xs i d s h = rw (add-one, drop-cons xs i d) refl

-- an item that went well leaves those that come after it
pub each_taken : {A B : Type 0} {Z Y : Type 0} (f : List ℕ × A → Action (List ℕ × B)) (xs : List (String Z × A)) (i : ℕ) (d : String Z × A) (s t : State) (front : List (String Y × B)) (y : String Y × B) → i < length xs
    → f (string_bytes (get_or xs i d).0, (get_or xs i d).1) s ≡ Done (string_bytes y.0, y.1) t
    → with_front (owned (front ++ y ∷ [])) (each f (owned (drop (i + 1) xs)) t) ≡ with_front (owned front) (each f (owned (drop i xs)) s)
each_taken f xs i d s t front y h e =
    ap (λ ys. with_front ys (each f (owned (drop (i + 1) xs)) t)) (map-append (λ x. (string_bytes x.0, x.1)) front (y ∷ []))
    ∙ front_more (each f (owned (drop (i + 1) xs)) t) (owned front) (string_bytes y.0, y.1)
    ∙ sym (ap (with_front (owned front)) (each_next f xs i d s h ∙ ap (λ o. and_then o (λ z. λ u. and_then (each f (owned (drop (i + 1) xs)) u) (λ ys. give (z ∷ ys)))) e))
