-- The first fault of two lists joined, and of the items of a list, one after another.
use Rattle.std.proofs.Common.{◌≡◌, ◌<◌, ◌≤◌, ◌+◌, ℕ, List, [], ◌∷◌, ◌++◌, Option, refl, ap, sym, ◌∙◌, length, drop}
use Rattle.std.proofs.Math.ListN.{get_or, drop_of_length-le}
use Rattle.std.proofs.lemmas.List.{at_drop_more}
use Rattle.star_scope.specs.declared.error.LocatedFault.{LocatedFault}
use Rattle.star_scope.specs.Faults.{earlier, first_from}

pub first_joined : (found : Option LocatedFault) (fs gs : List LocatedFault) → first_from found (fs ++ gs) ≡ first_from (first_from found fs) gs
unfolding first_from
first_joined found [] gs = refl
first_joined found (f ∷ fs) gs = first_joined (earlier found f) fs gs

pub first_none : (found : Option LocatedFault) → first_from found [] ≡ found
unfolding first_from
first_none found = refl

-- a turn of a loop over a list's items
pub turn : {A : Type 0} (one : A → List LocatedFault) (each : List A → List LocatedFault) (next : (x : A) (xs : List A) → each (x ∷ xs) ≡ one x ++ each xs)
    (xs : List A) (i : ℕ) (x : A) (found more total : Option LocatedFault) → i < length xs → x ≡ get_or xs i x → more ≡ first_from found (one x)
    → first_from found (each (drop i xs)) ≡ total → first_from more (each (drop (i + 1) xs)) ≡ total
turn one each next xs i x found more total lt is e inv =
    let rest = drop (i + 1) xs in
    ap (λ m. first_from m (each rest)) e ∙ sym (first_joined found (one x) (each rest))
    ∙ ap (λ fs. first_from found fs) (sym (next x rest) ∙ ap (λ y. each (y ∷ rest)) is ∙ sym (at_drop_more each xs i x lt)) ∙ inv

-- and its end
pub done : {A : Type 0} (each : List A → List LocatedFault) (xs : List A) (i : ℕ) (found total : Option LocatedFault) → each [] ≡ [] → length xs ≤ i
    → first_from found (each (drop i xs)) ≡ total → found ≡ total
done each xs i found total none le inv =
    sym (first_none found) ∙ ap (λ fs. first_from found fs) (sym none ∙ ap each (sym (drop_of_length-le xs le))) ∙ inv
