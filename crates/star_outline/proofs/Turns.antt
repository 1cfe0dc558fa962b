-- A loop that adds the findings in each item of a list to those before.
use Rattle.std.proofs.Common.{◌≡◌, ◌<◌, ◌≤◌, ◌+◌, ℕ, Bool, true, false, ◌&&◌, List, [], ◌∷◌, refl, ap, sym, ◌∙◌, length, drop}
use Rattle.std.proofs.Math.ListN.{get_or, drop_of_length-le}
use Rattle.std.proofs.lemmas.List.{at_drop_more}

-- a turn of the loop
pub added : {S M A : Type 0} (add : S → M → S) (plus : M → M → M) (joined : (s : S) (a b : M) → add s (plus a b) ≡ add (add s a) b)
    (one : A → M) (each : List A → M) (next : (x : A) (xs : List A) → each (x ∷ xs) ≡ plus (one x) (each xs))
    (xs : List A) (i : ℕ) (x : A) (old more total : S) → i < length xs → x ≡ get_or xs i x → more ≡ add old (one x)
    → add old (each (drop i xs)) ≡ total → add more (each (drop (i + 1) xs)) ≡ total
added add plus joined one each next xs i x old more total lt is e inv =
    let rest = drop (i + 1) xs in
    ap (λ m. add m (each rest)) e ∙ sym (joined old (one x) (each rest))
    ∙ ap (λ m. add old m) (sym (next x rest) ∙ ap (λ y. each (y ∷ rest)) is ∙ sym (at_drop_more each xs i x lt)) ∙ inv

-- the end of the loop
pub added_all : {S M A : Type 0} (add : S → M → S) (each : List A → M) (xs : List A) (i : ℕ) (old total : S) → add old (each []) ≡ old → length xs ≤ i
    → add old (each (drop i xs)) ≡ total → old ≡ total
added_all add each xs i old total none le inv = sym none ∙ ap (λ m. add old m) (ap each (sym (drop_of_length-le xs le))) ∙ inv

pub and_true : (a : Bool) → a ≡ (a && true)
and_true true = refl
and_true false = refl

pub and_false : (a : Bool) → false ≡ (a && false)
and_false true = refl
and_false false = refl
