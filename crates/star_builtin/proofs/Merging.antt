-- Merging of two rows, one item more at a time.
use Rattle.std.proofs.Common.{◌≡◌, List, [], ◌∷◌, ◌++◌, Bool, true, false, refl, ap, sym, ◌∙◌, append_assoc, append-nil, ℕ, suc, ◌<◌, ◌/◌, arith, nat_lt, length, take, drop}
use Rattle.star_meaning.specs.Run.{State, Action, Outcome, Done, Failed, and_then, give}
use Rattle.star_meaning.specs.Merging.{merged, halved}
use Rattle.star_machine.specs.Refines.{with_front}

-- a row merged with nothing stays as it is
pub merged_alone : {A : Type 0} (before : A → A → Action Bool) (xs : List A) (s : State) → merged before xs [] s ≡ Done xs s
merged_alone before [] s = refl
merged_alone before (x ∷ xs) s = ap (λ o. and_then o (λ ys. give (x ∷ ys))) (merged_alone before xs s)

front_more : {A : Type 0} (front : List A) (x : A) (o : Outcome (List A)) → with_front front (and_then o (λ xs. give (x ∷ xs))) ≡ with_front (front ++ x ∷ []) o
front_more front x (Done xs s) = ap (λ z. Done z s) (sym (append_assoc front (x ∷ []) xs))
front_more front x (Failed f lines) = refl

-- the first of the rest goes before the first of the front
pub rest_goes : {A : Type 0} (before : A → A → Action Bool) (made : List A) (x y : A) (xs ys : List A) (s t : State) → before y x s ≡ Done true t
    → with_front made (merged before (x ∷ xs) (y ∷ ys) s) ≡ with_front (made ++ y ∷ []) (merged before (x ∷ xs) ys t)
rest_goes before made x y xs ys s t e = rw e (front_more made y (merged before (x ∷ xs) ys t))

-- the first of the front goes
pub front_goes : {A : Type 0} (before : A → A → Action Bool) (made : List A) (x y : A) (xs ys : List A) (s t : State) → before y x s ≡ Done false t
    → with_front made (merged before (x ∷ xs) (y ∷ ys) s) ≡ with_front (made ++ x ∷ []) (merged before xs (y ∷ ys) t)
front_goes before made x y xs ys s t e = rw e (front_more made x (merged before xs (y ∷ ys) t))

-- what is left when the front, or the rest, is empty stays as it is
pub front_ends : {A : Type 0} (before : A → A → Action Bool) (made xs ys : List A) (s : State) → length xs < 1 → with_front made (merged before xs ys s) ≡ Done ((made ++ xs) ++ ys) s
front_ends before made [] ys s e = ap (λ zs. Done (zs ++ ys) s) (sym (append-nil made))
front_ends before made (x ∷ xs) ys s e = absurd (omega (arith, e))

pub rest_ends : {A : Type 0} (before : A → A → Action Bool) (made xs ys : List A) (s : State) → length ys < 1 → with_front made (merged before xs ys s) ≡ Done ((made ++ xs) ++ ys) s
rest_ends before made xs [] s e = ap (with_front made) (merged_alone before xs s) ∙ ap (λ zs. Done zs s) (sym (append-nil (made ++ xs)))
rest_ends before made xs (y ∷ ys) s e = absurd (omega (arith, e))

-- both halves in order, then merged
pub both_halves : {A : Type 0} (before : A → A → Action Bool) (n : ℕ) (xs fs rs : List A) (s t u : State) → nat_lt (length xs) 2 ≡ false → halved before n (take (length xs / 2) xs) s ≡ Done fs t → halved before n (drop (length xs / 2) xs) t ≡ Done rs u
    → halved before (suc n) xs s ≡ merged before fs rs u
both_halves before n xs fs rs s t u long e f = rw (long, e, f) refl
