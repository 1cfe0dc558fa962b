-- What is kept of a row, and what is put into a set, item by item.
use Rattle.std.proofs.Common.{◌≡◌, ◌<◌, ℕ, ◌+◌, Bool, true, false, cond, List, [], ◌∷◌, ◌++◌, length, drop, filter, get_or, ap, sym, ◌∙◌, append_assoc}
use Rattle.std.proofs.lemmas.List.{drop_more}
use Rattle.star_store.specs.declared.values.Value.{Value}
use Rattle.star_meaning.specs.Entries.{element, with_elements, with_entry}
use Rattle.star_meaning.specs.Program.{Setting}
use Rattle.star_meaning.specs.Run.{State}

filter_first : {A : Type 0} (f : A → Bool) (x : A) (xs : List A) → f x ≡ true → filter f (x ∷ xs) ≡ x ∷ filter f xs
filter_first f x xs is = ap (λ (b : Bool). cond b (x ∷ filter f xs) (filter f xs)) is

filter_rest : {A : Type 0} (f : A → Bool) (x : A) (xs : List A) → f x ≡ false → filter f (x ∷ xs) ≡ filter f xs
filter_rest f x xs is = ap (λ (b : Bool). cond b (x ∷ filter f xs) (filter f xs)) is

-- the next item is kept
pub kept_next : {A : Type 0} (f : A → Bool) (found more xs whole : List A) (i : ℕ) (d : A) → i < length xs → f (get_or xs i d) ≡ true → more ≡ found ++ get_or xs i d ∷ [] → found ++ filter f (drop i xs) ≡ whole → more ++ filter f (drop (i + 1) xs) ≡ whole
kept_next f found more xs whole i d less is pushed h =
    let x = get_or xs i d in
    let rest = filter f (drop (i + 1) xs) in
    let next : filter f (drop i xs) ≡ x ∷ rest = ap (filter f) (drop_more xs i d less) ∙ filter_first f x (drop (i + 1) xs) is in
    ap (λ ys. ys ++ rest) pushed ∙ append_assoc found (x ∷ []) rest ∙ ap (λ ys. found ++ ys) (sym next) ∙ h

-- the next item is left out
pub left_next : {A : Type 0} (f : A → Bool) (found more xs whole : List A) (i : ℕ) (d : A) → i < length xs → f (get_or xs i d) ≡ false → more ≡ found → found ++ filter f (drop i xs) ≡ whole → more ++ filter f (drop (i + 1) xs) ≡ whole
left_next f found more xs whole i d less is same h =
    let rest = filter f (drop (i + 1) xs) in
    let next : filter f (drop i xs) ≡ rest = ap (filter f) (drop_more xs i d less) ∙ filter_rest f (get_or xs i d) (drop (i + 1) xs) is in
    ap (λ ys. ys ++ rest) same ∙ ap (λ ys. found ++ ys) (sym next) ∙ h

-- the next item is put into a set
pub elements_next : (w : Setting) (s : State) (es : List (Value × Value)) (xs : List Value) (i : ℕ) (d : Value) → i < length xs → with_elements w s es (drop i xs) ≡ with_elements w s (with_entry w s es (element (get_or xs i d))) (drop (i + 1) xs)
elements_next w s es xs i d less = ap (with_elements w s es) (drop_more xs i d less)
