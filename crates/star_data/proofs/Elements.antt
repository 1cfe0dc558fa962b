-- The elements of a set, as its text and its JSON have them, are those of the row of its keys.
use Rattle.std.proofs.Common.{◌≡◌, ℕ, zero, suc, ◌+◌, List, [], ◌∷◌, ◌++◌, length, map, refl, ap, sym, ◌∙◌}
use Rattle.std.specs.Prelude.{codes, slice_get}
use Rattle.star_store.specs.declared.layout.Layout.{Layout}
use Rattle.star_store.specs.declared.values.Value.{Value}
use Rattle.star_store.specs.Json.{closing, comma, line, put_array, put_nth, put_place, put_set}
use Rattle.star_store.specs.Text.{Say, all_said, say, say_element, say_elements, say_item, say_items, say_nth, say_place, separator, then_say}

ext : {A B : Type 0} (f g : A → B) → ((x : A) → f x ≡ g x) → f ≡ g
ext f g h = λ i x. h x i

element_is_item : (f : Value → Say) (es : List (Value × Value)) (i : ℕ) → say_element f (slice_get es i) ≡ say_item f (slice_get (map (λ (e : Value × Value). e.0) es) i)
element_is_item f [] i = refl
element_is_item f (e ∷ es) zero = refl
element_is_item f (e ∷ es) (suc i) = element_is_item f es i

same_length : (es : List (Value × Value)) → length (map (λ (e : Value × Value). e.0) es) ≡ length es
same_length [] = refl
same_length (e ∷ es) = ap suc (same_length es)

said_alike : (f g : ℕ → Say) → ((i : ℕ) → f i ≡ g i) → (n i : ℕ) → all_said f n i ≡ all_said g n i
said_alike f g h n i = ap (λ (t : ℕ → Say). all_said t n i) (ext f g h)

pub elements_are_items : (f : Value → Say) (es : List (Value × Value)) → say_elements f es ≡ say_items f (map (λ (e : Value × Value). e.0) es)
elements_are_items f es =
    let xs = map (λ (e : Value × Value). e.0) es in
    said_alike (say_nth f es) (say_place f xs) (λ i. ap (then_say (say (separator i))) (element_is_item f es i)) (length es) 0
    ∙ ap (λ n. all_said (say_place f xs) n 0) (sym (same_length es))

pub set_as_array : (l : Layout) (n : ℕ) (f : Value → Say) (es : List (Value × Value)) → put_set l n f es ≡ put_array l n f (map (λ (e : Value × Value). e.0) es)
set_as_array l n f es =
    let xs = map (λ (e : Value × Value). e.0) es in
    ap (λ (m : Say). then_say (say (codes "[")) (then_say m (say (closing l n (length es) ++ codes "]"))))
    (said_alike (put_nth l (n + 1) f es) (put_place l (n + 1) f xs) (λ i. ap (then_say (say (comma i ++ line l (n + 1)))) (element_is_item f es i)) (length es) 0)
    ∙ ap (λ (k : ℕ). then_say (say (codes "[")) (then_say (all_said (put_place l (n + 1) f xs) k 0) (say (closing l n k ++ codes "]")))) (sym (same_length es))
