-- The members of lists, and of labels in their order.
use Rattle.std.proofs.Common.{◌≡◌, ◌<◌, ◌⊎◌, ◌+◌, inl, inr, ℕ, zero, suc, List, [], ◌∷◌, ◌++◌, String, Global, arith, get_or, length, map, refl, string_bytes, take, ap, sym, ◌∙◌}
use Rattle.std.specs.BTreeSet.{insert_key}
use Rattle.std.specs.Cmp.Lexicographic.{slice_cmp}
use Rattle.std.specs.Ordering.{match_ordering, nat_cmp}
use Rattle.std.specs.declared.cmp.Ordering.{Ordering}
use Rattle.std.specs.declared.cmp.Ordering.TheVariants.{Less, Equal, Greater}
use Rattle.std.proofs.lemmas.List.{map-append, take_more}
use Rattle.std.proofs.lemmas.Map.Lookups.{exact_bytes}
use Rattle.star_label.specs.declared.label.Label.{Label}
use Rattle.star_label.specs.contracts.label.LabelOrd.TheImpl.{cmp-value}
use Rattle.star_label.specs.View.{text_of}
use Rattle.star_words.specs.Named.{labels_of, texts_of}
use Rattle.star_words.specs.Rows.{IsIn}

abbrev R : List ℕ → List ℕ → Ordering
R = slice_cmp nat_cmp

-- ---- members

pub in_front : {X : Type 0} (x : X) (xs ys : List X) → IsIn x xs → IsIn x (xs ++ ys)
in_front x [] ys h = absurd h
in_front x (z ∷ xs) ys (inl e) = inl e
in_front x (z ∷ xs) ys (inr h) = inr (in_front x xs ys h)

pub in_back : {X : Type 0} (x : X) (xs ys : List X) → IsIn x ys → IsIn x (xs ++ ys)
in_back x [] ys h = h
in_back x (z ∷ xs) ys h = inr (in_back x xs ys h)

pub in_either : {X : Type 0} (x : X) (xs ys : List X) → IsIn x (xs ++ ys) → IsIn x xs ⊎ IsIn x ys
in_either x [] ys h = inr h
in_either x (z ∷ xs) ys (inl e) = inl (inl e)
in_either x (z ∷ xs) ys (inr h) = elim (in_either x xs ys h) [ inl i ↦ inl (inr i) | inr i ↦ inr i ]

pub in_map : {X Y : Type 0} (f : X → Y) (xs : List X) (x : X) → IsIn x xs → IsIn (f x) (map f xs)
in_map f (z ∷ xs) x (inl e) = inl (ap f e)
in_map f (z ∷ xs) x (inr h) = inr (in_map f xs x h)
in_map f [] x h = absurd h

pub of_map : {X Y : Type 0} (f : X → Y) (xs : List X) (y : Y) → IsIn y (map f xs) → (x : X) × IsIn x xs × (f x ≡ y)
of_map f [] y h = absurd h
of_map f (x ∷ xs) y (inl e) = (x, inl refl, e)
of_map f (x ∷ xs) y (inr h) = let r = of_map f xs y h in (r.0, inr r.1, r.2)

-- ---- labels

same_label : (l m : Label) → R (text_of l) (text_of m) ≡ Equal → text_of l ≡ text_of m
same_label l m e = exact_bytes (text_of l) (text_of m) e

pub key_from : (ks : List Label) (l : Label) (m : List ℕ) → IsIn m (labels_of (insert_key cmp-value.it ks l)) → IsIn m (labels_of ks) ⊎ (text_of l ≡ m)
key_from [] l m (inl e) = inr e
key_from [] l m (inr h) = absurd h
key_from (k ∷ ks) l m h = by (key_from ks l m) (R (text_of l) (text_of k)) h
  where
    by : (IsIn m (labels_of (insert_key cmp-value.it ks l)) → IsIn m (labels_of ks) ⊎ (text_of l ≡ m)) → (o : Ordering)
        → IsIn m (labels_of (match_ordering o (l ∷ k ∷ ks) (k ∷ ks) (k ∷ insert_key cmp-value.it ks l))) → IsIn m (labels_of (k ∷ ks)) ⊎ (text_of l ≡ m)
    by more Less (inl e) = inr e
    by more Less (inr i) = inl i
    by more Equal i = inl i
    by more Greater (inl e) = inl (inl e)
    by more Greater (inr i) = elim (more i) [ inl j ↦ inl (inr j) | inr j ↦ inr j ]

pub key_to : (ks : List Label) (l : Label) (m : List ℕ) → IsIn m (labels_of ks) ⊎ (text_of l ≡ m) → IsIn m (labels_of (insert_key cmp-value.it ks l))
key_to [] l m (inl h) = absurd h
key_to [] l m (inr e) = inl e
key_to (k ∷ ks) l m h = by (key_to ks l m) (R (text_of l) (text_of k)) refl h
  where
    by : (IsIn m (labels_of ks) ⊎ (text_of l ≡ m) → IsIn m (labels_of (insert_key cmp-value.it ks l))) → (o : Ordering) → R (text_of l) (text_of k) ≡ o → IsIn m (labels_of (k ∷ ks)) ⊎ (text_of l ≡ m)
        → IsIn m (labels_of (match_ordering o (l ∷ k ∷ ks) (k ∷ ks) (k ∷ insert_key cmp-value.it ks l)))
    by more Less q (inl i) = inr i
    by more Less q (inr e) = inl e
    by more Equal q (inl i) = i
    by more Equal q (inr e) = inl (sym (same_label l k q) ∙ e)
    by more Greater q (inl (inl e)) = inl e
    by more Greater q (inl (inr i)) = inr (more (inl i))
    by more Greater q (inr e) = inr (more (inr e))

-- the item at a place
pub item_in : {X : Type 0} (xs : List X) (i : ℕ) (x : X) → i < length xs → x ≡ get_or xs i x → IsIn x xs
item_in [] i x low e = absurd (omega (arith, low))
item_in (y ∷ ys) zero x low e = inl (sym e)
item_in (y ∷ ys) (suc i) x low e = inr (item_in ys i x (omega (arith, low)) e)

-- the texts of the first words, and of the next one
pub texts_more : (words : List (String Global)) (i : ℕ) (word : String Global) → i < length words → word ≡ get_or words i word → texts_of (take (i + 1) words) ≡ texts_of (take i words) ++ string_bytes word ∷ []
texts_more words i word low is =
    ap texts_of (take_more words i word low ∙ ap (λ x. take i words ++ x ∷ []) (sym is)) ∙ map-append string_bytes (take i words) (word ∷ [])
