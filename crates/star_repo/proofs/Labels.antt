-- Lists of labels, and of entries by their labels.
use Rattle.std.proofs.Common.{◌≡◌, ◌⊎◌, inl, inr, ℕ, List, [], ◌∷◌, ◌++◌, map, Bool, true, false, Option, Some, refl, ap, sym, ◌∙◌, string_bytes}
use Rattle.std.specs.Prelude.{All, cond, is_some, option_map}
use Rattle.std.specs.BTreeMap.{insert_entry}
use Rattle.std.specs.BTreeMap.Range.{IsLtBy}
use Rattle.std.specs.Map.{lookup}
use Rattle.std.specs.Ordering.{is_eq, match_ordering}
use Rattle.std.specs.declared.cmp.Ordering.{Ordering}
use Rattle.std.specs.declared.cmp.Ordering.TheVariants.{Less, Equal, Greater}
use Rattle.std.proofs.lemmas.Map.Lookups.{exact_bytes}
use Rattle.std.proofs.lemmas.Map.Text.{is_eq-slice_cmp}
use Rattle.star_label.specs.declared.label.Label.{Label}
use Rattle.star_label.specs.contracts.label.LabelOrd.TheImpl.{cmp-value}
use Rattle.star_label.specs.View.{text_of}
use Rattle.star_repo.specs.declared.found.ReadFile.{ReadFile}
use Rattle.star_words.specs.Rows.{IsIn}
pub use Rattle.star_words.proofs.Members.{in_back, in_either, in_front, in_map, key_from, key_to, of_map}
use Rattle.star_repo.specs.Views.{answer_of, labels_of}
use Rattle.star_repo.specs.Way.{Answer, IsBelow, IsLooked}
use Rattle.star_repo.proofs.Inserted.{bytes_same, bytes_self, each_of}
use Rattle.std.specs.Str.{bytes_eq}
use Rattle.star_repo.proofs.Rows.{R}

abbrev pub Entry : Type 0
Entry = Label × Option ReadFile

same_label : (l m : Label) → R (text_of l) (text_of m) ≡ Equal → text_of l ≡ text_of m
same_label l m e = exact_bytes (text_of l) (text_of m) e

-- ---- entries

abbrev found_of : Option ReadFile → Option (List ℕ)
found_of v = option_map (λ f. string_bytes f.text) v

abbrev ins : List Entry → Label → Option ReadFile → List Entry
ins es l v = insert_entry cmp-value.it es l v

pub entry_from : (es : List Entry) (l : Label) (v : Option ReadFile) (y : Answer) → IsIn y (map answer_of (ins es l v)) → (answer_of (l, v) ≡ y) ⊎ IsIn y (map answer_of es)
entry_from [] l v y h = h
entry_from (e ∷ es) l v y h = by (entry_from es l v y) (R (text_of l) (text_of e.0)) refl h
  where
    by : (IsIn y (map answer_of (ins es l v)) → (answer_of (l, v) ≡ y) ⊎ IsIn y (map answer_of es)) → (o : Ordering) → R (text_of l) (text_of e.0) ≡ o
        → IsIn y (map answer_of (match_ordering o ((l, v) ∷ e ∷ es) ((e.0, v) ∷ es) (e ∷ ins es l v))) → (answer_of (l, v) ≡ y) ⊎ IsIn y (map answer_of (e ∷ es))
    by more Less q i = i
    by more Equal q (inl i) = inl (ap (λ t. (t, found_of v)) (same_label l e.0 q) ∙ i)
    by more Equal q (inr i) = inr (inr i)
    by more Greater q (inl i) = inr (inl i)
    by more Greater q (inr i) = elim (more i) [ inl j ↦ inl j | inr j ↦ inr (inr j) ]

pub entry_to : (es : List Entry) (l : Label) (v : Option ReadFile) (y : Answer) → ((o : Option (List ℕ)) → IsIn (text_of l, o) (map answer_of es) → o ≡ option_map (λ f. string_bytes f.text) v)
    → (answer_of (l, v) ≡ y) ⊎ IsIn y (map answer_of es) → IsIn y (map answer_of (ins es l v))
entry_to [] l v y same h = h
entry_to (e ∷ es) l v y same h = by (entry_to es l v y (λ o i. same o (inr i))) (R (text_of l) (text_of e.0)) refl h
  where
    by : ((answer_of (l, v) ≡ y) ⊎ IsIn y (map answer_of es) → IsIn y (map answer_of (ins es l v))) → (o : Ordering) → R (text_of l) (text_of e.0) ≡ o → (answer_of (l, v) ≡ y) ⊎ IsIn y (map answer_of (e ∷ es))
        → IsIn y (map answer_of (match_ordering o ((l, v) ∷ e ∷ es) ((e.0, v) ∷ es) (e ∷ ins es l v)))
    by more Less q i = i
    by more Equal q (inl i) = inl (sym (ap (λ t. (t, found_of v)) (same_label l e.0 q)) ∙ i)
    by more Equal q (inr (inl i)) =
        let there : answer_of e ≡ (text_of l, found_of e.1) = ap (λ t. (t, found_of e.1)) (sym (same_label l e.0 q)) in
        inl (ap (λ o. (text_of e.0, o)) (sym (same (found_of e.1) (inl there))) ∙ i)
    by more Equal q (inr (inr i)) = inr i
    by more Greater q (inl i) = inr (more (inl i))
    by more Greater q (inr (inl i)) = inl i
    by more Greater q (inr (inr i)) = inr (more (inr i))

abbrev at : Label → Label → Bool
at l k = is_eq (R (text_of l) (text_of k))

at_same : (l : List ℕ) (k : Label) → text_of k ≡ l → is_eq (R l (text_of k)) ≡ true
at_same l k e = is_eq-slice_cmp l (text_of k) ∙ ap (bytes_eq l) e ∙ bytes_self l

pub unknown : (es : List Entry) (l : Label) → is_some (lookup (at l) es) ≡ false → IsLooked (text_of l) (map answer_of es) → ⊥
unknown [] l h (o, i) = i
unknown (e ∷ es) l h (o, i) = by (λ k. unknown es l k) (at l e.0) refl h i
  where
    by : (is_some (lookup (at l) es) ≡ false → IsLooked (text_of l) (map answer_of es) → ⊥) → (b : Bool) → at l e.0 ≡ b → is_some (cond b (Some e.1) (lookup (at l) es)) ≡ false → IsIn (text_of l, o) (map answer_of (e ∷ es)) → ⊥
    by more true q k j = let no : ⊥ = cc in no
    by more false q k (inl j) = let yes : at l e.0 ≡ true = at_same (text_of l) e.0 (ap (λ (a : Answer). a.0) j) in let no : ⊥ = cc in no
    by more false q k (inr j) = more k (o, j)

pub known : (es : List Entry) (l : Label) → is_some (lookup (at l) es) ≡ true → IsLooked (text_of l) (map answer_of es)
known [] l h = absurd (let no : ⊥ = cc in no)
known (e ∷ es) l h = by (λ k. known es l k) (at l e.0) refl h
  where
    by : (is_some (lookup (at l) es) ≡ true → IsLooked (text_of l) (map answer_of es)) → (b : Bool) → at l e.0 ≡ b → is_some (cond b (Some e.1) (lookup (at l) es)) ≡ true → IsLooked (text_of l) (map answer_of (e ∷ es))
    by more true q k =
        let same : text_of e.0 ≡ text_of l = sym (bytes_same (text_of l) (text_of e.0) (sym (is_eq-slice_cmp (text_of l) (text_of e.0)) ∙ q)) in
        (found_of e.1, inl (ap (λ t. (t, found_of e.1)) same))
    by more false q k = let r = more k in (r.0, inr r.1)

-- the least key comes before the others
pub below_keys : (k : Label) (ks : List Label) → All (IsLtBy cmp-value.it k) ks → IsBelow (text_of k) (labels_of ks)
below_keys k ks all r i = let m = of_map text_of ks r i in
    let less : R (text_of k) (text_of m.0) ≡ Less = each_of (IsLtBy cmp-value.it k) ks all m.0 m.1 in
    ap (R (text_of k)) (sym m.2) ∙ less
