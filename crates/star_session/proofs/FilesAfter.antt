-- Files in a map by their labels, and the files after changes.
use Rattle.std.proofs.Common.{◌≡◌, ℕ, zero, suc, ◌+◌, ◌<◌, List, [], ◌∷◌, ◌++◌, map, length, take, refl, ap, sym, subst, ◌∙◌, Option, Some, None, String, string_bytes, arith, Bool, true, false}
use Rattle.std.specs.declared.alloc.Global.{Global}
use Rattle.std.specs.declared.cmp.Ordering.{Ordering}
use Rattle.std.specs.declared.cmp.Ordering.TheVariants.{Less, Equal, Greater}
use Rattle.std.specs.BTreeMap.{insert_entry, is_at}
use Rattle.std.proofs.lemmas.List.{map-append, take_more}
use Rattle.std.specs.Prelude.{cond, is_some, option_map, slice_index_or}
use Rattle.std.proofs.lemmas.Bool.{true≢false}
use Rattle.std.specs.Cmp.Lexicographic.{slice_cmp}
use Rattle.std.specs.List.{AllByRecursion}
use Rattle.std.specs.List.Sorted.{IsStrictlySortedBy}
use Rattle.std.specs.Map.{remove_entry}
use Rattle.std.specs.Ordering.{is_eq, match_ordering, nat_cmp, ordering_reverse}
use Rattle.std.specs.Cmp.{Equal-is}
use Rattle.std.specs.Str.{bytes_eq}
use Rattle.std.proofs.lemmas.Cmp.{nat_list_cmp_total}
use Rattle.std.proofs.lemmas.Map.Text.{is_eq-slice_cmp}
use Rattle.std.proofs.lemmas.Slice.Eq.{bytes_eq-Decides}
use Rattle.star_label.specs.declared.label.Label.{Label}
use Rattle.star_label.specs.contracts.label.LabelOrd.TheImpl.{cmp-value}
use Rattle.star_label.specs.Files.{File, IsOrdered, file_of, label_at, text_at, with_text}
use Rattle.star_label.specs.View.{text_of}
use Rattle.star_needs.proofs.Moves.{label_same, length_same}
use Rattle.star_memo.specs.Outcomes.{HaveLabels}
use Rattle.star_session.specs.Changes.{Change, HasFile, changed, files_after}

abbrev Entry : Type 0
Entry = Label × String Global

abbrev pub R : List ℕ → List ℕ → Ordering
R = slice_cmp nat_cmp

cases : (o : Ordering) (a b c : List Entry) → map file_of (match_ordering o a b c) ≡ match_ordering o (map file_of a) (map file_of b) (map file_of c)
cases Less a b c = refl
cases Equal a b c = refl
cases Greater a b c = refl

-- a file put into the map is put among the files that the map holds
pub inserted : (es : List Entry) (l : Label) (t : String Global) → map file_of (insert_entry cmp-value.it es l t) ≡ insert_entry R (map file_of es) (text_of l) (string_bytes t)
inserted [] l t = refl
inserted (e ∷ es) l t =
    cases (R (text_of l) (text_of e.0)) ((l, t) ∷ e ∷ es) ((e.0, t) ∷ es) (e ∷ insert_entry cmp-value.it es l t)
    ∙ ap (λ r. match_ordering (R (text_of l) (text_of e.0)) (map file_of ((l, t) ∷ e ∷ es)) (map file_of ((e.0, t) ∷ es)) (file_of e ∷ r)) (inserted es l t)

-- a file taken out of the map is taken out of the files that the map holds
pub removed : (es : List Entry) (l : Label) → map file_of (remove_entry (is_at (cmp-value.it l)) es) ≡ remove_entry (is_at (R (text_of l))) (map file_of es)
removed [] l = refl
removed (e ∷ es) l = by (is_eq (R (text_of l) (text_of e.0))) (removed es l)
  where
    by : (b : Bool) → map file_of (remove_entry (is_at (cmp-value.it l)) es) ≡ remove_entry (is_at (R (text_of l))) (map file_of es) → map file_of (cond b es (e ∷ remove_entry (is_at (cmp-value.it l)) es)) ≡ cond b (map file_of es) (file_of e ∷ remove_entry (is_at (R (text_of l))) (map file_of es))
    by true more = refl
    by false more = ap (λ r. file_of e ∷ r) more

-- a label below others is below each of them
above : (a : List ℕ) (files : List File) (n : ℕ) → AllByRecursion (λ l. R a l ≡ Less) (map (λ f. f.0) files) → n < length files → R (label_at files n) a ≡ Greater
above a [] n h s = absurd (omega (arith, s))
above a (f ∷ fs) zero h s = nat_list_cmp_total.antisymm f.0 a ∙ ap ordering_reverse h.0
above a (f ∷ fs) (suc n) h s = above a fs n h.1 (omega (arith, s))

-- among the first files, put in order, the next one comes last
pub next_file : (files : List File) (n : ℕ) → IsOrdered files → n < length files → insert_entry R (take n files) (label_at files n) (text_at files n) ≡ take (suc n) files
unfolding IsStrictlySortedBy
next_file [] n h s = absurd (omega (arith, s))
next_file (f ∷ fs) zero h s = refl
next_file (f ∷ fs) (suc n) h s =
    let low : n < length fs = omega (arith, s) in
    ap (λ o. match_ordering o ((label_at fs n, text_at fs n) ∷ f ∷ take n fs) ((f.0, text_at fs n) ∷ take n fs) (f ∷ insert_entry R (take n fs) (label_at fs n) (text_at fs n))) (above f.0 fs n h.0 low)
    ∙ ap (λ r. f ∷ r) (next_file fs n h.1 low)

pub all_files : (files : List File) → take (length files) files ≡ files
all_files [] = refl
all_files (f ∷ fs) = ap (λ r. f ∷ r) (all_files fs)

R_same : (l : List ℕ) → R l l ≡ Equal
R_same l = (Equal-is (R l l)).0 (is_eq-slice_cmp l l ∙ (bytes_eq-Decides l l).1 refl)

-- a text that is put where it already is
pub put_again : (files : List File) (n : ℕ) (l t : List ℕ) → IsOrdered files → n < length files → label_at files n ≡ l → text_at files n ≡ t → insert_entry R files l t ≡ files
unfolding IsStrictlySortedBy
put_again [] n l t h s is same = absurd (omega (arith, s))
put_again (f ∷ fs) zero l t h s is same =
    ap (λ o. match_ordering o ((l, t) ∷ f ∷ fs) ((f.0, t) ∷ fs) (f ∷ insert_entry R fs l t)) (ap (λ k. R k f.0) (sym is) ∙ R_same f.0)
    ∙ ap (λ x. (f.0, x) ∷ fs) (sym same)
put_again (f ∷ fs) (suc n) l t h s is same =
    let low : n < length fs = omega (arith, s) in
    ap (λ o. match_ordering o ((l, t) ∷ f ∷ fs) ((f.0, t) ∷ fs) (f ∷ insert_entry R fs l t)) (ap (λ k. R k f.0) (sym is) ∙ above f.0 fs n h.0 low)
    ∙ ap (λ r. f ∷ r) (put_again fs n l t h.1 low is same)

-- a text for a file that is there takes the place of its text
pub put_text : (files : List File) (n : ℕ) (l t : List ℕ) → IsOrdered files → n < length files → label_at files n ≡ l → insert_entry R files l t ≡ with_text files n t
unfolding IsStrictlySortedBy
put_text [] n l t h s is = absurd (omega (arith, s))
put_text (f ∷ fs) zero l t h s is =
    ap (λ o. match_ordering o ((l, t) ∷ f ∷ fs) ((f.0, t) ∷ fs) (f ∷ insert_entry R fs l t)) (ap (λ k. R k f.0) (sym is) ∙ R_same f.0)
put_text (f ∷ fs) (suc n) l t h s is =
    let low : n < length fs = omega (arith, s) in
    ap (λ o. match_ordering o ((l, t) ∷ f ∷ fs) ((f.0, t) ∷ fs) (f ∷ insert_entry R fs l t)) (ap (λ k. R k f.0) (sym is) ∙ above f.0 fs n h.0 low)
    ∙ ap (λ r. f ∷ r) (put_text fs n l t h.1 low is)

-- a file has a label of the files that have the same labels
pub file_stays : (files others : List File) (l : List ℕ) → HaveLabels files others → HasFile files l → HasFile others l
file_stays files others l same (n, low, is) = (n, subst (λ k. n < k) (length_same files others same) low, sym (label_same files others same n) ∙ is)

-- a label that no file has is taken away
pub out_again : (files : List File) (l : List ℕ) → ((n : ℕ) → n < length files → label_at files n ≡ l → ⊥) → remove_entry (is_at (R l)) files ≡ files
out_again [] l none = refl
out_again (f ∷ fs) l none =
    ap (λ b. cond b fs (f ∷ remove_entry (is_at (R l)) fs)) (is_eq-slice_cmp l f.0 ∙ other (bytes_eq l f.0) refl)
    ∙ ap (λ r. f ∷ r) (out_again fs l (λ n s e. none (suc n) (omega (arith, s)) e))
  where
    other : (b : Bool) → bytes_eq l f.0 ≡ b → bytes_eq l f.0 ≡ false
    other true e = absurd (none zero (omega arith) (sym ((bytes_eq-Decides l f.0).0 e)))
    other false e = e

-- a fact of each item of a row and of the one after it
pub one_more : {A : Type 0} (P : ℕ → A → Type 0) (xs : List A) (x : A) → ((n : ℕ) (d : A) → n < length xs → P n (slice_index_or xs n d)) → P (length xs) x → (n : ℕ) (d : A) → n < length (xs ++ x ∷ []) → P n (slice_index_or (xs ++ x ∷ []) n d)
one_more P [] x h p zero d s = p
one_more P [] x h p (suc n) d s = absurd (omega (arith, s))
one_more P (y ∷ ys) x h p zero d s = h zero d (omega arith)
one_more P (y ∷ ys) x h p (suc n) d s = one_more (λ m. P (suc m)) ys x (λ m e t. h (suc m) e (omega (arith, t))) p n d (omega (arith, s))

-- one change more
pub after_more : (files : List File) (cs : List Change) (c : Change) → files_after files (cs ++ c ∷ []) ≡ changed (files_after files cs) c.0 c.1
unfolding files_after
after_more files [] c = refl
after_more files (d ∷ ds) c = after_more (changed files d.0 d.1) ds c

-- no change
pub after_none : (files : List File) → files_after files [] ≡ files
unfolding files_after
after_none files = refl

-- a change that leaves the files as they are
pub after_same : (files : List File) (c : Change) (cs : List Change) → changed files c.0 c.1 ≡ files → files_after files (c ∷ cs) ≡ files_after files cs
unfolding files_after
after_same files c cs same = ap (λ fs. files_after fs cs) same

-- the text of a change is there already
pub text_again : (files : List File) (n : ℕ) (l : List ℕ) (o : Option (String Global)) (s : String Global) → IsOrdered files → n < length files → label_at files n ≡ l → text_at files n ≡ string_bytes s → o ≡ Some s
    → changed files l (option_map string_bytes o) ≡ files
text_again files n l o s h low is same there = subst (λ p. changed files l (option_map string_bytes p) ≡ files) (sym there) (put_again files n l (string_bytes s) h low is same)

-- the file that goes is not there
pub none_again : (files : List File) (l : List ℕ) (found : Option ℕ) (o : Option (String Global)) → ((n : ℕ) → n < length files → label_at files n ≡ l → found ≡ Some n) → found ≡ None → o ≡ None
    → changed files l (option_map string_bytes o) ≡ files
none_again files l found o each lost there =
    subst (λ p. changed files l (option_map string_bytes p) ≡ files) (sym there)
    (out_again files l (λ n low is. true≢false (ap is_some (sym (each n low is) ∙ lost))))

-- the first texts of a row and the next one
with_next : (xs : List (String Global)) (n : ℕ) (a : String Global) → n < length xs → a ≡ slice_index_or xs n a → map string_bytes (take (n + 1) xs) ≡ map string_bytes (take n xs) ++ string_bytes a ∷ []
with_next xs n a low is =
    ap (map string_bytes) (take_more xs n a low ∙ ap (λ x. take n xs ++ x ∷ []) (sym is)) ∙ map-append string_bytes (take n xs) (a ∷ [])

-- two rows that begin alike, and have the same text next
pub one_more_text : (xs ys : List (String Global)) (n : ℕ) (a b : String Global) → n < length xs → n < length ys → a ≡ slice_index_or xs n a → b ≡ slice_index_or ys n b → string_bytes a ≡ string_bytes b
    → map string_bytes (take n xs) ≡ map string_bytes (take n ys) → map string_bytes (take (n + 1) xs) ≡ map string_bytes (take (n + 1) ys)
one_more_text xs ys n a b low room is are same begin =
    with_next xs n a low is
    ∙ ap (λ ts. ts ++ string_bytes a ∷ []) begin
    ∙ ap (λ t. map string_bytes (take n ys) ++ t ∷ []) same
    ∙ sym (with_next ys n b room are)
