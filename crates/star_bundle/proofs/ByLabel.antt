-- Files in a map by their labels, one after another.
use Rattle.std.proofs.Common.{◌≡◌, ℕ, zero, suc, ◌<◌, List, [], ◌∷◌, ◌++◌, map, length, get_or, Bool, true, false, ◌&&◌, refl, ap, sym, ◌∙◌, String, string_bytes, arith}
use Rattle.std.specs.declared.alloc.Global.{Global}
use Rattle.std.specs.declared.cmp.Ordering.{Ordering}
use Rattle.std.specs.declared.cmp.Ordering.TheVariants.{Less, Equal, Greater}
use Rattle.std.specs.BTreeMap.{insert_entry}
use Rattle.std.specs.Cmp.Lexicographic.{slice_cmp}
use Rattle.std.specs.List.{list_all}
use Rattle.std.specs.Ordering.{match_ordering, nat_cmp}
use Rattle.star_label.specs.declared.label.Label.{Label}
use Rattle.star_label.specs.contracts.label.LabelOrd.TheImpl.{cmp-value}
use Rattle.star_label.specs.Files.{File, file_of}
use Rattle.star_label.specs.View.{text_of}
use Rattle.star_bundle.specs.Bundle.{with_files}

abbrev Entry : Type 0
Entry = Label × String Global

cases : (o : Ordering) (a b c : List Entry) → map file_of (match_ordering o a b c) ≡ match_ordering o (map file_of a) (map file_of b) (map file_of c)
cases Less a b c = refl
cases Equal a b c = refl
cases Greater a b c = refl

-- a file put into the map is put among the files that the map holds
pub inserted : (es : List Entry) (l : Label) (t : String Global) → map file_of (insert_entry cmp-value.it es l t) ≡ insert_entry (slice_cmp nat_cmp) (map file_of es) (text_of l) (string_bytes t)
inserted [] l t = refl
inserted (e ∷ es) l t =
    cases (slice_cmp nat_cmp (text_of l) (text_of e.0)) ((l, t) ∷ e ∷ es) ((e.0, t) ∷ es) (e ∷ insert_entry cmp-value.it es l t)
    ∙ ap (λ r. match_ordering (slice_cmp nat_cmp (text_of l) (text_of e.0)) (map file_of ((l, t) ∷ e ∷ es)) (map file_of ((e.0, t) ∷ es)) (file_of e ∷ r)) (inserted es l t)

-- one file more
pub one_more : (made fs : List File) (f : File) → with_files made (fs ++ f ∷ []) ≡ insert_entry (slice_cmp nat_cmp) (with_files made fs) f.0 f.1
unfolding with_files
one_more made [] f = refl
one_more made (g ∷ fs) f = one_more (insert_entry (slice_cmp nat_cmp) made g.0 g.1) fs f

pub all_more : {A : Type 0} (p : A → Bool) (xs : List A) (x : A) → list_all p xs ≡ true → p x ≡ true → list_all p (xs ++ x ∷ []) ≡ true
all_more p [] x h k = rw k refl
all_more p (y ∷ ys) x h k = both (p y) (list_all p ys) (list_all p (ys ++ x ∷ [])) h (λ r. all_more p ys x r k)
  where
    both : (a b c : Bool) → (a && b) ≡ true → (b ≡ true → c ≡ true) → (a && c) ≡ true
    both true b c h k = k h
    both false b c h k = h

pub none_of_all : {A : Type 0} (p : A → Bool) (xs : List A) (i : ℕ) (x : A) → i < length xs → x ≡ get_or xs i x → p x ≡ false → list_all p xs ≡ false
none_of_all p [] i x h e f = absurd (omega arith)
none_of_all p (y ∷ ys) zero x h e f = let g : p y ≡ false = ap p (sym e) ∙ f in rw g refl
none_of_all p (y ∷ ys) (suc i) x h e f = either (p y) (list_all p ys) (none_of_all p ys i x (omega (arith, h)) e f)
  where
    either : (a b : Bool) → b ≡ false → (a && b) ≡ false
    either true b k = k
    either false b k = refl
