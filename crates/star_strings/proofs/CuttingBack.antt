-- Strings, cut at the last separator.
use Rattle.std.proofs.Common.{◌≡◌, ℕ, zero, suc, ◌+◌, ◌-◌, ◌<◌, ◌≤◌, nat_eq, List, [], ◌∷◌, ◌++◌, length, map, reverse, take, drop, Bool, true, false, Option, Some, None, MatchOption, if◌then◌else◌, refl, ap, sym, ◌∙◌, arith, append_assoc, append-nil, length-take-le}
use denote.Ref.{Bor}
use Rattle.std.specs.List.{starts_with}
use Rattle.std.specs.Str.Pattern.{LacksTextAt, RFindsText, FindsText}
use Rattle.std.proofs.lemmas.Bool.{false≢true}
use Rattle.std.proofs.lemmas.List.{take-append-drop, reverse-append, reverse-reverse, length-reverse, length-append}
use Rattle.std.proofs.lemmas.Slice.Eq.{bytes_eq-Decides}
use Rattle.memchr.specs.Find.{FindsNeedle}
use Rattle.memchr.proofs.lemmas.MatchLemmas.{OccursAt-split}
use Rattle.star_strings.specs.Texts.{may_cut, one_less, parts}
use Rattle.star_strings.specs.Words.{mirrored, rparts}
use Rattle.star_strings.specs.Cuts.{IsAfterCut, IsLastCut}
use Rattle.star_strings.specs.Strings.{rthree}
use Rattle.star_strings.proofs.Cutting.{before_cut, whole_cut, no_more}
use Rattle.star_strings.proofs.Windows.{is_not, occurs}

take_whole : (t : List ℕ) → take (length t) t ≡ t
take_whole [] = refl
take_whole (b ∷ bs) = ap (λ z. b ∷ z) (take_whole bs)

take_all : (t : List ℕ) → take (length t - 0) t ≡ t
take_all t = let e : length t - 0 ≡ length t = omega arith in ap (λ n. take n t) e ∙ take_whole t

-- ---- the first cut of bytes
needle_cut : (t by : List ℕ) (i : ℕ) → 0 < length by → FindsNeedle t by 0 (Some i) → parts t by None ≡ take i t ∷ parts (drop (i + length by) t) by None
needle_cut t by i l f =
    let fits = f.1.fits in
    let e : t ≡ take i t ++ (by ++ drop (i + length by) t) = sym (take-append-drop i t) ∙ ap (λ z. take i t ++ z) (OccursAt-split t by i f.1) in
    let w : length (take i t) ≡ i = length-take-le i t (omega (arith, fits)) in
    let g : (k : ℕ) → k < length (take i t) → starts_with nat_eq (drop k (take i t ++ (by ++ drop (i + length by) t))) by ≡ false =
    λ k m. ap (λ z. starts_with nat_eq (drop k z) by) (sym e) ∙ is_not (starts_with nat_eq (drop k t) by) (λ s. f.0.before k (omega arith) (omega (arith, m, w)) (occurs t by k l s)) in
    ap (λ z. parts z by None) e ∙ whole_cut by None (take i t) (drop (i + length by) t) l refl g

needle_none : (t by : List ℕ) → 0 < length by → FindsNeedle t by 0 None → parts t by None ≡ t ∷ []
needle_none t by l f =
    let g : (k : ℕ) → k < length t → starts_with nat_eq (drop k (t ++ [])) by ≡ false =
    λ k m. ap (λ z. starts_with nat_eq (drop k z) by) (append-nil t) ∙ is_not (starts_with nat_eq (drop k t) by) (λ s. f k (omega arith) (omega arith) (occurs t by k l s)) in
    ap (λ z. parts z by None) (sym (append-nil t)) ∙ before_cut by None [] t [] g

pub after_there : (t by : List ℕ) (i : ℕ) (x : List ℕ) → 0 < length by → FindsNeedle t by 0 (Some i) → x ≡ drop (i + length by) t → length (parts t by None) ≡ suc (length (parts x by None))
after_there t by i x l f e = ap length (needle_cut t by i l f) ∙ ap (λ z. suc (length (parts z by None))) (sym e)

pub after_none : (t by : List ℕ) → 0 < length by → FindsNeedle t by 0 None → parts t by None ≡ t ∷ []
after_none t by l f = needle_none t by l f

-- ---- the last cut
drop_front : (xs ys : List ℕ) → drop (length xs) (xs ++ ys) ≡ ys
drop_front [] ys = refl
drop_front (x ∷ xs) ys = drop_front xs ys

-- a separator that stands in the reversed string stands in the string
module _ (t by : List ℕ) (k : ℕ) (within : k ≤ length t) (s : starts_with nat_eq (drop k (reverse t)) (reverse by) ≡ true) where
  abbrev rest : List ℕ
  rest = drop (length (reverse by)) (drop k (reverse t))

  abbrev after : List ℕ
  after = reverse (take k (reverse t))

  begun : drop k (reverse t) ≡ reverse by ++ rest
  begun =
      sym (take-append-drop (length (reverse by)) (drop k (reverse t)))
      ∙ ap (λ z. z ++ rest) (sym ((bytes_eq-Decides (reverse by) (take (length (reverse by)) (drop k (reverse t)))).0 s))

  turned : reverse t ≡ take k (reverse t) ++ (reverse by ++ rest)
  turned = sym (take-append-drop k (reverse t)) ∙ ap (λ z. take k (reverse t) ++ z) begun

  whole : t ≡ reverse rest ++ (by ++ after)
  whole =
      sym (reverse-reverse t) ∙ ap reverse turned ∙ reverse-append (take k (reverse t)) (reverse by ++ rest)
      ∙ ap (λ z. z ++ after) (reverse-append (reverse by) rest) ∙ ap (λ z. (reverse rest ++ z) ++ after) (reverse-reverse by)
      ∙ append_assoc (reverse rest) by after

  stands_back : drop (length (reverse rest)) t ≡ by ++ after
  stands_back = ap (drop (length (reverse rest))) whole ∙ drop_front (reverse rest) (by ++ after)

  place_back : length (reverse rest) + (length by + k) ≡ length t
  place_back =
      let a : length after ≡ k = length-reverse (take k (reverse t)) ∙ length-take-le k (reverse t) (omega (arith, within, length-reverse t)) in
      let b : length t ≡ length (reverse rest) + length (by ++ after) = ap length whole ∙ length-append (reverse rest) (by ++ after) in
      let c : length (by ++ after) ≡ length by + length after = length-append by after in
      omega (arith, a, b, c)

-- the separator is nowhere in the reversed string before a place, if it is nowhere in the string after another
lacks_back : (t by : List ℕ) (n k : ℕ) → ((i : ℕ) → n < i → i ≤ length t → LacksTextAt by t i) → n + (length by + k) < length t → starts_with nat_eq (drop k (reverse t)) (reverse by) ≡ false
lacks_back t by n k f h =
    let w : k ≤ length t = omega arith in
    is_not _ (λ s. let e = place_back t by k w s in f (length (reverse (rest t by k w s))) (omega (arith, e)) (omega (arith, e)) (after t by k w s) (stands_back t by k w s))

lacks_all : (t by : List ℕ) (k : ℕ) → ((i : ℕ) → i ≤ length t → LacksTextAt by t i) → k ≤ length t → starts_with nat_eq (drop k (reverse t)) (reverse by) ≡ false
lacks_all t by k f w =
    is_not _ (λ s. let e = place_back t by k w s in f (length (reverse (rest t by k w s))) (omega (arith, e)) (after t by k w s) (stands_back t by k w s))

-- parts in the mirror
pub mirror_more : (w : List ℕ) (ws : List (List ℕ)) → reverse (map reverse (reverse w ∷ ws)) ≡ reverse (map reverse ws) ++ w ∷ []
mirror_more w ws = reverse-append (reverse (reverse w) ∷ []) (map reverse ws) ∙ ap (λ z. reverse (map reverse ws) ++ z ∷ []) (reverse-reverse w)

pub mirror_one : (t : List ℕ) → reverse (map reverse (reverse t ∷ [])) ≡ t ∷ []
mirror_one t = ap (λ z. z ∷ []) (reverse-reverse t)

pub no_more_back : (t by : List ℕ) (left : Option ℕ) → may_cut left ≡ false → rparts t by left ≡ t ∷ []
no_more_back t by left h = ap (λ z. reverse (map reverse z)) (no_more (reverse t) (reverse by) left h) ∙ mirror_one t

no_cut_back : (t by : List ℕ) (left : Option ℕ) → ((i : ℕ) → i ≤ length t → LacksTextAt by t i) → rparts t by left ≡ t ∷ []
no_cut_back t by left f =
    let g : (k : ℕ) → k < length (reverse t) → starts_with nat_eq (drop k (reverse t ++ [])) (reverse by) ≡ false =
    λ k m. ap (λ z. starts_with nat_eq (drop k z) (reverse by)) (append-nil (reverse t)) ∙ lacks_all t by k f (omega (arith, m, length-reverse t)) in
    let e : parts (reverse t) (reverse by) left ≡ reverse t ∷ [] = ap (λ z. parts z (reverse by) left) (sym (append-nil (reverse t))) ∙ before_cut (reverse by) left [] (reverse t) [] g in
    ap (λ z. reverse (map reverse z)) e ∙ mirror_one t

cut_back : (t by : List ℕ) (left : Option ℕ) (before after : List ℕ) → 0 < length by → may_cut left ≡ true → t ≡ before ++ (by ++ after) → ((i : ℕ) → length before < i → i ≤ length t → LacksTextAt by t i) → rparts t by left ≡ rparts before by (one_less left) ++ after ∷ []
cut_back t by left before after l h e f =
    let n : length t ≡ length before + (length by + length after) = ap length e ∙ length-append before (by ++ after) ∙ ap (λ z. length before + z) (length-append by after) in
    let r : reverse t ≡ reverse after ++ (reverse by ++ reverse before) =
    ap reverse e ∙ reverse-append before (by ++ after) ∙ ap (λ z. z ++ reverse before) (reverse-append by after) ∙ append_assoc (reverse after) (reverse by) (reverse before) in
    let g : (k : ℕ) → k < length (reverse after) → starts_with nat_eq (drop k (reverse after ++ (reverse by ++ reverse before))) (reverse by) ≡ false =
    λ k m. ap (λ z. starts_with nat_eq (drop k z) (reverse by)) (sym r) ∙ lacks_back t by (length before) k f (omega (arith, m, n, length-reverse after)) in
    ap (λ z. reverse (map reverse z)) (ap (λ z. parts z (reverse by) left) r ∙ whole_cut (reverse by) left (reverse after) (reverse before) (omega (arith, l, length-reverse by)) h g)
    ∙ mirror_more after (parts (reverse before) (reverse by) (one_less left))

pub last_is : (t by : List ℕ) (left : Option ℕ) (r : Option (Bor (List ℕ) × Bor (List ℕ))) → 0 < length by → may_cut left ≡ true → MatchOption r (RFindsText by t None) (λ x. (i : ℕ) × (j : ℕ) × RFindsText by t (Some (i, j)) × (x.0.now ≡ take i t) × (x.1.now ≡ drop j t) × (i ≤ j) × (length x.0.now ≡ i) × (length x.1.now + j ≡ length t)) → IsLastCut t by left r
last_is t by left None l h f = no_cut_back t by left f
last_is t by left (Some x) l h f =
    let e : t ≡ x.0.now ++ (by ++ x.1.now) = sym (take-append-drop f.0 t) ∙ (λ k. sym f.3 k ++ (f.2.1.split ∙ ap (λ z. by ++ z) (sym f.4)) k) in
    (cut_back t by left x.0.now x.1.now l h e (λ i a b. f.2.0 i (omega (arith, a, f.6)) b), omega (arith, l, f.2.1.ends, f.6, f.7))

-- the three parts around the last cut
pub parted_back : (t by before after : List ℕ) → rparts t by (Some 1) ≡ rparts before by (Some 0) ++ after ∷ [] → rthree by (rparts t by (Some 1)) ≡ before ∷ by ∷ after ∷ []
parted_back t by before after h = ap (rthree by) (h ∙ ap (λ z. z ++ after ∷ []) (no_more_back before by (Some 0) refl))

pub parted_whole_back : (t by : List ℕ) → rparts t by (Some 1) ≡ t ∷ [] → rthree by (rparts t by (Some 1)) ≡ [] ∷ [] ∷ t ∷ []
parted_whole_back t by h = ap (rthree by) h

-- a part more, before those that were made from the end
pub front_back : (xs ys : List (List ℕ)) (x : List ℕ) → (xs ++ x ∷ []) ++ reverse ys ≡ xs ++ reverse (ys ++ x ∷ [])
front_back xs ys x = append_assoc xs (x ∷ []) (reverse ys) ∙ ap (λ z. xs ++ z) (sym (reverse-append ys (x ∷ [])))

pub take_rest : (t : List ℕ) (i : ℕ) → i ≤ length t → take (length t - i) (drop i t) ≡ drop i t
take_rest t zero h = take_all t
take_rest [] (suc i) h = absurd (omega arith)
take_rest (b ∷ bs) (suc i) h =
    let e : suc (length bs) - suc i ≡ length bs - i = omega arith in
    ap (λ n. take n (drop i bs)) e ∙ take_rest bs i (omega arith)
