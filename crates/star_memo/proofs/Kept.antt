-- Rows of kept results.
use Rattle.std.proofs.Common.{◌≡◌, ◌+◌, ◌<◌, ◌≤◌, ℕ, zero, suc, List, [], ◌∷◌, length, drop, Option, Some, None, refl, arith}
use Rattle.star_label.specs.Files.{File, text_at}
use Rattle.star_memo.specs.declared.parses.Kept.{Kept}
use Rattle.star_memo.specs.Parses.{Has, kept_bytes}

-- the bytes of the kept results from a number on

none_kept : (files : List File) → kept_bytes files [] ≡ 0
none_kept [] = refl
none_kept (f ∷ fs) = refl

pub bytes_less : (files : List File) (all : List (Option Kept)) (n : ℕ) → kept_bytes (drop (suc n) files) (drop (suc n) all) ≤ kept_bytes (drop n files) (drop n all)
bytes_less [] all zero = omega arith
bytes_less [] all (suc n) = omega arith
bytes_less (f ∷ fs) [] zero = omega (arith, none_kept fs)
bytes_less (f ∷ fs) [] (suc n) = omega (arith, none_kept (drop (suc n) fs), none_kept (drop n fs))
bytes_less (f ∷ fs) (None ∷ ks) zero = omega arith
bytes_less (f ∷ fs) (Some k ∷ ks) zero = omega arith
bytes_less (f ∷ fs) (k ∷ ks) (suc n) = bytes_less fs ks n

pub bytes_more : (files : List File) (all : List (Option Kept)) (n : ℕ) → Has all n → n < length files
    → length (text_at files n) + kept_bytes (drop (suc n) files) (drop (suc n) all) ≤ kept_bytes (drop n files) (drop n all)
bytes_more [] all n h low = absurd (omega (arith, low))
bytes_more (f ∷ fs) [] n h low = absurd (let no : ⊥ = cc in no)
bytes_more (f ∷ fs) (None ∷ ks) zero h low = absurd (let no : ⊥ = cc in no)
bytes_more (f ∷ fs) (Some k ∷ ks) zero h low = omega arith
bytes_more (f ∷ fs) (k ∷ ks) (suc n) h low = bytes_more fs ks n h (omega (arith, low))

-- a file that has a kept result is within the row
pub has_within : (all : List (Option Kept)) (n : ℕ) → Has all n → n < length all
has_within [] n h = absurd (let no : ⊥ = cc in no)
has_within (x ∷ xs) zero h = omega arith
has_within (x ∷ xs) (suc n) h = let r = has_within xs n h in omega (arith, r)
