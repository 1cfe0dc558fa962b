-- The first and the last cut of a string, its next word and its next line.
use denote.Ref.{Bor}
use Rattle.std.specs.Prelude.{◌≡◌, ◌<◌, ℕ, suc, nat_eq, ◌||◌, Bool, true, not, List, [], ◌∷◌, ◌++◌, Option, None, MatchOption, length, reverse, if◌then◌else◌}
use Rattle.star_strings.specs.Texts.{one_less, parts}
use Rattle.star_strings.specs.Words.{is_space, lines, rparts, rwords, words}

-- a string is cut into the part before its first cut and a shorter text after it; or it is not cut
abbrev pub IsFirstCut : List ℕ → List ℕ → Option ℕ → Option (Bor (List ℕ) × Bor (List ℕ)) → Type 0
IsFirstCut t by left r = MatchOption r (parts t by left ≡ t ∷ [])
    (λ x. (parts t by left ≡ x.0.now ∷ parts x.1.now by (one_less left)) × (length x.1.now < length t))

-- or into a shorter text and the part after its last cut
abbrev pub IsLastCut : List ℕ → List ℕ → Option ℕ → Option (Bor (List ℕ) × Bor (List ℕ)) → Type 0
IsLastCut t by left r = MatchOption r (rparts t by left ≡ t ∷ [])
    (λ x. (rparts t by left ≡ rparts x.0.now by (one_less left) ++ x.1.now ∷ []) × (length x.0.now < length t))

-- what is after a first cut has one part less
abbrev pub IsAfterCut : List ℕ → List ℕ → Option (Bor (List ℕ)) → Type 0
IsAfterCut t by r = MatchOption r (parts t by None ≡ t ∷ [])
    (λ x. (length (parts t by None) ≡ suc (length (parts x.now by None))) × (length x.now < length t))

-- the bytes after the white space at the front, and before that at the end
abbrev pub without_space : List ℕ → List ℕ
without_space [] = []
without_space (b ∷ bs) = if is_space b then without_space bs else b ∷ bs

abbrev pub without_space_after : List ℕ → List ℕ
without_space_after t = reverse (without_space (reverse t))

abbrev pub not_space : ℕ → Bool
not_space b = not (is_space b)

-- whether no word goes on in these bytes
abbrev pub ends_word : List ℕ → Bool
ends_word [] = true
ends_word (b ∷ bs) = is_space b

-- one part, if it has bytes
abbrev pub only : List ℕ → List (List ℕ)
only [] = []
only (b ∷ bs) = (b ∷ bs) ∷ []

-- a string is its first word and a shorter text after it; or all that is left is one word at most
abbrev pub IsNextWord : Option ℕ → List ℕ → Option (Bor (List ℕ) × Bor (List ℕ)) → Type 0
IsNextWord left t r = MatchOption r (words left t ≡ only (without_space t))
    (λ x. (words left t ≡ x.0.now ∷ words (one_less left) x.1.now) × (length x.1.now < length t))

abbrev pub IsLastWord : Option ℕ → List ℕ → Option (Bor (List ℕ) × Bor (List ℕ)) → Type 0
IsLastWord left t r = MatchOption r (rwords left t ≡ only (without_space_after t))
    (λ x. (rwords left t ≡ rwords (one_less left) x.0.now ++ x.1.now ∷ []) × (length x.0.now < length t))

-- the bytes at which a line ends, and those at which it goes on
abbrev pub ends_line : ℕ → Bool
ends_line b = nat_eq b 10 || nat_eq b 13

abbrev pub goes_on : ℕ → Bool
goes_on b = not (ends_line b)

-- a string is its first line and a shorter text after it; or it has none
abbrev pub IsNextLine : Bool → List ℕ → Option (Bor (List ℕ) × Bor (List ℕ)) → Type 0
IsNextLine keep t r = MatchOption r (lines keep t ≡ [])
    (λ x. (lines keep t ≡ x.0.now ∷ lines keep x.1.now) × (length x.1.now < length t))
