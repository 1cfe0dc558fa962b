-- Words and lines of strings, and what a cut from the right leaves.
use Rattle.std.specs.Prelude.{ℕ, zero, suc, ◌+◌, ◌-◌, nat_eq, nat_lt, Bool, not, ◌&&◌, ◌||◌, List, [], ◌∷◌, ◌++◌, length, map, reverse, take, Option, Some, None, if◌then◌else◌}
use Rattle.std.specs.List.{starts_with}
use Rattle.star_strings.specs.Texts.{may_cut, one_less, parts}

-- white space: the space and the bytes 9 to 13
abbrev pub is_space : ℕ → Bool
is_space b = nat_eq b 32 || (nat_lt 8 b && nat_lt b 14)

-- words: white space at the front goes. If no cut is left, all that is left is one word. Else the bytes up to the next
-- white space are a word, and the words of the rest follow, with one cut less. The middle argument is the word begun
abbrev pub words_from : Option ℕ → Option (List ℕ) → List ℕ → List (List ℕ)
words_from left None [] = []
words_from left None (b ∷ bs) =
    if is_space b then words_from left None bs
    else if may_cut left then words_from left (Some (b ∷ [])) bs
    else (b ∷ bs) ∷ []
words_from left (Some w) [] = w ∷ []
words_from left (Some w) (b ∷ bs) =
    if is_space b then w ∷ words_from (one_less left) None bs else words_from left (Some (w ++ b ∷ [])) bs

abbrev pub words : Option ℕ → List ℕ → List (List ℕ)
words left t = words_from left None t

-- the parts that a way to cut gives from the right: those of the reversed bytes, each reversed again, and their order
abbrev pub mirrored : (List ℕ → List (List ℕ)) → List ℕ → List (List ℕ)
mirrored cut t = reverse (map reverse (cut (reverse t)))

abbrev pub rparts : List ℕ → List ℕ → Option ℕ → List (List ℕ)
rparts t by left = mirrored (λ bs. parts bs (reverse by) left) t

abbrev pub rwords : Option ℕ → List ℕ → List (List ℕ)
rwords left t = mirrored (words left) t

-- how many bytes of a line's end are at the front: LF, CR LF or another CR
abbrev pub line_end : List ℕ → ℕ
line_end [] = 0
line_end (b ∷ bs) =
    if nat_eq b 10 then 1
    else if nat_eq b 13 then (if starts_with nat_eq bs (10 ∷ []) then 2 else 1)
    else 0

-- the lines of a string, with their ends or without; the number counts bytes of an end that are still to be passed
-- over, and the list is the line begun so far. What is after the last end is a line if it has bytes
abbrev pub lines_from : Bool → ℕ → List ℕ → List ℕ → List (List ℕ)
lines_from keep skip part [] = if nat_eq (length part) 0 then [] else part ∷ []
lines_from keep (suc skip) part (b ∷ bs) = lines_from keep skip part bs
lines_from keep zero part (b ∷ bs) =
    if nat_eq (line_end (b ∷ bs)) 0 then lines_from keep 0 (part ++ b ∷ []) bs
    else (if keep then part ++ take (line_end (b ∷ bs)) (b ∷ bs) else part) ∷ lines_from keep (line_end (b ∷ bs) - 1) [] bs

abbrev pub lines : Bool → List ℕ → List (List ℕ)
lines keep t = lines_from keep 0 [] t
