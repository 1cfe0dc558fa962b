-- Strings, by their bytes: characters, parts, prefixes and suffixes.
use Rattle.std.specs.Prelude.{ℕ, zero, suc, ◌+◌, ◌-◌, nat_eq, nat_lt, Bool, true, false, not, ◌&&◌, ◌||◌, List, [], ◌∷◌, ◌++◌, length, reverse, Option, Some, None, if◌then◌else◌}
use Rattle.std.specs.List.{list_any, starts_with}
use Rattle.star_outline.specs.Names.{same_name}

-- whether a byte continues a character
abbrev pub goes_on : ℕ → Bool
goes_on b = not (nat_lt b 128) && nat_lt b 192

abbrev pub begins_inside : List ℕ → Bool
begins_inside [] = false
begins_inside (b ∷ bs) = goes_on b

-- a byte before characters: it begins the first one if that has no beginning yet
abbrev pub led_by : ℕ → List (List ℕ) → List (List ℕ)
led_by b [] = (b ∷ []) ∷ []
led_by b (c ∷ cs) = if begins_inside c then (b ∷ c) ∷ cs else (b ∷ []) ∷ c ∷ cs

-- the characters of a string, each with its bytes
abbrev pub characters : List ℕ → List (List ℕ)
characters [] = []
characters (b ∷ bs) = led_by b (characters bs)

-- the rest of a string after the characters at the front that are in a set
abbrev pub without_front : (List ℕ → Bool) → List (List ℕ) → List (List ℕ)
without_front test [] = []
without_front test (c ∷ cs) = if test c then without_front test cs else c ∷ cs

abbrev pub without_end : (List ℕ → Bool) → List (List ℕ) → List (List ℕ)
without_end test cs = reverse (without_front test (reverse cs))

-- space and the bytes 9 to 13
abbrev pub is_blank : List ℕ → Bool
is_blank (b ∷ []) = nat_eq b 32 || (nat_lt 8 b && nat_lt b 14)
is_blank _ = false

abbrev pub is_in : List ℕ → List ℕ → Bool
is_in t c = list_any (same_name c) (characters t)

-- ASCII letters in the other case
abbrev pub lower : ℕ → ℕ
lower b = if nat_lt 64 b && nat_lt b 91 then b + 32 else b

abbrev pub upper : ℕ → ℕ
upper b = if nat_lt 96 b && nat_lt b 123 then b - 32 else b

-- a number of cuts that may still be made; nothing if all may
abbrev pub may_cut : Option ℕ → Bool
may_cut None = true
may_cut (Some n) = not (nat_eq n 0)

abbrev pub one_less : Option ℕ → Option ℕ
one_less None = None
one_less (Some n) = Some (n - 1)

-- the parts of a string between the places, from the left, of a separator; the number counts its bytes that are still
-- to be passed over, and the list is the part begun so far
abbrev pub parts_from : List ℕ → Option ℕ → ℕ → List ℕ → List ℕ → List (List ℕ)
parts_from by left skip part [] = part ∷ []
parts_from by left (suc skip) part (b ∷ bs) = parts_from by left skip part bs
parts_from by left zero part (b ∷ bs) =
    if may_cut left && starts_with nat_eq (b ∷ bs) by then part ∷ parts_from by (one_less left) (length by - 1) [] bs
    else parts_from by left zero (part ++ b ∷ []) bs

-- the parts of t between cuts at the separator
abbrev pub parts : List ℕ → List ℕ → Option ℕ → List (List ℕ)
parts t by left = parts_from by left 0 [] t

-- texts in one, with another one between each and the next
abbrev pub joined : List ℕ → List (List ℕ) → List ℕ
joined by [] = []
joined by (t ∷ []) = t
joined by (t ∷ u ∷ ts) = t ++ by ++ joined by (u ∷ ts)
