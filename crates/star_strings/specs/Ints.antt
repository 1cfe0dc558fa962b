-- Ints and strings: the text of an int in another base, the int that a string spells in a base, and the hash of a string.
use Rattle.std.specs.Prelude.{ℕ, suc, ◌+◌, ◌*◌, ◌%◌, ◌^◌, nat_eq, nat_lt, min, Bool, false, true, not, ◌&&◌, ◌||◌, List, [], ◌∷◌, ◌++◌, drop, Option, Some, None, ℤ, pos, negsuc, ◌-ℤ◌, neg_ℤ, unsigned_abs, if◌then◌else◌}
use Rattle.std.specs.Char.{digit_value, is_digit, to_ascii_lowercase}
use Rattle.std.specs.Fmt.{digits, sign_text}
use Rattle.std.specs.Int.{is_negative}
use Rattle.std.specs.List.{list_all}
use Rattle.star_strings.specs.declared.ints.Notation.{Notation}
use Rattle.star_strings.specs.declared.ints.Notation.TheVariants as notation

-- the text of an int: a minus sign below 0, then the digits of its size
abbrev pub size_text : Notation → ℕ → List ℕ
size_text notation.Octal n = digits 8 false n
size_text notation.LowerHex n = digits 16 false n
size_text notation.UpperHex n = digits 16 true n

abbrev pub int_text : Notation → ℤ → List ℕ
int_text k z = sign_text (is_negative z) ++ size_text k (unsigned_abs z)

-- the number that digits of a base write after others
abbrev pub number_from : ℕ → ℕ → List ℕ → ℕ
number_from base n [] = n
number_from base n (b ∷ bs) = number_from base (n * base + digit_value b) bs

-- the number that digits of a base write: one digit at least
abbrev pub number_in : ℕ → List ℕ → Option ℕ
number_in base [] = None
number_in base (b ∷ bs) = if list_all (λ d. is_digit d base) (b ∷ bs) then Some (number_from base 0 (b ∷ bs)) else None

-- the base that 0b, 0o or 0x at the front says, with the letter in either case
abbrev pub letter_base : ℕ → Option ℕ
letter_base b = if nat_eq b 98 then Some 2 else (if nat_eq b 111 then Some 8 else (if nat_eq b 120 then Some 16 else None))

abbrev pub prefix_base : List ℕ → Option ℕ
prefix_base (z ∷ b ∷ bs) = if nat_eq z 48 then letter_base (to_ascii_lowercase b) else None
prefix_base _ = None

-- bytes after eight zeros
abbrev pub after_zeros : List ℕ → List ℕ
after_zeros bs = 48 ∷ 48 ∷ 48 ∷ 48 ∷ 48 ∷ 48 ∷ 48 ∷ 48 ∷ bs

-- whether a zero is at the front, and not only zeros are there
abbrev pub is_zero : ℕ → Bool
is_zero b = nat_eq b 48

abbrev pub has_front_zero : List ℕ → Bool
has_front_zero [] = false
has_front_zero (b ∷ bs) = is_zero b && not (list_all is_zero bs)

-- the number that a text without a sign spells in a base from 2 to 36, or in base 0, which is the base of the prefix, and
-- without one 10, without zeros at the front: a prefix goes if the base is 0 or its own
abbrev pub unprefixed : ℕ → List ℕ → Option ℕ
unprefixed base t =
    if nat_eq base 0 then (if has_front_zero t then None else number_in 10 t) else number_in base t

abbrev pub after_prefix : ℕ → List ℕ → Option ℕ → Option ℕ
after_prefix base t (Some own) =
    if nat_eq base 0 || nat_eq base own then number_in own (drop 2 t) else unprefixed base t
after_prefix base t None = unprefixed base t

abbrev pub size_in : ℕ → List ℕ → Option ℕ
size_in base t = after_prefix base t (prefix_base t)

abbrev pub above : Option ℕ → Option ℤ
above (Some n) = Some (pos n)
above None = None

abbrev pub below : Option ℕ → Option ℤ
below (Some n) = Some (neg_ℤ (pos n))
below None = None

-- int(t, base): an optional sign, and then such a text
abbrev pub int_in : ℕ → List ℕ → Option ℤ
int_in base [] = None
int_in base (b ∷ bs) =
    if nat_eq b 45 then below (size_in base bs)
    else (if nat_eq b 43 then above (size_in base bs) else above (size_in base (b ∷ bs)))

-- the base of a number: 0, or 2 to 36
abbrev pub is_base : ℕ → Bool
is_base n = nat_eq n 0 || (nat_lt 1 n && nat_lt n 37)

abbrev pub base_of : ℤ → Option ℕ
base_of (pos n) = if is_base n then Some n else None
base_of (negsuc n) = None

-- a number, held within 2^64: it is outside of 64 bits either way
abbrev pub capped : ℕ → ℕ
capped n = min n (2 ^ 64)

abbrev pub held_int : ℤ → ℤ
held_int (pos n) = pos (capped n)
held_int (negsuc n) = neg_ℤ (pos (capped (suc n)))

-- the lowest 32 bits of a number, with sign
abbrev pub signed_32 : ℕ → ℤ
signed_32 n = if nat_lt n (2 ^ 31) then pos n else pos n -ℤ pos (2 ^ 32)

-- hash(t): from 0 on, for each byte, 31 times the number plus the byte, of which the lowest 32 bits count
abbrev pub hash_from : ℕ → List ℕ → ℕ
hash_from n [] = n
hash_from n (b ∷ bs) = hash_from ((n * 31 + b) % 2 ^ 32) bs

abbrev pub hash : List ℕ → ℤ
hash t = signed_32 (hash_from 0 t)
