-- What the methods of strings in the table answer, of the string's bytes and of arguments that are of their kinds.
use Rattle.std.specs.Prelude.{ℕ, ℤ, negsuc, ◌-◌, nat_eq, nat_lt, Bool, false, true, not, ◌&&◌, ◌||◌, List, [], ◌∷◌, length, take, drop, map, pos, Option, Some, None, if◌then◌else◌}
use Rattle.std.specs.Char.{encode_utf8, is_ascii, is_ascii_alphabetic, is_ascii_alphanumeric, is_ascii_digit, to_ascii_lowercase, to_ascii_uppercase}
use Rattle.std.specs.Cmp.Lexicographic.{pointwise}
use Rattle.std.specs.List.{list_all, list_any, starts_with, ends_with}
use Rattle.std.specs.Str.{chars, encode_utf8_all}
use Rattle.star_strings.specs.declared.cases.Case.{Case}
use Rattle.star_strings.specs.declared.cases.Case.TheVariants as case
use Rattle.star_strings.specs.declared.cases.Heads.{Heads}
use Rattle.star_strings.specs.declared.cases.Heads.TheVariants as heads
use Rattle.star_strings.specs.declared.classes.Class.{Class}
use Rattle.star_strings.specs.declared.classes.Class.TheVariants as class
use Rattle.star_strings.specs.declared.table.Answer.{Answer}
use Rattle.star_strings.specs.declared.table.Answer.TheVariants as answer
use Rattle.star_strings.specs.declared.table.Argument.{Argument}
use Rattle.star_strings.specs.declared.table.Argument.TheVariants as argument
use Rattle.star_strings.specs.Places.{between, bounds}
use Rattle.star_strings.specs.Texts.{parts}
use Rattle.star_strings.specs.Words.{is_space, lines, rparts, rwords, words}

-- count(u, [a, [b]]): the number of cuts at u in the bytes from a to b
abbrev pub counted : List ℕ → List ℕ → List Argument → Answer
counted t u given =
    if nat_eq (length u) 0 then answer.Refused
    else answer.Number (pos (length (parts (between t (bounds (length t) given)) u None) - 1))

-- isalnum(), isalpha(), isdigit(), isspace(): there is a byte, and each is of the class
abbrev pub in_class : Class → ℕ → Bool
in_class class.Alnum b = is_ascii_alphanumeric b
in_class class.Alpha b = is_ascii_alphabetic b
in_class class.Digit b = is_ascii_digit b
in_class class.Space b = is_space b

abbrev pub is_all : Class → List ℕ → Bool
is_all k t = not (nat_eq (length t) 0) && list_all (in_class k) t

-- partition(u): the part before the first u, that u, and the part after it; or the whole, and two empty strings
abbrev pub three : List ℕ → List (List ℕ) → List (List ℕ)
three u (a ∷ b ∷ bs) = a ∷ u ∷ b ∷ []
three u (a ∷ []) = a ∷ [] ∷ [] ∷ []
three u [] = []

abbrev pub parted : List ℕ → List ℕ → Answer
parted t u = if nat_eq (length u) 0 then answer.Refused else answer.Tuple (three u (parts t u (Some 1)))

-- rpartition(u): the same around the last u; or two empty strings, and the whole
abbrev pub rthree : List ℕ → List (List ℕ) → List (List ℕ)
rthree u (a ∷ b ∷ bs) = a ∷ u ∷ b ∷ []
rthree u (a ∷ []) = [] ∷ [] ∷ a ∷ []
rthree u [] = []

abbrev pub rparted : List ℕ → List ℕ → Answer
rparted t u = if nat_eq (length u) 0 then answer.Refused else answer.Tuple (rthree u (rparts t u (Some 1)))

-- split([u, [n]]) and rsplit: at most n cuts, all without n or below 0; words without u or with None
abbrev pub limit : ℤ → Option ℕ
limit (pos n) = Some n
limit (negsuc n) = None

abbrev pub split_by : Option (List ℕ) → Option ℕ → List ℕ → Answer
split_by None left t = answer.List (words left t)
split_by (Some u) left t = if nat_eq (length u) 0 then answer.Refused else answer.List (parts t u left)

abbrev pub rsplit_by : Option (List ℕ) → Option ℕ → List ℕ → Answer
rsplit_by None left t = answer.List (rwords left t)
rsplit_by (Some u) left t = if nat_eq (length u) 0 then answer.Refused else answer.List (rparts t u left)

abbrev pub split : List ℕ → List Argument → Answer
split t [] = split_by None None t
split t (argument.MaybeText u ∷ []) = split_by u None t
split t (argument.MaybeText u ∷ argument.Int n ∷ []) = split_by u (limit n) t
split t _ = answer.Refused

abbrev pub rsplit : List ℕ → List Argument → Answer
rsplit t [] = rsplit_by None None t
rsplit t (argument.MaybeText u ∷ []) = rsplit_by u None t
rsplit t (argument.MaybeText u ∷ argument.Int n ∷ []) = rsplit_by u (limit n) t
rsplit t _ = answer.Refused

-- title() and capitalize(): characters whose ASCII letters are large at heads, and small elsewhere
abbrev pub cased : Bool → ℕ → ℕ
cased small c = if small then to_ascii_lowercase c else to_ascii_uppercase c

abbrev pub small_after : Heads → ℕ → Bool
small_after heads.Text c = true
small_after heads.Words c = is_ascii_alphabetic c

abbrev pub headed_after : Heads → Bool → List ℕ → List ℕ
headed_after h small [] = []
headed_after h small (c ∷ cs) = cased small c ∷ headed_after h (small_after h c) cs

abbrev pub headed : Heads → List ℕ → List ℕ
headed h t = encode_utf8_all (headed_after h false (chars t))

abbrev pub title : List ℕ → List ℕ
title t = headed heads.Words t

-- islower(), isupper(), istitle(): there is a letter, and the string is its own copy in the case
abbrev pub lower : ℕ → ℕ
lower b = to_ascii_lowercase b

abbrev pub upper : ℕ → ℕ
upper b = to_ascii_uppercase b

abbrev pub in_case : Case → List ℕ → List ℕ
in_case case.Lower t = map lower t
in_case case.Upper t = map upper t
in_case case.Title t = title t

abbrev pub is_cased : Case → List ℕ → Bool
is_cased k t = list_any is_ascii_alphabetic t && pointwise nat_eq (in_case k t) t

-- removeprefix(u) and removesuffix(u)
abbrev pub without_prefix : List ℕ → List ℕ → List ℕ
without_prefix t u = if starts_with nat_eq t u then drop (length u) t else t

abbrev pub without_suffix : List ℕ → List ℕ → List ℕ
without_suffix t u = if ends_with nat_eq t u then take (length t - length u) t else t

-- elems(): a string of each byte, if all are ASCII
abbrev pub elems : List ℕ → Answer
elems t = if list_all is_ascii t then answer.List (map (λ b. b ∷ []) t) else answer.Cut

-- codepoints(): a string of each character
abbrev pub codepoints : List ℕ → List (List ℕ)
codepoints t = map encode_utf8 (chars t)

-- elem_ords() and codepoint_ords(): the number of each byte, of each character
abbrev pub numbers : List ℕ → List ℤ
numbers ns = map (λ n. pos n) ns

abbrev pub elem_ords : List ℕ → List ℤ
elem_ords t = numbers t

abbrev pub codepoint_ords : List ℕ → List ℤ
codepoint_ords t = numbers (chars t)

-- a place, or -1; and one that has to be there
abbrev pub place_or_none : Option ℕ → ℤ
place_or_none None = negsuc 0
place_or_none (Some i) = pos i

abbrev pub place_wanted : Option ℕ → Answer
place_wanted None = answer.Refused
place_wanted (Some i) = answer.Number (pos i)
