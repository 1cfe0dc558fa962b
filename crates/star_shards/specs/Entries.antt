-- Entries of reports, as texts: JSON objects with a label and a status.
use Rattle.std.specs.Prelude.{◌≡◌, ℕ, ◌+◌, nat_eq, Bool, true, false, ◌||◌, List, [], ◌∷◌, ◌++◌, length, take, drop, Option, Some, None, codes, if◌then◌else◌}
use Rattle.std.specs.Option.{IsSome, option_and_then, option_map, unwrap_or}
use Rattle.std.specs.Str.{bytes_eq}
use Rattle.star_shards.specs.Places.{end_from, front_end, start}

-- A text is an object: what stands between its braces opens no bracket and no string that it leaves open, and closes no
-- bracket that it did not open. So the first brace that ends it is the last byte.
pub record IsObject (text : List ℕ) : Type 0 where
  pub inside : List ℕ
  pub text_is : text ≡ 123 ∷ (inside ++ 125 ∷ [])
  pub whole : end_from start 0 (inside ++ 125 ∷ []) ≡ Some (length inside)

-- where the quote stands that ends a string without escapes, counted from i
unfoldable pub quote_from : ℕ → List ℕ → Option ℕ
quote_from i [] = None
quote_from i (b ∷ bs) = if nat_eq b 34 then Some i else (if nat_eq b 92 then None else quote_from (i + 1) bs)

-- a string, of the bytes after its first quote
abbrev pub string_in : List ℕ → Option (List ℕ)
string_in bs = option_map (λ n. take n bs) (quote_from 0 bs)

-- of an object, the string that is the value of the first member with this front, a key with a colon and a quote
abbrev pub member_in : List ℕ → List ℕ → Option (List ℕ)
member_in front text = option_and_then (λ n. string_in (drop n (drop 1 text))) (front_end front (drop 1 text))

abbrev pub label_front : List ℕ
label_front = codes "\"label\":\""

abbrev pub status_front : List ℕ
status_front = codes "\"status\":\""

-- an entry
pub record IsEntry (text : List ℕ) : Type 0 where
  pub object : IsObject text
  pub label : IsSome (member_in label_front text)
  pub status : IsSome (member_in status_front text)

-- its label
abbrev pub label_of : List ℕ → List ℕ
label_of text = unwrap_or (member_in label_front text) []

-- nothing is at fault: the module is ok, or sound and not run
abbrev pub is_good_word : List ℕ → Bool
is_good_word word = bytes_eq word (codes "ok") || bytes_eq word (codes "unrun")

abbrev pub is_good : List ℕ → Bool
is_good text = is_good_word (unwrap_or (member_in status_front text) [])
