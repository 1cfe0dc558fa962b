-- The built-in functions after their arguments have been unpacked.
use Rattle.std.specs.Prelude.{ℕ, ◌+◌, ◌^◌, min, not, List, [], ◌∷◌, length, ℤ, pos}
use Rattle.std.specs.List.{list_any}
use Rattle.star_store.specs.declared.values.Value.{Value}
use Rattle.star_outline.specs.Names.{same_name}
use Rattle.star_meaning.specs.declared.fault.FaultCode.TheVariants as code
use Rattle.star_meaning.specs.declared.said.Said.TheVariants.{Line}
use Rattle.star_meaning.specs.Run.{Action, ◌>>=◌, give, pay, check, found, each, add_said}
use Rattle.star_meaning.specs.Program.{Setting}
use Rattle.star_meaning.specs.Values.{with_content, want_int, new_int, new_text, new_tuple, str}
use Rattle.star_meaning.specs.BuiltIns.{length_in, range_of, is_range_count}
use Rattle.star_meaning.specs.Texts.{joined}

-- the length of a value
abbrev pub length_of : Setting → ℕ → Value → Action Value
length_of w line v = with_content w v (λ c. found code.BadType line (length_in c)) >>= λ n. new_int line (pos n)

-- the range of some values
abbrev pub range_from : Setting → ℕ → List Value → Action Value
range_from w line xs =
    check code.Args line (is_range_count (length xs)) >>= λ _. each (want_int w line) xs >>= range_of line

-- the tuple of a number and an item
abbrev pub numbered_item : ℕ → ℤ → Value → Action Value
numbered_item line z x = new_int line z >>= λ n. new_tuple line (n ∷ x ∷ [])

-- a name as a new string, unless it is among those before it
abbrev pub new_name : ℕ → List (List ℕ) → List ℕ → Action Value
new_name line before name =
    new_text line name >>= λ k. check code.Key line (not (list_any (same_name name) before)) >>= λ _. give k

-- the line of some values
abbrev pub said : Setting → ℕ → ℕ → List ℕ → List Value → Action (Unit {0})
said w levels line by xs = do
  ts ← each (str w levels line) xs
  _ ← pay line (1 + length (joined by ts))
  add_said (Line (joined by ts))

-- a number, or 2^64 if it is not below: not an int of 64 bits either way
abbrev pub capped : ℕ → ℕ
capped n = min n (2 ^ 64)
