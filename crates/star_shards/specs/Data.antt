-- The text of JSON data, as entries see it.
use Rattle.std.specs.Prelude.{◌≡◌, ℕ, ◌||◌, nat_eq, nat_lt, Bool, false, List, [], ◌∷◌, ◌++◌, Option, Some, None, codes, if◌then◌else◌}
use Rattle.std.specs.List.{list_any}
use Rattle.std.specs.Str.{bytes_eq}
use Rattle.serde_json.specs.Data.{Data, Members, member, no_members, object, string}
use Rattle.serde_json.specs.Written.{compact_text}
use Rattle.star_shards.specs.Entries.{IsEntry, IsObject, is_good, is_good_word, label_of}
use Rattle.star_shards.specs.Lines.{IsOneLine}

-- a byte that a string of JSON does not have as it is
abbrev pub is_escaped : ℕ → Bool
is_escaped b = nat_eq b 34 || (nat_eq b 92 || nat_lt b 32)

-- a text without such a byte
abbrev pub IsPlain : List ℕ → Type 0
IsPlain s = list_any is_escaped s ≡ false

-- the first member with a key
abbrev pub found_member : List ℕ → Members → Option Data
found_member key no_members = None
found_member key (member k d ms) = if bytes_eq k key then Some d else found_member key ms

-- the text of an object ends with the bracket that closes its first one
abbrev pub ObjectsEnd : Type 0
ObjectsEnd = (ms : Members) → IsObject (compact_text (object ms))

-- the text of data has no line end
abbrev pub DataAreOneLine : Type 0
DataAreOneLine = (d : Data) → IsOneLine (compact_text d)

-- the text of an object with a label and a status, which are plain strings, is an entry with these
pub record IsEntryOf (text label status : List ℕ) : Type 0 where
  pub entry : IsEntry text
  pub label_is : label_of text ≡ label
  pub good_is : is_good text ≡ is_good_word status

abbrev pub ObjectsAreEntries : Type 0
ObjectsAreEntries =
    (ms : Members) (label status : List ℕ) → found_member (codes "label") ms ≡ Some (string label) → IsPlain label
    → found_member (codes "status") ms ≡ Some (string status) → IsPlain status
    → IsEntryOf (compact_text (object ms)) label status
