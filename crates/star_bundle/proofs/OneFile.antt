-- The steps from a JSON value to the one file.
use Rattle.std.proofs.Common.{◌≡◌, ℕ, List, Bool, true, false, Option, None, refl}
use Rattle.std.specs.Str.{is_utf8, IsUtf8}
use Rattle.std.proofs.lemmas.Str.{is_utf8-from_IsUtf8, IsUtf8-from_is_utf8}
use Rattle.serde_json.specs.Data.{Data}
use Rattle.serde_json.specs.Read.{read}
use Rattle.star_bundle.specs.Bundle.{json_of}

-- the bytes are text, and read as d
pub json_of-read : (bytes : List ℕ) (o : Option Data) → IsUtf8 bytes → read bytes ≡ o → json_of bytes ≡ o
unfolding json_of
json_of-read bytes o u e = rw (is_utf8-from_IsUtf8 bytes u) e

json_of-cases : (bytes : List ℕ) (b : Bool) → is_utf8 bytes ≡ b → (IsUtf8 bytes → read bytes ≡ None) → json_of bytes ≡ None
unfolding json_of
json_of-cases bytes true e h = rw e (h (IsUtf8-from_is_utf8 bytes e))
json_of-cases bytes false e h = rw e refl

-- the bytes are not a text, or read as nothing
pub json_of-none : (bytes : List ℕ) → (IsUtf8 bytes → read bytes ≡ None) → json_of bytes ≡ None
json_of-none bytes h = json_of-cases bytes (is_utf8 bytes) refl h
