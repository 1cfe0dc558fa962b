-- Strings that are data.
use Rattle.std.proofs.Common.{◌≡◌, ℕ, Bool, true, false, List, Option, Some, None, IsUtf8, if◌then◌else◌, refl, ap, subst, ◌∙◌}
use Rattle.std.specs.Option.{option_and_then, option_map}
use Rattle.std.specs.Str.{is_utf8}
use Rattle.std.proofs.lemmas.Str.{IsUtf8-from_is_utf8, is_utf8-from_IsUtf8}
use Rattle.serde_json.specs.Data.{Data, string}
use Rattle.star_store.specs.declared.values.Cell.{Cell}
use Rattle.star_data.specs.Data.{key_in, text_in, utf8_of}
use Rattle.star_data.proofs.Options.{chained, mapped}

-- they are UTF-8, and are themselves
pub utf8_is : (t u : List ℕ) → utf8_of t ≡ Some u → (t ≡ u) × IsUtf8 t
utf8_is t u e = by (is_utf8 t) refl e
  where
    by : (b : Bool) → is_utf8 t ≡ b → (if b then Some t else None) ≡ Some u → (t ≡ u) × IsUtf8 t
    by true is e = (let same : t ≡ u = cc in same, IsUtf8-from_is_utf8 t is)
    by false is e = absurd (let no : ⊥ = cc in no)

pub its_own : (t : List ℕ) → IsUtf8 t → utf8_of t ≡ Some t
its_own t h = ap (λ b. if b then Some t else None) (is_utf8-from_IsUtf8 t h)

pub string_is : (t : List ℕ) (d : Data) → option_map string (utf8_of t) ≡ Some d → (string t ≡ d) × IsUtf8 t
string_is t d e =
    let u = mapped string (utf8_of t) d e in
    let is = utf8_is t u.0 u.1 in
    (ap string is.0 ∙ u.2, is.1)

pub string_data : (t : List ℕ) → IsUtf8 t → option_map string (utf8_of t) ≡ Some (string t)
string_data t h = ap (option_map string) (its_own t h)

pub key_is : (o : Option Cell) (k : List ℕ) → key_in o ≡ Some k → (text_in o ≡ Some k) × IsUtf8 k
key_is o k e =
    let t = chained utf8_of (text_in o) k e in
    let is = utf8_is t.0 k t.2 in
    (t.1 ∙ ap Some is.0, subst IsUtf8 is.0 is.1)

pub text_key : (o : Option Cell) (k : List ℕ) → text_in o ≡ Some k → IsUtf8 k → key_in o ≡ Some k
text_key o k e h = ap (option_and_then utf8_of) e ∙ its_own k h
