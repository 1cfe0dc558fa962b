-- The texts of members.
use Rattle.std.specs.Prelude.{◌≡◌, ⊤, ℕ, List, [], ◌∷◌, ◌++◌, Bool, false, true, OnOk, Option, Some, None, Result, Vec, map}
use denote.Ref.{Bor}
use Rattle.json.specs.Print.{quoted}
use Rattle.serde_json.specs.Data.{Data, Members, member, no_members, object, put, string}
use Rattle.serde_json.specs.View.{view}
use Rattle.serde_json.specs.Written.{comma_if, compact_text, has_float}
use Rattle.serde_json.specs.declared.value.Value.{Value}
use Rattle.star_report.specs.Values.{put_some, with_value}
use Rattle.star_report.specs.Wanted.{put_in}

-- names, each with a text
abbrev pub Texts : Type 0 → Type 0
Texts Z = List (Bor (List ℕ) × Vec ℕ Z)

-- these are the texts of members
abbrev pub AreTexts : {Z : Type 0} → Texts Z → Members → Type 0
AreTexts [] no_members = ⊤
AreTexts [] (member k d ms) = ⊥
AreTexts (e ∷ es) no_members = ⊥
AreTexts (e ∷ es) (member k d ms) = (e.0.now ≡ k) × (e.1.items ≡ compact_text d) × AreTexts es ms

-- the text of data, or none
abbrev pub IsTextFor : {Z : Type 0} → Option Data → Option (Vec ℕ Z) → Type 0
IsTextFor None None = ⊤
IsTextFor None (Some t) = ⊥
IsTextFor (Some d) None = ⊥
IsTextFor (Some d) (Some t) = t.items ≡ compact_text d

-- one more text, if there is one, is added as the text of a member, unless an allocation failed
abbrev pub PutsText : {Z T E : Type 0} → Option (Vec ℕ Z) → List ℕ → Texts Z → Texts Z → Result T E → Type 0
PutsText text name old new result =
    (d : Option Data) (ms : Members) → IsTextFor d text → AreTexts old ms
    → OnOk result (AreTexts new (put_some name d ms))

-- the same for a global, by its data
abbrev pub AddsText : {Z T E : Type 0} → (List ℕ → Option Data) → List ℕ → Texts Z → Texts Z → Result T E → Type 0
AddsText f name old new result = (ms : Members) → AreTexts old ms → OnOk result (AreTexts new (with_value f ms name))

-- these are the values from before, and then these names
abbrev pub AddsNames : List (List ℕ) → List Value → List Value → Type 0
AddsNames names old new = map view new ≡ map view old ++ map string names

-- a text is the text of data, if they have no float
abbrev pub IsDataText : Data → List ℕ → Type 0
IsDataText d text = has_float d ≡ false → text ≡ compact_text d

-- a text is the text of data with one more member, which is an object of the members that have these texts
abbrev pub IsTextWith : {Z : Type 0} → Data → List ℕ → Texts Z → List ℕ → Type 0
IsTextWith d name texts text =
    has_float d ≡ false → (ms : Members) → AreTexts texts ms → text ≡ compact_text (put_in name (object ms) d)

-- names with their texts as an object, without the bracket before them
abbrev pub joined_members : {Z : Type 0} → Bool → Texts Z → List ℕ
joined_members later [] = 125 ∷ []
joined_members later (e ∷ es) = comma_if later ++ (quoted e.0.now ++ 58 ∷ (e.1.items ++ joined_members true es))

-- members, and one after them
abbrev pub and_last : Members → List ℕ → Data → Members
and_last no_members k d = member k d no_members
and_last (member l e ms) k d = member l e (and_last ms k d)

-- an object with at least one member, in which this name comes after all others
pub record EndsIn (k : List ℕ) (d : Data) : Type 0 where
  pub first : List ℕ
  pub value : Data
  pub rest : Members
  pub is : d ≡ object (member first value rest)
  pub last : (e : Data) → put k e (member first value rest) ≡ and_last (member first value rest) k e
