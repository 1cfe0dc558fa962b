-- The content of a key, without any cell, so that it may be hashed.
use Rattle.std.specs.Prelude.{◌≡◌, ℕ, zero, suc, Bool, false, List, [], ◌∷◌, ◌++◌, length, if◌then◌else◌, Option, Some, None, is_some}
use Rattle.std.specs.Option.{option_map}
use Rattle.std.specs.Cmp.Lexicographic.{pointwise}
use Rattle.star_store.specs.declared.values.Value.{Value}
use Rattle.star_store.specs.declared.values.Value.TheVariants as value
use Rattle.star_store.specs.declared.values.Cell.{Cell}
use Rattle.star_store.specs.declared.values.Cell.TheVariants as cell
use Rattle.star_store.specs.declared.content.Atom.{Atom}
use Rattle.star_store.specs.declared.content.Atom.TheVariants as atom
use Rattle.star_store.specs.contracts.content.AtomPartialEq.TheImpl as atom_eq
use Rattle.star_store.specs.Fields.{Fields, names_of, values_of}
use Rattle.star_store.specs.Key.{is_key, same_key}

-- one content and then another, if both are there
abbrev pub join : Option (List Atom) → Option (List Atom) → Option (List Atom)
join (Some xs) (Some ys) = Some (xs ++ ys)
join _ _ = None

-- the contents of items, in order
abbrev pub content_each : (Value → Option (List Atom)) → List Value → Option (List Atom)
content_each f [] = Some []
content_each f (x ∷ xs) = join (f x) (content_each f xs)

-- a row says how many items it has, and they follow
abbrev pub content_row : (Value → Option (List Atom)) → List Value → Option (List Atom)
content_row f xs = join (Some (atom.Row (length xs) ∷ [])) (content_each f xs)

-- a string is one atom, a tuple is a row, and a struct its names and the row of its values
abbrev pub content_cell : (Value → Option (List Atom)) → Option Cell → Option (List Atom)
content_cell f (Some (cell.Text t)) = Some (atom.Text t ∷ [])
content_cell f (Some (cell.Tuple xs)) = content_row f xs
content_cell f (Some (cell.Struct fs)) = join (Some (atom.Names (names_of fs) ∷ [])) (content_row f (values_of fs))
content_cell f _ = None

-- None, bools and ints are one atom
abbrev pub content_value : (Value → Option Cell) → (Value → Option (List Atom)) → Value → Option (List Atom)
content_value look f value.NoneValue = Some (atom.Nothing ∷ [])
content_value look f (value.Bool b) = Some (atom.Bool b ∷ [])
content_value look f (value.Int n) = Some (atom.Int n ∷ [])
content_value look f (value.Ref h a) = content_cell f (look (value.Ref h a))
content_value look f _ = None

-- the one atom that a string holds
abbrev pub atom_in : Option Cell → Option Atom
atom_in (Some (cell.Text t)) = Some (atom.Text t)
atom_in _ = None

-- the one atom of a key that is not a tuple or a struct; these have none, and neither has a value that is not a key
abbrev pub only_atom : (Value → Option Cell) → Value → Option Atom
only_atom look value.NoneValue = Some atom.Nothing
only_atom look (value.Bool b) = Some (atom.Bool b)
only_atom look (value.Int n) = Some (atom.Int n)
only_atom look (value.Ref h a) = atom_in (look (value.Ref h a))
only_atom look _ = None

-- the content of a key, of at most this many levels; a value that is not a key has none
unfoldable pub content : (Value → Option Cell) → ℕ → Value → Option (List Atom)
content look zero v = None
content look (suc n) v = content_value look (content look n) v

-- atoms, and after them the atoms of a content; nothing without a content
abbrev pub after : List Atom → Option (List Atom) → Option (List Atom)
after xs o = option_map (λ ks. xs ++ ks) o

-- the new atoms are the old ones, and after them the atoms of a content; an answer says whether the content is there
abbrev pub IsPut : List Atom → Option (List Atom) → List Atom → Bool → Type 0
IsPut old o new whole = after old o ≡ (if whole then Some new else None)

-- the content of a key that is not a tuple or a struct
abbrev pub atom_content : (Value → Option Cell) → Value → Option (List Atom)
atom_content look v = option_map (λ a. a ∷ []) (only_atom look v)

-- whether two atoms are equal
abbrev pub same_atom : Atom → Atom → Bool
same_atom = (atom_eq.ghosts).eq

-- whether two contents are there and are the same one
abbrev pub same_content : Option (List Atom) → Option (List Atom) → Bool
same_content (Some xs) (Some ys) = pointwise same_atom xs ys
same_content _ _ = false

-- The law: two values are the same key exactly if both have a content and it is the same one.
abbrev pub SameKeysHaveOneContent : Type 0
SameKeysHaveOneContent = (look : Value → Option Cell) (levels : ℕ) (x y : Value)
    → same_key look levels x y ≡ same_content (content look levels x) (content look levels y)

-- The law: a value is a key exactly if it has a content.
abbrev pub KeysHaveContents : Type 0
KeysHaveContents =
    (look : Value → Option Cell) (levels : ℕ) (v : Value) → is_key look levels v ≡ is_some (content look levels v)

-- each string, tuple and struct that a value leads to by the one, it leads to by the other
pub record KeepsKeys (look later : Value → Option Cell) : Type 0 where
  pub texts : (v : Value) (t : List ℕ) → look v ≡ Some (cell.Text t) → later v ≡ Some (cell.Text t)
  pub tuples : (v : Value) (xs : List Value) → look v ≡ Some (cell.Tuple xs) → later v ≡ Some (cell.Tuple xs)
  pub structs : (v : Value) (fs : Fields) → look v ≡ Some (cell.Struct fs) → later v ≡ Some (cell.Struct fs)

-- The law: if strings, tuples and structs stay, contents stay.
abbrev pub ContentsStay : Type 0
ContentsStay = (look later : Value → Option Cell) (levels : ℕ) (v : Value) (atoms : List Atom)
    → KeepsKeys look later → content look levels v ≡ Some atoms → content later levels v ≡ Some atoms
