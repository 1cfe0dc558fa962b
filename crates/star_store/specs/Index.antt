-- Indexes of dictionaries and sets: the contents of the keys, in order, which tell the place of a key at once.
use Rattle.std.specs.Prelude.{◌≡◌, ◌⊎◌, ℕ, nat_eq, ◌≤◌, if◌then◌else◌, Bool, true, false, ◌||◌, List, [], ◌∷◌, ◌++◌, length, map, Option, Some, None, slice_get, position, option_and_then}
use Rattle.std.specs.List.{list_all, list_any, remove}
use Rattle.std.specs.Option.{option_map, option_flatten}
use Rattle.std.specs.Cmp.Lexicographic.{pointwise}
use Rattle.std.specs.Global.{Box}
use Rattle.star_store.specs.declared.values.Value.{Value}
use Rattle.star_store.specs.declared.values.Value.TheVariants as value
use Rattle.star_store.specs.declared.values.Cell.{Cell}
use Rattle.star_store.specs.declared.values.Cell.TheVariants as cell
use Rattle.star_store.specs.declared.values.HeapCell.{HeapCell}
use Rattle.star_store.specs.declared.content.Atom.{Atom}
use Rattle.star_store.specs.declared.content.Atom.TheVariants as atom
use Rattle.star_store.specs.declared.arena.write.Change.{Change}
use Rattle.star_store.specs.declared.arena.write.Change.TheVariants as change
use Rattle.star_store.specs.Content.{content, same_atom, same_content}
use Rattle.star_store.specs.Key.{key_levels, place_of, text_place, value_of}
use Rattle.star_store.specs.Store.{Store, look}
use Rattle.star_store.specs.Write.{cell_at}

-- the cell that a value leads to in a store, if no published one is reached
abbrev pub alone : Store → Value → Option Cell
alone s = look s []

-- The entry of an index for a key. For a value that another file made it is the value's number, else the key's content,
-- if it has one where no published store is reached.
abbrev pub key_entry : Store → Value → Option (List Atom)
key_entry s (value.Ref home at) =
    if nat_eq home s.home then content (alone s) key_levels (value.Ref home at) else Some (atom.Far home at ∷ [])
key_entry s v = content (alone s) key_levels v

abbrev pub entries_by : Store → List (Value × Value) → List (Option (List Atom))
entries_by s es = map (λ e. key_entry s e.0) es

-- An index of a dictionary or a set has its keys' contents or numbers, in order. Another cell needs none.
abbrev pub IsIndexed : Store → Option Cell → List (List Atom) → Type 0
IsIndexed s (Some (cell.Dict es)) index = entries_by s es ≡ map Some index
IsIndexed s (Some (cell.Set es)) index = entries_by s es ≡ map Some index
IsIndexed s _ index = Unit {0}

-- the place of a content in an index
abbrev pub place_by : List Atom → List (List Atom) → Option ℕ
place_by atoms index = position (pointwise same_atom atoms) index

-- the entries of a dictionary, and the elements of a set, each with None
abbrev pub held_entries : Option Cell → Option (List (Value × Value))
held_entries (Some (cell.Dict es)) = Some es
held_entries (Some (cell.Set es)) = Some es
held_entries _ = None

-- a place is the place of a key in a dictionary or a set
abbrev pub Places : (Value → Option Cell) → Value → Option Cell → Option ℕ → Type 0
Places look key c place = (es : List (Value × Value)) → held_entries c ≡ Some es → place ≡ place_of look key es

-- whether an index has, under the number of a value, a key of this content
abbrev pub is_far : (Value → Option Cell) → List Atom → List Atom → Bool
is_far look atoms (atom.Far home at ∷ []) = same_content (Some atoms) (content look key_levels (value.Ref home at))
is_far look atoms _ = false

-- the place of a content in an index, which has some keys under their numbers
abbrev pub place_told : (Value → Option Cell) → List Atom → List (List Atom) → Option ℕ
place_told look atoms index = position (λ k. pointwise same_atom atoms k || is_far look atoms k) index

-- the place of a value in such an index, if it is a key
abbrev pub place_of_key : (Value → Option Cell) → Value → List (List Atom) → Option ℕ
place_of_key look key index = option_and_then (λ atoms. place_told look atoms index) (content look key_levels key)

-- a file's values lead to these cells
abbrev pub Shows : (Value → Option Cell) → ℕ → List HeapCell → Type 0
Shows look home cells = (at : ℕ) → look (value.Ref home at) ≡ cell_at cells at

-- an index is the index of a dictionary, beside other stores
pub record IsKnown (look : Value → Option Cell) (c : Option Cell) (index : List (List Atom)) : Type 0 where
  pub of : Store
  pub shows : Shows look of.home of.cells
  pub indexed : IsIndexed of c index

-- the file that made a value, if an index has the value's number
abbrev pub far_home : List Atom → Option ℕ
far_home (atom.Far home at ∷ []) = Some home
far_home _ = None

abbrev pub is_within : List ℕ → Option ℕ → Bool
is_within homes None = true
is_within homes (Some home) = list_any (λ h. nat_eq h home) homes

-- the numbers in an index are of values that these files made
abbrev pub Covers : List ℕ → List (List Atom) → Type 0
Covers homes index = list_all (λ k. is_within homes (far_home k)) index ≡ true

-- the indexes of a store's dictionaries, each at the address of its dictionary
abbrev pub Indexes : Type 0
Indexes = List (Option (Box (List (List Atom))))

-- the index at an address
abbrev pub index_at : Indexes → ℕ → Option (List (List Atom))
index_at indexes at = option_map (λ b. b.value) (option_flatten (slice_get indexes at))

-- each index was there before, or it is the one that was put at an address
abbrev pub IsPutAt : ℕ → List (List Atom) → Indexes → Indexes → Type 0
IsPutAt at index old new = (i : ℕ) (found : List (List Atom)) → index_at new i ≡ Some found
    → (index_at old i ≡ Some found) ⊎ ((i ≡ at) × (found ≡ index))

-- each index of a store is an index of the dictionary at its address
pub record AreIndexed (s : Store) (indexes : Indexes) : Type 0 where
  pub each : (at : ℕ) (index : List (List Atom)) → index_at indexes at ≡ Some index
      → IsIndexed s (cell_at s.cells at) index
  pub within : length indexes ≤ length s.cells

-- the entries of a dictionary or a set, and none of another cell
abbrev pub entries_of : Option Cell → List (Value × Value)
entries_of (Some (cell.Dict es)) = es
entries_of (Some (cell.Set es)) = es
entries_of _ = []

-- the index of a dictionary after a change, if there is one: a new key's content comes after all others
abbrev pub index_after : Change → Option ℕ → Option (List Atom) → List (List Atom) → Option (List (List Atom))
index_after (change.Put k v) None (Some atoms) index = Some (index ++ atoms ∷ [])
index_after (change.Put k v) (Some i) atoms index = Some index
index_after (change.Delete k) (Some i) atoms index = Some (remove index i)
index_after _ place atoms index = None

-- the other indexes stay, and the index at an address is the one after the change, or is gone
pub record AreChanged (at : ℕ) (c : Change) (place : Option ℕ) (atoms : Option (List Atom)) (old new : Indexes) : Type
    0 where
  pub others : (i : ℕ) → (i ≡ at → ⊥) → index_at new i ≡ index_at old i
  pub here : (index : List (List Atom)) → index_at new at ≡ Some index → (before : List (List Atom))
      × (index_at old at ≡ Some before) × (index_after c place atoms before ≡ Some index)
  pub as_long : length new ≡ length old

-- the value of an entry, and the value that another dictionary has for its key
abbrev pub beside : (Value → Option Cell) → Option Cell → Value × Value → Value × Option Value
beside look other e = (e.1, value_of look e.0 (entries_of other))

-- these two values for the entry of a dictionary at a place
abbrev pub beside_at : (Value → Option Cell) → Value → ℕ → Value → Option (Value × Option Value)
beside_at look dict at other = option_map (beside look (look other)) (slice_get (entries_of (look dict)) at)

-- a place in another dictionary is the place of the key that the entry at a place has
abbrev pub PlacesAt : (Value → Option Cell) → Option Cell → ℕ → Option Cell → Option ℕ → Type 0
PlacesAt look c at other place =
    (e : Value × Value) → slice_get (entries_of c) at ≡ Some e → Places look e.0 other place

-- the value of the entry at a place, if there is one
abbrev pub value_at : List (Value × Value) → Option ℕ → Option Value
value_at es place = option_and_then (λ i. option_map (λ e. e.1) (slice_get es i)) place

-- a place is that of a string in a dictionary
abbrev pub TextPlaces : (Value → Option Cell) → List ℕ → Option Cell → Option ℕ → Type 0
TextPlaces look t c place = (es : List (Value × Value)) → held_entries c ≡ Some es → place ≡ text_place look t es
