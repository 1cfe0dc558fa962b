-- The places of strings among the keys of a dictionary, by their bytes.
use Rattle.std.proofs.Common.{◌≡◌, Bor, ℕ, true, Bool, List, [], ◌∷◌, map, Option, Some, None, IfSome, position, refl, ap, sym, subst, ◌∙◌, arith}
use Rattle.star_store.specs.declared.values.Value.{Value}
use Rattle.star_store.specs.declared.values.Value.TheVariants as value
use Rattle.star_store.specs.declared.values.Cell.{Cell}
use Rattle.star_store.specs.declared.values.Cell.TheVariants as cell
use Rattle.star_store.specs.declared.content.Atom.{Atom}
use Rattle.star_store.specs.declared.content.Atom.TheVariants as atom
use Rattle.star_store.specs.declared.content.Scalar.{Scalar}
use Rattle.star_store.specs.declared.content.Scalar.TheVariants as scalar
use Rattle.star_store.specs.Content.{atom_in, content, only_atom, same_content}
use Rattle.star_store.specs.Index.{Covers, IsKnown, Shows, TextPlaces, entries_by, key_entry, place_by, place_told}
use Rattle.star_store.specs.Key.{is_text, is_text_cell, key_levels, text_place}
use Rattle.star_store.specs.Scalars.{is_only, scalar_atom}
use Rattle.star_store.specs.Store.{Store}
use Rattle.star_store.proofs.Far.{entry_tells, has_key, near_place, near_text}
use Rattle.star_store.proofs.Indexes.{alike, indexed_entries}
use Rattle.star_store.proofs.Walks.{scalar_content}

cell_text : (text : Bor (List ℕ)) (c : Option Cell) → is_only (scalar.Text text) (atom_in c) ≡ is_text_cell text.now c
cell_text text None = refl
cell_text text (Some (cell.Text u)) = refl
cell_text text (Some (cell.Range r)) = refl
cell_text text (Some (cell.Tuple xs)) = refl
cell_text text (Some (cell.List xs)) = refl
cell_text text (Some (cell.Dict es)) = refl
cell_text text (Some (cell.Func f)) = refl
cell_text text (Some (cell.Frame f)) = refl
cell_text text (Some (cell.Bound m x)) = refl
cell_text text (Some (cell.Struct fs)) = refl
cell_text text (Some (cell.Set es)) = refl

-- a scalar that is a string is the one atom of the strings of its bytes
only_text : (look : Value → Option Cell) (text : Bor (List ℕ)) (v : Value) → is_only (scalar.Text text) (only_atom look v) ≡ is_text look text.now v
only_text look text value.NoneValue = refl
only_text look text (value.Bool b) = refl
only_text look text (value.Int n) = refl
only_text look text (value.Builtin b) = refl
only_text look text (value.Ref h a) = cell_text text (look (value.Ref h a))

-- the content of a string
abbrev text_atoms : List ℕ → List Atom
text_atoms t = atom.Text t ∷ []

text_content : (look : Value → Option Cell) (text : Bor (List ℕ)) (v : Value) → same_content (Some (text_atoms text.now)) (content look key_levels v) ≡ is_text look text.now v
text_content look text v = scalar_content look key_levels (scalar.Text text) v (omega arith) ∙ only_text look text v

entries_have : (s : Store) (look : Value → Option Cell) (h : Shows look s.home s.cells) (text : Bor (List ℕ)) (es : List (Value × Value)) (index : List (List Atom)) → map (λ e. key_entry s e.0) es ≡ map Some index → map (has_key look (text_atoms text.now)) index ≡ map (λ e. is_text look text.now e.0) es
entries_have s look h text [] [] e = refl
entries_have s look h text [] (k ∷ index) e = cc
entries_have s look h text (x ∷ es) [] e = cc
entries_have s look h text (x ∷ es) (k ∷ index) e =
    let first : key_entry s x.0 ≡ Some k = cc in
    let rest : map (λ d. key_entry s d.0) es ≡ map Some index = cc in
    ap (λ (b : Bool). b ∷ map (has_key look (text_atoms text.now)) index)
    (entry_tells s look h (text_atoms text.now) (near_text text.now) x.0 k first ∙ text_content look text x.0)
    ∙ ap (λ (bs : List Bool). is_text look text.now x.0 ∷ bs) (entries_have s look h text es index rest)

-- a string is at the place in an index that it has among the entries
pub text_told : (look : Value → Option Cell) (text : Bor (List ℕ)) (c : Option Cell) (index : List (List Atom)) → IsKnown look c index → TextPlaces look text.now c (place_told look (text_atoms text.now) index)
text_told look text c index k es e =
    let right : entries_by k.of es ≡ map Some index = indexed_entries k.of c es index e k.indexed in
    alike (has_key look (text_atoms text.now)) (λ d. is_text look text.now d.0) index es (entries_have k.of look k.shows text es index right)

pub text_near : (look : Value → Option Cell) (text : Bor (List ℕ)) (c : Option Cell) (index : List (List Atom)) → IsKnown look c index → Covers [] index → TextPlaces look text.now c (place_by (text_atoms text.now) index)
text_near look text c index k h = subst (TextPlaces look text.now c) (sym (near_place look (text_atoms text.now) index h)) (text_told look text c index k)

pub text_places : (look : Value → Option Cell) (text : Bor (List ℕ)) (c : Option Cell) (index : List (List Atom)) (found : Option (Option ℕ)) → IfSome found (λ place. place ≡ place_told look (text_atoms text.now) index) → IsKnown look c index → IfSome found (TextPlaces look text.now c)
text_places look text c index (Some place) h k = subst (TextPlaces look text.now c) (sym h) (text_told look text c index k)
text_places look text c index None h k = tt

-- a walk for a string
pub text_walked : (look : Value → Option Cell) (text : Bor (List ℕ)) (es : List (Value × Value)) → position (λ e. is_only (scalar.Text text) (only_atom look e.0)) es ≡ text_place look text.now es
text_walked look text es = alike (λ e. is_only (scalar.Text text) (only_atom look e.0)) (λ e. is_text look text.now e.0) es es (tests es)
  where
    tests : (ds : List (Value × Value)) → map (λ e. is_only (scalar.Text text) (only_atom look e.0)) ds ≡ map (λ e. is_text look text.now e.0) ds
    tests [] = refl
    tests (d ∷ ds) =
        ap (λ (b : Bool). b ∷ map (λ e. is_only (scalar.Text text) (only_atom look e.0)) ds) (only_text look text d.0)
        ∙ ap (λ (bs : List Bool). is_text look text.now d.0 ∷ bs) (tests ds)
