-- A walk for a key that is not a tuple has the result of the walk by keys.
use Rattle.std.proofs.Common.{◌≡◌, ℕ, ◌-◌, ◌<◌, Bool, false, List, [], ◌∷◌, length, map, Option, Some, None, position, refl, ap, sym, ◌∙◌, arith}
use Rattle.std.specs.Cmp.Lexicographic.{pointwise}
use Rattle.star_store.specs.declared.values.Value.{Value}
use Rattle.star_store.specs.declared.values.Value.TheVariants as value
use Rattle.star_store.specs.declared.values.Cell.{Cell}
use Rattle.star_store.specs.declared.values.Cell.TheVariants as cell
use Rattle.star_store.specs.declared.content.Atom.{Atom}
use Rattle.star_store.specs.declared.content.Atom.TheVariants as atom
use Rattle.star_store.specs.declared.content.Scalar.{Scalar}
use Rattle.star_store.specs.declared.content.Scalar.TheVariants as scalar
use Rattle.star_store.specs.Content.{atom_in, content, content_cell, content_each, content_row, content_value, join, only_atom, same_atom, same_content}
use Rattle.star_store.specs.Fields.{names_of, values_of}
use Rattle.star_store.specs.Key.{key_levels, place_of, same_key}
use Rattle.star_store.specs.Scalars.{is_only, scalar_atom}
use Rattle.star_store.proofs.Contents.{and_true, content_at, false_and, only_atom_is, same_keys}
use Rattle.star_store.proofs.Indexes.{alike}

-- a scalar is not a row
no_row : (x : Scalar) (n : ℕ) → same_atom (scalar_atom x) (atom.Row n) ≡ false
no_row scalar.Nothing n = refl
no_row (scalar.Bool b) n = refl
no_row (scalar.Int m) n = refl
no_row (scalar.Text t) n = refl

row_apart : (x : Scalar) (n : ℕ) (o : Option (List Atom)) → same_content (Some (scalar_atom x ∷ [])) (join (Some (atom.Row n ∷ [])) o) ≡ false
row_apart x n (Some ys) = false_and (same_atom (scalar_atom x) (atom.Row n)) (pointwise same_atom [] ys) (no_row x n)
row_apart x n None = refl

no_names : (x : Scalar) (ns : List (List ℕ)) → same_atom (scalar_atom x) (atom.Names ns) ≡ false
no_names scalar.Nothing ns = refl
no_names (scalar.Bool b) ns = refl
no_names (scalar.Int m) ns = refl
no_names (scalar.Text t) ns = refl

struct_apart : (x : Scalar) (ns : List (List ℕ)) (o : Option (List Atom)) → same_content (Some (scalar_atom x ∷ [])) (join (Some (atom.Names ns ∷ [])) o) ≡ false
struct_apart x ns (Some ys) = false_and (same_atom (scalar_atom x) (atom.Names ns)) (pointwise same_atom [] ys) (no_names x ns)
struct_apart x ns None = refl

-- the contents of a scalar and of a cell
in_cell : (f : Value → Option (List Atom)) (x : Scalar) (c : Option Cell) → same_content (Some (scalar_atom x ∷ [])) (content_cell f c) ≡ is_only x (atom_in c)
in_cell f x (Some (cell.Text t)) = and_true (same_atom (scalar_atom x) (atom.Text t))
in_cell f x (Some (cell.Tuple xs)) = row_apart x (length xs) (content_each f xs)
in_cell f x (Some (cell.Struct fs)) = struct_apart x (names_of fs) (content_row f (values_of fs))
in_cell f x _ = refl

in_value : (look : Value → Option Cell) (f : Value → Option (List Atom)) (x : Scalar) (v : Value) → same_content (Some (scalar_atom x ∷ [])) (content_value look f v) ≡ is_only x (only_atom look v)
in_value look f x value.NoneValue = and_true (same_atom (scalar_atom x) atom.Nothing)
in_value look f x (value.Bool b) = and_true (same_atom (scalar_atom x) (atom.Bool b))
in_value look f x (value.Int n) = and_true (same_atom (scalar_atom x) (atom.Int n))
in_value look f x (value.Builtin b) = refl
in_value look f x (value.Ref h a) = in_cell f x (look (value.Ref h a))

-- a key has the content of a scalar exactly if its one atom is the scalar's
pub scalar_content : (look : Value → Option Cell) (n : ℕ) (x : Scalar) (v : Value) → 0 < n → same_content (Some (scalar_atom x ∷ [])) (content look n v) ≡ is_only x (only_atom look v)
scalar_content look n x v p = ap (same_content (Some (scalar_atom x ∷ []))) (content_at look n v p) ∙ in_value look (content look (n - 1)) x v

scalar_same : (look : Value → Option Cell) (n : ℕ) (x : Scalar) (key v : Value) → 0 < n → only_atom look key ≡ Some (scalar_atom x) → same_key look n key v ≡ is_only x (only_atom look v)
scalar_same look n x key v p h =
    same_keys look n key v
    ∙ ap (λ (o : Option (List Atom)). same_content o (content look n v)) (only_atom_is look n key (scalar_atom x) p h)
    ∙ scalar_content look n x v p

tests : (look : Value → Option Cell) (n : ℕ) (x : Scalar) (key : Value) (es : List (Value × Value)) → 0 < n → only_atom look key ≡ Some (scalar_atom x) → map (λ e. is_only x (only_atom look e.0)) es ≡ map (λ e. same_key look n key e.0) es
tests look n x key [] p h = refl
tests look n x key (e ∷ es) p h =
    ap (λ (b : Bool). b ∷ map (λ d. is_only x (only_atom look d.0)) es) (sym (scalar_same look n x key e.0 p h))
    ∙ ap (λ (bs : List Bool). same_key look n key e.0 ∷ bs) (tests look n x key es p h)

-- a scalar has the place of its key
pub scalar_found : (look : Value → Option Cell) (x : Scalar) (key : Value) (es : List (Value × Value)) → only_atom look key ≡ Some (scalar_atom x) → position (λ e. is_only x (only_atom look e.0)) es ≡ place_of look key es
scalar_found look x key es h = alike (λ e. is_only x (only_atom look e.0)) (λ e. same_key look key_levels key e.0) es es (tests look key_levels x key es (omega arith) h)
