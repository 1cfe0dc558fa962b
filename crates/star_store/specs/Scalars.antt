-- Contents as they are compared and hashed, and keys that are not tuples: they look entries up without a content.
use Rattle.std.specs.Prelude.{◌≡◌, [], ◌∷◌, ◌++◌, List, Bool, true, false, Option, Some, None}
use Rattle.std.specs.Cmp.{IsEquivalence}
use Rattle.std.specs.Cmp.Lexicographic.{pointwise, lists_equiv}
use Rattle.std.specs.Hash as fed
use Rattle.std.specs.Hash.{HashWrites, items_Alike}
use mathlib.Core.Path.{refl, ◌∙◌}
use Rattle.star_store.specs.declared.content.Atom.{Atom}
use Rattle.star_store.specs.declared.content.Atom.TheVariants as atom
use Rattle.star_store.specs.declared.content.Scalar.{Scalar}
use Rattle.star_store.specs.declared.content.Scalar.TheVariants as scalar
use Rattle.star_store.specs.contracts.content.AtomEq.TheImpl.Laws as atom_equal
use Rattle.star_store.specs.contracts.content.AtomHash.TheImpl as atom_hash
use Rattle.star_store.specs.contracts.content.AtomHash.TheImpl.Laws as atom_hashed
use Rattle.star_store.specs.contracts.content.ScalarHash.TheImpl as scalar_hash
use Rattle.star_store.specs.Content.{same_atom}

-- The law: contents are equal if their atoms are, in order, and that is an equality.
pub contents_alike : IsEquivalence (pointwise same_atom)
contents_alike = lists_equiv atom_equal.laws-law

-- the input of a hasher for a content: the number of its atoms, and each of them
abbrev pub content_hashed : List Atom → HashWrites
content_hashed atoms = fed.slice (atom_hash.ghosts).hash_input atoms

-- The law: contents that are equal are hashed alike.
pub hashed_as_equal : (xs ys : List Atom) → pointwise same_atom xs ys ≡ true → content_hashed xs ≡ content_hashed ys
hashed_as_equal xs ys h = (items_Alike (record { fed = atom_hashed.respects_eq-law })).fed xs ys h

-- the one atom of a scalar's content
abbrev pub scalar_atom : Scalar → Atom
scalar_atom scalar.Nothing = atom.Nothing
scalar_atom (scalar.Bool b) = atom.Bool b
scalar_atom (scalar.Int n) = atom.Int n
scalar_atom (scalar.Text t) = atom.Text t.now

-- whether a content is a scalar's
abbrev pub is_of : Scalar → List Atom → Bool
is_of x atoms = pointwise same_atom (scalar_atom x ∷ []) atoms

-- whether the one atom of a key, if it has one, is a scalar's
abbrev pub is_only : Scalar → Option Atom → Bool
is_only x (Some a) = same_atom (scalar_atom x) a
is_only x None = false

-- the input of a hasher for a scalar: that it is one atom, and the atom
abbrev pub hashed : Scalar → HashWrites
hashed x = fed.usize 1 ++ (scalar_hash.ghosts).hash_input x

hashed_alone : (x : Scalar) → hashed x ≡ content_hashed (scalar_atom x ∷ [])
hashed_alone scalar.Nothing = refl
hashed_alone (scalar.Bool b) = refl
hashed_alone (scalar.Int n) = refl
hashed_alone (scalar.Text t) = refl

-- The law: a scalar is hashed as each content that is its own.
pub hashed_alike : (x : Scalar) (atoms : List Atom) → is_of x atoms ≡ true → hashed x ≡ content_hashed atoms
hashed_alike x atoms h = hashed_alone x ∙ hashed_as_equal (scalar_atom x ∷ []) atoms h

-- The law: if a content is a scalar's, another one is so exactly if the two are equal.
pub of_alike : (x : Scalar) (xs ys : List Atom) → is_of x xs ≡ true → is_of x ys ≡ pointwise same_atom xs ys
of_alike x xs ys = contents_alike.congr (scalar_atom x ∷ []) xs ys
