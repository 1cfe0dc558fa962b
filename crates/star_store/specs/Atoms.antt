-- The atoms of a content, in either form that the code has.
use Rattle.std.specs.Prelude.{List, [], ◌∷◌}
use Rattle.star_store.specs.declared.content.Atom.{Atom}
use Rattle.star_store.specs.declared.content.Atoms.{Atoms}
use Rattle.star_store.specs.declared.content.Atoms.TheVariants as form

abbrev pub atoms_in : Atoms → List Atom
atoms_in (form.One a) = a ∷ []
atoms_in (form.Row v) = v.items
