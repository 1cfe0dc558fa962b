-- Entries gathered for a new dictionary, before a store has it.
use Rattle.std.specs.Prelude.{◌≡◌, List, Option, Some, map, IfSome}
use Rattle.star_store.specs.declared.values.Value.{Value}
use Rattle.star_store.specs.declared.values.Cell.{Cell}
use Rattle.star_store.specs.declared.content.Atom.{Atom}
use Rattle.star_store.specs.Content.{content}
use Rattle.star_store.specs.Key.{key_levels}
use Rattle.star_store.specs.Store.{Store, look}
use Rattle.star_meaning.specs.Program.{Setting}

-- the contents of the keys of entries, in order
abbrev pub contents_of : (Value → Option Cell) → List (Value × Value) → List (Option (List Atom))
contents_of look es = map (λ e. content look key_levels e.0) es

-- entries, and the contents of their keys, if these are at hand
pub record Gathering : Type 0 where
  pub entries : List (Value × Value)
  pub contents : Option (List (List Atom))

-- Contents at hand are the contents of the keys, in order, as a store has them.
unfoldable pub IsGathered : Setting → Store → Gathering → Type 0
IsGathered w s g = IfSome g.contents (λ contents. contents_of (look s w.shelf) g.entries ≡ map Some contents)
