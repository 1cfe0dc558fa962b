-- Orders: sorting by keys keeps the items, and the core language has no keys.
use Rattle.std.specs.Prelude.{◌≡◌, ℕ, Bool, List, IsPermutation}
use Rattle.star_dialect.specs.declared.Dialect.TheVariants as dialect
use Rattle.star_store.specs.declared.values.Value.{Value}
use Rattle.star_meaning.specs.Calls.{Callee, called, called_plainly}
use Rattle.star_meaning.specs.Orders.{sorted_pairs}
use Rattle.star_meaning.specs.Program.{Setting}
use Rattle.star_meaning.specs.Run.{State, Done}
use Rattle.star_meaning.specs.Semantics.{Semantics}
use Rattle.star_meaning.specs.declared.given.Arguments.{Arguments}
use Rattle.star_meaning.specs.declared.site.Site.{Site}

-- The law: items in the order of their keys are the items, each beside its key and as often as before.
abbrev pub SortingKeepsTheItems : Type 0
SortingKeepsTheItems = (w : Setting) (levels line : ℕ) (backwards : Bool) (ps qs : List (Value × Value)) (s t : State)
    → sorted_pairs w levels line backwards ps s ≡ Done qs t → IsPermutation ps qs

-- The law: in the core a call with `key` is a plain call.
abbrev pub CoreHasNoKeys : Type 0
CoreHasNoKeys = (w : Setting) (levels : ℕ) (m : Semantics) (p : Site) (c : Callee) (g : Arguments)
    → w.language.dialect ≡ dialect.Core → called w levels m p c g ≡ called_plainly w levels m p c g
