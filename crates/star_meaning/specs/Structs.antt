-- New structs, of the extended language.
use Rattle.std.specs.Prelude.{ℕ, ◌+◌, List, [], ◌∷◌, length, map}
use Rattle.star_store.specs.declared.values.Value.{Value}
use Rattle.star_store.specs.declared.values.Cell.TheVariants as cell
use Rattle.star_store.specs.Fields.{Fields, is_before, names_of, risen}
use Rattle.star_meaning.specs.declared.fault.FaultCode.TheVariants as code
use Rattle.star_meaning.specs.Run.{Action, ◌>>=◌, found, build}
use Rattle.star_meaning.specs.declared.given.Arguments.{Arguments}
use Rattle.star_meaning.specs.declared.given.KeywordArgument.{KeywordArgument}
use Rattle.star_meaning.specs.Arguments.{no_value}
use Rattle.star_store.specs.Sorting.{in_order}

-- keyword arguments as fields
abbrev pub given_fields : List KeywordArgument → Fields
given_fields ns = map (λ n. (n.name, n.value)) ns

-- what names cost: 1 and its bytes for each
abbrev pub names_cost : List (List ℕ) → ℕ
names_cost [] = 0
names_cost (n ∷ ns) = 1 + length n + names_cost ns

-- struct(**kw): no name comes twice in a call, so the names rise once the fields are in their order
abbrev pub new_struct : ℕ → Fields → Action Value
new_struct line fs = build line (1 + names_cost (names_of fs)) (cell.Struct fs)

abbrev pub call_struct : ℕ → Arguments → Action Value
call_struct line g = do
  _ ← no_value line g.positional
  fs ← found code.Args line (risen (in_order is_before (given_fields g.named)))
  new_struct line fs
