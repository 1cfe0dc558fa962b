-- Operators on values, as these are in the state before.
use Rattle.std.specs.Prelude.{ℕ, Bool, ◌&&◌, List, [], ◌∷◌, length, is_some}
use Rattle.star_store.specs.declared.values.Value.{Value}
use Rattle.star_store.specs.declared.values.Cell.TheVariants as cell
use Rattle.star_tree.specs.declared.tree.BinaryOperator.{BinaryOperator}
use Rattle.star_meaning.specs.declared.fault.FaultCode.TheVariants.{BadType}
use Rattle.star_meaning.specs.declared.merge.Merge.{Merge}
use Rattle.star_meaning.specs.Run.{Action, fail}
use Rattle.star_meaning.specs.Program.{Setting}
use Rattle.star_meaning.specs.Values.{Content, Held, content}
use Rattle.star_meaning.specs.Operators.{on_others, place_between, union}
use Rattle.star_meaning.specs.Sets.{is_set, merge_new}

-- an operator on two values that are not both ints
abbrev pub on_operands : Setting → ℕ → ℕ → BinaryOperator → Value → Value → Action Value
on_operands w levels line op x y = λ s. on_others w levels line op (content w s x) (content w s y) y s

-- a union of two dictionaries
abbrev pub on_dicts : Setting → ℕ → Content → Content → Action Value
on_dicts w line (Held (cell.Dict es)) (Held (cell.Dict fs)) = union w line es fs
on_dicts w line _ _ = fail BadType line

abbrev pub are_sets : Content → Content → Bool
are_sets c d = is_set c && is_set d

-- a merge of two sets
abbrev pub on_sets : Setting → ℕ → ℕ → Merge → Content → Content → Value → Action Value
on_sets w levels line m (Held (cell.Set es)) (Held (cell.Set fs)) y = merge_new w levels line m es (y ∷ [])
on_sets w levels line m _ _ y = fail BadType line

-- whether a part is somewhere in a text
abbrev pub is_within : List ℕ → List ℕ → Bool
is_within text part = is_some (place_between text part 0 (length text))
