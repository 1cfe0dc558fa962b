-- The state of binding of the code, as contracts see it.
use denote.Ref.{Bor}
use Rattle.std.specs.Prelude.{◌≡◌, List, [], ◌∷◌, Option, Some, None}
use Rattle.std.specs.Option.{option_map}
use Rattle.star_store.specs.declared.values.Value.{Value}
use Rattle.star_tree.specs.declared.tree.Name.{Name}
use Rattle.star_meaning.specs.declared.given.KeywordArgument.{KeywordArgument}
use Rattle.star_meaning.specs.Binding.{BoundArgument, BindingState, Step, first_of_row, rest_of_row}
use Rattle.star_call.specs.declared.shares.BoundArgument.{BoundArgument as HeldShare}
use Rattle.star_call.specs.declared.binding.BindingState.{BindingState as HeldProgress}
use Rattle.star_call.specs.declared.binding.BoundParameter.{BoundParameter}
use Rattle.star_call.specs.BoundArguments.{all_named, shown}

abbrev pub progress_of : HeldProgress → BindingState
progress_of q = record { by_name = q.by_name; positional = q.positional.now; defaults = q.defaults.now }

-- the share of a turn, if there is one
abbrev pub share_in : List KeywordArgument → Option (Bor Name × HeldShare) → List (Name × BoundArgument)
share_in left None = []
share_in left (Some x) = shown left x ∷ []

abbrev pub turn_of : List KeywordArgument → BoundParameter → List (Name × BoundArgument) × BindingState
turn_of left t = (share_in left t.share, progress_of t.progress)

-- The turn of the code is this step of the definition, if these keyword arguments are left.
abbrev pub IsStep : List (Bor KeywordArgument) → Option BoundParameter → Step → Type 0
IsStep left t s = option_map (turn_of (all_named left)) t ≡ s

-- the default of the next parameter with one, if it is there; and the state after it was taken
abbrev pub next_default : HeldProgress → Option Value
next_default q = first_of_row q.defaults.now

abbrev pub past_default : HeldProgress → BindingState
past_default q = record (progress_of q) { defaults = rest_of_row q.defaults.now }
