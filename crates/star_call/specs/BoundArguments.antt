-- Bound arguments of the code, as contracts see them.
use denote.Ref.{Bor}
use Rattle.std.specs.Prelude.{List, map}
use Rattle.star_store.specs.declared.values.Value.{Value}
use Rattle.star_tree.specs.declared.tree.Name.{Name}
use Rattle.star_meaning.specs.declared.given.KeywordArgument.{KeywordArgument}
use Rattle.star_meaning.specs.Binding.{BoundArgument, One, Rest, Names}
use Rattle.star_call.specs.declared.shares.BoundArgument.{BoundArgument as HeldShare}
use Rattle.star_call.specs.declared.shares.BoundArgument.TheVariants as held

-- the named values that the code borrows
abbrev pub all_named : List (Bor KeywordArgument) → List KeywordArgument
all_named ns = map (λ n. n.now) ns

-- a share, if these keyword values are not a parameter's
abbrev pub argument_of : List KeywordArgument → HeldShare → BoundArgument
argument_of left (held.One v) = One v
argument_of left (held.Rest xs) = Rest xs.now
argument_of left held.Names = Names left

abbrev pub shown : List KeywordArgument → Bor Name × HeldShare → Name × BoundArgument
shown left x = (x.0.now, argument_of left x.1)

abbrev pub all_shown : List KeywordArgument → List (Bor Name × HeldShare) → List (Name × BoundArgument)
all_shown left xs = map (shown left) xs

-- a name with its value
abbrev pub bound_value : Bor Name × Value → Name × Value
bound_value x = (x.0.now, x.1)
