-- Arguments of the code, as contracts see them.
use Rattle.std.specs.Prelude.{List, map}
use Rattle.star_call.specs.declared.passed.EvaluatedArgument.{EvaluatedArgument as HeldPassed}
use Rattle.star_call.specs.declared.passed.EvaluatedArgument.TheVariants as held
use Rattle.star_meaning.specs.Arguments.{EvaluatedArgument, Plain, Named, Star, StarStar}

abbrev pub shown : HeldPassed → EvaluatedArgument
shown (held.Plain v) = Plain v
shown (held.Named n v) = Named n.now v
shown (held.Star v) = Star v
shown (held.StarStar v) = StarStar v

abbrev pub all_shown : List HeldPassed → List EvaluatedArgument
all_shown ps = map shown ps
