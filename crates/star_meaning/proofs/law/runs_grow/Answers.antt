use Rattle.star_meaning.specs.Variables.{by_names}
use Rattle.star_meaning.proofs.Runs.{meaning_keeps, names_keep}
use Rattle.star_meaning.proofs.law.runs_grow.Goals as goal

pub returns : goal.returns
returns c = λ w levels p s. ((λ e. ((meaning_keeps (by_names w) w levels (names_keep w)).expr p e).grows.holds s), (λ x. ((meaning_keeps (by_names w) w levels (names_keep w)).stmt p x).grows.holds s))
