use Rattle.std.proofs.Common.{[], refl}
use Rattle.star_words.proofs.glob.matches.Goals as goal

pub returns-in-Never-clause-no : goal.returns-in-Never-clause-no
returns-in-Never-clause-no c = λ _ m. c.tried.ensures.never c.in-Never.is [] c.args.name.now refl m
