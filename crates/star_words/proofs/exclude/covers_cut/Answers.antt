use Rattle.std.proofs.Common.{◌∙◌, subst, sym}
use Rattle.star_words.specs.Excluded.{Covers}
use Rattle.star_words.proofs.Patterns.{same_last}
use Rattle.star_words.proofs.exclude.covers_cut.Goals as goal

pub returns-clause-no : goal.returns-clause-no
returns-clause-no c = λ no path e cut.
    let front = c.in-Some.front.now in
    let same = same_last cut.0 front 47 c.in-Some.last.now (sym cut.1 ∙ c.in-Some.ensures.cases.0) in
    c.covers.ensures.no no path e (subst (Covers path c.args.name.now) same.0 cut.2)
