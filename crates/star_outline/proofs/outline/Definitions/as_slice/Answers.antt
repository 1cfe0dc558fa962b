use Rattle.std.proofs.Common.{ap, sym, ◌∙◌, subst, map}
use Rattle.star_outline.specs.Definitions.{AllDiffer}
use Rattle.star_outline.proofs.Differ.{numbers_of}
use Rattle.star_outline.proofs.outline.Definitions.as_slice.Goals as goal

pub returns-clause-differ : goal.returns-clause-differ
returns-clause-differ c = subst (λ ns. AllDiffer ns) (sym (numbers_of c.self.inside.definitions.items) ∙ ap (map (λ d. d.number)) c.self.view_is) c.self.invariant.1
