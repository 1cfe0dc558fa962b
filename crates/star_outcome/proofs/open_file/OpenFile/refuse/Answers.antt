use Rattle.std.proofs.Common.{sym, ◌∙◌}
use Rattle.star_outcome.proofs.Opens.{open_passed, open_refused}
use Rattle.star_outcome.proofs.open_file.OpenFile.refuse.Goals as goal

pub invariant_of-self : goal.invariant_of-self
invariant_of-self g c = open_passed g.J.RunId.files g.J.RunId.plan c.args.self.now c.self.inside.n c.self.inside.told c.self.inside.failed c.self.inside.modules.items (cc) c.self.invariant c.requires.load (sym c.is_some.ensures ∙ c.if-is_some.true)

pub invariant_of-self-2 : goal.invariant_of-self-2
invariant_of-self-2 g c = open_refused g.J.RunId.files g.J.RunId.plan c.args.self.now c.self.inside.n c.self.inside.told c.self.inside.failed c.self.inside.modules.items (cc) c.self.invariant c.requires.load (sym c.is_some.ensures ∙ c.if-is_some.false) c.requires.bad
