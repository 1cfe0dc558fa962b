use Rattle.std.proofs.Common.{◌≡◌, false, true, rules, sym, ◌∙◌}
use Rattle.star_outcome.specs.Views.{ended_well}
use Rattle.star_outcome.proofs.Opens.{module_bad, open_passed, open_told}
use Rattle.star_outcome.proofs.open_file.OpenFile.tell.Goals as goal

pub refuse-requires-clause-bad : goal.refuse-requires-clause-bad
refuse-requires-clause-bad g c =
    let ill : ended_well c.args.it.now.ended ≡ false = search rules in
    module_bad g.J.RunId.plan c.args.self.now.n c.args.self.now.told c.args.it.now c.requires.right ill

pub invariant_of-self : goal.invariant_of-self
invariant_of-self g c = open_passed g.J.RunId.files g.J.RunId.plan c.args.self.now c.self.inside.n c.self.inside.told c.self.inside.failed c.self.inside.modules.items (cc) c.self.invariant c.requires.load (sym c.is_some.ensures ∙ c.if-is_some.true)

pub invariant_of-self-2 : goal.invariant_of-self-2
invariant_of-self-2 g c =
    let well : ended_well c.args.it.now.ended ≡ true = search rules in
    open_told g.J.RunId.files g.J.RunId.plan c.args.self.now c.self.inside.n c.self.inside.told c.self.inside.failed c.self.inside.modules.items (cc) c.self.invariant c.requires.load c.push.new.self.items c.args.it c.in_ok-push.ensures.items (sym c.is_some.ensures ∙ c.if-is_some.false) c.requires.right well
