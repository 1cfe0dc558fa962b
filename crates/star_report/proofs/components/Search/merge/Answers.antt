use Rattle.std.proofs.Common.{rules, refl, subst, ◌≡◌, ◌++◌, ◌∷◌, []}
use Rattle.star_report.proofs.ComponentFrames.{taken_in}
use Rattle.star_report.proofs.ComponentSteps.{goes_taken_in, taken_by_none}
use Rattle.star_report.proofs.components.Search.merge.Goals as goal

pub returns-in_ok-push-in-Some : goal.returns-in_ok-push-in-Some
returns-in_ok-push-in-Some c row was all lower =
    let old = c.args.self.now in
    goes_taken_in row c.args.frame c.in-Some.before old _ c.pop.new.self.items (search rules) refl refl (search rules) refl was all lower
