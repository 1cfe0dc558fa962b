use Rattle.std.proofs.Common.{◌<◌, length, rules}
use Rattle.star_sound.proofs.Steps.{marked_new, unmarked}
use Rattle.star_sound.proofs.sound.Waits.mark.Goals as goal

pub returns-in_ok-push-clause-more : goal.returns-in_ok-push-clause-more
returns-in_ok-push-clause-more c =
    let marks = c.args.self.now.sound.items in
    let inside : c.args.n < length marks = search rules in
    rw c.in_ok-push.ensures.items (marked_new c.args.n marks c.args.self.now.todo.items inside (unmarked marks c.args.n c.index.result.now c.index.ensures c.if-not-index.true))
