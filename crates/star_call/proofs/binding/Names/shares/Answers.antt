use Rattle.std.proofs.Common.{◌<◌, ◌∙◌, length, ap, arith}
use Rattle.star_call.specs.BoundArguments.{all_named}
use Rattle.star_call.specs.Steps.{progress_of}
use Rattle.star_call.proofs.Steps.{turn_passed, turn_pushed}
use Rattle.star_call.proofs.binding.Names.shares.Goals as goal
use Rattle.star_call.proofs.binding.Names.shares.Goals.{in-Some-share+in_ok-push, in_default-share}

pub loop-parameter-preserved : goal.loop-parameter-preserved
loop-parameter-preserved c =
    let i = c.loop-parameter.parameter-index in
    let ps = c.args.parameters.now in
    let ns = c.args.self.all in
    let left = all_named c.args.self.left.items in
    let q = progress_of c.loop-parameter.progress in
    let t = c.in-Some.turn in
    let x = c.parameter-item.result in
    let front = c.loop-parameter.shares.items in
    let made = c.match-turn.shares.items in
    let h : i < length ps = omega arith in
    elim c.match-turn.branch [
      | in-Some-share+in_ok-push w ↦ turn_pushed ns left ps i x q t front made w.in-Some-share.share h c.parameter-item.is c.in-Some.ensures (ap (λ v. v.items) w.shares-is ∙ w.in_ok-push.ensures.items) w.in-Some-share.is ∙ c.loop-parameter.invariant
      | in_default-share w ↦ turn_passed ns left ps i x q t front made h c.parameter-item.is c.in-Some.ensures (ap (λ v. v.items) w.shares-is) w.in_default-share.is ∙ c.loop-parameter.invariant
    ]
