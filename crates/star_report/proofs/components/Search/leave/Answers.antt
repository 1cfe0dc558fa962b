use Rattle.std.proofs.Common.{arith}
use Rattle.star_report.proofs.ComponentSteps.{goes_closed_off}
use Rattle.star_report.proofs.components.Search.leave.Goals as goal

pub returns : goal.returns
returns c row was all = goes_closed_off row c.args.frame c.args.self.now c.close.new.self c.close.ensures was all (λ lower. (let high = c.if-frame.false in let no : ⊥ = omega (arith, lower, high) in no))
