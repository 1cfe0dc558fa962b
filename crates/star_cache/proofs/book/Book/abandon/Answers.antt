use Rattle.std.proofs.Common.{sym, subst, arith}
use Rattle.star_cache.proofs.Abandon.{IsGivingUp, IsGivingUp-start, IsGivingUp-step}
use Rattle.star_cache.proofs.book.Book.abandon.Goals as goal

pub loop-top-init : goal.loop-top-init
loop-top-init g c =
    subst (λ v. IsGivingUp c.args.self.now v c.args.seat) (sym c.stop_waiting.ensures) (IsGivingUp-start c.args.self.now c.args.seat (omega arith))

pub loop-top-preserved : goal.loop-top-preserved
loop-top-preserved g c =
    subst (λ v. IsGivingUp c.args.self.now v c.args.seat) (sym c.end_top.ensures) (IsGivingUp-step c.args.self.now c.args.seat c.loop-top.self c.in-Some.top c.loop-top.invariant (sym c.in-Some.ensures))
