use Rattle.star_sound.proofs.Steps.{one_more}
use Rattle.star_sound.proofs.sound.all_files.Goals as goal

pub loop-n-preserved : goal.loop-n-preserved
loop-n-preserved c = one_more c.loop-n.all.items c.push.new.self.items c.loop-n.n c.loop-n.invariant c.in_ok-push.ensures.items
