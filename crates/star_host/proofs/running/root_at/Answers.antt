use Rattle.star_host.proofs.Worlds.{root_asked}
use Rattle.star_host.proofs.running.root_at.Goals as goal

pub returns : goal.returns
returns g c = root_asked _ _ c.args.roots.now c.args.i c.requires.within c.requires.roots c.requires.i
