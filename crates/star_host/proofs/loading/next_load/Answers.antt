use Rattle.star_host.proofs.NextLoads.{next_is}
use Rattle.star_host.proofs.loading.next_load.Goals as goal

pub returns : goal.returns
returns g c = next_is _ _ c.args.common.now.reads.now c.args.frame.now.n c.number.result c.args.frame.now.told c.told.result c.load.result c.requires.world.row_is c.number.ensures.asked c.number.ensures.number c.told.ensures.told (rw (← c.told.ensures.told) c.told.ensures.within) c.load.ensures.load c.load.ensures.fits
