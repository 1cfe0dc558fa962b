use Rattle.std.proofs.Common.{subst}
use Rattle.star_folder.specs.Drive.{TellsSize}
use Rattle.star_repo.proofs.Fronts.{read_so, sizeless}
use Rattle.star_repo.proofs.disk.read_at.Goals as goal

pub returns-in_ok-text-in-Some : goal.returns-in_ok-text-in-Some
returns-in_ok-text-in-Some g c =
    read_so ((g.D.Disk.holds c.args.disk.now).file c.args.path.now) c.in_ok-bytes-in-Some.bytes.items c.in_ok-text-in-Some.text.items c.in_ok-bytes-in-Some.ensures.tells c.in_ok-text-in-Some.ensures

pub returns-in-None : goal.returns-in-None
returns-in-None g c =
    let file = (g.D.Disk.holds c.args.disk.now).file c.args.path.now in
    sizeless file (subst (TellsSize file) c.in-None.is c.in_ok-size.ensures.tells)
