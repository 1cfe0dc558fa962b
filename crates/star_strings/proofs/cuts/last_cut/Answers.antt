use Rattle.std.proofs.Common.{◌≡◌, true}
use Rattle.star_strings.specs.Texts.{may_cut}
use Rattle.star_strings.proofs.CuttingBack.{last_is}
use Rattle.star_strings.proofs.cuts.last_cut.Goals as goal

pub returns : goal.returns
returns c =
    let k : may_cut c.args.left ≡ true = cc in
    last_is c.args.text.now c.args.by.now c.args.left c.rsplit_once.result c.requires k c.rsplit_once.ensures.cases
