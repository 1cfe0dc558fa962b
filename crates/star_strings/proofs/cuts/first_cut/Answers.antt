use Rattle.std.proofs.Common.{◌≡◌, true}
use Rattle.star_strings.specs.Texts.{may_cut}
use Rattle.star_strings.proofs.Cutting.{cut_is}
use Rattle.star_strings.proofs.cuts.first_cut.Goals as goal

pub returns : goal.returns
returns c =
    let k : may_cut c.args.left ≡ true = cc in
    cut_is c.args.text.now c.args.by.now c.args.left c.split_once.result c.requires k c.split_once.ensures.cases
