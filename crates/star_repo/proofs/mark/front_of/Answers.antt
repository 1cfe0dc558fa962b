use Rattle.std.proofs.Common.{arith, ◌∙◌}
use Rattle.star_folder.proofs.Fronts.{same_front}
use Rattle.star_repo.proofs.mark.front_of.Goals as goal

pub returns : goal.returns
returns c =
    let text = c.args.text.now in
    c.in_ok-front.ensures.items ∙ same_front c.min.result 1048577 text (λ h. omega (arith, h, c.min.ensures)) (λ h. omega (arith, h, c.min.ensures))
