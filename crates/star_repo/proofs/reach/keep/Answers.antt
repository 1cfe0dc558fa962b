use Rattle.std.proofs.Common.{◌∙◌, subst, sym}
use Rattle.star_repo.specs.Views.{IsKept}
use Rattle.star_repo.proofs.Kept.{put_last}
use Rattle.star_repo.proofs.reach.keep.Goals as goal

pub returns : goal.returns
returns c = λ after.
    let texts = c.args.texts.now.entries in
    let label = c.args.label in
    let file = c.in-Some.file in
    subst (λ r. IsKept texts c.args.parses.now.items label r c.insert.new.self.entries c.push.new.self.items) (sym c.in-Some.is)
    (c.in_ok-insert.ensures.entries ∙ put_last texts label file.text after, c.in_ok-push.ensures.items)
