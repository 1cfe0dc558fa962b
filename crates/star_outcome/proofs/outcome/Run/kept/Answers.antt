use Rattle.std.proofs.Common.{◌≡◌, ◌∙◌, List, ap, length, subst, sym}
use Rattle.star_outcome.specs.Kept.{AllKept, KeptView}
use Rattle.star_outcome.proofs.Lent.{written_back}
use Rattle.star_outcome.proofs.outcome.Run.kept.Goals as goal

pub invariant_of-self : goal.invariant_of-self
invariant_of-self c =
    let same : c.kept_again.new.kept ≡ c.self.inside.kept.items = c.kept_again.ensures.same ∙ c.as_mut_slice.ensures.value in
    let long : length c.kept_again.new.kept ≡ c.self.inside.kept.len = ap length c.kept_again.ensures.same ∙ c.as_mut_slice.ensures.len in
    subst (λ (ks : List KeptView). AllKept c.self.inside.shelf ks) (sym (written_back c.self.inside.kept.len c.kept_again.new.kept _ long ∙ same)) c.self.invariant
