use Rattle.std.proofs.Common.{slice_get, ap, ◌∙◌}
use Rattle.star_scope.specs.Spots.{found, spot_at, spot_in}
use Rattle.star_scope.proofs.Spotted.{told}
use Rattle.star_scope.proofs.spots.Spots.get.Goals as goal

pub returns : goal.returns
returns c =
    c.spot_in.ensures ∙ ap (λ fs. spot_in c.entry_at.result (spot_at fs c.args.token)) c.as_slice-2.ensures.value
    ∙ told c.args.self.now c.self.inside.entries.items c.self.inside.far.items c.args.token c.entry_at.result c.self.view_is
    (λ far. c.entry_at.ensures far ∙ ap (λ es. found (slice_get es c.args.token) far) c.as_slice.ensures.value)
