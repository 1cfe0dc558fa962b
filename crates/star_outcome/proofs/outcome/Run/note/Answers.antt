use Rattle.std.proofs.Common.{◌≡◌, rules, subst, sym, List}
use Rattle.std.specs.Prelude.{slice_index_or}
use Rattle.star_outcome.specs.Kept.{AllKept, KeptView}
use Rattle.star_outcome.proofs.KeptNotes.{set_same}
use Rattle.star_outcome.proofs.outcome.Run.note.Goals as goal

pub invariant_of-self : goal.invariant_of-self
invariant_of-self c =
    let e : c.note.new.self ≡ slice_index_or c.self.inside.kept.items c.args.i c.note.new.self = search rules in
    subst (λ (ks : List KeptView). AllKept c.self.inside.shelf ks) (sym (set_same c.self.inside.kept.items c.args.i c.note.new.self e)) c.self.invariant
