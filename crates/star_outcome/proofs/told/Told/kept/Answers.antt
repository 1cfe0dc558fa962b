use Rattle.star_outcome.proofs.KeptNotes.{kept_told}
use Rattle.star_outcome.proofs.told.Told.kept.Goals as goal

pub returns-clause-kept : goal.returns-clause-kept
returns-clause-kept g c = rw c.again.ensures.1 (kept_told _ _ _ record { number = c.self.inside.number; good = c.self.inside.good; known = c.self.inside.note.known } c.self.inside.note.cell c.requires c.self.invariant.0 c.self.invariant.1)
