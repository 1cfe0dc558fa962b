use Rattle.std.proofs.Common.{◌≡◌}
use Rattle.star_session.specs.Lines.{IsCut, ahead_of}
use Rattle.star_session.proofs.Takings.{IsBegun}
use Rattle.star_session.proofs.lines.Lines.next.Given as goal

abbrev pub invariant-loop : goal.invariant-loop
invariant-loop g l =
    (goal.iterator-loop g).can_next l.iterator' × (goal.iterator-loop g).is_finite l.iterator'
    × IsBegun (g.R.Source.said l.initial.reader) (g.R.Source.said l.reader) (ahead_of l.initial.self) (ahead_of l.self) l.line l.self.line.items
    × IsCut l.self × (g.R.Source.failed l.reader ≡ g.R.Source.failed l.initial.reader)
