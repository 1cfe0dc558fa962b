use Rattle.std.proofs.Common.{◌≡◌, []}
use Rattle.star_session.specs.Folders.{IsAnsweredIn}
use Rattle.star_session.specs.Kept.{AreKeptFor}
use Rattle.star_session.specs.Lines.{IsCut, ahead_of}
use Rattle.star_session.specs.Session.{IsPart}
use Rattle.star_session.proofs.session.serve_requests.Given as goal

abbrev pub invariant-loop : goal.invariant-loop
invariant-loop g l =
    (goal.iterator-loop g).can_next l.iterator' × (goal.iterator-loop g).is_finite l.iterator'
    × IsPart (IsAnsweredIn (g.F.Repo.says l.folder) l.settings.defaults) (g.R.Source.said l.initial.reader) (g.R.Source.said l.reader) [] (ahead_of l.begin.lines)
    (g.W.Sink.taken l.initial.writer) (g.W.Sink.taken l.writer) [] l.begin.files
    × AreKeptFor l.begin.files l.begin.kept × IsCut l.begin.lines
    × (g.R.Source.failed l.reader ≡ g.R.Source.failed l.initial.reader) × (g.W.Sink.failed l.writer ≡ g.W.Sink.failed l.initial.writer)
