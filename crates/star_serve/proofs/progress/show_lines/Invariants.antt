use Rattle.std.proofs.Common.{◌≡◌}
use Rattle.star_serve.specs.Progress.{ShowsLines}
use Rattle.star_serve.proofs.progress.show_lines.Given as goal

abbrev pub invariant-loop : goal.invariant-loop
invariant-loop g l = record {
  failed : g.E.Sink.failed l.errors ≡ g.E.Sink.failed l.initial.errors;
  lines : ShowsLines l.is_shown (g.E.Sink.taken l.initial.errors) (g.E.Sink.taken l.errors);
}
