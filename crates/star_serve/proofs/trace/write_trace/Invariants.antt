use Rattle.std.proofs.Common.{◌≡◌, take}
use Rattle.star_serve.specs.Stream.{Adds}
use Rattle.star_serve.specs.Trace.{trace_text}
use Rattle.star_serve.proofs.trace.write_trace.Given as goal

abbrev pub invariant-loop-i : goal.invariant-loop-i
invariant-loop-i g l = record {
  failed : g.W.Sink.failed l.writer ≡ g.W.Sink.failed l.initial.writer;
  taken : Adds (g.W.Sink.taken l.initial.writer) (g.W.Sink.taken l.writer) (trace_text l.files (take l.i l.refused));
}
