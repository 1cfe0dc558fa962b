use Rattle.std.proofs.Common.{◌≡◌, ◌∙◌, ◌+◌, sym, subst, false, arith}
use Rattle.std.specs.Prelude.{is_err}
use Rattle.star_serve.specs.Stream.{Adds}
use Rattle.star_serve.proofs.Streams.{went_well}
use Rattle.star_serve.proofs.Traced.{Adds-line}
use Rattle.star_serve.proofs.trace.write_trace.Goals as goal

pub loop-i-preserved : goal.loop-i-preserved
loop-i-preserved g c =
    let well : is_err c.write.result ≡ false = sym c.is_err.ensures.value ∙ c.if-is_err.false in
    let counted = rw well at c.write.ensures.counts in
    let took = went_well c.write.result well c.write.ensures.takes in
    let line = subst (Adds (g.W.Sink.taken c.loop-i.writer) (g.W.Sink.taken c.write.new.self)) (c.as_bytes.ensures.value ∙ c.in-Ok.ensures) took in
    record {
      failed = omega (arith, counted, c.loop-i.invariant.failed);
      taken = Adds-line c.args.files.now c.args.refused.now c.loop-i.i (c.loop-i.i + 1) _ (g.W.Sink.taken c.args.writer.now) (g.W.Sink.taken c.loop-i.writer) (g.W.Sink.taken c.write.new.self) (omega arith) c.loop-i-test.true c.loop-i.invariant.taken line;
    }
