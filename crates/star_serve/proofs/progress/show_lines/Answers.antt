use Rattle.std.proofs.Common.{◌≡◌, ◌∙◌, ◌+◌, refl, sym, subst, true, false, arith}
use Rattle.std.specs.Prelude.{is_err}
use Rattle.star_serve.specs.Stream.{Adds}
use Rattle.star_serve.proofs.Traced.{Adds-nothing}
use Rattle.star_serve.proofs.Shown.{no_lines, one_line_more}
use Rattle.star_serve.proofs.Streams.{went_well}
use Rattle.star_serve.proofs.progress.show_lines.Goals as goal

pub loop-init : goal.loop-init
loop-init g c = record {
  failed = refl;
  lines = no_lines (g.E.Sink.taken c.args.errors.now) (Adds-nothing (g.E.Sink.taken c.args.errors.now));
}

pub returns-in_default-clause-lines : goal.returns-in_default-clause-lines
returns-in_default-clause-lines g c = λ same. c.loop.invariant.lines

pub returns-then-is_err-clause-lines : goal.returns-then-is_err-clause-lines
returns-then-is_err-clause-lines g c = λ same.
    let bad : is_err c.write.result ≡ true = sym c.is_err.ensures.value ∙ c.if-is_err.true in
    let counted = rw bad at c.write.ensures.counts in
    absurd (let no : ⊥ = omega (arith, counted, same, c.loop.invariant.failed) in no)

pub loop-preserved : goal.loop-preserved
loop-preserved g c =
    let well : is_err c.write.result ≡ false = sym c.is_err.ensures.value ∙ c.if-is_err.false in
    let counted = rw well at c.write.ensures.counts in
    let took = went_well c.write.result well c.write.ensures.takes in
    let line = c.in-Some-next_line.line.items in
    record {
      failed = omega (arith, counted, c.loop.invariant.failed);
      lines = one_line_more (g.E.Sink.taken c.args.errors.now) (g.E.Sink.taken c.loop.errors) (g.E.Sink.taken c.write.new.self) line c.loop.is_shown c.loop.invariant.lines c.in-Some-next_line.ensures (subst (Adds (g.E.Sink.taken c.loop.errors) (g.E.Sink.taken c.write.new.self)) c.as_slice.ensures.value took);
    }
