use Rattle.std.proofs.Common.{subst, sym}
use Rattle.star_reading.specs.declared.reading.Reads.{Reads}
use Rattle.star_memo.specs.Readings.{AreKnown}
use Rattle.star_memo.proofs.readings.Readings.take_parses.Goals as goal

pub returns-clause-readings : goal.returns-clause-readings
returns-clause-readings g c =
    let files = c.args.files.now in
    let is = c.loop-n.invariant in
    record {
      reads = subst (λ p. AreKnown files p c.loop-n.self.language c.loop-n.self.reads.all.items) (sym is.prelude)
          (subst (λ d. AreKnown files c.args.self.now.prelude d c.loop-n.self.reads.all.items) (sym is.language)
          (subst (λ (r : Reads). AreKnown files c.args.self.now.prelude c.args.self.now.language r.all.items) (sym is.reads) c.requires.readings.reads));
      parses = is.parses;
    }
