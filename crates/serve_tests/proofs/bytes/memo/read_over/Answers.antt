use Rattle.std.proofs.Common.{None, subst, sym}
use Rattle.star_reading.proofs.Known.{known_again}
use Rattle.star_memo.specs.Readings.{AreKnown}
use Rattle.serve_tests.proofs.bytes.memo.read_over.Goals as goal

pub returns : goal.returns
returns g c =
    let row = c.in_ok-reads.reads.all.items in
    record {
      reads = subst (λ p. AreKnown c.args.files.now p c.args.readings.now.language row) (sym c.requires.prelude)
          (subst (λ d. AreKnown c.args.files.now None d row) c.in_ok-language.ensures (known_again c.args.files.now _ None c.in_ok-language.language row c.in_ok-reads.ensures.read));
      parses = c.requires.readings.parses;
    }
