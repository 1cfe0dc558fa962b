use Rattle.std.proofs.Common.{subst, sym}
use Rattle.star_reading.proofs.Known.{known_again}
use Rattle.star_memo.specs.Lasting.{AreEndsNow}
use Rattle.star_memo.specs.Readings.{AreKnown}
use Rattle.star_memo.proofs.Staying.{ends_of_now}
use Rattle.star_session.proofs.Bodies.{left_in}
use Rattle.star_session.proofs.answer.run_over.Goals as goal

pub written_over-requires-clause-reads : goal.written_over-requires-clause-reads
written_over-requires-clause-reads g c =
    let asked = c.args.asked.now in
    let row = c.args.staying.now.readings.reads.all.items in
    λ lives within. subst (λ d. AreKnown asked.files asked.prelude d row) c.requires.language (subst (λ p. AreKnown asked.files p c.args.staying.now.readings.language row) c.requires.seen c.requires.readings.reads)

pub written_over-requires-clause-ends : goal.written_over-requires-clause-ends
written_over-requires-clause-ends g c =
    let asked = c.args.asked.now in
    let mode = c.args.options.now.mode in
    let ends = subst (AreEndsNow asked.files asked.prelude mode) (sym c.as_slice-ends.ensures.value) c.requires.ends in
    λ lives within. ends_of_now asked.files asked.roots.items asked.prelude mode c.as_slice-ends.result.now ends

pub returns-clause-ends : goal.returns-clause-ends
returns-clause-ends g c =
    let asked = c.args.asked.now in
    left_in asked.files asked.roots.items asked.prelude c.args.options.now.mode c.in_ok-finished.finished.ends.items c.len.ensures.ordered c.in_ok-finished.ensures.ends

pub returns-clause-readings : goal.returns-clause-readings
returns-clause-readings g c =
    let asked = c.args.asked.now in
    let before = c.written_over.new.reads.all.items in
    let d = c.args.options.now.mode.language in
    let row = c.take_others.new.self.all.items in
    let known = c.take_others.ensures asked.files asked.prelude d (known_again asked.files asked.roots.items asked.prelude d before c.in_ok-finished.ensures.read) c.in_ok-finished.ensures.others in
    record {
      reads = subst (λ p. AreKnown asked.files p c.args.staying.now.readings.language row) (sym c.requires.seen) (subst (λ e. AreKnown asked.files asked.prelude e row) (sym c.requires.language) known);
      parses = c.requires.readings.parses;
    }
