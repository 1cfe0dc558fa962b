use Rattle.std.proofs.Common.{◌≡◌, ◌∙◌, subst, sym}
use Rattle.star_reading.specs.Found.{AreKnown, IsReadOf}
use Rattle.star_reading.specs.declared.reading.Reads.{Reads}
use Rattle.star_serve.proofs.Checked.{checked_in}
use Rattle.star_serve.proofs.WrittenTexts.{lead_within, row_size}
use Rattle.star_serve.proofs.serve.checked.Goals as goal

pub read_parsed-requires-clause-known : goal.read_parsed-requires-clause-known
read_parsed-requires-clause-known g c =
    let asked = c.args.job.now.asked.now in
    λ lives within. subst (λ (r : Reads). AreKnown asked.files asked.prelude c.args.mode.now.language r.all.items) (sym c.replace-before.ensures.value) c.requires.reads

pub check-requires-clause-sized : goal.check-requires-clause-sized
check-requires-clause-sized g c =
    let asked = c.args.job.now.asked.now in
    row_size asked.files c.as_slice-roots.result.now asked.prelude c.args.mode.now.language c.in_ok-read.read.all.items c.in_ok-read.ensures.read

pub check-requires-clause-loads : goal.check-requires-clause-loads
check-requires-clause-loads g c =
    let asked = c.args.job.now.asked.now in
    lead_within asked.files c.as_slice-roots.result.now asked.prelude c.args.mode.now.language c.in_ok-read.read.all.items c.in_ok-read.ensures.read

pub returns-clause-text : goal.returns-clause-text
returns-clause-text g c =
    let asked = c.args.job.now.asked.now in
    let row = c.in_ok-read.read.all.items in
    let value = c.as_slice-roots.ensures.value in
    let read : IsReadOf asked.files asked.roots.items asked.prelude c.args.mode.now.language row = subst (λ rs. IsReadOf asked.files rs asked.prelude c.args.mode.now.language row) value c.in_ok-read.ensures.read in
    checked_in asked.files asked.roots.items asked.prelude c.args.mode.now row c.args.only_roots c.args.calls c.in_ok-it.it.text.items c.in_ok-it.it.all_ok read (λ plan planned is of. c.in_ok-it.ensures plan planned is (of ∙ sym value))

pub returns-clause-read : goal.returns-clause-read
returns-clause-read g c =
    let asked = c.args.job.now.asked.now in
    subst (λ rs. IsReadOf asked.files rs asked.prelude c.args.mode.now.language c.in_ok-read.read.all.items) c.as_slice-roots.ensures.value c.in_ok-read.ensures.read
