use Rattle.std.proofs.Common.{subst, sym}
use Rattle.star_memo.specs.Compared.{AreSame, ComparedView}
use Rattle.star_memo.specs.Lasting.{AllLast, HasPreludeMarked}
use Rattle.star_memo.specs.Outcomes.{AreAlike, AreOutcomes}
use Rattle.star_memo.specs.Readings.{AreKnown}
use Rattle.star_session.proofs.standing.Staying.add_lasting.Goals as goal

pub lasting-requires : goal.lasting-requires
lasting-requires g c =
    let terms = c.args.self.now.outcomes.terms in
    let back = sym c.new-compared.ensures in
    record {
      alike = subst (λ (v : ComparedView). AreAlike v.before v.files terms.prelude) back c.requires.alike;
      former = subst (λ (v : ComparedView). AreOutcomes v.before terms.prelude terms.mode c.as_slice-2.result.now) back (subst (AreOutcomes c.args.before.now terms.prelude terms.mode) (sym c.as_slice-2.ensures.value) c.requires.former);
      ends = subst (λ (v : ComparedView). AreOutcomes v.files terms.prelude terms.mode c.as_slice-3.result.now) back (subst (AreOutcomes c.args.files.now terms.prelude terms.mode) (sym c.as_slice-3.ensures.value) c.requires.outcomes);
      reads = subst (λ (v : ComparedView). AreKnown v.files terms.prelude terms.mode.language c.as_slice-4.result.now) back (subst (AreKnown c.args.files.now terms.prelude terms.mode.language) (sym c.as_slice-4.ensures.value) c.requires.reads);
    }

pub returns-clause-ends : goal.returns-clause-ends
returns-clause-ends g c =
    let terms = c.args.self.now.outcomes.terms in
    let over = subst (λ (v : ComparedView). AllLast v.before v.files terms.prelude terms.mode c.in_ok-marks.marks.items) c.new-compared.ensures c.in_ok-marks.ensures.last in
    let last = subst (AllLast c.args.before.now c.args.files.now terms.prelude terms.mode) (sym c.deref.ensures.value) over in
    let prelude = subst (HasPreludeMarked terms.prelude) (sym c.deref.ensures.value) c.in_ok-marks.ensures.prelude in
    c.add_lasting.ensures.all c.args.before.now c.args.files.now c.requires.alike c.requires.former c.requires.outcomes last prelude
