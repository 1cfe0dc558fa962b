use Rattle.std.proofs.Common.{◌≡◌, subst}
use Rattle.star_memo.specs.Outcomes.{AreMarkedOf, AreOutcomes}
use Rattle.star_memo.specs.declared.outcomes.Terms.{Terms}
use Rattle.star_memo.proofs.Labels.{same_files}
use Rattle.star_memo.proofs.Staying.{all_stay}
use Rattle.star_memo.proofs.outcomes.Outcomes.after.Goals as goal

pub returns-clause-all : goal.returns-clause-all
returns-clause-all g c =
    let files = c.args.compared.now.before in
    let terms = c.args.terms in
    let same = c.is_for.ensures.terms c.if-not-is_for.false in
    let are = subst (λ (t : Terms). AreOutcomes files t.prelude t.mode c.args.self.all.items) same c.requires.outcomes in
    let marks = subst (λ ms. AreMarkedOf ms c.args.self.all.items c.take_others.new.self.all.items) c.deref.ensures.value c.in_ok-others.ensures.all in
    all_stay files c.args.compared.now.files terms.prelude terms.mode c.args.self.all.items c.take_others.new.self.all.items c.in_ok-marks.marks.items (c.is_for.ensures.ordered c.if-not-is_for.false) (c.is_for.ensures.labels c.if-not-is_for.false) (c.is_for.ensures.prelude c.if-not-is_for.false) are c.in_ok-marks.ensures marks

pub returns-then-have_texts-clause-all : goal.returns-then-have_texts-clause-all
returns-then-have_texts-clause-all g c =
    let files = c.args.compared.now.before in
    let terms = c.args.terms in
    let are = subst (λ (t : Terms). AreOutcomes files t.prelude t.mode c.args.self.all.items) (c.is_for.ensures.terms c.if-not-is_for.false) c.requires.outcomes in
    let same : files ≡ c.args.compared.now.files = same_files files c.args.compared.now.files (c.is_for.ensures.labels c.if-not-is_for.false) (c.have_texts.ensures.texts c.if-have_texts.true) in
    subst (λ fs. AreOutcomes fs terms.prelude terms.mode c.args.self.all.items) same are
