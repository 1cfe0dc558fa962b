use Rattle.std.proofs.Common.{◌≡◌, ◌<◌, Bool, Global, List, Option, Vec, length, ap, subst, sym, ◌∙◌}
use Rattle.std.specs.Prelude.{IfSome}
use Rattle.star_bundle.specs.declared.bundle.AskedFor.{AskedFor}
use Rattle.star_outcome.specs.declared.good_end.GoodEnd.{GoodEnd}
use Rattle.star_memo.specs.Compared.{AreSame}
use Rattle.star_memo.specs.Lasting.{AreEndsNow}
use Rattle.star_memo.specs.Outcomes.{AreAlike, AreOutcomes}
use Rattle.star_memo.specs.Readings.{AreKnown}
use Rattle.star_memo.specs.declared.outcomes.Outcomes.{Outcomes}
use Rattle.star_memo.specs.declared.outcomes.Terms.{Terms}
use Rattle.star_memo.proofs.Staying.{outcomes_now}
use Rattle.star_session.proofs.answer.keep_lasting.Goals as goal

pub returns-in_default-clause-ends : goal.returns-in_default-clause-ends
returns-in_default-clause-ends g c =
    let asked = c.args.asked.now in
    outcomes_now asked.files asked.prelude c.args.mode.now c.args.staying.now.outcomes.all.items c.requires.outcomes

pub run_changed-requires-clause-ends : goal.run_changed-requires-clause-ends
run_changed-requires-clause-ends g c =
    let asked = c.args.asked.now in
    λ lives within. outcomes_now asked.files asked.prelude c.args.mode.now c.args.staying.now.outcomes.all.items c.requires.outcomes

pub add_lasting-requires-clause-alike : goal.add_lasting-requires-clause-alike
add_lasting-requires-clause-alike g c =
    let asked = c.args.asked.now in
    let terms : c.add.new.self.terms ≡ record { prelude = asked.prelude; mode = c.args.mode.now } = c.add.ensures.terms ∙ ap (λ (o : Outcomes). o.terms) c.run_changed.ensures.outcomes ∙ c.requires.terms in
    let some : 0 < length c.args.staying.now.former.items = subst (λ (xs : List (Option GoodEnd)). 0 < length xs) c.as_slice-former.ensures.value (subst (λ o. IfSome o (λ _. 0 < length c.as_slice-former.result.now)) c.in-Some.is c.in_ok-changed.ensures.some) in
    subst (λ (t : Terms). AreAlike c.args.before.now c.run_changed.new.asked.files t.prelude) (sym terms)
    (subst (λ (a : AskedFor). AreAlike c.args.before.now a.files asked.prelude) (sym c.run_changed.ensures.asked) (c.requires.alike some))

pub add_lasting-requires-clause-former : goal.add_lasting-requires-clause-former
add_lasting-requires-clause-former g c =
    let asked = c.args.asked.now in
    let terms : c.add.new.self.terms ≡ record { prelude = asked.prelude; mode = c.args.mode.now } = c.add.ensures.terms ∙ ap (λ (o : Outcomes). o.terms) c.run_changed.ensures.outcomes ∙ c.requires.terms in
    subst (λ (t : Terms). AreOutcomes c.args.before.now t.prelude t.mode c.run_changed.new.staying.former.items) (sym terms)
    (subst (λ v. AreOutcomes c.args.before.now asked.prelude c.args.mode.now v.items) (sym c.run_changed.ensures.former) c.requires.former)

pub add_lasting-requires-clause-outcomes : goal.add_lasting-requires-clause-outcomes
add_lasting-requires-clause-outcomes g c =
    let asked = c.args.asked.now in
    let terms : c.add.new.self.terms ≡ record { prelude = asked.prelude; mode = c.args.mode.now } = c.add.ensures.terms ∙ ap (λ (o : Outcomes). o.terms) c.run_changed.ensures.outcomes ∙ c.requires.terms in
    let before = subst (λ (o : Outcomes). AreOutcomes asked.files asked.prelude c.args.mode.now o.all.items) (sym c.run_changed.ensures.outcomes) c.requires.outcomes in
    let all = c.add.ensures.all asked.files asked.prelude c.args.mode.now before c.in-Ok.ensures.ends in
    subst (λ (t : Terms). AreOutcomes c.run_changed.new.asked.files t.prelude t.mode c.add.new.self.all.items) (sym terms)
    (subst (λ (a : AskedFor). AreOutcomes a.files asked.prelude c.args.mode.now c.add.new.self.all.items) (sym c.run_changed.ensures.asked) all)

pub add_lasting-requires-clause-reads : goal.add_lasting-requires-clause-reads
add_lasting-requires-clause-reads g c =
    let asked = c.args.asked.now in
    let row = c.run_changed.new.staying.readings.reads.all.items in
    let terms : c.add.new.self.terms ≡ record { prelude = asked.prelude; mode = c.args.mode.now } = c.add.ensures.terms ∙ ap (λ (o : Outcomes). o.terms) c.run_changed.ensures.outcomes ∙ c.requires.terms in
    let seen = subst (λ p. AreKnown asked.files p c.run_changed.new.staying.readings.language row) (c.run_changed.ensures.seen ∙ c.requires.seen) c.in-Ok.ensures.readings.reads in
    let known = subst (λ d. AreKnown asked.files asked.prelude d row) (c.run_changed.ensures.language ∙ c.requires.language) seen in
    subst (λ (t : Terms). AreKnown c.run_changed.new.asked.files t.prelude t.mode.language row) (sym terms)
    (subst (λ (a : AskedFor). AreKnown a.files asked.prelude c.args.mode.now.language row) (sym c.run_changed.ensures.asked) known)

pub returns-clause-ends : goal.returns-clause-ends
returns-clause-ends g c =
    let asked = c.args.asked.now in
    let all = c.add_lasting.new.self.outcomes.all.items in
    let terms : c.add.new.self.terms ≡ record { prelude = asked.prelude; mode = c.args.mode.now } = c.add.ensures.terms ∙ ap (λ (o : Outcomes). o.terms) c.run_changed.ensures.outcomes ∙ c.requires.terms in
    subst (λ (a : AskedFor). AreEndsNow a.files asked.prelude c.args.mode.now all) c.run_changed.ensures.asked
    (subst (λ (t : Terms). AreEndsNow c.run_changed.new.asked.files t.prelude t.mode all) terms c.in_ok-add_lasting.ensures.ends)

pub add_lasting-requires-clause-same : goal.add_lasting-requires-clause-same
add_lasting-requires-clause-same g c =
    let asked = c.args.asked.now in
    let same = subst (λ (marks : Vec Bool Global). AreSame c.args.before.now asked.files marks.items) (sym c.run_changed.ensures.same) c.requires.same in
    subst (λ (a : AskedFor). AreSame c.args.before.now a.files c.run_changed.new.staying.same.items) (sym c.run_changed.ensures.asked) same
