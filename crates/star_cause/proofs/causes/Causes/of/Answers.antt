use Rattle.std.proofs.Common.{◌≡◌, ◌<◌, ◌∙◌, length, sym, subst}
use Rattle.std.proofs.lemmas.Result.{IfOk-weaker}
use Rattle.star_cause.specs.Causes.{cause_of}
use Rattle.star_cause.specs.Ends.{AreWithin, HasEnd}
use Rattle.star_cause.specs.Ways.{EndsIn, Nexts}
use Rattle.star_cause.proofs.Leads.{cause_below, cause_is, end_known, end_read}
use Rattle.star_cause.proofs.causes.Causes.of.Goals as goal

pub cause_at-requires : goal.cause_at-requires
cause_at-requires c =
    let nexts = c.self.inside.nexts.items in
    let less : c.args.n < length nexts = subst (λ (ns : Nexts). c.args.n < length ns) (sym c.self.view_is) c.requires in
    let has = end_read nexts c.self.inside.ends.items c.args.n c.index.result.now c.in-Some.end c.self.invariant less c.index.ensures c.in-Some.is in
    (c.args.n, subst (λ ns. HasEnd ns c.args.n c.in-Some.end) (sym c.deref.ensures.value) has)

pub unreachable-requires : goal.unreachable-requires
unreachable-requires c =
    let nexts = c.self.inside.nexts.items in
    let less : c.args.n < length nexts = subst (λ (ns : Nexts). c.args.n < length ns) (sym c.self.view_is) c.requires in
    end_known nexts c.self.inside.ends.items c.args.n c.index.result.now c.self.invariant less c.index.ensures c.in-None.is

pub returns-clause-way : goal.returns-clause-way
returns-clause-way c =
    let nexts = c.self.inside.nexts.items in
    let n = c.args.n in
    let less : n < length nexts = subst (λ (ns : Nexts). n < length ns) (sym c.self.view_is) c.requires in
    let has = end_read nexts c.self.inside.ends.items n c.index.result.now c.in-Some.end c.self.invariant less c.index.ensures c.in-Some.is in
    let same : c.deref.result.now ≡ c.args.self.now = c.deref.ensures.value ∙ c.self.view_is in
    IfOk-weaker c.cause_at.result _ _ (λ x h. subst (λ ns. EndsIn ns n (cause_of x)) same (h n (subst (λ ns. HasEnd ns n c.in-Some.end) (sym c.deref.ensures.value) has))) c.cause_at.ensures

pub returns-clause-cause : goal.returns-clause-cause
returns-clause-cause c = IfOk-weaker c.cause_at.result _ _ (λ x h. cause_is c.args.self.now c.args.n (cause_of x) h) (returns-clause-way c)

pub returns-clause-files : goal.returns-clause-files
returns-clause-files c =
    let within : AreWithin c.args.self.now = subst AreWithin c.self.view_is c.self.invariant.within in
    IfOk-weaker c.cause_at.result _ _ (λ x h. cause_below c.args.self.now within c.args.n (cause_of x) c.requires h) (returns-clause-way c)
