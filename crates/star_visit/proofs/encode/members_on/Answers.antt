use Rattle.std.proofs.Common.{◌≡◌, sym, ◌∙◌, subst}
use Rattle.star_visit.specs.Sheets.{AreMembers}
use Rattle.star_visit.proofs.Sheets.{address}
use Rattle.star_visit.proofs.encode.members_on.Goals as goal

pub returns-then-same_address : goal.returns-then-same_address
returns-then-same_address c = λ look h.
    let m = rw c.in-Inside.is at (c.loop-way.invariant look h) in
    let e : c.args.dict ≡ c.in-Inside.other = address c.args.dict c.in-Inside.other (sym c.same_address.ensures ∙ c.if-same_address.true) in
    subst (λ v. AreMembers look v c.in-Inside.members.now) (sym e) m.0

pub loop-way-preserved : goal.loop-way-preserved
loop-way-preserved c = λ look h. let m = rw c.in-Inside.is at (c.loop-way.invariant look h) in m.1
