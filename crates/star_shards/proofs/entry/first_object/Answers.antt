use Rattle.std.proofs.Common.{◌≡◌, ◌≢◌, ◌∙◌, get_or, refl, sym, arith}
use Rattle.star_shards.specs.Entries.{label_front, status_front}
use Rattle.star_shards.proofs.Objects.{front_here, none_here, object_here, other_here}
use Rattle.star_shards.proofs.entry.first_object.Goals as goal

pub returns-in_default-look-clause-none : goal.returns-in_default-look-clause-none
returns-in_default-look-clause-none c =
    λ _ t rest obj e. none_here c.args.text.now c.in-Some.members.now t rest c.in-Some.first.now c.in-Some.ensures.cases.0 (c.look.ensures.none c.in_default-look.is) obj e

pub returns-then-members-found-ne125-clause-none : goal.returns-then-members-found-ne125-clause-none
returns-then-members-found-ne125-clause-none c =
    let other : get_or c.in-Some.members.now c.in-Some-look.found.end 0 ≢ 125 = λ q. absurd (omega (arith, q, c.if-members-found-ne125.true)) in
    λ _ t rest obj e. other_here c.args.text.now c.in-Some.members.now t rest c.in-Some.first.now c.in-Some-look.found.end c.in-Some.ensures.cases.0 c.in-Some-look.ensures.end other obj e

pub returns-clause-object : goal.returns-clause-object
returns-clause-object c =
    let is : c.in-Some.first.now ≡ 123 = omega (arith, c.if-first-ne123.false) in
    let last : get_or c.in-Some.members.now c.in-Some-look.found.end 0 ≡ 125 = omega (arith, c.if-members-found-ne125.false) in
    object_here c.args.text.now c.in-Some.members.now c.in-Some.first.now c.in-Some-look.found.end c.in-Some.ensures.cases.0 is c.in-Some-look.ensures.end last

pub returns-clause-label : goal.returns-clause-label
returns-clause-label c =
    let last : get_or c.in-Some.members.now c.in-Some-look.found.end 0 ≡ 125 = omega (arith, c.if-members-found-ne125.false) in
    c.in-Some-look.ensures.label ∙ front_here label_front c.args.text.now c.in-Some.members.now c.in-Some.first.now c.in-Some-look.found.end refl c.in-Some.ensures.cases.0 c.in-Some-look.ensures.end last

pub returns-clause-status : goal.returns-clause-status
returns-clause-status c =
    let last : get_or c.in-Some.members.now c.in-Some-look.found.end 0 ≡ 125 = omega (arith, c.if-members-found-ne125.false) in
    c.in-Some-look.ensures.status ∙ front_here status_front c.args.text.now c.in-Some.members.now c.in-Some.first.now c.in-Some-look.found.end refl c.in-Some.ensures.cases.0 c.in-Some-look.ensures.end last
