use Rattle.std.proofs.Common.{◌≡◌, ◌≢◌, inl, inr, arith}
use Rattle.star_words.proofs.Globs.{end_no, end_yes, one_differs, one_never, one_never_end, one_no, one_yes, same_no_end, star_here, star_never, star_never_end, star_never_on, star_no, star_on}
use Rattle.star_words.proofs.glob.+tried.Goals as goal

pub returns-in_default-clause-whole : goal.returns-in_default-clause-whole
returns-in_default-clause-whole t c =
    λ h. (c.with_one_star-pattern.ensures.same c.args.name.now).0 (end_yes c.with_one_star-pattern.result.now c.args.name.now c.in_default.ensures.cases (c.fit_of_nothing.ensures.whole h))

pub returns-in_default-clause-not : goal.returns-in_default-clause-not
returns-in_default-clause-not t c =
    λ h m. end_no c.with_one_star-pattern.result.now c.args.name.now c.in_default.ensures.cases (c.fit_of_nothing.ensures.not h) ((c.with_one_star-pattern.ensures.same c.args.name.now).1 m)

pub returns-in_default-tried : goal.returns-in_default-tried
returns-in_default-tried t c =
    let is : c.in-Some.first.now ≡ 42 = omega (arith, c.if-first-eq42.true) in
    record {
      whole = λ h. (c.with_one_star-pattern.ensures.same c.args.name.now).0 (star_here c.with_one_star-pattern.result.now c.in-Some.more.now c.args.name.now c.in-Some.first.now c.in-Some.ensures.cases.0 is (c.tried.ensures.whole h));
      not = λ h m. c.in_default-tried.not-Not h;
      never = λ h. (same_no_end c.with_one_star-pattern.result.now c.args.pattern.now c.args.name.now c.with_one_star-pattern.ensures.same (star_never c.with_one_star-pattern.result.now c.in-Some.more.now c.args.name.now c.in-Some.first.now c.in-Some.ensures.cases.0 is (c.tried.ensures.never h)));
    }

pub returns-in-Some-split_first-clause-whole : goal.returns-in-Some-split_first-clause-whole
returns-in-Some-split_first-clause-whole t c =
    let is : c.in-Some.first.now ≡ 42 = omega (arith, c.if-first-eq42.true) in
    λ h. (c.with_one_star-pattern.ensures.same c.args.name.now).0 (star_on c.with_one_star-pattern.result.now c.in-Some.more.now c.args.name.now c.in-Some-split_first.rest.now c.in-Some.first.now c.in-Some-split_first.field-0-0.now c.in-Some.ensures.cases.0 is c.in-Some-split_first.ensures.cases.0 (c.tried-in-Some-split_first.ensures.whole h))

pub returns-in-Some-split_first-clause-not : goal.returns-in-Some-split_first-clause-not
returns-in-Some-split_first-clause-not t c =
    let is : c.in-Some.first.now ≡ 42 = omega (arith, c.if-first-eq42.true) in
    λ h m. star_no c.with_one_star-pattern.result.now c.in-Some.more.now c.args.name.now c.in-Some-split_first.rest.now c.in-Some.first.now c.in-Some-split_first.field-0-0.now c.in-Some.ensures.cases.0 is c.in-Some-split_first.ensures.cases.0 (c.tried.ensures.not c.in-Not.is) (c.tried-in-Some-split_first.ensures.not h) ((c.with_one_star-pattern.ensures.same c.args.name.now).1 m)

pub returns-in-Some-split_first-clause-never : goal.returns-in-Some-split_first-clause-never
returns-in-Some-split_first-clause-never t c =
    let is : c.in-Some.first.now ≡ 42 = omega (arith, c.if-first-eq42.true) in
    λ h. (same_no_end c.with_one_star-pattern.result.now c.args.pattern.now c.args.name.now c.with_one_star-pattern.ensures.same (star_never_on c.with_one_star-pattern.result.now c.in-Some.more.now c.args.name.now c.in-Some-split_first.rest.now c.in-Some.first.now c.in-Some-split_first.field-0-0.now c.in-Some.ensures.cases.0 is c.in-Some-split_first.ensures.cases.0 (c.tried.ensures.not c.in-Not.is) (c.tried-in-Some-split_first.ensures.never h)))

pub returns-in-None-clause-never : goal.returns-in-None-clause-never
returns-in-None-clause-never t c =
    let is : c.in-Some.first.now ≡ 42 = omega (arith, c.if-first-eq42.true) in
    λ _. (same_no_end c.with_one_star-pattern.result.now c.args.pattern.now c.args.name.now c.with_one_star-pattern.ensures.same (star_never_end c.with_one_star-pattern.result.now c.in-Some.more.now c.args.name.now c.in-Some.first.now c.in-Some.ensures.cases.0 is c.in-None.ensures.cases (c.tried.ensures.not c.in-Not.is)))

pub returns-in_default-split_first-clause-never : goal.returns-in_default-split_first-clause-never
returns-in_default-split_first-clause-never t c =
    let ne : c.in-Some.first.now ≢ 42 = λ e. absurd (omega (arith, e, c.if-first-eq42.false)) in
    λ _. (same_no_end c.with_one_star-pattern.result.now c.args.pattern.now c.args.name.now c.with_one_star-pattern.ensures.same (one_never_end c.with_one_star-pattern.result.now c.in-Some.more.now c.args.name.now c.in-Some.first.now c.in-Some.ensures.cases.0 ne c.in_default-split_first.ensures.cases))

pub returns-then-first-eq63-clause-whole : goal.returns-then-first-eq63-clause-whole
returns-then-first-eq63-clause-whole t c =
    let ne : c.in-Some.first.now ≢ 42 = λ e. absurd (omega (arith, e, c.if-first-eq42.false)) in
    let any : c.in-Some.first.now ≡ 63 = omega (arith, c.if-first-eq63.true) in
    λ h. (c.with_one_star-pattern.ensures.same c.args.name.now).0 (one_yes c.with_one_star-pattern.result.now c.in-Some.more.now c.args.name.now c.in-Some-split_first-2.rest.now c.in-Some.first.now c.in-Some-split_first-2.byte.now c.in-Some.ensures.cases.0 ne c.in-Some-split_first-2.ensures.cases.0 (inl any) (c.tried-then-first-eq63.ensures.whole h))

pub returns-then-first-eq63-clause-not : goal.returns-then-first-eq63-clause-not
returns-then-first-eq63-clause-not t c =
    let ne : c.in-Some.first.now ≢ 42 = λ e. absurd (omega (arith, e, c.if-first-eq42.false)) in
    λ h m. one_no c.with_one_star-pattern.result.now c.in-Some.more.now c.args.name.now c.in-Some-split_first-2.rest.now c.in-Some.first.now c.in-Some-split_first-2.byte.now c.in-Some.ensures.cases.0 ne c.in-Some-split_first-2.ensures.cases.0 (c.tried-then-first-eq63.ensures.not h) ((c.with_one_star-pattern.ensures.same c.args.name.now).1 m)

pub returns-then-first-eq63-clause-never : goal.returns-then-first-eq63-clause-never
returns-then-first-eq63-clause-never t c =
    let ne : c.in-Some.first.now ≢ 42 = λ e. absurd (omega (arith, e, c.if-first-eq42.false)) in
    λ h. (same_no_end c.with_one_star-pattern.result.now c.args.pattern.now c.args.name.now c.with_one_star-pattern.ensures.same (one_never c.with_one_star-pattern.result.now c.in-Some.more.now c.args.name.now c.in-Some-split_first-2.rest.now c.in-Some.first.now c.in-Some-split_first-2.byte.now c.in-Some.ensures.cases.0 ne c.in-Some-split_first-2.ensures.cases.0 (c.tried-then-first-eq63.ensures.never h)))

pub returns-then-first-byte-clause-not : goal.returns-then-first-byte-clause-not
returns-then-first-byte-clause-not t c =
    let ne : c.in-Some.first.now ≢ 42 = λ e. absurd (omega (arith, e, c.if-first-eq42.false)) in
    let nq : c.in-Some.first.now ≢ 63 = λ e. absurd (omega (arith, e, c.if-first-eq63.false)) in
    let nb : c.in-Some.first.now ≢ c.in-Some-split_first-2.byte.now = λ e. absurd (omega (arith, e, c.if-first-byte.true)) in
    λ _ m. one_differs c.with_one_star-pattern.result.now c.in-Some.more.now c.args.name.now c.in-Some-split_first-2.rest.now c.in-Some.first.now c.in-Some-split_first-2.byte.now c.in-Some.ensures.cases.0 ne nq nb c.in-Some-split_first-2.ensures.cases.0 ((c.with_one_star-pattern.ensures.same c.args.name.now).1 m)

pub returns-clause-whole : goal.returns-clause-whole
returns-clause-whole t c =
    let ne : c.in-Some.first.now ≢ 42 = λ e. absurd (omega (arith, e, c.if-first-eq42.false)) in
    let fits : c.in-Some.first.now ≡ c.in-Some-split_first-2.byte.now = omega (arith, c.if-first-byte.false) in
    λ h. (c.with_one_star-pattern.ensures.same c.args.name.now).0 (one_yes c.with_one_star-pattern.result.now c.in-Some.more.now c.args.name.now c.in-Some-split_first-2.rest.now c.in-Some.first.now c.in-Some-split_first-2.byte.now c.in-Some.ensures.cases.0 ne c.in-Some-split_first-2.ensures.cases.0 (inr fits) (c.tried-2.ensures.whole h))

pub returns-clause-not : goal.returns-clause-not
returns-clause-not t c =
    let ne : c.in-Some.first.now ≢ 42 = λ e. absurd (omega (arith, e, c.if-first-eq42.false)) in
    λ h m. one_no c.with_one_star-pattern.result.now c.in-Some.more.now c.args.name.now c.in-Some-split_first-2.rest.now c.in-Some.first.now c.in-Some-split_first-2.byte.now c.in-Some.ensures.cases.0 ne c.in-Some-split_first-2.ensures.cases.0 (c.tried-2.ensures.not h) ((c.with_one_star-pattern.ensures.same c.args.name.now).1 m)

pub returns-clause-never : goal.returns-clause-never
returns-clause-never t c =
    let ne : c.in-Some.first.now ≢ 42 = λ e. absurd (omega (arith, e, c.if-first-eq42.false)) in
    λ h. (same_no_end c.with_one_star-pattern.result.now c.args.pattern.now c.args.name.now c.with_one_star-pattern.ensures.same (one_never c.with_one_star-pattern.result.now c.in-Some.more.now c.args.name.now c.in-Some-split_first-2.rest.now c.in-Some.first.now c.in-Some-split_first-2.byte.now c.in-Some.ensures.cases.0 ne c.in-Some-split_first-2.ensures.cases.0 (c.tried-2.ensures.never h)))
