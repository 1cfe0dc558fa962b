use Rattle.std.proofs.Common.{◌≡◌, ◌<◌, ◌≤◌, length, sym, arith}
use Rattle.star_meaning.specs.Spelling.{number_from}
use Rattle.star_attribute.proofs.Places.{place_beyond, place_whole}
use Rattle.star_attribute.proofs.fields.value_at.Goals as goal

pub returns-then-place-values : goal.returns-then-place-values
returns-then-place-values c =
    let h : c.loop-digit.digit-index < length c.args.digits.now = omega arith in
    place_beyond c.args.values.now c.loop-digit.place c.loop-digit.digit-index c.args.digits.now h c.loop-digit.invariant.rest (omega arith)

pub returns : goal.returns
returns c =
    let h : length c.args.digits.now ≤ c.loop-digit.digit-index = omega arith in
    let e : c.loop-digit.place ≡ number_from 0 c.args.digits.now = place_whole c.loop-digit.place c.loop-digit.digit-index c.args.digits.now h c.loop-digit.invariant.rest in
    rw (sym e) c.value_in.ensures
