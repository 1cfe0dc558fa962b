use Rattle.std.proofs.Common.{◌≡◌, ◌<◌, ◌-◌, sym, subst, length, rules, arith}
use Rattle.std.specs.Str.{IsCharBoundary}
use Rattle.star_strings.proofs.Endings.{kept_boundary, next_boundary, line_is}
use Rattle.star_strings.proofs.lines.next_line.Goals as goal

pub range-requires-clause-end_boundary : goal.range-requires-clause-end_boundary
range-requires-clause-end_boundary c =
    let w = rw c.as_bytes.ensures.value at c.line_ends-end.ensures.within in
    let f = rw c.as_bytes.ensures.value at c.line_ends-end.ensures.end in
    let n = rw c.as_bytes.ensures.value at c.line_ends-end.ensures.next in
    subst (IsCharBoundary c.args.text.now) (sym c.kept_to.ensures) (kept_boundary c.args.keep c.args.text.now c.line_ends-end.result.0 c.line_ends-end.result.1 c.utf8.text w f n)

pub range_from-requires : goal.range_from-requires
range_from-requires c =
    let w = rw c.as_bytes.ensures.value at c.line_ends-end.ensures.within in
    let f = rw c.as_bytes.ensures.value at c.line_ends-end.ensures.end in
    let n = rw c.as_bytes.ensures.value at c.line_ends-end.ensures.next in
    λ p. subst (IsCharBoundary c.args.text.now) (sym n) (next_boundary c.args.text.now c.line_ends-end.result.0 c.utf8.text w f)

pub returns : goal.returns
returns c =
    let t = c.args.text.now in
    let l : 0 < length t = search rules in
    let w = rw c.as_bytes.ensures.value at c.line_ends-end.ensures.within in
    let i = rw c.as_bytes.ensures.value at c.line_ends-end.ensures.inside in
    let f = rw c.as_bytes.ensures.value at c.line_ends-end.ensures.end in
    let n = rw c.as_bytes.ensures.value at c.line_ends-end.ensures.next in
    let b = subst (IsCharBoundary t) (sym n) (next_boundary t c.line_ends-end.result.0 c.utf8.text w f) in
    let z : c.kept_to.result - 0 ≡ c.kept_to.result = omega arith in
    let r = line_is c.args.keep t c.line_ends-end.result.0 c.line_ends-end.result.1 c.kept_to.result l w i f n c.kept_to.ensures b.0 in
    rw (c.range.ensures.value, c.range_from.ensures.value, z) r
