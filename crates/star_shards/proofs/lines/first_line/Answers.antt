use Rattle.std.proofs.Common.{◌≡◌, ◌+◌, ◌<◌, [], ◌∷◌, length, drop, take, ap, sym, ◌∙◌, arith}
use Rattle.std.proofs.lemmas.Bool.Decides.{nat_tests}
use Rattle.std.proofs.lemmas.List.{nil_from_length, take_rest}
use Rattle.star_shards.specs.Lines.{lines}
use Rattle.star_shards.proofs.Splits.{lines_first, lines_last, lines_none}
use Rattle.star_shards.proofs.lines.first_line.Goals as goal

pub returns-in-Some-clause-line : goal.returns-in-Some-clause-line
returns-in-Some-clause-line c =
    let text = c.args.text.now in
    let end = c.in-Some.end in
    lines_first end text c.in-Some.ensures.0.high c.in-Some.ensures.0.before c.in-Some.ensures.1
    ∙ ap (λ w. take end text ∷ lines w) (sym (take_rest text (end + 1)))

pub returns-in-None-clause-line : goal.returns-in-None-clause-line
returns-in-None-clause-line c =
    let none : length c.args.text.now ≡ 0 = grind (arith, nat_tests, c.is_empty.ensures, c.if-is_empty.true) in
    ap lines (nil_from_length c.args.text.now none) ∙ lines_none

pub returns-in-None-2-clause-line : goal.returns-in-None-2-clause-line
returns-in-None-2-clause-line c =
    let text = c.args.text.now in
    let some : 0 < length text = grind (arith, nat_tests, c.is_empty.ensures, c.if-is_empty.false) in
    lines_last text some c.in-None-2.ensures ∙ ap (λ ls. text ∷ ls) (sym lines_none)
