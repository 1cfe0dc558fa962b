use Rattle.std.proofs.Common.{rules, arith, ◌≡◌, ◌++◌, ◌∷◌, [], sym, ◌∙◌, ap}
use Rattle.std.specs.Fmt.{decimal}
use Rattle.star_frames.specs.Frame.{length_line}
use Rattle.star_frames.proofs.frame.header_in.Goals as goal

pub returns-then-is_empty-clause-length : goal.returns-then-is_empty-clause-length
returns-then-is_empty-clause-length c n small e =
    grind (arith, c.without_return-line.ensures (length_line n) e, c.is_empty.ensures, c.if-is_empty.true)

pub returns-in_default-clause-length : goal.returns-in_default-clause-length
returns-in_default-clause-length c n small e =
    search (rules, c.length_value.ensures (32 ∷ decimal n) (c.without_return-line.ensures (length_line n) e))

pub returns-in_default-clause-end : goal.returns-in_default-clause-end
returns-in_default-clause-end c e =
    grind (arith, c.without_return-line.ensures [] e, c.is_empty.ensures, c.if-is_empty.false)

pub returns-in-Some-number_in-clause-length : goal.returns-in-Some-number_in-clause-length
returns-in-Some-number_in-clause-length c n small e =
    search (rules, c.in-Some-number_in.ensures n small (c.in-Some.ensures (32 ∷ decimal n) (c.without_return-line.ensures (length_line n) e)))

pub returns-in-Some-number_in-clause-end : goal.returns-in-Some-number_in-clause-end
returns-in-Some-number_in-clause-end c e =
    grind (arith, c.without_return-line.ensures [] e, c.is_empty.ensures, c.if-is_empty.false)

pub returns-in-None-clause-length : goal.returns-in-None-clause-length
returns-in-None-clause-length c n small e =
    search (rules, c.in-None.ensures n small (c.in-Some.ensures (32 ∷ decimal n) (c.without_return-line.ensures (length_line n) e)))

pub returns-in-None-clause-end : goal.returns-in-None-clause-end
returns-in-None-clause-end c e =
    grind (arith, c.without_return-line.ensures [] e, c.is_empty.ensures, c.if-is_empty.false)
