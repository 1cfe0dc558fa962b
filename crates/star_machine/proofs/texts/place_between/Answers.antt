use Rattle.std.proofs.Common.{rules, Some, None}
use Rattle.star_machine.proofs.Windows.{empty_stands, found_in_part, past_all}
use Rattle.star_machine.proofs.texts.place_between.Goals as goal

pub returns-then-is_empty : goal.returns-then-is_empty
returns-then-is_empty c = empty_stands c.args.text.now c.args.part.now c.args.from c.args.to (search rules) (search rules)

pub returns-then-from-end : goal.returns-then-from-end
returns-then-from-end c = past_all c.args.text.now c.args.part.now c.args.from c.args.to (search rules) (search rules)

pub returns-in-Some : goal.returns-in-Some
returns-in-Some c = found_in_part c.args.text.now c.args.part.now c.args.from c.min-end.result (search rules) (search rules) c.args.to (Some c.in-Some.at) (search rules) (search rules) c.in-Some.ensures

pub returns-in-None : goal.returns-in-None
returns-in-None c = found_in_part c.args.text.now c.args.part.now c.args.from c.min-end.result (search rules) (search rules) c.args.to None (search rules) (search rules) c.in-None.ensures
