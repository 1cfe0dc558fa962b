use Rattle.std.proofs.Common.{rules, ◌≡◌, ◌-◌, Some, None}
use Rattle.star_syntax.specs.Language.{reads}
use Rattle.star_syntax.specs.Expressions.{binary_of, round_at}
use Rattle.star_syntax.proofs.Rounds.{more_rounds, last_round, no_turns}
use Rattle.star_syntax.proofs.reader.Grammar.+climb.Goals as goal

pub returns-in_default-binary_operator : goal.returns-in_default-binary_operator
returns-in_default-binary_operator g t c =
    let none : reads c.args.self.now.depth (round_at (c.args.level - 1)) c.loop-turn.rest.now ≡ None = search rules in
    last_round binary_of (reads c.args.self.now.depth (round_at (c.args.level - 1))) _ _ _ c.loop-turn.invariant none

pub returns-in_default-2 : goal.returns-in_default-2
returns-in_default-2 g t c =
    let none : reads c.args.self.now.depth (round_at (c.args.level - 1)) c.loop-turn.rest.now ≡ None = search rules in
    last_round binary_of (reads c.args.self.now.depth (round_at (c.args.level - 1))) _ _ _ c.loop-turn.invariant none

pub loop-turn-preserved : goal.loop-turn-preserved
loop-turn-preserved g t c =
    let some : reads c.args.self.now.depth (round_at (c.args.level - 1)) c.loop-turn.rest.now ≡ Some ((c.in-Some-binary_operator.sign, c.in-Some-2.right), c.in-Some-2.after.now) = search rules in
    let e = more_rounds binary_of (reads c.args.self.now.depth (round_at (c.args.level - 1))) _ _ _ _ _ c.loop-turn-test.true c.loop-turn.invariant some in
    search rules

pub returns : goal.returns
returns g t c = no_turns binary_of (reads c.args.self.now.depth (round_at (c.args.level - 1))) _ _ _ _ c.loop-turn-test.false c.loop-turn.invariant
