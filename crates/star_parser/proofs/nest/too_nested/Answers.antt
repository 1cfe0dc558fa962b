use Rattle.std.proofs.Common.{rules, ◌≡◌, ◌+◌, ◌-◌, ◌^◌, length, arith}
use Rattle.std.proofs.lemmas.List.{take_rest}
use Rattle.star_parser.specs.Nesting.{state, after_token, too_nested}
use Rattle.star_parser.proofs.Weights.{within-more, within-next, passed}
use Rattle.star_parser.proofs.nest.too_nested.Goals as goal

pub take-requires : goal.take-requires
take-requires c = within-more _ (2 ^ 63) (state c.loop-rest.nesting) (omega arith) c.loop-rest.invariant.1

pub loop-rest-preserved : goal.loop-rest-preserved
loop-rest-preserved c =
    let e : state c.take.new.self ≡ after_token c.of_kind.result (state c.loop-rest.nesting) = search rules in
    let rest = c.loop-rest.rest.now in
    let p = passed (too_nested c.args.tokens.now) (state c.loop-rest.nesting) (state c.take.new.self) c.of_kind.result _ rest (omega arith) c.loop-rest.invariant.0 c.of_kind.ensures e c.if-nesting-gt-MOST_WEIGHT.false in
    (rw (take_rest rest 1) p, within-next (length c.args.tokens.now) (length c.loop-rest.rest.now) _ c.of_kind.result (state c.loop-rest.nesting) (state c.take.new.self) e (omega arith) (omega arith) c.loop-rest.invariant.1, omega arith)
