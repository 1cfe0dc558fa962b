use Rattle.std.proofs.Common.{◌≡◌, true, false, ap, sym, ◌∙◌}
use Rattle.std.specs.Option.{is_some}
use Rattle.star_call.specs.Seen.{has, twice_after}
use Rattle.star_call.proofs.Seen.{drop_next, none_seen, one_seen, seen_before}
use Rattle.star_call.proofs.names.comes_twice.Goals as goal

pub loop-value-init : goal.loop-value-init
loop-value-init c = none_seen c.new-seen.result c.args.named.now c.new-seen.ensures.empty

pub returns-then-is_some : goal.returns-then-is_some
returns-then-is_some c =
    let more = drop_next c.args.named.now c.loop-value.value-index c.value-item.result c.loop-value-test.true c.value-item.is in
    let there : has c.loop-value.seen c.value-item.result.name ≡ true =
    ap (has c.loop-value.seen) (sym c.as_str.ensures) ∙ ap is_some (sym c.in_ok-insert.ensures.old) ∙ sym c.is_some.ensures ∙ c.if-is_some.true in
    sym (seen_before c.loop-value.seen c.value-item.result _ there) ∙ sym (ap (twice_after c.loop-value.seen) more) ∙ c.loop-value.invariant

pub loop-value-preserved : goal.loop-value-preserved
loop-value-preserved c =
    let more = drop_next c.args.named.now c.loop-value.value-index c.value-item.result c.loop-value-test.true c.value-item.is in
    let absent : has c.loop-value.seen c.as_str.result.now ≡ false = ap is_some (sym c.in_ok-insert.ensures.old) ∙ sym c.is_some.ensures ∙ c.if-is_some.false in
    sym (one_seen c.loop-value.seen c.insert.new.self c.as_str.result c.value-item.result _ c.as_str.ensures absent c.in_ok-insert.ensures.updates)
    ∙ sym (ap (twice_after c.loop-value.seen) more) ∙ c.loop-value.invariant
