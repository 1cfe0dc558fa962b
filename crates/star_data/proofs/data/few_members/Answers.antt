use Rattle.std.proofs.Common.{arith, rules, ◌≡◌, ◌<◌, ◌-◌, ◌∙◌, Some, None, ap, drop, get_or, if◌then◌else◌, length, subst, sym, true}
use Rattle.std.specs.Option.{option_copied}
use Rattle.star_store.specs.declared.values.Value.TheVariants.{NoneValue}
use Rattle.star_data.specs.Stores.{look_in}
use Rattle.star_data.specs.Data.{cell_of, key_in}
use Rattle.star_data.specs.Rows.{IsRowOf, put_new}
use Rattle.star_data.proofs.Builds.{one_back}
use Rattle.star_data.proofs.Rows.{row_more}
use Rattle.star_data.proofs.data.few_members.Goals as goal

pub loop-i-preserved : goal.loop-i-preserved
loop-i-preserved c =
    let see = look_in c.args.stores.now in
    let es = c.args.entries.now in
    let i = c.loop-i.i - 1 in
    let e = get_or es i (NoneValue, NoneValue) in
    let less : i < length es = omega (arith, c.loop-i-test.true, c.loop-i.auto.i) in
    let text : key_in (cell_of see e.0) ≡ Some c.in-Some.key.now = sym c.text_at.ensures ∙ ap option_copied c.in-Some.is in
    let is_new : c.in_ok-put_new.field-0 ≡ true = search rules in
    let is : put_new c.loop-i.row.items c.in-Some.key e.1 ≡ Some c.put_new.new.row.items = sym c.in_ok-put_new.ensures ∙ ap (λ b. if b then Some c.put_new.new.row.items else None) is_new in
    row_more see (drop i es) (drop c.loop-i.i es) e c.in-Some.key c.loop-i.row.items c.put_new.new.row.items (one_back es c.loop-i.i (omega (arith, c.loop-i-test.true)) less) text c.loop-i.invariant is

pub returns : goal.returns
returns c =
    let see = look_in c.args.stores.now in
    let none_left : c.loop-i.i ≡ 0 = omega (arith, c.loop-i-test.false) in
    subst (λ k. IsRowOf see (drop k c.args.entries.now) c.loop-i.row.items) none_left c.loop-i.invariant
