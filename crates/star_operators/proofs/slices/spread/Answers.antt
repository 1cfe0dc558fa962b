use Rattle.std.proofs.Common.{◌≡◌, ◌<◌, ◌∙◌, string_bytes, slice_get, arith}
use Rattle.star_store.specs.Range.{range_length}
use Rattle.star_operators.specs.Slices.{as_range}
use Rattle.star_operators.proofs.Slicing.{place, picked_next, spread_next, spread_cut}
use Rattle.star_operators.proofs.slices.spread.Goals as goal

pub loop-i-preserved : goal.loop-i-preserved
loop-i-preserved c =
    let r = as_range c.args.span in
    let h : c.loop-i.i < range_length r = omega arith in
    let p = rw c.if-not-branch.false at c.in_ok-push_ascii.ensures in
    let g : c.item_at.result ≡ slice_get c.args.text.now (place r c.loop-i.i) = rw (c.as_bytes.ensures.value, c.place.ensures) at c.item_at.ensures in
    record {
      rest = rw (p.0, g) (picked_next c.args.text.now (string_bytes c.loop-i.made) r (range_length r) c.loop-i.i h ∙ c.loop-i.invariant.rest);
      ascii = spread_next (string_bytes c.loop-i.made) (string_bytes c.push_ascii.new.made) c.item_at.result c.loop-i.invariant.ascii p.0 p.1;
    }

pub returns-then-not-branch : goal.returns-then-not-branch
returns-then-not-branch c =
    let r = as_range c.args.span in
    let h : c.loop-i.i < range_length r = omega arith in
    let q = rw c.if-not-branch.true at c.in_ok-push_ascii.ensures in
    let g : c.item_at.result ≡ slice_get c.args.text.now (place r c.loop-i.i) = rw (c.as_bytes.ensures.value, c.place.ensures) at c.item_at.ensures in
    spread_cut c.args.text.now (string_bytes c.loop-i.made) r (range_length r) c.loop-i.i h c.requires.step c.loop-i.invariant.rest (rw g at q)
