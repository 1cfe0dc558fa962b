use Rattle.std.proofs.Common.{◌≡◌, ◌<◌, ◌≤◌, true, false, get_or, length, ap, sym, ◌∙◌, arith}
use Rattle.star_shards.specs.Entries.{label_front, status_front}
use Rattle.star_shards.specs.Places.{end_from, ends, front_end, separates, start}
use Rattle.star_shards.proofs.Steps.{end_here, end_kept, end_past, key_found, key_kept, key_noted}
use Rattle.star_shards.proofs.members.look.Goals as goal
use Rattle.star_shards.proofs.members.look.Goals.{then-separates, else-separates}

pub returns-then-ends-clause-end : goal.returns-then-ends-clause-end
returns-then-ends-clause-end c =
    let lt : c.loop-i.i < length c.args.bytes.now = omega arith in
    sym c.loop-i.invariant.end ∙ end_here c.loop-i.place c.loop-i.i c.args.bytes.now lt (sym c.ends.ensures ∙ c.if-ends.true)

pub returns-then-ends-clause-label : goal.returns-then-ends-clause-label
returns-then-ends-clause-label c =
    let lt : c.loop-i.i < length c.args.bytes.now = omega arith in
    key_found label_front c.loop-i.place c.loop-i.i c.args.bytes.now c.loop-i.keys.label (front_end label_front c.args.bytes.now) lt (sym c.ends.ensures ∙ c.if-ends.true) c.loop-i.invariant.label

pub returns-then-ends-clause-status : goal.returns-then-ends-clause-status
returns-then-ends-clause-status c =
    let lt : c.loop-i.i < length c.args.bytes.now = omega arith in
    key_found status_front c.loop-i.place c.loop-i.i c.args.bytes.now c.loop-i.keys.status (front_end status_front c.args.bytes.now) lt (sym c.ends.ensures ∙ c.if-ends.true) c.loop-i.invariant.status

pub loop-i-preserved : goal.loop-i-preserved
loop-i-preserved c =
    let p = c.loop-i.place in
    let q = c.after-place.result in
    let i = c.loop-i.i in
    let xs = c.args.bytes.now in
    let lt : i < length xs = omega arith in
    let off : ends p (get_or xs i 0) ≡ false = sym c.ends.ensures ∙ c.if-ends.false in
    let is = c.after-place.ensures.after in
    let deep = c.after-place.ensures.depth in
    elim c.if-separates.branch [
      | then-separates w ↦ (let comma : separates p (get_or xs i 0) ≡ true = sym c.separates.ensures ∙ w.if-separates.true in record {
        depth = omega (arith, deep, c.loop-i.invariant.depth);
        end = end_kept p q i xs (end_from start 0 xs) lt off is c.loop-i.invariant.end;
        label = key_noted label_front p q i xs c.loop-i.keys.label c.if-separates.keys.label (front_end label_front xs) lt off comma is (ap (λ k. k.label) w.keys-is ∙ w.noted-keys-then-separates.ensures.label) c.loop-i.invariant.label;
        status = key_noted status_front p q i xs c.loop-i.keys.status c.if-separates.keys.status (front_end status_front xs) lt off comma is (ap (λ k. k.status) w.keys-is ∙ w.noted-keys-then-separates.ensures.status) c.loop-i.invariant.status;
      })
      | else-separates w ↦ (let other : separates p (get_or xs i 0) ≡ false = sym c.separates.ensures ∙ w.if-separates.false in record {
        depth = omega (arith, deep, c.loop-i.invariant.depth);
        end = end_kept p q i xs (end_from start 0 xs) lt off is c.loop-i.invariant.end;
        label = key_kept label_front p q i xs c.loop-i.keys.label c.if-separates.keys.label (front_end label_front xs) lt off other is (ap (λ k. k.label) w.keys-is) c.loop-i.invariant.label;
        status = key_kept status_front p q i xs c.loop-i.keys.status c.if-separates.keys.status (front_end status_front xs) lt off other is (ap (λ k. k.status) w.keys-is) c.loop-i.invariant.status;
      })
    ]

pub returns-clause-none : goal.returns-clause-none
returns-clause-none c =
    let le : length c.args.bytes.now ≤ c.loop-i.i = omega arith in
    λ _. sym c.loop-i.invariant.end ∙ end_past c.loop-i.place c.loop-i.i c.args.bytes.now le
