use Rattle.std.proofs.Common.{ℕ, w64, rules}
use Rattle.std.proofs.lemmas.Int.{to_z-of_z}
use Rattle.star_meaning.specs.Subscript.{slice_range}
use Rattle.star_meaning.specs.Values.{content}
use Rattle.star_operators.proofs.Slicing.{sliced_list, sliced_range, sliced_tuple}
use Rattle.star_operators.proofs.slices.sliced.Goals as goal

pub returns-in_ok-items-in-Held-List : goal.returns-in_ok-items-in-Held-List
returns-in_ok-items-in-Held-List c =
    let h = rw (c.in-Held-List.is) at c.content.ensures in
    let k = rw (c.in-Held-List.field-0-is) at h in
    let d = rw (to_z-of_z w64 c.args.step c.ranges.step, c.as_slice.ensures) at c.in_ok-items-in-Held-List.ensures in
    rw (sliced_list c.args.line (content c.args.setting.now c.args.machine.now c.args.value) c.in-Held-List.items c.in_ok-items-in-Held-List.items (λ (n : ℕ). slice_range n c.args.start c.args.stop c.args.step) k d) c.new_list.ensures

pub returns-in_ok-items-in-Held-Tuple : goal.returns-in_ok-items-in-Held-Tuple
returns-in_ok-items-in-Held-Tuple c =
    let h = rw (c.in-Held-Tuple.is) at c.content.ensures in
    let k = rw (c.in-Held-Tuple.field-0-is) at h in
    let d = rw (to_z-of_z w64 c.args.step c.ranges.step, c.as_slice-in-Held-Tuple.ensures) at c.in_ok-items-in-Held-Tuple.ensures in
    rw (sliced_tuple c.args.line (content c.args.setting.now c.args.machine.now c.args.value) c.in-Held-Tuple.items c.in_ok-items-in-Held-Tuple.items (λ (n : ℕ). slice_range n c.args.start c.args.stop c.args.step) k d) c.new_tuple.ensures

pub returns-in-Held-Range : goal.returns-in-Held-Range
returns-in-Held-Range c =
    let h = rw (c.in-Held-Range.is) at c.content.ensures in
    let k = rw (c.in-Held-Range.field-0-is) at h in
    rw (sliced_range c.args.line (content c.args.setting.now c.args.machine.now c.args.value) c.in-Held-Range.range (λ (n : ℕ). slice_range n c.args.start c.args.stop c.args.step) k) (search rules)
