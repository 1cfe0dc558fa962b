-- Actions that make no more than they pay: sets.
use Rattle.star_store.specs.declared.values.Value.{Value}
use Rattle.star_store.specs.declared.names.SetMethod.{SetMethod}
use Rattle.star_store.specs.declared.names.SetMethod.TheVariants as set_method
use Rattle.star_meaning.specs.declared.merge.Merge.{Merge}
use Rattle.star_meaning.specs.declared.merge.Merge.TheVariants as merge
use Rattle.star_meaning.specs.declared.merge.Relation.{Relation}
use Rattle.star_meaning.specs.Program.{Setting}
use Rattle.star_meaning.specs.declared.given.Arguments.{Arguments}
use Rattle.std.proofs.Common.{ℕ, List, Bool, true, false, Option, Some, None}
use Rattle.star_meaning.specs.Sets.{kept, added, check_other, check_others, pay_elements, check_elements, take_elements, merge_new, put_element, write_merged, merge_into, augment_set, relate}
use Rattle.star_meaning.specs.Run.{seeing}
use Rattle.star_meaning.specs.Subscript.{entries_in}
use Rattle.star_meaning.specs.Values.{with_content}
use Rattle.star_meaning.specs.SetMethods.{elements_of, call_set, call_add, take_element, call_out, call_first, call_merge, call_merge_into, call_merge_one, call_merge_one_into, call_relate, call_on_set}
use Rattle.star_bound.proofs.Within.{Bounded}
use Rattle.star_bound.proofs.Bounds.{bounded}
use Rattle.star_bound.proofs.Emptied.{write_within}
use Rattle.star_bound.proofs.BoundValues.{bounded-with_content, bounded-new_set, bounded-count_of, bounded-take_all, bounded-check_key, bounded-guard}
use Rattle.star_bound.proofs.BoundSubscript.{bounded-put_entry}
use Rattle.star_bound.proofs.BoundArguments.{bounded-positional, bounded-only_one, bounded-none_or_one, bounded-no_value}
use Rattle.star_bound.proofs.BoundListMethods.{bounded-call_clear}
use Rattle.star_bound.proofs.BoundDictMethods.{bounded-with_entries_of}

pub bounded-check_other : (w : Setting) (line : ℕ) (x : Value) → Bounded (check_other w line x)
bounded-check_other w line x = search (bounded, bounded-count_of) depth 14

pub bounded-check_others : (w : Setting) (line : ℕ) (xs : List Value) → Bounded (check_others w line xs)
bounded-check_others w line xs = search (bounded, bounded-check_other) depth 14

pub bounded-pay_elements : (line : ℕ) (a1 : Merge) (es : List (Value × Value)) → Bounded (pay_elements line a1 es)
bounded-pay_elements line merge.Union es = search bounded depth 14
bounded-pay_elements line _ es = search bounded depth 14

pub bounded-check_elements : (w : Setting) (levels : ℕ) (line : ℕ) (xs : List Value) (a4 : Bool) → Bounded (check_elements w levels line xs a4)
bounded-check_elements w levels line xs true = search bounded depth 14
bounded-check_elements w levels line xs false = search (bounded, bounded-check_key) depth 14

pub bounded-take_elements : (w : Setting) (levels : ℕ) (line : ℕ) (x : Value) → Bounded (take_elements w levels line x)
unfolding take_elements
bounded-take_elements w levels line x = search (bounded, bounded-with_content, bounded-take_all, bounded-check_elements) depth 14

pub bounded-merge_new : (w : Setting) (levels : ℕ) (line : ℕ) (m : Merge) (es : List (Value × Value)) (others : List Value) → Bounded (merge_new w levels line m es others)
unfolding merge_new
bounded-merge_new w levels line m es others = search (bounded, bounded-new_set, bounded-check_others, bounded-pay_elements, bounded-take_elements) depth 14

pub bounded-put_element : (w : Setting) (line : ℕ) (v : Value) (x : Value) → Bounded (put_element w line v x)
bounded-put_element w line v x = search (bounded, bounded-put_entry) depth 14

pub bounded-merge_into : (w : Setting) (levels : ℕ) (line : ℕ) (m : Merge) (v : Value) (others : List Value) → Bounded (merge_into w levels line m v others)
unfolding merge_into
bounded-merge_into w levels line m v others = search (bounded, bounded-with_content, bounded-guard, bounded-check_others, bounded-pay_elements, bounded-take_elements, written) depth 14
  where
    written : (xss : List (List Value)) → Bounded (with_content w v (λ c. seeing (λ s. write_merged w line v (kept w s m (entries_in c) xss) (added w s m (entries_in c) xss) m)))
    written xss = record { holds = λ s. write_within w line v m xss s (λ x. bounded-put_element w line v x) }

pub bounded-augment_set : (w : Setting) (levels : ℕ) (line : ℕ) (m : Merge) (x : Value) (y : Value) → Bounded (augment_set w levels line m x y)
bounded-augment_set w levels line m x y = search (bounded, bounded-with_content, bounded-merge_into) depth 14

pub bounded-relate : (w : Setting) (levels : ℕ) (line : ℕ) (r : Relation) (es : List (Value × Value)) (other : Value) → Bounded (relate w levels line r es other)
unfolding relate
bounded-relate w levels line r es other = search (bounded, bounded-check_other, bounded-take_elements) depth 14

pub bounded-elements_of : (w : Setting) (levels : ℕ) (line : ℕ) (a3 : Option Value) → Bounded (elements_of w levels line a3)
bounded-elements_of w levels line None = search bounded depth 14
bounded-elements_of w levels line (Some x) = search (bounded, bounded-take_elements) depth 14

pub bounded-call_set : (w : Setting) (levels : ℕ) (line : ℕ) (g : Arguments) → Bounded (call_set w levels line g)
bounded-call_set w levels line g = search (bounded, bounded-new_set, bounded-positional, bounded-none_or_one, bounded-elements_of) depth 14

pub bounded-call_add : (w : Setting) (levels : ℕ) (line : ℕ) (v : Value) (g : Arguments) → Bounded (call_add w levels line v g)
bounded-call_add w levels line v g = search (bounded, bounded-check_key, bounded-guard, bounded-positional, bounded-only_one, bounded-put_element) depth 14

pub bounded-take_element : (w : Setting) (line : ℕ) (v : Value) (x : Value) (absent : Option Value) (a5 : Option ℕ) → Bounded (take_element w line v x absent a5)
bounded-take_element w line v x absent (Some i) = search bounded depth 14
bounded-take_element w line v x absent None = search bounded depth 14

pub bounded-call_out : (w : Setting) (levels : ℕ) (line : ℕ) (absent : Option Value) (v : Value) (g : Arguments) → Bounded (call_out w levels line absent v g)
bounded-call_out w levels line absent v g = search (bounded, bounded-check_key, bounded-guard, bounded-positional, bounded-only_one, bounded-take_element) depth 14

pub bounded-call_first : (w : Setting) (line : ℕ) (v : Value) (g : Arguments) → Bounded (call_first w line v g)
bounded-call_first w line v g = search (bounded, bounded-guard, bounded-positional, bounded-no_value, bounded-with_entries_of) depth 14

pub bounded-call_merge : (w : Setting) (levels : ℕ) (line : ℕ) (m : Merge) (v : Value) (g : Arguments) → Bounded (call_merge w levels line m v g)
bounded-call_merge w levels line m v g = search (bounded, bounded-positional, bounded-with_entries_of, bounded-merge_new) depth 14

pub bounded-call_merge_into : (w : Setting) (levels : ℕ) (line : ℕ) (m : Merge) (v : Value) (g : Arguments) → Bounded (call_merge_into w levels line m v g)
bounded-call_merge_into w levels line m v g = search (bounded, bounded-positional, bounded-merge_into) depth 14

pub bounded-call_merge_one : (w : Setting) (levels : ℕ) (line : ℕ) (v : Value) (g : Arguments) → Bounded (call_merge_one w levels line v g)
bounded-call_merge_one w levels line v g = search (bounded, bounded-positional, bounded-only_one, bounded-with_entries_of, bounded-merge_new) depth 14

pub bounded-call_merge_one_into : (w : Setting) (levels : ℕ) (line : ℕ) (v : Value) (g : Arguments) → Bounded (call_merge_one_into w levels line v g)
bounded-call_merge_one_into w levels line v g = search (bounded, bounded-positional, bounded-only_one, bounded-merge_into) depth 14

pub bounded-call_relate : (w : Setting) (levels : ℕ) (line : ℕ) (r : Relation) (v : Value) (g : Arguments) → Bounded (call_relate w levels line r v g)
bounded-call_relate w levels line r v g = search (bounded, bounded-positional, bounded-only_one, bounded-with_entries_of, bounded-relate) depth 14

pub bounded-call_on_set : (w : Setting) (levels : ℕ) (line : ℕ) (a3 : SetMethod) (v : Value) (g : Arguments) → Bounded (call_on_set w levels line a3 v g)
unfolding call_on_set
bounded-call_on_set w levels line set_method.Add v g = search (bounded, bounded-call_add) depth 14
bounded-call_on_set w levels line set_method.Clear v g = search (bounded, bounded-call_clear) depth 14
bounded-call_on_set w levels line set_method.Difference v g = search (bounded, bounded-call_merge) depth 14
bounded-call_on_set w levels line set_method.DifferenceUpdate v g = search (bounded, bounded-call_merge_into) depth 14
bounded-call_on_set w levels line set_method.Discard v g = search (bounded, bounded-call_out) depth 14
bounded-call_on_set w levels line set_method.Intersection v g = search (bounded, bounded-call_merge) depth 14
bounded-call_on_set w levels line set_method.IntersectionUpdate v g = search (bounded, bounded-call_merge_into) depth 14
bounded-call_on_set w levels line set_method.Isdisjoint v g = search (bounded, bounded-call_relate) depth 14
bounded-call_on_set w levels line set_method.Issubset v g = search (bounded, bounded-call_relate) depth 14
bounded-call_on_set w levels line set_method.Issuperset v g = search (bounded, bounded-call_relate) depth 14
bounded-call_on_set w levels line set_method.Pop v g = search (bounded, bounded-call_first) depth 14
bounded-call_on_set w levels line set_method.Remove v g = search (bounded, bounded-call_out) depth 14
bounded-call_on_set w levels line set_method.SymmetricDifference v g = search (bounded, bounded-call_merge_one) depth 14
bounded-call_on_set w levels line set_method.SymmetricDifferenceUpdate v g = search (bounded, bounded-call_merge_one_into) depth 14
bounded-call_on_set w levels line set_method.Union v g = search (bounded, bounded-call_merge) depth 14
bounded-call_on_set w levels line set_method.Update v g = search (bounded, bounded-call_merge_into) depth 14
