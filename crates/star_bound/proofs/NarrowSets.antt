-- Actions that keep frames narrow: sets.
use Rattle.star_store.specs.declared.values.Value.{Value}
use Rattle.star_store.specs.declared.names.SetMethod.{SetMethod}
use Rattle.star_store.specs.declared.names.SetMethod.TheVariants as set_method
use Rattle.star_meaning.specs.declared.merge.Merge.{Merge}
use Rattle.star_meaning.specs.declared.merge.Merge.TheVariants as merge
use Rattle.star_meaning.specs.declared.merge.Relation.{Relation}
use Rattle.star_meaning.specs.Program.{Setting}
use Rattle.star_meaning.specs.declared.given.Arguments.{Arguments}
use Rattle.std.proofs.Common.{ℕ, List, Bool, true, false, Option, Some, None}
use Rattle.star_meaning.specs.Sets.{check_other, check_others, pay_elements, check_elements, take_elements, merge_new, put_element, put_back, reset, keep_only, write_merged, merge_into, augment_set, relate}
use Rattle.star_meaning.specs.SetMethods.{elements_of, call_set, call_add, take_element, call_out, call_first, call_merge, call_merge_into, call_merge_one, call_merge_one_into, call_relate, call_on_set}
use Rattle.star_bound.proofs.Narrow.{narrow, Narrows}
use Rattle.star_bound.proofs.NarrowValues.{narrow-with_content, narrow-new_set, narrow-count_of, narrow-take_all, narrow-check_key, narrow-guard}
use Rattle.star_bound.proofs.NarrowSubscript.{narrow-put_entry}
use Rattle.star_bound.proofs.NarrowArguments.{narrow-positional, narrow-only_one, narrow-none_or_one, narrow-no_value}
use Rattle.star_bound.proofs.NarrowListMethods.{narrow-call_clear}
use Rattle.star_bound.proofs.NarrowDictMethods.{narrow-with_entries_of}

pub narrow-check_other : {most : ℕ} → (w : Setting) (line : ℕ) (x : Value) → Narrows most (check_other w line x)
narrow-check_other w line x = search (narrow, narrow-count_of) depth 14

pub narrow-check_others : {most : ℕ} → (w : Setting) (line : ℕ) (xs : List Value) → Narrows most (check_others w line xs)
narrow-check_others w line xs = search (narrow, narrow-check_other) depth 14

pub narrow-pay_elements : {most : ℕ} → (line : ℕ) (a1 : Merge) (es : List (Value × Value)) → Narrows most (pay_elements line a1 es)
narrow-pay_elements line merge.Union es = search narrow depth 14
narrow-pay_elements line _ es = search narrow depth 14

pub narrow-check_elements : {most : ℕ} → (w : Setting) (levels : ℕ) (line : ℕ) (xs : List Value) (a4 : Bool) → Narrows most (check_elements w levels line xs a4)
narrow-check_elements w levels line xs true = search narrow depth 14
narrow-check_elements w levels line xs false = search (narrow, narrow-check_key) depth 14

pub narrow-take_elements : {most : ℕ} → (w : Setting) (levels : ℕ) (line : ℕ) (x : Value) → Narrows most (take_elements w levels line x)
unfolding take_elements
narrow-take_elements w levels line x = search (narrow, narrow-with_content, narrow-take_all, narrow-check_elements) depth 14

pub narrow-merge_new : {most : ℕ} → (w : Setting) (levels : ℕ) (line : ℕ) (m : Merge) (es : List (Value × Value)) (others : List Value) → Narrows most (merge_new w levels line m es others)
unfolding merge_new
narrow-merge_new w levels line m es others = search (narrow, narrow-new_set, narrow-check_others, narrow-pay_elements, narrow-take_elements) depth 14

pub narrow-put_element : {most : ℕ} → (w : Setting) (line : ℕ) (v : Value) (x : Value) → Narrows most (put_element w line v x)
narrow-put_element w line v x = search (narrow, narrow-put_entry) depth 14

pub narrow-put_back : {most : ℕ} → (w : Setting) (line : ℕ) (v : Value) (e : Value × Value) → Narrows most (put_back w line v e)
narrow-put_back w line v e = search narrow depth 14

pub narrow-reset : {most : ℕ} → (w : Setting) (line : ℕ) (v : Value) (es : List (Value × Value)) → Narrows most (reset w line v es)
narrow-reset w line v es = search (narrow, narrow-put_back) depth 14

pub narrow-keep_only : {most : ℕ} → (w : Setting) (line : ℕ) (v : Value) (a3 : Merge) (es : List (Value × Value)) → Narrows most (keep_only w line v a3 es)
narrow-keep_only w line v merge.Union es = search narrow depth 14
narrow-keep_only w line v _ es = search (narrow, narrow-reset) depth 14

pub narrow-write_merged : {most : ℕ} → (w : Setting) (line : ℕ) (v : Value) (es : List (Value × Value)) (xs : List Value) (m : Merge) → Narrows most (write_merged w line v es xs m)
narrow-write_merged w line v es xs m = search (narrow, narrow-put_element, narrow-keep_only) depth 14

pub narrow-merge_into : {most : ℕ} → (w : Setting) (levels : ℕ) (line : ℕ) (m : Merge) (v : Value) (others : List Value) → Narrows most (merge_into w levels line m v others)
unfolding merge_into
narrow-merge_into w levels line m v others = search (narrow, narrow-with_content, narrow-guard, narrow-check_others, narrow-pay_elements, narrow-take_elements, narrow-write_merged) depth 14

pub narrow-augment_set : {most : ℕ} → (w : Setting) (levels : ℕ) (line : ℕ) (m : Merge) (x : Value) (y : Value) → Narrows most (augment_set w levels line m x y)
narrow-augment_set w levels line m x y = search (narrow, narrow-with_content, narrow-merge_into) depth 14

pub narrow-relate : {most : ℕ} → (w : Setting) (levels : ℕ) (line : ℕ) (r : Relation) (es : List (Value × Value)) (other : Value) → Narrows most (relate w levels line r es other)
unfolding relate
narrow-relate w levels line r es other = search (narrow, narrow-check_other, narrow-take_elements) depth 14

pub narrow-elements_of : {most : ℕ} → (w : Setting) (levels : ℕ) (line : ℕ) (a3 : Option Value) → Narrows most (elements_of w levels line a3)
narrow-elements_of w levels line None = search narrow depth 14
narrow-elements_of w levels line (Some x) = search (narrow, narrow-take_elements) depth 14

pub narrow-call_set : {most : ℕ} → (w : Setting) (levels : ℕ) (line : ℕ) (g : Arguments) → Narrows most (call_set w levels line g)
narrow-call_set w levels line g = search (narrow, narrow-new_set, narrow-positional, narrow-none_or_one, narrow-elements_of) depth 14

pub narrow-call_add : {most : ℕ} → (w : Setting) (levels : ℕ) (line : ℕ) (v : Value) (g : Arguments) → Narrows most (call_add w levels line v g)
narrow-call_add w levels line v g = search (narrow, narrow-check_key, narrow-guard, narrow-positional, narrow-only_one, narrow-put_element) depth 14

pub narrow-take_element : {most : ℕ} → (w : Setting) (line : ℕ) (v : Value) (x : Value) (absent : Option Value) (a5 : Option ℕ) → Narrows most (take_element w line v x absent a5)
narrow-take_element w line v x absent (Some i) = search narrow depth 14
narrow-take_element w line v x absent None = search narrow depth 14

pub narrow-call_out : {most : ℕ} → (w : Setting) (levels : ℕ) (line : ℕ) (absent : Option Value) (v : Value) (g : Arguments) → Narrows most (call_out w levels line absent v g)
narrow-call_out w levels line absent v g = search (narrow, narrow-check_key, narrow-guard, narrow-positional, narrow-only_one, narrow-take_element) depth 14

pub narrow-call_first : {most : ℕ} → (w : Setting) (line : ℕ) (v : Value) (g : Arguments) → Narrows most (call_first w line v g)
narrow-call_first w line v g = search (narrow, narrow-guard, narrow-positional, narrow-no_value, narrow-with_entries_of) depth 14

pub narrow-call_merge : {most : ℕ} → (w : Setting) (levels : ℕ) (line : ℕ) (m : Merge) (v : Value) (g : Arguments) → Narrows most (call_merge w levels line m v g)
narrow-call_merge w levels line m v g = search (narrow, narrow-positional, narrow-with_entries_of, narrow-merge_new) depth 14

pub narrow-call_merge_into : {most : ℕ} → (w : Setting) (levels : ℕ) (line : ℕ) (m : Merge) (v : Value) (g : Arguments) → Narrows most (call_merge_into w levels line m v g)
narrow-call_merge_into w levels line m v g = search (narrow, narrow-positional, narrow-merge_into) depth 14

pub narrow-call_merge_one : {most : ℕ} → (w : Setting) (levels : ℕ) (line : ℕ) (v : Value) (g : Arguments) → Narrows most (call_merge_one w levels line v g)
narrow-call_merge_one w levels line v g = search (narrow, narrow-positional, narrow-only_one, narrow-with_entries_of, narrow-merge_new) depth 14

pub narrow-call_merge_one_into : {most : ℕ} → (w : Setting) (levels : ℕ) (line : ℕ) (v : Value) (g : Arguments) → Narrows most (call_merge_one_into w levels line v g)
narrow-call_merge_one_into w levels line v g = search (narrow, narrow-positional, narrow-only_one, narrow-merge_into) depth 14

pub narrow-call_relate : {most : ℕ} → (w : Setting) (levels : ℕ) (line : ℕ) (r : Relation) (v : Value) (g : Arguments) → Narrows most (call_relate w levels line r v g)
narrow-call_relate w levels line r v g = search (narrow, narrow-positional, narrow-only_one, narrow-with_entries_of, narrow-relate) depth 14

pub narrow-call_on_set : {most : ℕ} → (w : Setting) (levels : ℕ) (line : ℕ) (a3 : SetMethod) (v : Value) (g : Arguments) → Narrows most (call_on_set w levels line a3 v g)
unfolding call_on_set
narrow-call_on_set w levels line set_method.Add v g = search (narrow, narrow-call_add) depth 14
narrow-call_on_set w levels line set_method.Clear v g = search (narrow, narrow-call_clear) depth 14
narrow-call_on_set w levels line set_method.Difference v g = search (narrow, narrow-call_merge) depth 14
narrow-call_on_set w levels line set_method.DifferenceUpdate v g = search (narrow, narrow-call_merge_into) depth 14
narrow-call_on_set w levels line set_method.Discard v g = search (narrow, narrow-call_out) depth 14
narrow-call_on_set w levels line set_method.Intersection v g = search (narrow, narrow-call_merge) depth 14
narrow-call_on_set w levels line set_method.IntersectionUpdate v g = search (narrow, narrow-call_merge_into) depth 14
narrow-call_on_set w levels line set_method.Isdisjoint v g = search (narrow, narrow-call_relate) depth 14
narrow-call_on_set w levels line set_method.Issubset v g = search (narrow, narrow-call_relate) depth 14
narrow-call_on_set w levels line set_method.Issuperset v g = search (narrow, narrow-call_relate) depth 14
narrow-call_on_set w levels line set_method.Pop v g = search (narrow, narrow-call_first) depth 14
narrow-call_on_set w levels line set_method.Remove v g = search (narrow, narrow-call_out) depth 14
narrow-call_on_set w levels line set_method.SymmetricDifference v g = search (narrow, narrow-call_merge_one) depth 14
narrow-call_on_set w levels line set_method.SymmetricDifferenceUpdate v g = search (narrow, narrow-call_merge_one_into) depth 14
narrow-call_on_set w levels line set_method.Union v g = search (narrow, narrow-call_merge) depth 14
narrow-call_on_set w levels line set_method.Update v g = search (narrow, narrow-call_merge_into) depth 14
