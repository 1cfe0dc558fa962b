-- Actions that respect every invariant of runs: sets.
use Rattle.star_store.specs.declared.values.Value.{Value}
use Rattle.star_store.specs.declared.names.SetMethod.{SetMethod}
use Rattle.star_store.specs.declared.names.SetMethod.TheVariants as set_method
use Rattle.star_meaning.specs.declared.merge.Merge.{Merge}
use Rattle.star_meaning.specs.declared.merge.Merge.TheVariants as merge
use Rattle.star_meaning.specs.declared.merge.Relation.{Relation}
use Rattle.star_meaning.specs.Program.{Setting}
use Rattle.star_meaning.specs.declared.given.Arguments.{Arguments}
use Rattle.std.proofs.Common.{ℕ, List, Bool, true, false, Option, Some, None}
use Rattle.star_meaning.specs.Sets.{check_other, check_others, pay_elements, check_elements, take_elements, merge_new, put_element, put_back, reset, keep_only, write_merged, merge_into, augment_set, relate}
use Rattle.star_meaning.specs.SetMethods.{elements_of, call_set, call_add, take_element, call_out, call_first, call_merge, call_merge_into, call_merge_one, call_merge_one_into, call_relate, call_on_set}
use Rattle.star_meaning.proofs.Invariants.{Invariant, Respects, respects}
use Rattle.star_meaning.proofs.KeepsValues.{respects-with_content, respects-new_set, respects-count_of, respects-take_all, respects-check_key, respects-guard}
use Rattle.star_meaning.proofs.KeepsSubscript.{respects-put_entry}
use Rattle.star_meaning.proofs.KeepsArguments.{respects-positional, respects-only_one, respects-none_or_one, respects-no_value}
use Rattle.star_meaning.proofs.KeepsListMethods.{respects-call_clear}
use Rattle.star_meaning.proofs.KeepsDictMethods.{respects-with_entries_of}

pub respects-check_other : (w : Setting) {inv : Invariant w} (line : ℕ) (x : Value) → Respects inv (check_other w line x)
respects-check_other w line x = search (respects, respects-count_of) depth 14

pub respects-check_others : (w : Setting) {inv : Invariant w} (line : ℕ) (xs : List Value) → Respects inv (check_others w line xs)
respects-check_others w line xs = search (respects, respects-check_other) depth 14

pub respects-pay_elements : {w : Setting} {inv : Invariant w} → (line : ℕ) (a1 : Merge) (es : List (Value × Value)) → Respects inv (pay_elements line a1 es)
respects-pay_elements line merge.Union es = search respects depth 14
respects-pay_elements line _ es = search respects depth 14

pub respects-check_elements : (w : Setting) {inv : Invariant w} (levels : ℕ) (line : ℕ) (xs : List Value) (a4 : Bool) → Respects inv (check_elements w levels line xs a4)
respects-check_elements w levels line xs true = search respects depth 14
respects-check_elements w levels line xs false = search (respects, respects-check_key) depth 14

pub respects-take_elements : (w : Setting) {inv : Invariant w} (levels : ℕ) (line : ℕ) (x : Value) → Respects inv (take_elements w levels line x)
unfolding take_elements
respects-take_elements w levels line x = search (respects, respects-with_content, respects-take_all, respects-check_elements) depth 14

pub respects-merge_new : (w : Setting) {inv : Invariant w} (levels : ℕ) (line : ℕ) (m : Merge) (es : List (Value × Value)) (others : List Value) → Respects inv (merge_new w levels line m es others)
unfolding merge_new
respects-merge_new w levels line m es others = search (respects, respects-new_set, respects-check_others, respects-pay_elements, respects-take_elements) depth 14

pub respects-put_element : (w : Setting) {inv : Invariant w} (line : ℕ) (v : Value) (x : Value) → Respects inv (put_element w line v x)
respects-put_element w line v x = search (respects, respects-put_entry) depth 14

pub respects-put_back : (w : Setting) {inv : Invariant w} (line : ℕ) (v : Value) (e : Value × Value) → Respects inv (put_back w line v e)
respects-put_back w line v e = search respects depth 14

pub respects-reset : (w : Setting) {inv : Invariant w} (line : ℕ) (v : Value) (es : List (Value × Value)) → Respects inv (reset w line v es)
respects-reset w line v es = search (respects, respects-put_back) depth 14

pub respects-keep_only : (w : Setting) {inv : Invariant w} (line : ℕ) (v : Value) (a3 : Merge) (es : List (Value × Value)) → Respects inv (keep_only w line v a3 es)
respects-keep_only w line v merge.Union es = search respects depth 14
respects-keep_only w line v _ es = search (respects, respects-reset) depth 14

pub respects-write_merged : (w : Setting) {inv : Invariant w} (line : ℕ) (v : Value) (es : List (Value × Value)) (xs : List Value) (m : Merge) → Respects inv (write_merged w line v es xs m)
respects-write_merged w line v es xs m = search (respects, respects-put_element, respects-keep_only) depth 14

pub respects-merge_into : (w : Setting) {inv : Invariant w} (levels : ℕ) (line : ℕ) (m : Merge) (v : Value) (others : List Value) → Respects inv (merge_into w levels line m v others)
unfolding merge_into
respects-merge_into w levels line m v others = search (respects, respects-with_content, respects-guard, respects-check_others, respects-pay_elements, respects-take_elements, respects-write_merged) depth 14

pub respects-augment_set : (w : Setting) {inv : Invariant w} (levels : ℕ) (line : ℕ) (m : Merge) (x : Value) (y : Value) → Respects inv (augment_set w levels line m x y)
respects-augment_set w levels line m x y = search (respects, respects-with_content, respects-merge_into) depth 14

pub respects-relate : (w : Setting) {inv : Invariant w} (levels : ℕ) (line : ℕ) (r : Relation) (es : List (Value × Value)) (other : Value) → Respects inv (relate w levels line r es other)
unfolding relate
respects-relate w levels line r es other = search (respects, respects-check_other, respects-take_elements) depth 14

pub respects-elements_of : (w : Setting) {inv : Invariant w} (levels : ℕ) (line : ℕ) (a3 : Option Value) → Respects inv (elements_of w levels line a3)
respects-elements_of w levels line None = search respects depth 14
respects-elements_of w levels line (Some x) = search (respects, respects-take_elements) depth 14

pub respects-call_set : (w : Setting) {inv : Invariant w} (levels : ℕ) (line : ℕ) (g : Arguments) → Respects inv (call_set w levels line g)
respects-call_set w levels line g = search (respects, respects-new_set, respects-positional, respects-none_or_one, respects-elements_of) depth 14

pub respects-call_add : (w : Setting) {inv : Invariant w} (levels : ℕ) (line : ℕ) (v : Value) (g : Arguments) → Respects inv (call_add w levels line v g)
respects-call_add w levels line v g = search (respects, respects-check_key, respects-guard, respects-positional, respects-only_one, respects-put_element) depth 14

pub respects-take_element : (w : Setting) {inv : Invariant w} (line : ℕ) (v : Value) (x : Value) (absent : Option Value) (a5 : Option ℕ) → Respects inv (take_element w line v x absent a5)
respects-take_element w line v x absent (Some i) = search respects depth 14
respects-take_element w line v x absent None = search respects depth 14

pub respects-call_out : (w : Setting) {inv : Invariant w} (levels : ℕ) (line : ℕ) (absent : Option Value) (v : Value) (g : Arguments) → Respects inv (call_out w levels line absent v g)
respects-call_out w levels line absent v g = search (respects, respects-check_key, respects-guard, respects-positional, respects-only_one, respects-take_element) depth 14

pub respects-call_first : (w : Setting) {inv : Invariant w} (line : ℕ) (v : Value) (g : Arguments) → Respects inv (call_first w line v g)
respects-call_first w line v g = search (respects, respects-guard, respects-positional, respects-no_value, respects-with_entries_of) depth 14

pub respects-call_merge : (w : Setting) {inv : Invariant w} (levels : ℕ) (line : ℕ) (m : Merge) (v : Value) (g : Arguments) → Respects inv (call_merge w levels line m v g)
respects-call_merge w levels line m v g = search (respects, respects-positional, respects-with_entries_of, respects-merge_new) depth 14

pub respects-call_merge_into : (w : Setting) {inv : Invariant w} (levels : ℕ) (line : ℕ) (m : Merge) (v : Value) (g : Arguments) → Respects inv (call_merge_into w levels line m v g)
respects-call_merge_into w levels line m v g = search (respects, respects-positional, respects-merge_into) depth 14

pub respects-call_merge_one : (w : Setting) {inv : Invariant w} (levels : ℕ) (line : ℕ) (v : Value) (g : Arguments) → Respects inv (call_merge_one w levels line v g)
respects-call_merge_one w levels line v g = search (respects, respects-positional, respects-only_one, respects-with_entries_of, respects-merge_new) depth 14

pub respects-call_merge_one_into : (w : Setting) {inv : Invariant w} (levels : ℕ) (line : ℕ) (v : Value) (g : Arguments) → Respects inv (call_merge_one_into w levels line v g)
respects-call_merge_one_into w levels line v g = search (respects, respects-positional, respects-only_one, respects-merge_into) depth 14

pub respects-call_relate : (w : Setting) {inv : Invariant w} (levels : ℕ) (line : ℕ) (r : Relation) (v : Value) (g : Arguments) → Respects inv (call_relate w levels line r v g)
respects-call_relate w levels line r v g = search (respects, respects-positional, respects-only_one, respects-with_entries_of, respects-relate) depth 14

pub respects-call_on_set : (w : Setting) {inv : Invariant w} (levels : ℕ) (line : ℕ) (a3 : SetMethod) (v : Value) (g : Arguments) → Respects inv (call_on_set w levels line a3 v g)
unfolding call_on_set
respects-call_on_set w levels line set_method.Add v g = search (respects, respects-call_add) depth 14
respects-call_on_set w levels line set_method.Clear v g = search (respects, respects-call_clear) depth 14
respects-call_on_set w levels line set_method.Difference v g = search (respects, respects-call_merge) depth 14
respects-call_on_set w levels line set_method.DifferenceUpdate v g = search (respects, respects-call_merge_into) depth 14
respects-call_on_set w levels line set_method.Discard v g = search (respects, respects-call_out) depth 14
respects-call_on_set w levels line set_method.Intersection v g = search (respects, respects-call_merge) depth 14
respects-call_on_set w levels line set_method.IntersectionUpdate v g = search (respects, respects-call_merge_into) depth 14
respects-call_on_set w levels line set_method.Isdisjoint v g = search (respects, respects-call_relate) depth 14
respects-call_on_set w levels line set_method.Issubset v g = search (respects, respects-call_relate) depth 14
respects-call_on_set w levels line set_method.Issuperset v g = search (respects, respects-call_relate) depth 14
respects-call_on_set w levels line set_method.Pop v g = search (respects, respects-call_first) depth 14
respects-call_on_set w levels line set_method.Remove v g = search (respects, respects-call_out) depth 14
respects-call_on_set w levels line set_method.SymmetricDifference v g = search (respects, respects-call_merge_one) depth 14
respects-call_on_set w levels line set_method.SymmetricDifferenceUpdate v g = search (respects, respects-call_merge_one_into) depth 14
respects-call_on_set w levels line set_method.Union v g = search (respects, respects-call_merge) depth 14
respects-call_on_set w levels line set_method.Update v g = search (respects, respects-call_merge_into) depth 14
