-- Actions that respect every invariant of runs: the methods of dictionaries.
use Rattle.star_store.specs.declared.values.Value.{Value}
use Rattle.star_meaning.specs.Program.{Setting}
use Rattle.star_meaning.specs.declared.given.Arguments.{Arguments}
use Rattle.std.proofs.Common.{ℕ, List, Option, Some, None}
use Rattle.star_meaning.specs.Run.{Action}
use Rattle.star_meaning.specs.DictMethods.{with_entries_of, value_under, call_get, pair_up, call_items, call_keys, call_values, take_out, call_dict_pop, call_popitem, put_default, call_setdefault, call_update}
use Rattle.star_meaning.proofs.Invariants.{Invariant, Respects, respects}
use Rattle.star_meaning.proofs.KeepsValues.{respects-with_content, respects-new_tuple, respects-new_list, respects-check_key, respects-guard}
use Rattle.star_meaning.proofs.KeepsSubscript.{respects-put_entry}
use Rattle.star_meaning.proofs.KeepsArguments.{respects-positional, respects-none_or_one, respects-one_or_two, respects-no_value}
use Rattle.star_meaning.proofs.KeepsPairs.{respects-update_with}

pub respects-with_entries_of : {A : Type 0} → (w : Setting) {inv : Invariant w} (d : Value) (f : (List (Value × Value) → Action A)) → ((x0 : List (Value × Value)) → Respects inv (f x0)) → Respects inv (with_entries_of w d f)
respects-with_entries_of w d f k0 = search (respects, respects-with_content) depth 14

pub respects-value_under : (w : Setting) {inv : Invariant w} (d : Value) (k : Value) → Respects inv (value_under w d k)
respects-value_under w d k = search respects depth 14

pub respects-call_get : (w : Setting) {inv : Invariant w} (levels : ℕ) (line : ℕ) (d : Value) (g : Arguments) → Respects inv (call_get w levels line d g)
respects-call_get w levels line d g = search (respects, respects-check_key, respects-positional, respects-one_or_two, respects-value_under) depth 14

pub respects-pair_up : {w : Setting} {inv : Invariant w} → (line : ℕ) (e : Value × Value) → Respects inv (pair_up line e)
respects-pair_up line e = search (respects, respects-new_tuple) depth 14

pub respects-call_items : (w : Setting) {inv : Invariant w} (line : ℕ) (d : Value) (g : Arguments) → Respects inv (call_items w line d g)
respects-call_items w line d g = search (respects, respects-new_list, respects-positional, respects-no_value, respects-with_entries_of, respects-pair_up) depth 14

pub respects-call_keys : (w : Setting) {inv : Invariant w} (line : ℕ) (d : Value) (g : Arguments) → Respects inv (call_keys w line d g)
respects-call_keys w line d g = search (respects, respects-new_list, respects-positional, respects-no_value, respects-with_entries_of) depth 14

pub respects-call_values : (w : Setting) {inv : Invariant w} (line : ℕ) (d : Value) (g : Arguments) → Respects inv (call_values w line d g)
respects-call_values w line d g = search (respects, respects-new_list, respects-positional, respects-no_value, respects-with_entries_of) depth 14

pub respects-take_out : (w : Setting) {inv : Invariant w} (line : ℕ) (d : Value) (k : Value) (a4 : Option Value) (x : Option Value) → Respects inv (take_out w line d k a4 x)
respects-take_out w line d k (Some v) x = search respects depth 14
respects-take_out w line d k None x = search respects depth 14

pub respects-call_dict_pop : (w : Setting) {inv : Invariant w} (levels : ℕ) (line : ℕ) (d : Value) (g : Arguments) → Respects inv (call_dict_pop w levels line d g)
respects-call_dict_pop w levels line d g = search (respects, respects-check_key, respects-guard, respects-positional, respects-one_or_two, respects-value_under, respects-take_out) depth 14

pub respects-call_popitem : (w : Setting) {inv : Invariant w} (line : ℕ) (d : Value) (g : Arguments) → Respects inv (call_popitem w line d g)
respects-call_popitem w line d g = search (respects, respects-guard, respects-positional, respects-no_value, respects-with_entries_of, respects-pair_up) depth 14

pub respects-put_default : (w : Setting) {inv : Invariant w} (line : ℕ) (d : Value) (k : Value) (a4 : Option Value) (x : Option Value) → Respects inv (put_default w line d k a4 x)
respects-put_default w line d k (Some v) x = search respects depth 14
respects-put_default w line d k None x = search (respects, respects-put_entry) depth 14

pub respects-call_setdefault : (w : Setting) {inv : Invariant w} (levels : ℕ) (line : ℕ) (d : Value) (g : Arguments) → Respects inv (call_setdefault w levels line d g)
respects-call_setdefault w levels line d g = search (respects, respects-check_key, respects-guard, respects-positional, respects-one_or_two, respects-value_under, respects-put_default) depth 14

pub respects-call_update : (w : Setting) {inv : Invariant w} (levels : ℕ) (line : ℕ) (d : Value) (g : Arguments) → Respects inv (call_update w levels line d g)
respects-call_update w levels line d g = search (respects, respects-guard, respects-none_or_one, respects-update_with) depth 14
