-- Actions that respect every invariant of runs: methods.
use Rattle.star_store.specs.declared.values.Value.{Value}
use Rattle.star_store.specs.declared.names.Method.{Method}
use Rattle.star_store.specs.declared.names.Method.TheVariants as method
use Rattle.star_meaning.specs.Program.{Setting}
use Rattle.star_meaning.specs.declared.given.Arguments.{Arguments}
use Rattle.std.proofs.Common.{ℕ, List}
use Rattle.star_meaning.specs.Methods.{on_text, call_method}
use Rattle.star_meaning.proofs.Invariants.{Invariant, Respects, respects}
use Rattle.star_meaning.proofs.KeepsValues.{respects-want_text}
use Rattle.star_meaning.proofs.KeepsListMethods.{respects-call_append, respects-call_clear, respects-call_extend, respects-call_index, respects-call_insert, respects-call_pop, respects-call_remove}
use Rattle.star_meaning.proofs.KeepsDictMethods.{respects-call_get, respects-call_items, respects-call_keys, respects-call_values, respects-call_dict_pop, respects-call_popitem, respects-call_setdefault, respects-call_update}
use Rattle.star_meaning.proofs.KeepsSets.{respects-call_on_set}
use Rattle.star_meaning.proofs.KeepsTableMethods.{respects-call_in_table, respects-call_wider}
use Rattle.star_meaning.proofs.KeepsTextMethods.{respects-call_edge, respects-call_find, respects-call_join, respects-call_split, respects-call_strip, respects-call_case, respects-call_replace, respects-call_format}

pub respects-on_text : (w : Setting) {inv : Invariant w} (levels : ℕ) (line : ℕ) (a3 : Method) (t : List ℕ) (g : Arguments) → Respects inv (on_text w levels line a3 t g)
respects-on_text w levels line method.StringEndswith t g = respects-call_wider w line _ t g _ (search (respects, respects-call_edge) depth 14)
respects-on_text w levels line method.StringFind t g = search (respects, respects-call_find) depth 14
respects-on_text w levels line method.StringFormat t g = search (respects, respects-call_format) depth 14
respects-on_text w levels line method.StringJoin t g = search (respects, respects-call_join) depth 14
respects-on_text w levels line method.StringLower t g = search (respects, respects-call_case) depth 14
respects-on_text w levels line method.StringLstrip t g = search (respects, respects-call_strip) depth 14
respects-on_text w levels line method.StringReplace t g = search (respects, respects-call_replace) depth 14
respects-on_text w levels line method.StringRstrip t g = search (respects, respects-call_strip) depth 14
respects-on_text w levels line method.StringSplit t g = respects-call_wider w line _ t g _ (search (respects, respects-call_split) depth 14)
respects-on_text w levels line method.StringStartswith t g = respects-call_wider w line _ t g _ (search (respects, respects-call_edge) depth 14)
respects-on_text w levels line method.StringStrip t g = search (respects, respects-call_strip) depth 14
respects-on_text w levels line method.StringUpper t g = search (respects, respects-call_case) depth 14
respects-on_text w levels line (method.OfString m) t g = search (respects, respects-call_in_table) depth 14
respects-on_text w levels line _ t g = search respects depth 14

pub respects-call_method : (w : Setting) {inv : Invariant w} (levels : ℕ) (line : ℕ) (a3 : Method) (x : Value) (g : Arguments) → Respects inv (call_method w levels line a3 x g)
unfolding call_method
respects-call_method w levels line method.ListAppend x g = search (respects, respects-call_append) depth 14
respects-call_method w levels line method.ListClear x g = search (respects, respects-call_clear) depth 14
respects-call_method w levels line method.ListExtend x g = search (respects, respects-call_extend) depth 14
respects-call_method w levels line method.ListIndex x g = search (respects, respects-call_index) depth 14
respects-call_method w levels line method.ListInsert x g = search (respects, respects-call_insert) depth 14
respects-call_method w levels line method.ListPop x g = search (respects, respects-call_pop) depth 14
respects-call_method w levels line method.ListRemove x g = search (respects, respects-call_remove) depth 14
respects-call_method w levels line method.DictClear x g = search (respects, respects-call_clear) depth 14
respects-call_method w levels line method.DictGet x g = search (respects, respects-call_get) depth 14
respects-call_method w levels line method.DictItems x g = search (respects, respects-call_items) depth 14
respects-call_method w levels line method.DictKeys x g = search (respects, respects-call_keys) depth 14
respects-call_method w levels line method.DictPop x g = search (respects, respects-call_dict_pop) depth 14
respects-call_method w levels line method.DictPopitem x g = search (respects, respects-call_popitem) depth 14
respects-call_method w levels line method.DictSetdefault x g = search (respects, respects-call_setdefault) depth 14
respects-call_method w levels line method.DictUpdate x g = search (respects, respects-call_update) depth 14
respects-call_method w levels line method.DictValues x g = search (respects, respects-call_values) depth 14
respects-call_method w levels line (method.OfSet m) x g = search (respects, respects-call_on_set) depth 14
respects-call_method w levels line m x g = search (respects, respects-want_text, respects-on_text) depth 14
