-- Actions that make no more than they pay: Methods.
use Rattle.star_store.specs.declared.values.Value.{Value}
use Rattle.star_store.specs.declared.names.Method.{Method}
use Rattle.star_store.specs.declared.names.Method.TheVariants as method
use Rattle.star_meaning.specs.Program.{Setting}
use Rattle.star_meaning.specs.declared.given.Arguments.{Arguments}
use Rattle.std.proofs.Common.{ℕ, List}
use Rattle.star_meaning.specs.Methods.{on_text, call_method}
use Rattle.star_bound.proofs.Within.{Bounded, Credited}
use Rattle.star_bound.proofs.Bounds.{bounded, VariablesBounded, AllBounded, Spares, bounded_spared, credited_seeing, credited_make_frame}
use Rattle.star_bound.proofs.BoundValues.{bounded-want_text}
use Rattle.star_bound.proofs.BoundListMethods.{bounded-call_append, bounded-call_clear, bounded-call_extend, bounded-call_index, bounded-call_insert, bounded-call_pop, bounded-call_remove}
use Rattle.star_bound.proofs.BoundSets.{bounded-call_on_set}
use Rattle.star_bound.proofs.BoundDictMethods.{bounded-call_get, bounded-call_items, bounded-call_keys, bounded-call_values, bounded-call_dict_pop, bounded-call_popitem, bounded-call_setdefault, bounded-call_update}
use Rattle.star_bound.proofs.BoundTableMethods.{bounded-call_in_table, bounded-call_wider}
use Rattle.star_bound.proofs.BoundTextMethods.{bounded-call_edge, bounded-call_find, bounded-call_join, bounded-call_split, bounded-call_strip, bounded-call_case, bounded-call_replace, bounded-call_format}

pub bounded-on_text : (w : Setting) (levels : ℕ) (line : ℕ) (a3 : Method) (t : List ℕ) (g : Arguments) → Bounded (on_text w levels line a3 t g)
bounded-on_text w levels line method.StringEndswith t g = bounded-call_wider w line _ t g _ (search (bounded, bounded-call_edge) depth 14)
bounded-on_text w levels line method.StringFind t g = search (bounded, bounded-call_find) depth 14
bounded-on_text w levels line method.StringFormat t g = search (bounded, bounded-call_format) depth 14
bounded-on_text w levels line method.StringJoin t g = search (bounded, bounded-call_join) depth 14
bounded-on_text w levels line method.StringLower t g = search (bounded, bounded-call_case) depth 14
bounded-on_text w levels line method.StringLstrip t g = search (bounded, bounded-call_strip) depth 14
bounded-on_text w levels line method.StringReplace t g = search (bounded, bounded-call_replace) depth 14
bounded-on_text w levels line method.StringRstrip t g = search (bounded, bounded-call_strip) depth 14
bounded-on_text w levels line method.StringSplit t g = bounded-call_wider w line _ t g _ (search (bounded, bounded-call_split) depth 14)
bounded-on_text w levels line method.StringStartswith t g = bounded-call_wider w line _ t g _ (search (bounded, bounded-call_edge) depth 14)
bounded-on_text w levels line method.StringStrip t g = search (bounded, bounded-call_strip) depth 14
bounded-on_text w levels line method.StringUpper t g = search (bounded, bounded-call_case) depth 14
bounded-on_text w levels line (method.OfString m) t g = search (bounded, bounded-call_in_table) depth 14
bounded-on_text w levels line _ t g = search bounded depth 14

pub bounded-call_method : (w : Setting) (levels : ℕ) (line : ℕ) (a3 : Method) (x : Value) (g : Arguments) → Bounded (call_method w levels line a3 x g)
unfolding call_method
bounded-call_method w levels line method.ListAppend x g = search (bounded, bounded-call_append) depth 14
bounded-call_method w levels line method.ListClear x g = search (bounded, bounded-call_clear) depth 14
bounded-call_method w levels line method.ListExtend x g = search (bounded, bounded-call_extend) depth 14
bounded-call_method w levels line method.ListIndex x g = search (bounded, bounded-call_index) depth 14
bounded-call_method w levels line method.ListInsert x g = search (bounded, bounded-call_insert) depth 14
bounded-call_method w levels line method.ListPop x g = search (bounded, bounded-call_pop) depth 14
bounded-call_method w levels line method.ListRemove x g = search (bounded, bounded-call_remove) depth 14
bounded-call_method w levels line method.DictClear x g = search (bounded, bounded-call_clear) depth 14
bounded-call_method w levels line method.DictGet x g = search (bounded, bounded-call_get) depth 14
bounded-call_method w levels line method.DictItems x g = search (bounded, bounded-call_items) depth 14
bounded-call_method w levels line method.DictKeys x g = search (bounded, bounded-call_keys) depth 14
bounded-call_method w levels line method.DictPop x g = search (bounded, bounded-call_dict_pop) depth 14
bounded-call_method w levels line method.DictPopitem x g = search (bounded, bounded-call_popitem) depth 14
bounded-call_method w levels line method.DictSetdefault x g = search (bounded, bounded-call_setdefault) depth 14
bounded-call_method w levels line method.DictUpdate x g = search (bounded, bounded-call_update) depth 14
bounded-call_method w levels line method.DictValues x g = search (bounded, bounded-call_values) depth 14
bounded-call_method w levels line (method.OfSet m) x g = search (bounded, bounded-call_on_set) depth 14
bounded-call_method w levels line m x g = search (bounded, bounded-want_text, bounded-on_text) depth 14
