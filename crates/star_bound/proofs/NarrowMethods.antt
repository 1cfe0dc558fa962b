-- Actions that keep frames narrow: Methods.
use Rattle.star_store.specs.declared.values.Value.{Value}
use Rattle.star_store.specs.declared.names.Method.{Method}
use Rattle.star_store.specs.declared.names.Method.TheVariants as method
use Rattle.star_meaning.specs.Program.{Setting}
use Rattle.star_meaning.specs.declared.given.Arguments.{Arguments}
use Rattle.std.proofs.Common.{ℕ, List}
use Rattle.star_meaning.specs.Methods.{on_text, call_method}
use Rattle.star_bound.proofs.Narrow.{narrow, Narrows, VariablesNarrow, AllNarrow, narrow_make_frame}
use Rattle.star_bound.proofs.NarrowValues.{narrow-want_text}
use Rattle.star_bound.proofs.NarrowListMethods.{narrow-call_append, narrow-call_clear, narrow-call_extend, narrow-call_index, narrow-call_insert, narrow-call_pop, narrow-call_remove}
use Rattle.star_bound.proofs.NarrowSets.{narrow-call_on_set}
use Rattle.star_bound.proofs.NarrowDictMethods.{narrow-call_get, narrow-call_items, narrow-call_keys, narrow-call_values, narrow-call_dict_pop, narrow-call_popitem, narrow-call_setdefault, narrow-call_update}
use Rattle.star_bound.proofs.NarrowTableMethods.{narrow-call_in_table, narrow-call_wider}
use Rattle.star_bound.proofs.NarrowTextMethods.{narrow-call_edge, narrow-call_find, narrow-call_join, narrow-call_split, narrow-call_strip, narrow-call_case, narrow-call_replace, narrow-call_format}

pub narrow-on_text : {most : ℕ} → (w : Setting) (levels : ℕ) (line : ℕ) (a3 : Method) (t : List ℕ) (g : Arguments) → Narrows most (on_text w levels line a3 t g)
narrow-on_text w levels line method.StringEndswith t g = narrow-call_wider w line _ t g _ (search (narrow, narrow-call_edge) depth 14)
narrow-on_text w levels line method.StringFind t g = search (narrow, narrow-call_find) depth 14
narrow-on_text w levels line method.StringFormat t g = search (narrow, narrow-call_format) depth 14
narrow-on_text w levels line method.StringJoin t g = search (narrow, narrow-call_join) depth 14
narrow-on_text w levels line method.StringLower t g = search (narrow, narrow-call_case) depth 14
narrow-on_text w levels line method.StringLstrip t g = search (narrow, narrow-call_strip) depth 14
narrow-on_text w levels line method.StringReplace t g = search (narrow, narrow-call_replace) depth 14
narrow-on_text w levels line method.StringRstrip t g = search (narrow, narrow-call_strip) depth 14
narrow-on_text w levels line method.StringSplit t g = narrow-call_wider w line _ t g _ (search (narrow, narrow-call_split) depth 14)
narrow-on_text w levels line method.StringStartswith t g = narrow-call_wider w line _ t g _ (search (narrow, narrow-call_edge) depth 14)
narrow-on_text w levels line method.StringStrip t g = search (narrow, narrow-call_strip) depth 14
narrow-on_text w levels line method.StringUpper t g = search (narrow, narrow-call_case) depth 14
narrow-on_text w levels line (method.OfString m) t g = search (narrow, narrow-call_in_table) depth 14
narrow-on_text w levels line _ t g = search narrow depth 14

pub narrow-call_method : {most : ℕ} → (w : Setting) (levels : ℕ) (line : ℕ) (a3 : Method) (x : Value) (g : Arguments) → Narrows most (call_method w levels line a3 x g)
unfolding call_method
narrow-call_method w levels line method.ListAppend x g = search (narrow, narrow-call_append) depth 14
narrow-call_method w levels line method.ListClear x g = search (narrow, narrow-call_clear) depth 14
narrow-call_method w levels line method.ListExtend x g = search (narrow, narrow-call_extend) depth 14
narrow-call_method w levels line method.ListIndex x g = search (narrow, narrow-call_index) depth 14
narrow-call_method w levels line method.ListInsert x g = search (narrow, narrow-call_insert) depth 14
narrow-call_method w levels line method.ListPop x g = search (narrow, narrow-call_pop) depth 14
narrow-call_method w levels line method.ListRemove x g = search (narrow, narrow-call_remove) depth 14
narrow-call_method w levels line method.DictClear x g = search (narrow, narrow-call_clear) depth 14
narrow-call_method w levels line method.DictGet x g = search (narrow, narrow-call_get) depth 14
narrow-call_method w levels line method.DictItems x g = search (narrow, narrow-call_items) depth 14
narrow-call_method w levels line method.DictKeys x g = search (narrow, narrow-call_keys) depth 14
narrow-call_method w levels line method.DictPop x g = search (narrow, narrow-call_dict_pop) depth 14
narrow-call_method w levels line method.DictPopitem x g = search (narrow, narrow-call_popitem) depth 14
narrow-call_method w levels line method.DictSetdefault x g = search (narrow, narrow-call_setdefault) depth 14
narrow-call_method w levels line method.DictUpdate x g = search (narrow, narrow-call_update) depth 14
narrow-call_method w levels line method.DictValues x g = search (narrow, narrow-call_values) depth 14
narrow-call_method w levels line (method.OfSet m) x g = search (narrow, narrow-call_on_set) depth 14
narrow-call_method w levels line m x g = search (narrow, narrow-want_text, narrow-on_text) depth 14
