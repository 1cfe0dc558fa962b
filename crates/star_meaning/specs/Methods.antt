-- A call of each method.
use Rattle.std.specs.Prelude.{ℕ, nat_eq, true, false, List, codes}
use Rattle.std.specs.List.{starts_with, ends_with}
use Rattle.star_store.specs.declared.values.Value.{Value}
use Rattle.star_store.specs.declared.names.Method.{Method}
use Rattle.star_store.specs.declared.names.Method.TheVariants as method
use Rattle.star_meaning.specs.declared.fault.FaultCode.TheVariants as code
use Rattle.star_meaning.specs.Run.{Action, ◌>>=◌, fail}
use Rattle.star_meaning.specs.Program.{Setting}
use Rattle.star_meaning.specs.Values.{want_text}
use Rattle.star_meaning.specs.declared.given.Arguments.{Arguments}
use Rattle.star_meaning.specs.ListMethods.{call_append, call_clear, call_extend, call_index, call_insert, call_pop, call_remove}
use Rattle.star_meaning.specs.DictMethods.{call_get, call_items, call_keys, call_values, call_dict_pop, call_popitem, call_setdefault, call_update}
use Rattle.star_meaning.specs.SetMethods.{call_on_set}
use Rattle.star_meaning.specs.TextMethods.{call_edge, call_find, call_join, call_split, call_strip, call_case, call_replace, call_format}
use Rattle.star_meaning.specs.TableMethods.{call_in_table, call_wider}
use Rattle.star_meaning.specs.Texts.{lower, upper}

-- a call of a method of a string with these bytes, on the values given
abbrev pub on_text : Setting → ℕ → ℕ → Method → List ℕ → Arguments → Action Value
on_text w levels line method.StringEndswith t g = call_wider w line (codes "endswith") t g (call_edge w line (ends_with nat_eq) t g)
on_text w levels line method.StringFind t g = call_find w line t g
on_text w levels line method.StringFormat t g = call_format w levels line t g
on_text w levels line method.StringJoin t g = call_join w line t g
on_text w levels line method.StringLower t g = call_case line lower t g
on_text w levels line method.StringLstrip t g = call_strip w line true false t g
on_text w levels line method.StringReplace t g = call_replace w line t g
on_text w levels line method.StringRstrip t g = call_strip w line false true t g
on_text w levels line method.StringSplit t g = call_wider w line (codes "split") t g (call_split w line t g)
on_text w levels line method.StringStartswith t g = call_wider w line (codes "startswith") t g (call_edge w line (starts_with nat_eq) t g)
on_text w levels line method.StringStrip t g = call_strip w line true true t g
on_text w levels line method.StringUpper t g = call_case line upper t g
on_text w levels line (method.OfString m) t g = call_in_table w line m t g
on_text w levels line _ t g = fail code.BadType line

-- a call of a bound method, whose visits may open this many levels
unfoldable pub call_method : Setting → ℕ → ℕ → Method → Value → Arguments → Action Value
call_method w levels line method.ListAppend x g = call_append w line x g
call_method w levels line method.ListClear x g = call_clear w line x g
call_method w levels line method.ListExtend x g = call_extend w line x g
call_method w levels line method.ListIndex x g = call_index w levels line x g
call_method w levels line method.ListInsert x g = call_insert w line x g
call_method w levels line method.ListPop x g = call_pop w line x g
call_method w levels line method.ListRemove x g = call_remove w levels line x g
call_method w levels line method.DictClear x g = call_clear w line x g
call_method w levels line method.DictGet x g = call_get w levels line x g
call_method w levels line method.DictItems x g = call_items w line x g
call_method w levels line method.DictKeys x g = call_keys w line x g
call_method w levels line method.DictPop x g = call_dict_pop w levels line x g
call_method w levels line method.DictPopitem x g = call_popitem w line x g
call_method w levels line method.DictSetdefault x g = call_setdefault w levels line x g
call_method w levels line method.DictUpdate x g = call_update w levels line x g
call_method w levels line method.DictValues x g = call_values w line x g
call_method w levels line (method.OfSet m) x g = call_on_set w levels line m x g
call_method w levels line m x g = want_text w line x >>= λ t. on_text w levels line m t g
