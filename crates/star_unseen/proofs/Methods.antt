-- Pairs of actions that do the same over two shelves: methods.
use Rattle.std.proofs.Common.{codes, ℕ, List, nat_eq, true, false}
use Rattle.std.specs.List.{starts_with, ends_with}
use Rattle.star_store.specs.declared.values.Value.{Value}
use Rattle.star_store.specs.declared.names.Method.{Method}
use Rattle.star_store.specs.declared.names.Method.TheVariants as method
use Rattle.star_meaning.specs.declared.fault.FaultCode.TheVariants as code
use Rattle.star_meaning.specs.declared.given.Arguments.{Arguments}
use Rattle.star_meaning.specs.Program.{Setting}
use Rattle.star_meaning.specs.Texts.{lower, upper}
use Rattle.star_meaning.specs.Methods.{on_text, call_method}
use Rattle.star_unseen.specs.Veil.{IsVisible}
use Rattle.star_unseen.specs.Shelves.{Veil, with_other}
use Rattle.star_unseen.proofs.Visible.{ArgumentsAreVisible}
use Rattle.star_unseen.proofs.Alike.{Alike, alike_fail, alike_then}
use Rattle.star_unseen.proofs.Values.{alike-want_text}
use Rattle.star_unseen.proofs.ListMethods.{alike-call_append, alike-call_clear, alike-call_extend, alike-call_index, alike-call_insert, alike-call_pop, alike-call_remove}
use Rattle.star_unseen.proofs.SetMethods.{alike-call_on_set}
use Rattle.star_unseen.proofs.DictMethods.{alike-call_get, alike-call_items, alike-call_keys, alike-call_values, alike-call_dict_pop, alike-call_popitem, alike-call_setdefault, alike-call_update}
use Rattle.star_unseen.proofs.TableMethods.{alike-call_in_table, alike-call_wider}
use Rattle.star_unseen.proofs.TextMethods.{alike-call_edge, alike-call_find, alike-call_join, alike-call_split, alike-call_strip, alike-call_case, alike-call_replace, alike-call_format}

pub alike-on_text : {w : Setting} (k : Veil w) (levels line : ℕ) (m : Method) (t : List ℕ) (g : Arguments) → ArgumentsAreVisible k.hides g → Alike k (IsVisible k.hides) (on_text w levels line m t g) (on_text (with_other k.other w) levels line m t g)
alike-on_text k levels line method.StringEndswith t g h = alike-call_wider k line (codes "endswith") t g _ _ h (alike-call_edge k line (ends_with nat_eq) t g h)
alike-on_text k levels line method.StringFind t g h = alike-call_find k line t g h
alike-on_text k levels line method.StringFormat t g h = alike-call_format k levels line t g h
alike-on_text k levels line method.StringJoin t g h = alike-call_join k line t g h
alike-on_text k levels line method.StringLower t g h = alike-call_case k line lower t g h
alike-on_text k levels line method.StringLstrip t g h = alike-call_strip k line true false t g h
alike-on_text k levels line method.StringReplace t g h = alike-call_replace k line t g h
alike-on_text k levels line method.StringRstrip t g h = alike-call_strip k line false true t g h
alike-on_text k levels line method.StringSplit t g h = alike-call_wider k line (codes "split") t g _ _ h (alike-call_split k line t g h)
alike-on_text k levels line method.StringStartswith t g h = alike-call_wider k line (codes "startswith") t g _ _ h (alike-call_edge k line (starts_with nat_eq) t g h)
alike-on_text k levels line method.StringStrip t g h = alike-call_strip k line true true t g h
alike-on_text k levels line method.StringUpper t g h = alike-call_case k line upper t g h
alike-on_text k levels line (method.OfString m) t g h = alike-call_in_table k line m t g h
alike-on_text k levels line _ t g h = alike_fail Value (IsVisible k.hides) code.BadType line

pub alike-call_method : {w : Setting} (k : Veil w) (levels line : ℕ) (m : Method) (x : Value) (g : Arguments) → IsVisible k.hides x → ArgumentsAreVisible k.hides g → Alike k (IsVisible k.hides) (call_method w levels line m x g) (call_method (with_other k.other w) levels line m x g)
unfolding call_method
alike-call_method k levels line method.ListAppend x g h l = alike-call_append k line x g h l
alike-call_method k levels line method.ListClear x g h l = alike-call_clear k line x g h l
alike-call_method k levels line method.ListExtend x g h l = alike-call_extend k line x g h l
alike-call_method k levels line method.ListIndex x g h l = alike-call_index k levels line x g h l
alike-call_method k levels line method.ListInsert x g h l = alike-call_insert k line x g h l
alike-call_method k levels line method.ListPop x g h l = alike-call_pop k line x g h l
alike-call_method k levels line method.ListRemove x g h l = alike-call_remove k levels line x g h l
alike-call_method k levels line method.DictClear x g h l = alike-call_clear k line x g h l
alike-call_method k levels line method.DictGet x g h l = alike-call_get k levels line x g h l
alike-call_method k levels line method.DictItems x g h l = alike-call_items k line x g h l
alike-call_method k levels line method.DictKeys x g h l = alike-call_keys k line x g h l
alike-call_method k levels line method.DictPop x g h l = alike-call_dict_pop k levels line x g h l
alike-call_method k levels line method.DictPopitem x g h l = alike-call_popitem k line x g h l
alike-call_method k levels line method.DictSetdefault x g h l = alike-call_setdefault k levels line x g h l
alike-call_method k levels line method.DictUpdate x g h l = alike-call_update k levels line x g h l
alike-call_method k levels line method.DictValues x g h l = alike-call_values k line x g h l
alike-call_method k levels line (method.OfSet m) x g h l = alike-call_on_set k levels line m x g h l
alike-call_method k levels line m x g h l = alike_then (alike-want_text k line x h) (λ t _. alike-on_text k levels line m t g l)
