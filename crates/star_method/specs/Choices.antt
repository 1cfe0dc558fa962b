-- Methods of dictionaries that share one function of the code, by the choice that it is given.
use Rattle.std.specs.Prelude.{ℕ}
use Rattle.star_store.specs.declared.values.Value.{Value}
use Rattle.star_method.specs.declared.dicts.Keyed.{Keyed}
use Rattle.star_method.specs.declared.dicts.Keyed.TheVariants as keyed
use Rattle.star_method.specs.declared.dicts.Listed.{Listed}
use Rattle.star_method.specs.declared.dicts.Listed.TheVariants as listed
use Rattle.star_meaning.specs.Run.{Action}
use Rattle.star_meaning.specs.Program.{Setting}
use Rattle.star_meaning.specs.declared.given.Arguments.{Arguments}
use Rattle.star_meaning.specs.DictMethods.{call_dict_pop, call_items, call_keys, call_setdefault, call_values}

abbrev pub call_listed : Setting → ℕ → Listed → Value → Arguments → Action Value
call_listed w line listed.Items d g = call_items w line d g
call_listed w line listed.Keys d g = call_keys w line d g
call_listed w line listed.Values d g = call_values w line d g

abbrev pub call_keyed : Setting → ℕ → ℕ → Keyed → Value → Arguments → Action Value
call_keyed w levels line keyed.Pop d g = call_dict_pop w levels line d g
call_keyed w levels line keyed.SetDefault d g = call_setdefault w levels line d g
