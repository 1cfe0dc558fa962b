-- Built-in functions that share one function of the code, by the choice that it is given.
use Rattle.std.specs.Prelude.{ℕ}
use Rattle.star_store.specs.declared.values.Value.{Value}
use Rattle.star_builtin.specs.declared.print.Form.{Form}
use Rattle.star_builtin.specs.declared.print.Form.TheVariants as form
use Rattle.star_builtin.specs.declared.rows.Row.{Row}
use Rattle.star_builtin.specs.declared.rows.Row.TheVariants as row
use Rattle.star_meaning.specs.Run.{Action}
use Rattle.star_meaning.specs.Program.{Setting}
use Rattle.star_meaning.specs.declared.given.Arguments.{Arguments}
use Rattle.star_meaning.specs.BuiltIns.{call_list, call_repr, call_str, call_tuple}

abbrev pub call_row : Setting → ℕ → Row → Arguments → Action Value
call_row w line row.List g = call_list w line g
call_row w line row.Tuple g = call_tuple w line g

abbrev pub call_text : Setting → ℕ → ℕ → Form → Arguments → Action Value
call_text w levels line form.Repr g = call_repr w levels line g
call_text w levels line form.Str g = call_str w levels line g
