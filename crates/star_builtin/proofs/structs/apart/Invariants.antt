use Rattle.std.proofs.Common.{◌≡◌, take}
use Rattle.star_store.specs.Fields.{names_of, values_of}
use Rattle.star_builtin.proofs.structs.apart.Given as goal

abbrev pub invariant-loop-field : goal.invariant-loop-field
invariant-loop-field l = record {
  names : l.names.items ≡ names_of (take l.field-index l.fields);
  values : l.values.items ≡ values_of (take l.field-index l.fields);
}
