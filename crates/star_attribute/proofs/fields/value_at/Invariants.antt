use Rattle.std.proofs.Common.{◌≡◌, ◌≤◌, drop, length}
use Rattle.star_meaning.specs.Spelling.{number_from}
use Rattle.star_attribute.proofs.fields.value_at.Given as goal

abbrev pub invariant-loop-digit : goal.invariant-loop-digit
invariant-loop-digit l = record {
  rest : number_from l.place (drop l.digit-index l.digits) ≡ number_from 0 l.digits;
  within : l.place ≤ length l.values;
}
