use Rattle.std.proofs.Common.{◌≡◌}
use Rattle.star_attribute.proofs.Once.{After}
use Rattle.star_attribute.proofs.attributes.put_name.Given as goal

abbrev pub invariant-loop-i : goal.invariant-loop-i
invariant-loop-i l = record {
  names : l.names.items ≡ l.fn.names.items;
  after : After l.name l.fn.names.items l.i;
}
