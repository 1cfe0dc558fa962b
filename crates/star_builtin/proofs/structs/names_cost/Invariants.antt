use Rattle.std.proofs.Common.{◌≡◌, ◌≤◌, ◌+◌, ◌*◌, ◌^◌, drop}
use Rattle.star_meaning.specs.Structs.{names_cost}
use Rattle.star_builtin.proofs.structs.names_cost.Given as goal

abbrev pub invariant-loop-name : goal.invariant-loop-name
invariant-loop-name l = record {
  sum : l.cost + names_cost (drop l.name-index l.names) ≡ names_cost l.names;
  small : l.cost ≤ l.name-index * 2 ^ 64;
}
