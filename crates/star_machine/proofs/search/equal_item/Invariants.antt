use Rattle.std.proofs.Common.{◌≡◌, ◌≤◌, drop}
use Rattle.star_store.specs.declared.values.Value.{Value}
use Rattle.star_store.specs.Equal.{same}
use Rattle.star_store.specs.Store.{look}
use Rattle.star_machine.specs.Search.{first_place_where}
use Rattle.star_machine.proofs.search.equal_item.Given as goal

abbrev pub invariant-loop-item : goal.invariant-loop-item
invariant-loop-item l =
    let f = λ (y : Value). same (look l.arena l.homes) l.fn.budget.levels y l.value in
    record {
      rest : first_place_where f l.at (drop l.item-index l.items) l.budget.steps ≡ first_place_where f 0 l.items l.fn.budget.steps;
      less : l.budget.steps ≤ l.fn.budget.steps;
      levels : l.budget.levels ≡ l.fn.budget.levels;
      place : l.at ≡ l.item-index;
    }
