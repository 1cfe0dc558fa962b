use Rattle.std.proofs.Common.{◌≡◌, ◌-◌, drop, take}
use Rattle.star_meaning.specs.ListMethods.{equal_place, items_of}
use Rattle.star_meaning.specs.Values.{content}
use Rattle.star_method.proofs.lists.equal_between.Given as goal

-- the store stays, and what is left of the items decides as all of them
abbrev pub invariant-loop-at : goal.invariant-loop-at
invariant-loop-at l =
    let w = l.call.setting.now in
    let ys = items_of (content w l.fn.machine l.list) in
    let f = equal_place w l.call.levels l.call.line l.value in
    record {
      rest : f l.at (drop l.at (take l.to ys)) l.machine ≡ f l.from (drop l.from (take l.to ys)) l.fn.machine;
      store : l.machine.store ≡ l.fn.machine.store;
    }

abbrev pub decreases-loop-at : goal.decreases-loop-at
decreases-loop-at l = l.to - l.at
