use Rattle.std.proofs.Common.{◌≡◌, ◌++◌, drop}
use Rattle.star_method.specs.Ends.{bytes_each, each_after}
use Rattle.star_method.proofs.texts.push_each.Given as goal

abbrev pub invariant-loop-text : goal.invariant-loop-text
invariant-loop-text l =
    l.made ++ each_after l.by (bytes_each l.setting l.machine (drop l.text-index l.texts)) ≡ l.fn.made ++ each_after l.by (bytes_each l.setting l.machine l.texts)
