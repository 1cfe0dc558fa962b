use Rattle.std.proofs.Common.{◌≡◌, drop, map}
use Rattle.std.specs.List.{list_all}
use Rattle.star_meaning.specs.Values.{content}
use Rattle.star_meaning.specs.Orders.{is_text}
use Rattle.star_builtin.proofs.sorted.are_texts.Given as goal

abbrev pub invariant-loop-value : goal.invariant-loop-value
invariant-loop-value l = let f = content l.setting l.machine in list_all is_text (map f (drop l.value-index l.values)) ≡ list_all is_text (map f l.values)
