use Rattle.std.proofs.Common.{◌≡◌, drop}
use Rattle.std.specs.List.{list_any}
use Rattle.star_strings.specs.Places.{stands_last}
use Rattle.star_strings.proofs.places.ends_with.Given as goal

abbrev pub invariant-loop-part : goal.invariant-loop-part
invariant-loop-part l = list_any (stands_last l.text l.from l.to) (drop l.part-index l.parts) ≡ list_any (stands_last l.text l.from l.to) l.parts
