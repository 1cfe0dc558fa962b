use Rattle.std.proofs.Common.{◌*◌, List, ℕ, length, take}
use Rattle.star_repo.specs.Parsed.{AreParsed, ArePartsParsed}
use Rattle.star_repo.proofs.Steps.{Fresh}
use Rattle.star_repo.proofs.parse.joined.Given as goal

abbrev pub invariant-loop-part : goal.invariant-loop-part
invariant-loop-part l = (files : List Fresh) (size : ℕ) → ArePartsParsed files size l.yielded → AreParsed (take (length l.yielded * size) files) l.parses.items
