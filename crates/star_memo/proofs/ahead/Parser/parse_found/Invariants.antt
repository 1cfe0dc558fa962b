use Rattle.star_memo.specs.Parses.{AreMade}
use Rattle.star_memo.proofs.ahead.Parser.parse_found.Given as goal

abbrev pub invariant-loop : goal.invariant-loop
invariant-loop g l =
    (goal.iterator-loop g).can_next l.iterator' × (goal.iterator-loop g).is_finite l.iterator' × AreMade l.self.files.now l.made.items
