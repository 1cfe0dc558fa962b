use Rattle.star_memo.specs.Parses.{AreKept}
use Rattle.star_memo.proofs.parses.Parses.trim.Given as goal

abbrev pub invariant-loop-n : goal.invariant-loop-n
invariant-loop-n l =
    (goal.iterator-loop-n).can_next l.n-iterator × (goal.iterator-loop-n).is_finite l.n-iterator
    × AreKept l.files l.self.all.items
