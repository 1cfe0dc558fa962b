use Rattle.std.proofs.Common.{◌≡◌, drop}
use Rattle.std.specs.List.{list_all}
use Rattle.star_memo.specs.Outcomes.{is_marked}
use Rattle.star_memo.proofs.outcomes.are_marked.Given as goal

abbrev pub invariant-loop-n : goal.invariant-loop-n
invariant-loop-n l = list_all (is_marked l.marks) (drop l.n-index l.numbers) ≡ list_all (is_marked l.marks) l.numbers
