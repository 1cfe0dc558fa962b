use Rattle.std.proofs.Common.{◌+◌, ◌-◌, length}
use Rattle.star_words.specs.Below.{IsWalked}
use Rattle.star_words.proofs.pattern.files_below.Given as goal

abbrev pub invariant-loop-path : goal.invariant-loop-path
invariant-loop-path g l = IsWalked l.top l.filter l.walk

-- each turn takes a folder, and puts back at most as many as it lists entries
abbrev pub decreases-loop-path : goal.decreases-loop-path
decreases-loop-path g l = (1000000 - l.walk.listed) + length l.walk.places.items
