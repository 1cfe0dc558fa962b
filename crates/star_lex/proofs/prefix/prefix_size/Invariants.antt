use Rattle.std.proofs.Common.{◌≡◌, ◌+◌, ◌-◌, ◌≤◌, length, drop}
use Rattle.std.specs.List.{prefix_len}
use Rattle.star_lex.specs.Values.{is_in}
use Rattle.star_lex.proofs.prefix.prefix_size.Given as goal

abbrev pub invariant-loop-size : goal.invariant-loop-size
invariant-loop-size l = record { whole : l.size + prefix_len (is_in l.class) (drop l.size l.text) ≡ prefix_len (is_in l.class) l.text; within : l.size ≤ length l.text }

abbrev pub decreases-loop-size : goal.decreases-loop-size
decreases-loop-size l = length l.text - l.size
