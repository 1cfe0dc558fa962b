use Rattle.std.proofs.Common.{◌≡◌, ◌++◌, replicate}
use Rattle.star_lex.proofs.lay.push_times.Given as goal

abbrev pub invariant-loop-turn : goal.invariant-loop-turn
invariant-loop-turn l = l.out.items ≡ l.fn.out.items ++ replicate l._turn l.token
