use Rattle.std.proofs.Common.{◌≡◌, length, map}
use Rattle.star_lex.specs.Tokens.{keyword_in}
use Rattle.star_lex.proofs.scan.keyword_in.Given as goal

abbrev pub invariant-loop-rows : goal.invariant-loop-rows
invariant-loop-rows l = keyword_in (map (λ r. (r.0.now, r.1)) l.rows) l.word ≡ keyword_in (map (λ r. (r.0.now, r.1)) l.initial.rows) l.word

abbrev pub decreases-loop-rows : goal.decreases-loop-rows
decreases-loop-rows l = length l.rows
