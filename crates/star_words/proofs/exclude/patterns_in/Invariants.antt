use Rattle.std.proofs.Common.{◌≡◌, map, string_bytes, take}
use Rattle.star_words.proofs.Patterns.{kept}
use Rattle.star_words.proofs.exclude.patterns_in.Given as goal

abbrev pub invariant-loop-line : goal.invariant-loop-line
invariant-loop-line l = map string_bytes l.patterns.items ≡ kept (take l.line-index l.line-items)
