use Rattle.std.proofs.Common.{◌≡◌, length}
use Rattle.star_sound.proofs.sound.Waits.new.Given as goal

abbrev pub invariant-loop : goal.invariant-loop
invariant-loop l = length l.waiting.items ≡ l.counter
