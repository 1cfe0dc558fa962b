use Rattle.std.proofs.Common.{◌≡◌, [], drop, map}
use Rattle.starload.specs.Options.{each_once}
use Rattle.starload.proofs.command.each_once.Given as goal

abbrev pub invariant-loop-word : goal.invariant-loop-word
invariant-loop-word l = each_once l.recorded (map (λ w. w.now) (drop l.word-index l.words)) ≡ each_once [] (map (λ w. w.now) l.words)
