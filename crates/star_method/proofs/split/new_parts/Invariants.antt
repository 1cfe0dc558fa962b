use Rattle.std.proofs.Common.{◌≡◌, length}
use denote.Shadow.{shadow}
use denote.Text.{Utf8}
use Rattle.star_machine.specs.Refines.{with_front}
use Rattle.star_meaning.specs.Run.{each}
use Rattle.star_meaning.specs.Texts.{parts}
use Rattle.star_meaning.specs.Values.{new_text}
use Rattle.star_method.proofs.split.new_parts.Given as goal

abbrev pub invariant-loop-before : goal.invariant-loop-before
invariant-loop-before l = record {
  rest : with_front l.parts.items (each (new_text l.line) (parts l.rest l.by l.left) l.machine) ≡ each (new_text l.line) (parts l.text l.by l.fn.cuts) l.fn.machine;
  text : shadow (Utf8 l.rest);
}

abbrev pub decreases-loop-before : goal.decreases-loop-before
decreases-loop-before l = length l.rest
