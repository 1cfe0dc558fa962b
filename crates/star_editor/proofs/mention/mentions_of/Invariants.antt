use Rattle.std.proofs.Common.{All}
use Rattle.star_editor.specs.Within.{IsWithin}
use Rattle.star_editor.proofs.mention.mentions_of.Given as goal

abbrev pub invariant-loop-note : goal.invariant-loop-note
invariant-loop-note l = All (λ m. IsWithin l.text m.span) l.mentions.items
