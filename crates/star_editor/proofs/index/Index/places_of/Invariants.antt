use Rattle.std.proofs.Common.{All}
use Rattle.star_editor.specs.Within.{IsWithin}
use Rattle.star_editor.proofs.index.Index.places_of.Given as goal

abbrev pub invariant-loop-mention : goal.invariant-loop-mention
invariant-loop-mention l = All (IsWithin l.self.text) l.places.items
