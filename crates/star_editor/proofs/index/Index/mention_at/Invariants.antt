use Rattle.std.proofs.Common.{Contains, IfSome}
use Rattle.star_editor.specs.Within.{Touches}
use Rattle.star_editor.proofs.index.Index.mention_at.Given as goal

abbrev pub invariant-loop-mention : goal.invariant-loop-mention
invariant-loop-mention l = record {
  there : IfSome l.touched (Contains l.self.mentions.items);
  touches : IfSome l.touched (λ m. Touches l.at m.span);
}
