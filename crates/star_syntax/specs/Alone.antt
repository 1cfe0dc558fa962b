-- The name, int or string alone between other tokens, which every level reads alike.
use Rattle.std.specs.Prelude.{◌≡◌, ◌<◌, ℕ, List, Option, Some, None, Result, Ok, Err}
use Rattle.std.specs.Borrow.{Bor}
use Rattle.std.specs.declared.alloc.AllocError.{AllocError}
use Rattle.star_syntax.specs.declared.leaf.ValuedToken.{ValuedToken}
use Rattle.star_syntax.specs.declared.level.Level.{Level}
use Rattle.star_tree.specs.declared.tree.Expression.{Expression}
use Rattle.star_syntax.specs.Grammar.{level, run}
use Rattle.star_syntax.specs.Language.{rule}

-- the value found is the one that each level reads, to any depth but 0
abbrev pub ReadAlone : List ValuedToken → Result (Option (Expression × Bor (List ValuedToken))) AllocError → Type 0
ReadAlone ts (Ok (Some p)) = (depth : ℕ) (l : Level) → 0 < depth → run rule depth (level l) ts ≡ Some (p.0, p.1.now)
ReadAlone ts (Ok None) = Unit {0}
ReadAlone ts (Err e) = Unit {0}
