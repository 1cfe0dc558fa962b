-- The chain of the blocks around a part and the names outside of them, as the code has it.
use Rattle.std.specs.Prelude.{ℕ, ◌+◌, List, [], ◌∷◌, Option}
use Rattle.std.specs.Option.{option_map}
use denote.Ref.{Bor}
use Rattle.star_scope.specs.declared.chain.Link.{Link, File, Inside'}
use Rattle.star_dialect.specs.declared.Language.{Language}
use Rattle.star_outline.specs.Names.{Names}
use Rattle.star_scope.specs.Places.{Outer}

-- the numbers of blocks, the innermost first
abbrev pub numbers : Link → List ℕ
numbers File = 0 ∷ []
numbers (Inside' token p outer) = (1 + token) ∷ numbers outer

-- the names of the prelude's block
abbrev pub names_outside : Option (Bor Names) → Option Names
names_outside prelude = option_map (λ b. b.now) prelude

-- the names outside of a file, in a language
abbrev pub outer_shown : Option (Bor Names) → Bor Language → Outer
outer_shown prelude language = record { names = names_outside prelude; language = language.now }
