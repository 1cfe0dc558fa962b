-- The trail that a fault has left on its way out of the run of a file.
use Rattle.std.specs.Prelude.{◌≡◌, ℕ, List, [], ◌∷◌, Option, Some, None, IfSome, nat_eq, if◌then◌else◌}
use Rattle.star_meaning.specs.declared.story.Step.{Step}
use Rattle.star_meaning.specs.declared.story.Step.TheVariants.{Call, From, Statement}

-- the line of the innermost statement of a file
abbrev pub own_line : ℕ → List Step → Option ℕ
own_line home [] = None
own_line home (Statement file line token ∷ steps) = if nat_eq file home then Some line else own_line home steps
own_line home (From file token ∷ steps) = own_line home steps
own_line home (Call file number ∷ steps) = own_line home steps

-- The innermost statement of the file that ran, if there is one, has this line.
abbrev pub IsOfLine : ℕ → ℕ → List Step → Type 0
IsOfLine home line steps = IfSome (own_line home steps) (λ l. l ≡ line)
