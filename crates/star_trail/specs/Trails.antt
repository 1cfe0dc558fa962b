-- The way out of a fault: the statements and calls that it has passed, the innermost first.
use Rattle.std.specs.Prelude.{◌≡◌, ◌++◌, [], ◌∷◌, Contains, List, None, Option, Some, ℕ}
use Rattle.star_meaning.specs.declared.story.Step.{Step}
use Rattle.star_meaning.specs.declared.story.Step.TheVariants as step
use Rattle.star_reading.specs.Readings.{Row, read_at}
use Rattle.star_reading.specs.declared.reading.Read.{Read}
use Rattle.star_reading.specs.declared.reading.Read.TheVariants as read
use Rattle.star_outline.specs.Syntax.{StatementForm, form_of, position_of}
use Rattle.star_tree.specs.declared.tree.Arm.{Arm, out-Arm}
use Rattle.star_tree.specs.declared.tree.Form.TheOpen as form
use Rattle.star_tree.specs.declared.tree.Statement.{Statement}

-- the statements of the bodies of arms
abbrev pub bodies : List Arm → List Statement
bodies [] = []
bodies (a ∷ arms) = (out-Arm a).body ++ bodies arms

abbrev pub within_form : StatementForm → List Statement
within_form (form.If arms otherwise) = bodies arms ++ otherwise
within_form (form.For t e body) = body
within_form (form.Def n ps body) = body
within_form _ = []

-- the statements directly within a statement
abbrev pub within : Statement → List Statement
within s = within_form (form_of s)

-- a statement of a file: at the outermost level, or directly within another statement
pub data IsStatementOf (own : List Statement) : Statement → Type 0 where
  outermost : {s : Statement} → Contains own s → IsStatementOf own s
  inner : {s t : Statement} → IsStatementOf own s → Contains (within s) t → IsStatementOf own t

-- a statement of a file begins on this line at this token
pub record Begins (own : List Statement) (line token : ℕ) : Type 0 where
  pub statement : Statement
  pub is_own : IsStatementOf own statement
  pub here : position_of statement ≡ record { line = line; token = token }

abbrev pub statements_read : Option Read → Option (List Statement)
statements_read (Some (read.Program p)) = Some p.statements.now
statements_read (Some (read.Fault f)) = None
statements_read None = None

-- the statements of a file that was read and has no static fault
abbrev pub statements_in : Row → ℕ → Option (List Statement)
statements_in row file = statements_read (read_at row file)

-- a step that is a statement is a statement of the file that it names
abbrev pub IsStep : Row → Step → Type 0
IsStep row (step.Statement file line token) =
    (own : List Statement) × (statements_in row file ≡ Some own) × Begins own line token
IsStep row (step.From file token) = Unit {0}
IsStep row (step.Call file number) = Unit {0}
