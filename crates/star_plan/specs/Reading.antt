-- The result of reading a file: its text parsed, and its names and loads resolved.
use Rattle.std.specs.Prelude.{◌≡◌, ◌≢◌, ◌↔◌, ℕ, List, length, Option, Some, None, Result, Ok, Err}
use Rattle.star_label.specs.Files.{File, text_at}
use Rattle.star_lex.specs.declared.token.SyntaxFault.{SyntaxFault}
use Rattle.star_lex.specs.declared.token.SyntaxFault.TheVariants as syntax_fault
use Rattle.star_tree.specs.declared.tree.Statement.{Statement}
use Rattle.star_tree.specs.declared.tree.Tree.{Tree}
use Rattle.star_parser.specs.Sources.{Parses}
use Rattle.star_scope.specs.declared.error.ScopeFault.TheVariants as fault
use Rattle.star_scope.specs.declared.program.Prelude.{Prelude}
use Rattle.star_scope.specs.declared.program.Program.{Program}
use Rattle.star_scope.specs.Resolve.{Outside, Resolves, outside, prelude_names}
use Rattle.star_plan.specs.Plan.{Plan, Reading, OfText, OfNames, Sound, Faulty, read_of}
use Rattle.star_plan.specs.Reached.{IsReached}

-- the statements of a text that parses
abbrev pub statements_in : Result Tree SyntaxFault → Option (List Statement)
statements_in (Ok tree) = Some tree.statements
statements_in (Err e) = None

-- the prelude with the names of its block
abbrev pub IsPrelude : List File → Option ℕ → Option Prelude → Type 0
IsPrelude files None p = p ≡ None
IsPrelude files (Some n) p =
    (answer : Result Tree SyntaxFault) × Parses (text_at files n) answer × (answer ≢ Err syntax_fault.Memory)
    × (p ≡ Some (record { file = n; names = prelude_names (statements_in answer) }))

-- this is the reading of the file n, which sees this prelude or is it, in a language. Want of memory is not a reading
abbrev pub IsRead : List File → Outside → ℕ → Reading → Type 0
IsRead files outside n (Faulty (OfText e)) = Parses (text_at files n) (Err e) × (e ≢ syntax_fault.Memory)
IsRead files outside n (Faulty (OfNames e)) =
    (tree : Tree) × Parses (text_at files n) (Ok tree) × Resolves files n outside tree.statements (Err e)
    × (e ≢ fault.Memory)
IsRead files outside n (Sound ss loads) =
    (tree : Tree) × Parses (text_at files n) (Ok tree) × (tree.statements ≡ ss)
    × ((p : Program) × Resolves files n outside ss (Ok p) × (p.loads.items ≡ loads))

-- a plan has the readings of these files: of all that are reached, and of no others
pub record IsPlanOf (files : List File) (plan : Plan) : Type 0 where
  pub prelude : Option Prelude
  pub prelude_is : IsPrelude files plan.prelude prelude
  pub size : length plan.reads ≡ length files
  pub right : (n : ℕ) (r : Reading) → read_of plan n ≡ Some r → IsRead files (outside prelude plan.mode.language) n r
  pub reached : (n : ℕ) → IsReached plan n ↔ ((r : Reading) × (read_of plan n ≡ Some r))
