-- Misplaced statements.
use Rattle.std.specs.Prelude.{Bool, true, false, List, [], ◌∷◌, ◌++◌, map}
use Rattle.star_tree.specs.declared.tree.Form.{Form}
use Rattle.star_tree.specs.declared.tree.Arm.{Arm}
use Rattle.star_tree.specs.declared.tree.Statement.{Statement}
use Rattle.star_tree.specs.declared.tree.Form.TheOpen as form
use Rattle.star_tree.specs.declared.tree.Form.TheFolds as form_folds
use Rattle.star_tree.specs.declared.tree.Position.{Position}
use Rattle.star_scope.specs.declared.error.ScopeFault.TheVariants as fault
use Rattle.star_scope.specs.declared.error.LocatedFault.{LocatedFault}
use Rattle.star_scope.specs.declared.placement.StatementContext.{StatementContext}
use Rattle.star_scope.specs.Faults.{at}

-- the misplaced statements of a part, by its surroundings
abbrev pub Misplaced : Type 0
Misplaced = StatementContext → List LocatedFault

abbrev pub each : List Misplaced → Misplaced
each [] here = []
each (s ∷ ss) here = s here ++ each ss here

-- statements of the file itself
abbrev pub of_file : StatementContext
of_file = record { in_file = true; in_function = false; in_loop = false }

-- statements of the prelude's own file, which may load nothing
abbrev pub of_prelude : StatementContext
of_prelude = record { in_file = false; in_function = false; in_loop = false }

-- inside an `if`, inside the body of a loop, and inside the body of a function, which starts outside of every loop
abbrev pub of_if : StatementContext → StatementContext
of_if here = record { in_file = false; in_function = here.in_function; in_loop = here.in_loop }

abbrev pub of_loop : StatementContext → StatementContext
of_loop here = record { in_file = false; in_function = here.in_function; in_loop = true }

abbrev pub of_function : StatementContext
of_function = record { in_file = false; in_function = true; in_loop = false }

-- a statement that is misplaced unless this is true
abbrev pub only : Bool → Position → List LocatedFault
only true p = []
only false p = at p (λ line. fault.BadPlace line) ∷ []

abbrev pub misplaced_by : {F A S : Type 0} → (List A → Misplaced) → (List S → Misplaced) → form.Form-F F A S → Position
    → Misplaced
misplaced_by arms block form.Break p here = only here.in_loop p
misplaced_by arms block form.Continue p here = only here.in_loop p
misplaced_by arms block (form.Return e) p here = only here.in_function p
misplaced_by arms block (form.Load l ns) p here = only here.in_file p
misplaced_by arms block (form.If cases otherwise) p here = arms cases (of_if here) ++ block otherwise (of_if here)
misplaced_by arms block (form.For t e body) p here = block body (of_loop here)
misplaced_by arms block (form.Def n ps body) p here = block body of_function
misplaced_by arms block _ p here = []

abbrev pub form_step : form.Form-F (Position → Misplaced) Misplaced Misplaced → Position → Misplaced
form_step l p here = misplaced_by each each l p here

abbrev pub arm_step : form.Arm-F (Position → Misplaced) Misplaced Misplaced → Misplaced
arm_step a = each a.body

abbrev pub statement_step : form.Statement-F (Position → Misplaced) Misplaced Misplaced → Misplaced
statement_step s = s.form s.position

abbrev pub in_statement : Statement → Misplaced
in_statement = form_folds.fold-Statement (Position → Misplaced) Misplaced Misplaced form_step arm_step statement_step

abbrev pub in_arm : Arm → Misplaced
in_arm = form_folds.fold-Arm (Position → Misplaced) Misplaced Misplaced form_step arm_step statement_step

abbrev pub in_form : Form → Position → Misplaced
in_form = form_folds.fold-Form (Position → Misplaced) Misplaced Misplaced form_step arm_step statement_step

-- the misplaced statements among statements and in arms, in some surroundings
abbrev pub in_statements : List Statement → Misplaced
in_statements ss = each (map in_statement ss)

abbrev pub in_arms : List Arm → Misplaced
in_arms arms = each (map in_arm arms)

-- the misplaced statements of a file
abbrev pub misplaced : List Statement → List LocatedFault
misplaced ss = in_statements ss of_file
