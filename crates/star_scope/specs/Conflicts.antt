-- Names that are bound more than once though one of the bindings must be the only one.
use Rattle.std.specs.Prelude.{ℕ, Bool, true, false, ◌&&◌, ◌||◌, List, [], ◌∷◌, ◌++◌, map, if◌then◌else◌}
use Rattle.std.specs.List.{flat_map, list_any}
use Rattle.star_tree.specs.declared.tree.Name.{Name}
use Rattle.star_tree.specs.declared.tree.Position.{Position}
use Rattle.star_tree.specs.declared.tree.Parameter.{Parameter, out-Parameter}
use Rattle.star_tree.specs.declared.tree.Target.{Target}
use Rattle.star_tree.specs.declared.tree.Argument.{Argument}
use Rattle.star_tree.specs.declared.tree.Clause.{Clause}
use Rattle.star_tree.specs.declared.tree.Clauses.{Clauses}
use Rattle.star_tree.specs.declared.tree.Entry.{Entry}
use Rattle.star_tree.specs.declared.tree.Expression.{Expression}
use Rattle.star_tree.specs.declared.tree.Argument.TheOpen as tree
use Rattle.star_tree.specs.declared.tree.Argument.TheFolds as folds
use Rattle.star_tree.specs.declared.tree.Form.{Form}
use Rattle.star_tree.specs.declared.tree.Arm.{Arm}
use Rattle.star_tree.specs.declared.tree.Statement.{Statement}
use Rattle.star_tree.specs.declared.tree.Form.TheOpen as form
use Rattle.star_tree.specs.declared.tree.Form.TheFolds as form_folds
use Rattle.star_tree.specs.declared.tree.LoadedName.{LoadedName}
use Rattle.star_scope.specs.declared.error.ScopeFault.TheVariants as fault
use Rattle.star_scope.specs.declared.error.LocatedFault.{LocatedFault}
use Rattle.star_scope.specs.Faults.{at}
use Rattle.star_outline.specs.Names.{same_name}

-- a binding of a name; it is alone if the name may have no other: the name of a parameter, or a loaded name
pub record Binding : Type 0 where
  pub text : List ℕ
  pub position : Position
  pub alone : Bool

-- an earlier binding has the name, and it or this one is alone
abbrev pub clashes : List Binding → Binding → Bool
clashes earlier b = list_any (λ e. same_name b.text e.text && (b.alone || e.alone)) earlier

abbrev pub conflict_at : Bool → Position → List LocatedFault
conflict_at clashes p = if clashes then at p (λ line. fault.Conflict line) ∷ [] else []

abbrev pub conflict : List Binding → Binding → List LocatedFault
conflict earlier b = conflict_at (clashes earlier b) b.position

-- the conflicts of bindings in their order, after earlier ones
abbrev pub conflicts : List Binding → List Binding → List LocatedFault
conflicts earlier [] = []
conflicts earlier (b ∷ bs) = conflict earlier b ++ conflicts (b ∷ earlier) bs

-- a parameter binds its name alone
abbrev pub alone : Name → List Binding
alone n = record { text = n.text; position = n.position; alone = true } ∷ []

abbrev pub parameter_form : tree.Parameter-F Argument Clause Expression Parameter Target Clauses Entry → List Binding
parameter_form (tree.Plain n) = alone n
parameter_form (tree.Default n e) = alone n
parameter_form (tree.Parameter-F.Parameter::Star n) = alone n
parameter_form tree.BareStar = []
parameter_form (tree.Parameter-F.Parameter::StarStar n) = alone n

abbrev pub parameter_binding : Parameter → List Binding
parameter_binding p = parameter_form (out-Parameter p)

abbrev pub parameter_bindings : List Parameter → List Binding
parameter_bindings ps = flat_map parameter_binding ps

-- the names that are given to more than one parameter of a list
abbrev pub repeated_parameters : List Parameter → List LocatedFault
repeated_parameters ps = conflicts [] (parameter_bindings ps)

-- ---- the bindings of the file's block

abbrev pub Bindings : Type 0
Bindings = List Binding

abbrev pub shared : Name → Bindings
shared n = record { text = n.text; position = n.position; alone = false } ∷ []

abbrev pub nothing : {A : Type 0} → A → Bindings
nothing x = []

abbrev pub all_of : List Bindings → Bindings
all_of [] = []
all_of (b ∷ bs) = b ++ all_of bs

-- a target binds its own name, or the names of its parts; an index binds no name
abbrev pub target_step : tree.Target-F Bindings Bindings Bindings Bindings Bindings Bindings Bindings → Bindings
target_step (tree.Target-F.Target::Name n) = shared n
target_step (tree.Target-F.Target::Index e i) = []
target_step (tree.Target-F.Target::Tuple ts) = all_of ts
target_step (tree.Target-F.Target::List ts) = all_of ts

abbrev pub target_bindings : Target → Bindings
target_bindings =
    folds.fold-Target Bindings Bindings Bindings Bindings Bindings Bindings Bindings nothing nothing nothing nothing
    target_step nothing nothing

abbrev pub targets_bindings : List Target → Bindings
targets_bindings ts = all_of (map target_bindings ts)

-- a loaded name binds its local name alone
abbrev pub loaded_binding : LoadedName → Bindings
loaded_binding n = alone n.local

-- a `def` binds its own name, and no names of its body
abbrev pub form_step : form.Form-F Bindings Bindings Bindings → Bindings
form_step (form.Assign t e) = target_bindings t
form_step (form.Augment t op e) = target_bindings t
form_step (form.Load l ns) = flat_map loaded_binding ns
form_step (form.If arms otherwise) = all_of arms ++ all_of otherwise
form_step (form.For t e body) = target_bindings t ++ all_of body
form_step (form.Def n ps body) = shared n
form_step _ = []

abbrev pub arm_step : form.Arm-F Bindings Bindings Bindings → Bindings
arm_step a = all_of a.body

abbrev pub statement_step : form.Statement-F Bindings Bindings Bindings → Bindings
statement_step s = s.form

abbrev pub form_bindings : Form → Bindings
form_bindings = form_folds.fold-Form Bindings Bindings Bindings form_step arm_step statement_step

abbrev pub arm_bindings : Arm → Bindings
arm_bindings = form_folds.fold-Arm Bindings Bindings Bindings form_step arm_step statement_step

abbrev pub statement_bindings : Statement → Bindings
statement_bindings = form_folds.fold-Statement Bindings Bindings Bindings form_step arm_step statement_step

abbrev pub arms_bindings : List Arm → Bindings
arms_bindings arms = all_of (map arm_bindings arms)

abbrev pub statements_bindings : List Statement → Bindings
statements_bindings ss = all_of (map statement_bindings ss)

-- the conflicts in a file's block
abbrev pub block_conflicts : List Statement → List LocatedFault
block_conflicts ss = conflicts [] (statements_bindings ss)
