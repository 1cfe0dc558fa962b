-- The outline of a file, read off its tree: the names that its blocks bind, and its definitions.
use Rattle.std.specs.Prelude.{ℕ, ◌+◌, nat_eq, List, [], ◌∷◌, ◌++◌, map, Option, Some, None}
use Rattle.std.specs.List.{find, flat_map}
use Rattle.std.specs.Option.{option_map, unwrap_or}
use Rattle.star_tree.specs.declared.tree.Argument.{Argument}
use Rattle.star_tree.specs.declared.tree.Clause.{Clause}
use Rattle.star_tree.specs.declared.tree.Clauses.{Clauses, out-Clauses}
use Rattle.star_tree.specs.declared.tree.Entry.{Entry}
use Rattle.star_tree.specs.declared.tree.Expression.{Expression}
use Rattle.star_tree.specs.declared.tree.Parameter.{Parameter}
use Rattle.star_tree.specs.declared.tree.Target.{Target}
use Rattle.star_tree.specs.declared.tree.Argument.TheOpen as tree
use Rattle.star_tree.specs.declared.tree.Argument.TheFolds as folds
use Rattle.star_tree.specs.declared.tree.Form.{Form, out-Form}
use Rattle.star_tree.specs.declared.tree.Arm.{Arm}
use Rattle.star_tree.specs.declared.tree.Statement.{Statement}
use Rattle.star_tree.specs.declared.tree.Form.TheOpen as form
use Rattle.star_tree.specs.declared.tree.Form.TheFolds as form_folds
use Rattle.star_tree.specs.declared.tree.Position.{Position}
use Rattle.star_tree.specs.declared.tree.LoadedName.{LoadedName}
-- a block with the names that are bound in it. The file's own block has number 0, the block of a definition or a
-- comprehension one more than the number of its first token
pub use Rattle.star_outline.specs.declared.blocks.Block.{Block}
pub use Rattle.star_outline.specs.Definitions.{Body, Statements, Answer, Definition, definition_in}
-- definitions and blocks
pub use Rattle.star_outline.specs.declared.outline.Found.{Found}
use Rattle.star_outline.specs.Syntax.{StatementForm, ParameterForm, ClauseForm, parameter, clause, form_of}
use Rattle.star_outline.specs.Names.{Names, once}

-- the outline of a part of a file: its definitions, its blocks, and the names that it loads
pub record Outline : Type 0 where
  pub definitions : List Definition
  pub blocks : List Block
  pub loaded : Names

-- the names of the block with this number
abbrev pub names_in : List Block → ℕ → Names
names_in blocks number = unwrap_or (option_map (λ b. b.names) (find (λ b. nat_eq b.number number) blocks)) []

abbrev pub no_names : {A : Type 0} → A → Names
no_names x = []

abbrev pub all_names : List Names → Names
all_names [] = []
all_names (n ∷ ns) = n ++ all_names ns

-- the names that a target binds: its own, or the names of its parts; an index binds no name
abbrev pub target_step : tree.Target-F Names Names Names Names Names Names Names → Names
target_step (tree.Target-F.Target::Name n) = n.text ∷ []
target_step (tree.Target-F.Target::Index e i) = []
target_step (tree.Target-F.Target::Tuple ts) = all_names ts
target_step (tree.Target-F.Target::List ts) = all_names ts

abbrev pub target_names : Target → Names
target_names =
    folds.fold-Target Names Names Names Names Names Names Names no_names no_names no_names no_names target_step no_names
    no_names

abbrev pub targets_names : List Target → Names
targets_names ts = all_names (map target_names ts)

-- the names that the clauses of a comprehension bind
abbrev pub clause_step : ClauseForm → Names
clause_step (tree.For t e) = target_names t
clause_step (tree.If e) = []

abbrev pub clause_names : Clause → Names
clause_names c = clause_step (clause c)

abbrev pub more_names : List Clause → Names
more_names cs = all_names (map clause_names cs)

abbrev pub clauses_names : Clauses → Names
clauses_names cs = target_names (out-Clauses cs).target ++ more_names (out-Clauses cs).more

-- the names that parameters bind
abbrev pub parameter_step : ParameterForm → Names
parameter_step (tree.Plain n) = n.text ∷ []
parameter_step (tree.Default n e) = n.text ∷ []
parameter_step (tree.Parameter-F.Parameter::Star n) = n.text ∷ []
parameter_step tree.BareStar = []
parameter_step (tree.Parameter-F.Parameter::StarStar n) = n.text ∷ []

abbrev pub parameter_names : Parameter → Names
parameter_names p = parameter_step (parameter p)

abbrev pub all_parameter_names : List Parameter → Names
all_parameter_names ps = all_names (map parameter_names ps)

-- the names that a statement binds in its block: a `def` binds its own name, and no names of its body; a load binds in
-- the file's block, wherever it is
abbrev pub local_name : LoadedName → List ℕ
local_name n = n.local.text

abbrev pub bound_by : {F A S : Type 0} → (List A → Names) → (List S → Names) → form.Form-F F A S → Names
bound_by arms block (form.Assign t e) = target_names t
bound_by arms block (form.Augment t op e) = target_names t
bound_by arms block (form.If cases otherwise) = arms cases ++ block otherwise
bound_by arms block (form.For t e body) = target_names t ++ block body
bound_by arms block (form.Def n ps body) = n.text ∷ []
bound_by arms block _ = []

abbrev pub bound_step : form.Form-F Names Names Names → Names
bound_step l = bound_by all_names all_names l

abbrev pub arm_step : form.Arm-F Names Names Names → Names
arm_step a = all_names a.body

abbrev pub names_step : form.Statement-F Names Names Names → Names
names_step s = s.form

abbrev pub statement_names : Statement → Names
statement_names = form_folds.fold-Statement Names Names Names bound_step arm_step names_step

abbrev pub arm_names : Arm → Names
arm_names = form_folds.fold-Arm Names Names Names bound_step arm_step names_step

abbrev pub form_names : Form → Names
form_names = form_folds.fold-Form Names Names Names bound_step arm_step names_step

-- the local names of all loads in a statement, also of those in a body
abbrev pub loads_by : {F A S : Type 0} → (List A → Names) → (List S → Names) → form.Form-F F A S → Names
loads_by arms block (form.Load l ns) = map local_name ns
loads_by arms block (form.If cases otherwise) = arms cases ++ block otherwise
loads_by arms block (form.For t e body) = block body
loads_by arms block (form.Def n ps body) = block body
loads_by arms block _ = []

abbrev pub loads_step : form.Form-F Names Names Names → Names
loads_step l = loads_by all_names all_names l

abbrev pub loaded_in : Statement → Names
loaded_in = form_folds.fold-Statement Names Names Names loads_step arm_step names_step

abbrev pub arm_loaded : Arm → Names
arm_loaded = form_folds.fold-Arm Names Names Names loads_step arm_step names_step

abbrev pub form_loaded : Form → Names
form_loaded = form_folds.fold-Form Names Names Names loads_step arm_step names_step

-- the names that statements bind in their block
abbrev pub block_names : List Statement → Names
block_names ss = all_names (map statement_names ss)

-- the names that the cases of an `if` bind, and the local names that they load
abbrev pub arms_names : List Arm → Names
arms_names arms = all_names (map arm_names arms)

abbrev pub arms_loaded : List Arm → Names
arms_loaded arms = all_names (map arm_loaded arms)

-- the local names of all loads in statements
abbrev pub loaded_names : List Statement → Names
loaded_names ss = all_names (map loaded_in ss)

-- the names of the file's own block
abbrev pub file_names : List Statement → Names
file_names ss = once (block_names ss ++ loaded_names ss)

-- no definition and no block
unfoldable pub nothing : Found
nothing = record { definitions = []; blocks = [] }

-- the outline of one part, then of another
unfoldable pub and : Found → Found → Found
and a b = record { definitions = a.definitions ++ b.definitions; blocks = a.blocks ++ b.blocks }

-- the outline of the parts of a layer, from parts each beside its own outline
abbrev pub in_all : {A : Type 0} → List (A × Found) → Found
in_all [] = nothing
in_all (x ∷ xs) = and x.1 (in_all xs)

-- the outline of several parts of one kind
abbrev pub in_each : {A : Type 0} → (A → Found) → List A → Found
in_each one xs = in_all (map (λ x. (x, one x)) xs)

abbrev pub in_maybe : {A : Type 0} → Option (A × Found) → Found
in_maybe None = nothing
in_maybe (Some x) = x.1

-- the names that the body of a definition binds
abbrev pub body_names : Body → Names
body_names (Statements ss) = block_names ss
body_names (Answer e) = []

-- a definition, and the block of its frame: its parameters, then the names that its body binds
unfoldable pub definition : ℕ → List Parameter → Body → Found
definition number ps body =
    record {
      definitions = record { number = number; parameters = ps; body = body }
          ∷ [];
      blocks = record { number = 1 + number; names = once (all_parameter_names ps ++ body_names body) } ∷ [];
    }

unfoldable pub comprehension : ℕ → Clauses → Found
comprehension number cs =
    record { definitions = []; blocks = record { number = 1 + number; names = once (clauses_names cs) } ∷ [] }

abbrev pub firsts : {A : Type 0} → List (A × Found) → List A
firsts xs = map (λ x. x.0) xs

-- the layers of expressions, with the outlines of their parts
abbrev pub expression_found : tree.Expression-F (Argument × Found) (Clause × Found) (Expression × Found)
    (Parameter × Found) (Target × Found) (Clauses × Found) (Entry × Found) → Found
expression_found (tree.Expression-F.Expression::Name n) = nothing
expression_found (tree.Int n) = nothing
expression_found (tree.Text t) = nothing
expression_found (tree.Expression-F.Expression::Tuple es) = in_all es
expression_found (tree.Expression-F.Expression::List es) = in_all es
expression_found (tree.Dict es) = in_all es
expression_found (tree.ListComprehension at e cs) = and (comprehension at.token cs.0) (and e.1 cs.1)
expression_found (tree.DictComprehension at e cs) = and (comprehension at.token cs.0) (and e.1 cs.1)
expression_found (tree.Unary op e) = e.1
expression_found (tree.Binary op a b) = and a.1 b.1
expression_found (tree.Compare c a b) = and a.1 b.1
expression_found (tree.And a b) = and a.1 b.1
expression_found (tree.Or a b) = and a.1 b.1
expression_found (tree.Conditional c a b) = and c.1 (and a.1 b.1)
expression_found (tree.Lambda at ps e) = and (definition at.token (firsts ps) (Answer e.0)) (and (in_all ps) e.1)
expression_found (tree.Call f es) = and f.1 (in_all es)
expression_found (tree.Attribute e n) = e.1
expression_found (tree.Expression-F.Expression::Index e i) = and e.1 i.1
expression_found (tree.Slice e a b c) = and e.1 (and (in_maybe a) (and (in_maybe b) (in_maybe c)))

abbrev pub argument_found : tree.Argument-F (Argument × Found) (Clause × Found) (Expression × Found) (Parameter × Found)
    (Target × Found) (Clauses × Found) (Entry × Found) → Found
argument_found (tree.Positional e) = e.1
argument_found (tree.Named n e) = e.1
argument_found (tree.Argument-F.Argument::Star e) = e.1
argument_found (tree.Argument-F.Argument::StarStar e) = e.1

abbrev pub clause_found : tree.Clause-F (Argument × Found) (Clause × Found) (Expression × Found) (Parameter × Found)
    (Target × Found) (Clauses × Found) (Entry × Found) → Found
clause_found (tree.For t e) = and t.1 e.1
clause_found (tree.If e) = e.1

abbrev pub parameter_found : tree.Parameter-F (Argument × Found) (Clause × Found) (Expression × Found)
    (Parameter × Found) (Target × Found) (Clauses × Found) (Entry × Found) → Found
parameter_found (tree.Default n e) = e.1
parameter_found _ = nothing

abbrev pub target_found : tree.Target-F (Argument × Found) (Clause × Found) (Expression × Found) (Parameter × Found)
    (Target × Found) (Clauses × Found) (Entry × Found) → Found
target_found (tree.Target-F.Target::Name n) = nothing
target_found (tree.Target-F.Target::Index e i) = and e.1 i.1
target_found (tree.Target-F.Target::Tuple ts) = in_all ts
target_found (tree.Target-F.Target::List ts) = in_all ts

abbrev pub clauses_found : tree.Clauses-F (Argument × Found) (Clause × Found) (Expression × Found) (Parameter × Found)
    (Target × Found) (Clauses × Found) (Entry × Found) → Found
clauses_found cs = and cs.target.1 (and cs.iterable.1 (in_all cs.more))

abbrev pub entry_found : tree.Entry-F (Argument × Found) (Clause × Found) (Expression × Found) (Parameter × Found)
    (Target × Found) (Clauses × Found) (Entry × Found) → Found
entry_found e = and e.key.1 e.value.1

-- the outline of an expression, a target or a parameter
abbrev pub in_expression : Expression → Found
in_expression =
    folds.para-Expression Found Found Found Found Found Found Found argument_found clause_found expression_found
    parameter_found target_found clauses_found entry_found

abbrev pub in_target : Target → Found
in_target =
    folds.para-Target Found Found Found Found Found Found Found argument_found clause_found expression_found
    parameter_found target_found clauses_found entry_found

abbrev pub in_parameter : Parameter → Found
in_parameter =
    folds.para-Parameter Found Found Found Found Found Found Found argument_found clause_found expression_found
    parameter_found target_found clauses_found entry_found

abbrev pub in_argument : Argument → Found
in_argument =
    folds.para-Argument Found Found Found Found Found Found Found argument_found clause_found expression_found
    parameter_found target_found clauses_found entry_found

abbrev pub in_clause : Clause → Found
in_clause =
    folds.para-Clause Found Found Found Found Found Found Found argument_found clause_found expression_found
    parameter_found target_found clauses_found entry_found

abbrev pub in_clauses : Clauses → Found
in_clauses =
    folds.para-Clauses Found Found Found Found Found Found Found argument_found clause_found expression_found
    parameter_found target_found clauses_found entry_found

abbrev pub in_entry : Entry → Found
in_entry =
    folds.para-Entry Found Found Found Found Found Found Found argument_found clause_found expression_found
    parameter_found target_found clauses_found entry_found

abbrev pub in_parameters : List Parameter → Found
in_parameters ps = in_each in_parameter ps

abbrev pub in_expressions : List Expression → Found
in_expressions es = in_each in_expression es

abbrev pub in_optional : Option Expression → Found
in_optional e = in_maybe (option_map (λ x. (x, in_expression x)) e)

-- the layers of statements
abbrev pub found_by : {F A S : Type 0} → (List A → Found) → (List S → Found) → form.Form-F F A S → Found
found_by arms block (form.Expression e) = in_expression e
found_by arms block (form.Assign t e) = and (in_target t) (in_expression e)
found_by arms block (form.Augment t op e) = and (in_target t) (in_expression e)
found_by arms block (form.Return e) = in_optional e
found_by arms block (form.If cases otherwise) = and (arms cases) (block otherwise)
found_by arms block (form.For t e body) = and (in_target t) (and (in_expression e) (block body))
found_by arms block (form.Def n ps body) = and (in_parameters ps) (block body)
found_by arms block _ = nothing

abbrev pub form_found : form.Form-F (Form × Found) (Arm × Found) (Statement × Found) → Found
form_found l = found_by in_all in_all l

abbrev pub arm_found : form.Arm-F (Form × Found) (Arm × Found) (Statement × Found) → Found
arm_found a = and (in_expression a.condition) (in_all a.body)

-- a `def` statement is a definition, which has the number of the statement's first token
abbrev pub own_definition : Position → StatementForm → Found
own_definition at (form.Def n ps body) = definition at.token ps (Statements body)
own_definition at _ = nothing

abbrev pub statement_found : form.Statement-F (Form × Found) (Arm × Found) (Statement × Found) → Found
statement_found s = and (own_definition s.position (out-Form s.form.0)) s.form.1

abbrev pub in_statement : Statement → Found
in_statement = form_folds.para-Statement Found Found Found form_found arm_found statement_found

abbrev pub in_arm : Arm → Found
in_arm = form_folds.para-Arm Found Found Found form_found arm_found statement_found

abbrev pub in_form : Form → Found
in_form = form_folds.para-Form Found Found Found form_found arm_found statement_found

abbrev pub in_arms : List Arm → Found
in_arms arms = in_each in_arm arms

abbrev pub in_statements : List Statement → Found
in_statements ss = in_each in_statement ss

-- the names that a file loads
abbrev pub loaded_by : StatementForm → Names
loaded_by (form.Load l ns) = map local_name ns
loaded_by _ = []

-- the outline of a file: its definitions, its own block and the others, and the names that it loads
abbrev pub outline : List Statement → Outline
outline ss =
    record {
      definitions = (in_statements ss).definitions;
      blocks = record { number = 0; names = file_names ss }
          ∷ (in_statements ss).blocks;
      loaded = flat_map (λ s. loaded_by (form_of s)) ss;
    }
