-- The names and the definitions of a file, each with the chain of the blocks around it.
use Rattle.std.specs.Prelude.{ℕ, ◌+◌, List, [], ◌∷◌, ◌++◌, map, Option, Some, None}
use Rattle.std.specs.List.{flat_map}
use Rattle.star_tree.specs.declared.tree.Argument.{Argument}
use Rattle.star_tree.specs.declared.tree.Clause.{Clause}
use Rattle.star_tree.specs.declared.tree.Clauses.{Clauses}
use Rattle.star_tree.specs.declared.tree.Entry.{Entry}
use Rattle.star_tree.specs.declared.tree.Expression.{Expression}
use Rattle.star_tree.specs.declared.tree.Target.{Target}
use Rattle.star_tree.specs.declared.tree.Parameter.{Parameter}
use Rattle.star_tree.specs.declared.tree.Name.{Name}
use Rattle.star_tree.specs.declared.tree.LoadedName.{LoadedName}
use Rattle.star_tree.specs.declared.tree.Form.{Form}
use Rattle.star_tree.specs.declared.tree.Arm.{Arm}
use Rattle.star_tree.specs.declared.tree.Statement.{Statement}
use Rattle.star_tree.specs.declared.tree.Argument.TheOpen as tree
use Rattle.star_tree.specs.declared.tree.Argument.TheFolds as folds
use Rattle.star_tree.specs.declared.tree.Form.TheOpen as form
use Rattle.star_tree.specs.declared.tree.Form.TheFolds as form_folds

-- a use of a name, read or bound, or a definition by its number, with the numbers of the blocks around it, the
-- innermost first
pub data Use : Type 0 where
  Named : Name → List ℕ → Use
  Defined : ℕ → List ℕ → Use

-- the names of a part in a chain of blocks
abbrev pub Within : Type 0
Within = List ℕ → List Use

abbrev pub no_use : Within
no_use c = []

abbrev pub one_use : Name → Within
one_use n c = Named n c ∷ []

abbrev pub defined : ℕ → Within
defined number c = Defined number c ∷ []

abbrev pub also : Within → Within → Within
also a b c = a c ++ b c

abbrev pub each_use : List Within → Within
each_use [] c = []
each_use (a ∷ more) c = a c ++ each_use more c

abbrev pub all_uses : {A : Type 0} → (A → Within) → List A → Within
all_uses f xs = each_use (map f xs)

abbrev pub maybe_use : Option Within → Within
maybe_use None c = []
maybe_use (Some a) c = a c

-- a part in its own block; the block's number is one more than the number of its first token
abbrev pub inside : ℕ → Within → Within
inside token a c = a ((1 + token) ∷ c)

-- the clauses of a comprehension: the first iterable is outside of its block
pub record ClauseUses : Type 0 where
  pub first : Within
  pub rest : Within

-- a parameter: its default is outside of the definition's block
pub record ParameterUses : Type 0 where
  pub outer : Within
  pub inner : Within

abbrev pub outer_of : List ParameterUses → Within
outer_of [] c = []
outer_of (p ∷ ps) c = p.outer c ++ outer_of ps c

abbrev pub inner_of : List ParameterUses → Within
inner_of [] c = []
inner_of (p ∷ ps) c = p.inner c ++ inner_of ps c

abbrev pub expression_uses : tree.Expression-F Within Within Within ParameterUses Within ClauseUses Within → Within
expression_uses (tree.Expression-F.Expression::Name n) = one_use n
expression_uses (tree.Int n) = no_use
expression_uses (tree.Text t) = no_use
expression_uses (tree.Expression-F.Expression::Tuple es) = each_use es
expression_uses (tree.Expression-F.Expression::List es) = each_use es
expression_uses (tree.Dict es) = each_use es
expression_uses (tree.ListComprehension at e cs) = also cs.first (inside at.token (also cs.rest e))
expression_uses (tree.DictComprehension at e cs) = also cs.first (inside at.token (also cs.rest e))
expression_uses (tree.Unary op e) = e
expression_uses (tree.Binary op a b) = also a b
expression_uses (tree.Compare c a b) = also a b
expression_uses (tree.And a b) = also a b
expression_uses (tree.Or a b) = also a b
expression_uses (tree.Conditional c a b) = also c (also a b)
expression_uses (tree.Lambda at ps e) =
    also (defined at.token) (also (outer_of ps) (inside at.token (also (inner_of ps) e)))
expression_uses (tree.Call f es) = also f (each_use es)
expression_uses (tree.Attribute e n) = e
expression_uses (tree.Expression-F.Expression::Index e i) = also e i
expression_uses (tree.Slice e a b c) = also e (also (maybe_use a) (also (maybe_use b) (maybe_use c)))

abbrev pub argument_uses : tree.Argument-F Within Within Within ParameterUses Within ClauseUses Within → Within
argument_uses (tree.Positional e) = e
argument_uses (tree.Named n e) = e
argument_uses (tree.Argument-F.Argument::Star e) = e
argument_uses (tree.Argument-F.Argument::StarStar e) = e

abbrev pub clause_uses : tree.Clause-F Within Within Within ParameterUses Within ClauseUses Within → Within
clause_uses (tree.For t e) = also t e
clause_uses (tree.If e) = e

abbrev pub parameter_uses : tree.Parameter-F Within Within Within ParameterUses Within ClauseUses Within → ParameterUses
parameter_uses (tree.Plain n) = record { outer = no_use; inner = one_use n }
parameter_uses (tree.Default n e) = record { outer = e; inner = one_use n }
parameter_uses (tree.Parameter-F.Parameter::Star n) = record { outer = no_use; inner = one_use n }
parameter_uses tree.BareStar = record { outer = no_use; inner = no_use }
parameter_uses (tree.Parameter-F.Parameter::StarStar n) = record { outer = no_use; inner = one_use n }

abbrev pub target_uses : tree.Target-F Within Within Within ParameterUses Within ClauseUses Within → Within
target_uses (tree.Target-F.Target::Name n) = one_use n
target_uses (tree.Target-F.Target::Index e i) = also e i
target_uses (tree.Target-F.Target::Tuple ts) = each_use ts
target_uses (tree.Target-F.Target::List ts) = each_use ts

abbrev pub clauses_uses : tree.Clauses-F Within Within Within ParameterUses Within ClauseUses Within → ClauseUses
clauses_uses cs = record { first = cs.iterable; rest = also cs.target (each_use cs.more) }

abbrev pub entry_uses : tree.Entry-F Within Within Within ParameterUses Within ClauseUses Within → Within
entry_uses e = also e.key e.value

abbrev pub in_expression : Expression → Within
in_expression =
    folds.fold-Expression Within Within Within ParameterUses Within ClauseUses Within argument_uses clause_uses
    expression_uses parameter_uses target_uses clauses_uses entry_uses

abbrev pub in_target : Target → Within
in_target =
    folds.fold-Target Within Within Within ParameterUses Within ClauseUses Within argument_uses clause_uses
    expression_uses parameter_uses target_uses clauses_uses entry_uses

abbrev pub in_parameter : Parameter → ParameterUses
in_parameter =
    folds.fold-Parameter Within Within Within ParameterUses Within ClauseUses Within argument_uses clause_uses
    expression_uses parameter_uses target_uses clauses_uses entry_uses

abbrev pub in_argument : Argument → Within
in_argument =
    folds.fold-Argument Within Within Within ParameterUses Within ClauseUses Within argument_uses clause_uses
    expression_uses parameter_uses target_uses clauses_uses entry_uses

abbrev pub in_clause : Clause → Within
in_clause =
    folds.fold-Clause Within Within Within ParameterUses Within ClauseUses Within argument_uses clause_uses
    expression_uses parameter_uses target_uses clauses_uses entry_uses

abbrev pub in_clauses : Clauses → ClauseUses
in_clauses =
    folds.fold-Clauses Within Within Within ParameterUses Within ClauseUses Within argument_uses clause_uses
    expression_uses parameter_uses target_uses clauses_uses entry_uses

abbrev pub in_entry : Entry → Within
in_entry =
    folds.fold-Entry Within Within Within ParameterUses Within ClauseUses Within argument_uses clause_uses
    expression_uses parameter_uses target_uses clauses_uses entry_uses

abbrev pub in_parameters : List Parameter → List ParameterUses
in_parameters [] = []
in_parameters (p ∷ ps) = in_parameter p ∷ in_parameters ps

-- the default of a parameter, and its name
abbrev pub default_uses : Parameter → Within
default_uses p = (in_parameter p).outer

abbrev pub parameter_name_uses : Parameter → Within
parameter_name_uses p = (in_parameter p).inner

abbrev pub in_returned : Option Expression → Within
in_returned None = no_use
in_returned (Some e) = in_expression e

-- the names of a statement's form; a `def` has its own block, which begins at the statement's first token
abbrev pub OfForm : Type 0
OfForm = ℕ → Within

abbrev pub loaded_uses : List LoadedName → Within
loaded_uses [] c = []
loaded_uses (n ∷ ns) c = Named n.local c ∷ loaded_uses ns c

abbrev pub loaded_use : LoadedName → Within
loaded_use n = one_use n.local

abbrev pub form_uses : form.Form-F OfForm Within Within → OfForm
form_uses (form.Expression e) token = in_expression e
form_uses (form.Assign t e) token = also (in_expression e) (in_target t)
form_uses (form.Augment t op e) token = also (in_target t) (in_expression e)
form_uses form.Pass token = no_use
form_uses form.Break token = no_use
form_uses form.Continue token = no_use
form_uses (form.Return e) token = in_returned e
form_uses (form.Load l ns) token = loaded_uses ns
form_uses (form.If cases otherwise) token = also (each_use cases) (each_use otherwise)
form_uses (form.For t e body) token = also (in_expression e) (also (in_target t) (each_use body))
form_uses (form.Def n ps body) token =
    also (defined token) (also (one_use n) (also (outer_of (in_parameters ps))
    (inside token (also (inner_of (in_parameters ps)) (each_use body)))))

abbrev pub arm_uses : form.Arm-F OfForm Within Within → Within
arm_uses a = also (in_expression a.condition) (each_use a.body)

abbrev pub statement_uses : form.Statement-F OfForm Within Within → Within
statement_uses s = s.form s.position.token

abbrev pub in_form : Form → OfForm
in_form = form_folds.fold-Form OfForm Within Within form_uses arm_uses statement_uses

abbrev pub in_arm : Arm → Within
in_arm = form_folds.fold-Arm OfForm Within Within form_uses arm_uses statement_uses

abbrev pub in_statement : Statement → Within
in_statement = form_folds.fold-Statement OfForm Within Within form_uses arm_uses statement_uses

-- all names and definitions of a file
abbrev pub uses : List Statement → List Use
uses ss = flat_map (λ s. in_statement s (0 ∷ [])) ss
