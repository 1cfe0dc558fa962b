-- One layer of the tree of a file: the parts of an expression, a target or a statement.
use Rattle.star_tree.specs.declared.tree.Argument.{Argument, out-Argument}
use Rattle.star_tree.specs.declared.tree.Clause.{Clause, out-Clause}
use Rattle.star_tree.specs.declared.tree.Clauses.{Clauses}
use Rattle.star_tree.specs.declared.tree.Entry.{Entry}
use Rattle.star_tree.specs.declared.tree.Expression.{Expression, out-Expression}
use Rattle.star_tree.specs.declared.tree.Parameter.{Parameter, out-Parameter}
use Rattle.star_tree.specs.declared.tree.Target.{Target, out-Target}
use Rattle.star_tree.specs.declared.tree.Argument.TheOpen as tree
use Rattle.star_tree.specs.declared.tree.Form.{Form, out-Form}
use Rattle.star_tree.specs.declared.tree.Arm.{Arm}
use Rattle.star_tree.specs.declared.tree.Statement.{Statement, out-Statement}
use Rattle.star_tree.specs.declared.tree.Form.TheOpen as statement
use Rattle.star_tree.specs.declared.tree.Position.{Position}

-- an expression, opened
abbrev pub ExpressionForm : Type 0
ExpressionForm = tree.Expression-F Argument Clause Expression Parameter Target Clauses Entry

abbrev pub ArgumentForm : Type 0
ArgumentForm = tree.Argument-F Argument Clause Expression Parameter Target Clauses Entry

abbrev pub ParameterForm : Type 0
ParameterForm = tree.Parameter-F Argument Clause Expression Parameter Target Clauses Entry

abbrev pub TargetForm : Type 0
TargetForm = tree.Target-F Argument Clause Expression Parameter Target Clauses Entry

abbrev pub ClauseForm : Type 0
ClauseForm = tree.Clause-F Argument Clause Expression Parameter Target Clauses Entry

-- a statement's form, opened
abbrev pub StatementForm : Type 0
StatementForm = statement.Form-F Form Arm Statement

-- each opened
abbrev pub expression : Expression → ExpressionForm
expression e = out-Expression e

abbrev pub argument : Argument → ArgumentForm
argument e = out-Argument e

abbrev pub parameter : Parameter → ParameterForm
parameter e = out-Parameter e

abbrev pub target : Target → TargetForm
target e = out-Target e

abbrev pub clause : Clause → ClauseForm
clause e = out-Clause e

-- the position and the form of a statement
abbrev pub position_of : Statement → Position
position_of s = (out-Statement s).position

abbrev pub form_of : Statement → StatementForm
form_of s = out-Form (out-Statement s).form
