-- The sorts of the parts of the grammar, and the type of the values of each.
use Rattle.std.specs.Prelude.{List, Option}
use Rattle.star_tree.specs.declared.tree.Position.{Position}
use Rattle.star_tree.specs.declared.tree.Name.{Name}
use Rattle.star_tree.specs.declared.tree.Literal.{Literal}
use Rattle.star_tree.specs.declared.tree.UnaryOperator.{UnaryOperator}
use Rattle.star_tree.specs.declared.tree.BinaryOperator.{BinaryOperator}
use Rattle.star_tree.specs.declared.tree.Comparator.{Comparator}
use Rattle.star_tree.specs.declared.tree.Expression.{Expression}
use Rattle.star_tree.specs.declared.tree.Entry.{Entry}
use Rattle.star_tree.specs.declared.tree.Argument.{Argument}
use Rattle.star_tree.specs.declared.tree.Parameter.{Parameter}
use Rattle.star_tree.specs.declared.tree.Target.{Target}
use Rattle.star_tree.specs.declared.tree.Clauses.{Clauses}
use Rattle.star_tree.specs.declared.tree.Clause.{Clause}
use Rattle.star_tree.specs.declared.tree.Statement.{Statement}
use Rattle.star_tree.specs.declared.tree.Form.{Form}
use Rattle.star_tree.specs.declared.tree.Arm.{Arm}
use Rattle.star_tree.specs.declared.tree.LoadedName.{LoadedName}
use Rattle.star_syntax.specs.declared.level.Suffix.{Suffix}

pub data Sort : Type 0 where
  nothing : Sort
  position : Sort
  name : Sort
  literal : Sort
  unary : Sort
  binary : Sort
  comparator : Sort
  expression : Sort
  suffix : Sort
  entry : Sort
  argument : Sort
  parameter : Sort
  target : Sort
  clauses : Sort
  clause : Sort
  statement : Sort
  form : Sort
  arm : Sort
  loaded : Sort
  both : Sort → Sort → Sort
  maybe : Sort → Sort
  list : Sort → Sort

-- the values of a sort
abbrev pub Val : Sort → Type 0
Val nothing = Unit {0}
Val position = Position
Val name = Name
Val literal = Literal
Val unary = UnaryOperator
Val binary = BinaryOperator
Val comparator = Comparator
Val expression = Expression
Val suffix = Suffix
Val entry = Entry
Val argument = Argument
Val parameter = Parameter
Val target = Target
Val clauses = Clauses
Val clause = Clause
Val statement = Statement
Val form = Form
Val arm = Arm
Val loaded = LoadedName
Val (both a b) = Val a × Val b
Val (maybe a) = Option (Val a)
Val (list a) = List (Val a)
