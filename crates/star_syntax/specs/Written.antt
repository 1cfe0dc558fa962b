-- Expressions written with a parenthesis round each part.
use Rattle.std.specs.Prelude.{◌≡◌, ℕ, ℤ, true, List, [], ◌∷◌, Option, Some, None}
use Rattle.star_lex.specs.declared.token.Punctuator.{Punctuator}
use Rattle.star_lex.specs.declared.token.Punctuator.TheVariants as s
use Rattle.star_lex.specs.declared.token.Keyword.{Keyword}
use Rattle.star_lex.specs.declared.token.Keyword.TheVariants as k
use Rattle.star_syntax.specs.declared.leaf.TokenValue.{TokenValue}
use Rattle.star_syntax.specs.declared.leaf.TokenValue.TheVariants as word
use Rattle.star_syntax.specs.declared.leaf.ValuedToken.{ValuedToken}
use Rattle.star_syntax.specs.declared.level.Level.TheVariants as levels
use Rattle.star_tree.specs.declared.tree.Position.{Position}
use Rattle.star_tree.specs.declared.tree.Name.{Name}
use Rattle.star_tree.specs.declared.tree.UnaryOperator.{UnaryOperator}
use Rattle.star_tree.specs.declared.tree.UnaryOperator.TheVariants as unaries
use Rattle.star_tree.specs.declared.tree.BinaryOperator.{BinaryOperator}
use Rattle.star_tree.specs.declared.tree.BinaryOperator.TheVariants as binaries
use Rattle.star_tree.specs.declared.tree.Comparator.{Comparator}
use Rattle.star_tree.specs.declared.tree.Comparator.TheVariants as comparators
use Rattle.star_tree.specs.declared.tree.Expression.{Expression}
use Rattle.star_tree.specs.declared.tree.Expression.TheVariants as e
use Rattle.star_tree.specs.declared.tree.Entry.{Entry, roll-Entry}
use Rattle.star_tree.specs.declared.tree.Argument.{Argument}
use Rattle.star_tree.specs.declared.tree.Argument.TheVariants as arguments
use Rattle.star_tree.specs.declared.tree.Parameter.{Parameter}
use Rattle.star_tree.specs.declared.tree.Parameter.TheVariants as parameters
use Rattle.star_tree.specs.declared.tree.Target.{Target}
use Rattle.star_tree.specs.declared.tree.Clauses.{Clauses, roll-Clauses}
use Rattle.star_tree.specs.declared.tree.Clause.{Clause}
use Rattle.star_tree.specs.declared.tree.Clause.TheVariants as clauses
use Rattle.star_syntax.specs.Sorts as sorts
use Rattle.star_syntax.specs.Grammar.{level, nonterminal, Reads}
use Rattle.star_syntax.specs.Keeps.{arguments_in_order, parameters_in_order, target_of}
use Rattle.star_syntax.specs.Language.{rule}

-- a sign, a keyword and a name, each somewhere
abbrev pub mark : Position → Punctuator → ValuedToken
mark p sign = record { word = word.Punctuator sign; position = p }

abbrev pub spelt : Position → Keyword → ValuedToken
spelt p keyword = record { word = word.Keyword keyword; position = p }

abbrev pub called : Name → ValuedToken
called x = record { word = word.Name x.text; position = x.position }

-- the signs before an operand
pub data IsUnary : Punctuator → UnaryOperator → Type 0 where
  positive : IsUnary s.Plus unaries.Plus
  negative : IsUnary s.Minus unaries.Minus
  inverted : IsUnary s.Tilde unaries.Invert

-- the signs between two operands
pub data IsBinary : Punctuator → BinaryOperator → Type 0 where
  times : IsBinary s.Star binaries.Multiply
  divided : IsBinary s.SlashSlash binaries.FloorDivide
  modulo : IsBinary s.Percent binaries.Modulo
  plus : IsBinary s.Plus binaries.Add
  minus : IsBinary s.Minus binaries.Subtract
  to-left : IsBinary s.ShiftLeft binaries.ShiftLeft
  to-right : IsBinary s.ShiftRight binaries.ShiftRight
  bits-and : IsBinary s.Ampersand binaries.BitAnd
  bits-xor : IsBinary s.Caret binaries.BitXor
  bits-or : IsBinary s.Bar binaries.BitOr

-- the words of a comparison, but `not in`
pub data IsComparator : TokenValue → Comparator → Type 0 where
  equal : IsComparator (word.Punctuator s.EqualEqual) comparators.Equal
  unequal : IsComparator (word.Punctuator s.NotEqual) comparators.NotEqual
  less : IsComparator (word.Punctuator s.Less) comparators.Less
  greater : IsComparator (word.Punctuator s.Greater) comparators.Greater
  at-most : IsComparator (word.Punctuator s.LessEqual) comparators.LessEqual
  at-least : IsComparator (word.Punctuator s.GreaterEqual) comparators.GreaterEqual
  contained : IsComparator (word.Keyword k.In) comparators.In

-- the words that may come after a whole expression
pub data EndsBefore : TokenValue → Type 0 where
  right-paren : EndsBefore (word.Punctuator s.RightParen)
  right-bracket : EndsBefore (word.Punctuator s.RightBracket)
  right-brace : EndsBefore (word.Punctuator s.RightBrace)
  comma : EndsBefore (word.Punctuator s.Comma)
  colon : EndsBefore (word.Punctuator s.Colon)
  semicolon : EndsBefore (word.Punctuator s.Semicolon)
  assign : EndsBefore (word.Punctuator s.Assign)
  plus-assign : EndsBefore (word.Punctuator s.PlusAssign)
  minus-assign : EndsBefore (word.Punctuator s.MinusAssign)
  star-assign : EndsBefore (word.Punctuator s.StarAssign)
  slashes-assign : EndsBefore (word.Punctuator s.SlashSlashAssign)
  percent-assign : EndsBefore (word.Punctuator s.PercentAssign)
  ampersand-assign : EndsBefore (word.Punctuator s.AmpersandAssign)
  bar-assign : EndsBefore (word.Punctuator s.BarAssign)
  caret-assign : EndsBefore (word.Punctuator s.CaretAssign)
  left-assign : EndsBefore (word.Punctuator s.ShiftLeftAssign)
  right-assign : EndsBefore (word.Punctuator s.ShiftRightAssign)
  new-line : EndsBefore word.Newline
  for' : EndsBefore (word.Keyword k.For)
  else' : EndsBefore (word.Keyword k.Else)

-- the leaves that may come after a whole expression
pub data Stops : List ValuedToken → Type 0 where
  nothing-more : Stops []
  before : {p : Position} {w : TokenValue} {ts : List ValuedToken} → EndsBefore w → Stops (record { word = w; position = p } ∷ ts)

mutual
  -- `Written x ts us`: ts is x, written with a parenthesis round each part, followed by us
  pub data Written : Expression → List ValuedToken → List ValuedToken → Type 0 where
    a-name : {x : Name} {us : List ValuedToken} → Written (e.Name x) (called x ∷ us) us
    an-int : {p : Position} {value : ℤ} {us : List ValuedToken}
        → Written (e.Int value) (record { word = word.Int value; position = p } ∷ us) us
    a-text : {p : Position} {text : List ℕ} {us : List ValuedToken}
        → Written (e.Text text) (record { word = word.Text text; position = p } ∷ us) us
    -- +(x)
    a-sign : {p : Position} {sign : Punctuator} {operator : UnaryOperator} {x : Expression} {ts us : List ValuedToken}
        → IsUnary sign operator → Enclosed x ts us → Written (e.Unary operator x) (mark p sign ∷ ts) us
    -- not (x)
    a-denial : {p : Position} {x : Expression} {ts us : List ValuedToken} → Enclosed x ts us
        → Written (e.Unary unaries.Not x) (spelt p k.Not ∷ ts) us
    -- (x) + (y)
    a-binary : {p : Position} {sign : Punctuator} {operator : BinaryOperator} {x y : Expression} {ts vs us : List ValuedToken}
        → IsBinary sign operator
        → Enclosed x ts (mark p sign ∷ vs) → Enclosed y vs us → Written (e.Binary operator x y) ts us
    -- (x) == (y)
    a-comparison : {p : Position} {w : TokenValue} {comparator : Comparator} {x y : Expression} {ts vs us : List ValuedToken}
        → IsComparator w comparator
        → Enclosed x ts (record { word = w; position = p } ∷ vs) → Enclosed y vs us
        → Written (e.Compare comparator x y) ts us
    -- (x) not in (y)
    an-absence : {p q : Position} {x y : Expression} {ts vs us : List ValuedToken}
        → Enclosed x ts (spelt p k.Not ∷ spelt q k.In ∷ vs) → Enclosed y vs us
        → Written (e.Compare comparators.NotIn x y) ts us
    -- (x) and (y)
    an-and : {p : Position} {x y : Expression} {ts vs us : List ValuedToken} → Enclosed x ts (spelt p k.And ∷ vs)
        → Enclosed y vs us → Written (e.And x y) ts us
    -- (x) or (y)
    an-or : {p : Position} {x y : Expression} {ts vs us : List ValuedToken} → Enclosed x ts (spelt p k.Or ∷ vs)
        → Enclosed y vs us → Written (e.Or x y) ts us
    -- (x) if (y) else (z)
    a-conditional : {p q : Position} {x y z : Expression} {ts vs ws us : List ValuedToken}
        → Enclosed x ts (spelt p k.If ∷ vs) → Enclosed y vs (spelt q k.Else ∷ ws) → Enclosed z ws us
        → Written (e.Conditional y x z) ts us
    -- (x).name
    an-attribute : {p : Position} {name : Name} {x : Expression} {ts us : List ValuedToken}
        → Enclosed x ts (mark p s.Dot ∷ called name ∷ us) → Written (e.Attribute x name) ts us
    -- (x)[(y)]
    an-index : {p q : Position} {x y : Expression} {ts vs us : List ValuedToken} → Enclosed x ts (mark p s.LeftBracket ∷ vs)
        → Enclosed y vs (mark q s.RightBracket ∷ us) → Written (e.Index x y) ts us
    -- ()
    an-empty-tuple : {p q : Position} {us : List ValuedToken}
        → Written (e.Tuple []) (mark p s.LeftParen ∷ mark q s.RightParen ∷ us) us
    -- ((x), (y),)
    a-tuple : {p q r : Position} {x : Expression} {xs : List Expression} {ts vs us : List ValuedToken} → Enclosed x ts vs
        → Further xs vs (mark q s.Comma ∷ mark r s.RightParen ∷ us)
        → Written (e.Tuple (x ∷ xs)) (mark p s.LeftParen ∷ ts) us
    -- []
    an-empty-list : {p q : Position} {us : List ValuedToken}
        → Written (e.List []) (mark p s.LeftBracket ∷ mark q s.RightBracket ∷ us) us
    -- [(x), (y)]
    a-list : {p q : Position} {x : Expression} {xs : List Expression} {ts vs us : List ValuedToken} → Enclosed x ts vs
        → Further xs vs (mark q s.RightBracket ∷ us)
        → Written (e.List (x ∷ xs)) (mark p s.LeftBracket ∷ ts) us
    -- {}
    an-empty-dict : {p q : Position} {us : List ValuedToken}
        → Written (e.Dict []) (mark p s.LeftBrace ∷ mark q s.RightBrace ∷ us) us
    -- {(x): (y), (z): (w)}
    a-dict : {p q : Position} {y : Entry} {ys : List Entry} {ts vs us : List ValuedToken} → OneEntry y ts vs
        → FurtherEntries ys vs (mark q s.RightBrace ∷ us) → Written (e.Dict (y ∷ ys)) (mark p s.LeftBrace ∷ ts) us
    -- [(x) for .. in ..]
    a-list-comprehension : {p q : Position} {x : Expression} {c : Clauses} {ts vs us : List ValuedToken} → Enclosed x ts vs
        → AllClauses c vs (mark q s.RightBracket ∷ us)
        → Written (e.ListComprehension p x c) (mark p s.LeftBracket ∷ ts) us
    -- {(x): (y) for .. in ..}
    a-dict-comprehension : {p q : Position} {y : Entry} {c : Clauses} {ts vs us : List ValuedToken} → OneEntry y ts vs
        → AllClauses c vs (mark q s.RightBrace ∷ us)
        → Written (e.DictComprehension p y c) (mark p s.LeftBrace ∷ ts) us
    -- (x)(..), if the arguments are in order
    a-call : {p q : Position} {x : Expression} {given : List Argument} {ts vs us : List ValuedToken}
        → Enclosed x ts (mark p s.LeftParen ∷ vs) → Arguments given vs (mark q s.RightParen ∷ us)
        → arguments_in_order given ≡ true
        → Written (e.Call x given) ts us
    -- (x)[(a):(b):(c)]
    a-slice : {p q r t : Position} {x : Expression} {a b c : Option Expression} {ts vs ws zs us : List ValuedToken}
        → Enclosed x ts (mark p s.LeftBracket ∷ vs)
        → Optional a vs (mark q s.Colon ∷ ws) → Optional b ws (mark r s.Colon ∷ zs)
        → Optional c zs (mark t s.RightBracket ∷ us) → Written (e.Slice x a b c) ts us
    -- lambda ..: (x), if the parameters are in order
    a-lambda : {p q : Position} {taken : List Parameter} {x : Expression} {ts vs us : List ValuedToken}
        → Parameters taken ts (mark q s.Colon ∷ vs) → parameters_in_order taken ≡ true → Enclosed x vs us
        → Written (e.Lambda p taken x) (spelt p k.Lambda ∷ ts) us

  -- (x)
  pub data Enclosed : Expression → List ValuedToken → List ValuedToken → Type 0 where
    enclosed : {p q : Position} {x : Expression} {ts us : List ValuedToken} → Written x ts (mark q s.RightParen ∷ us)
        → Enclosed x (mark p s.LeftParen ∷ ts) us

  -- , (x), (y)
  pub data Further : List Expression → List ValuedToken → List ValuedToken → Type 0 where
    no-further : {us : List ValuedToken} → Further [] us us
    one-further : {p : Position} {x : Expression} {xs : List Expression} {ts vs us : List ValuedToken} → Enclosed x ts vs
        → Further xs vs us → Further (x ∷ xs) (mark p s.Comma ∷ ts) us

  -- (x), or nothing
  pub data Optional : Option Expression → List ValuedToken → List ValuedToken → Type 0 where
    left-out : {us : List ValuedToken} → Optional None us us
    put : {x : Expression} {ts us : List ValuedToken} → Enclosed x ts us → Optional (Some x) ts us

  -- (x): (y)
  pub data OneEntry : Entry → List ValuedToken → List ValuedToken → Type 0 where
    an-entry : {p : Position} {x y : Expression} {ts vs us : List ValuedToken} → Enclosed x ts (mark p s.Colon ∷ vs)
        → Enclosed y vs us → OneEntry (roll-Entry (record { key = x; value = y })) ts us

  -- , (x): (y), (z): (w)
  pub data FurtherEntries : List Entry → List ValuedToken → List ValuedToken → Type 0 where
    no-entry : {us : List ValuedToken} → FurtherEntries [] us us
    next-entry : {p : Position} {y : Entry} {ys : List Entry} {ts vs us : List ValuedToken} → OneEntry y ts vs
        → FurtherEntries ys vs us → FurtherEntries (y ∷ ys) (mark p s.Comma ∷ ts) us

  -- (x), name=(x), *(x) or **(x)
  pub data OneArgument : Argument → List ValuedToken → List ValuedToken → Type 0 where
    positional : {x : Expression} {ts us : List ValuedToken} → Enclosed x ts us → OneArgument (arguments.Positional x) ts us
    by-name : {p : Position} {name : Name} {x : Expression} {ts us : List ValuedToken} → Enclosed x ts us
        → OneArgument (arguments.Named name x) (called name ∷ mark p s.Assign ∷ ts) us
    with-star : {p : Position} {x : Expression} {ts us : List ValuedToken} → Enclosed x ts us
        → OneArgument (arguments.Star x) (mark p s.Star ∷ ts) us
    with-two-stars : {p : Position} {x : Expression} {ts us : List ValuedToken} → Enclosed x ts us
        → OneArgument (arguments.StarStar x) (mark p s.StarStar ∷ ts) us

  -- , (x), name=(x)
  pub data FurtherArguments : List Argument → List ValuedToken → List ValuedToken → Type 0 where
    no-argument : {us : List ValuedToken} → FurtherArguments [] us us
    next-argument : {p : Position} {y : Argument} {ys : List Argument} {ts vs us : List ValuedToken} → OneArgument y ts vs
        → FurtherArguments ys vs us → FurtherArguments (y ∷ ys) (mark p s.Comma ∷ ts) us

  -- (x), name=(x), or nothing
  pub data Arguments : List Argument → List ValuedToken → List ValuedToken → Type 0 where
    none-given : {us : List ValuedToken} → Arguments [] us us
    some-given : {y : Argument} {ys : List Argument} {ts vs us : List ValuedToken} → OneArgument y ts vs
        → FurtherArguments ys vs us → Arguments (y ∷ ys) ts us

  -- name, name=(x), *name, * or **name
  pub data OneParameter : Parameter → List ValuedToken → List ValuedToken → Type 0 where
    plain : {name : Name} {us : List ValuedToken} → OneParameter (parameters.Plain name) (called name ∷ us) us
    default : {p : Position} {name : Name} {x : Expression} {ts us : List ValuedToken} → Enclosed x ts us
        → OneParameter (parameters.Default name x) (called name ∷ mark p s.Assign ∷ ts) us
    starred : {p : Position} {name : Name} {us : List ValuedToken}
        → OneParameter (parameters.Star name) (mark p s.Star ∷ called name ∷ us) us
    bare-star : {p : Position} {us : List ValuedToken} → OneParameter parameters.BareStar (mark p s.Star ∷ us) us
    twice-starred : {p : Position} {name : Name} {us : List ValuedToken}
        → OneParameter (parameters.StarStar name) (mark p s.StarStar ∷ called name ∷ us) us

  -- , name, name=(x)
  pub data FurtherParameters : List Parameter → List ValuedToken → List ValuedToken → Type 0 where
    no-parameter : {us : List ValuedToken} → FurtherParameters [] us us
    next-parameter : {p : Position} {y : Parameter} {ys : List Parameter} {ts vs us : List ValuedToken} → OneParameter y ts vs
        → FurtherParameters ys vs us → FurtherParameters (y ∷ ys) (mark p s.Comma ∷ ts) us

  -- name, name=(x), or nothing
  pub data Parameters : List Parameter → List ValuedToken → List ValuedToken → Type 0 where
    none-taken : {us : List ValuedToken} → Parameters [] us us
    some-taken : {y : Parameter} {ys : List Parameter} {ts vs us : List ValuedToken} → OneParameter y ts vs
        → FurtherParameters ys vs us → Parameters (y ∷ ys) ts us

  -- for (z) in (y); z is a target
  pub data ForPart : Target → Expression → List ValuedToken → List ValuedToken → Type 0 where
    for-each : {p q : Position} {target : Target} {y z : Expression} {ts vs us : List ValuedToken} → target_of z ≡ Some target
        → Enclosed z ts (spelt q k.In ∷ vs) → Enclosed y vs us → ForPart target y (spelt p k.For ∷ ts) us

  -- for (z) in (y), or if (y)
  pub data OneClause : Clause → List ValuedToken → List ValuedToken → Type 0 where
    each : {target : Target} {y : Expression} {ts us : List ValuedToken} → ForPart target y ts us
        → OneClause (clauses.For target y) ts us
    only-if : {p : Position} {y : Expression} {ts us : List ValuedToken} → Enclosed y ts us
        → OneClause (clauses.If y) (spelt p k.If ∷ ts) us

  pub data FurtherClauses : List Clause → List ValuedToken → List ValuedToken → Type 0 where
    no-clause : {us : List ValuedToken} → FurtherClauses [] us us
    next-clause : {y : Clause} {ys : List Clause} {ts vs us : List ValuedToken} → OneClause y ts vs → FurtherClauses ys vs us
        → FurtherClauses (y ∷ ys) ts us

  -- for (z) in (y), and further clauses
  pub data AllClauses : Clauses → List ValuedToken → List ValuedToken → Type 0 where
    clauses-from : {target : Target} {y : Expression} {ys : List Clause} {ts vs us : List ValuedToken} → ForPart target y ts vs
        → FurtherClauses ys vs us
        → AllClauses (roll-Clauses (record { target = target; iterable = y; more = ys })) ts us

-- The law: an expression that is written so reads back as itself.
abbrev pub ReadsBack : Type 0
ReadsBack =
    (x : Expression) (ts us : List ValuedToken) → Written x ts us → Stops us
    → Reads rule sorts.expression (nonterminal (level levels.Test)) ts (Some (x, us))
