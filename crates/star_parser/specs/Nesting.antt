-- The nesting weight of a file's tokens.
use Rattle.std.specs.Prelude.{ℕ, ◌+◌, ◌-◌, ◌≤◌, nat_lt, if◌then◌else◌, List, [], ◌∷◌, Option, Some, None}
use Rattle.star_lex.specs.declared.token.Keyword.{Keyword}
use Rattle.star_lex.specs.declared.token.Keyword.TheVariants as word
use Rattle.star_lex.specs.declared.token.Punctuator.{Punctuator}
use Rattle.star_lex.specs.declared.token.Punctuator.TheVariants as s
use Rattle.star_lex.specs.declared.token.Kind.{Kind}
use Rattle.star_lex.specs.declared.token.Kind.TheVariants as k
use Rattle.star_lex.specs.declared.token.Token.{Token}
use Rattle.star_parser.specs.declared.nest.Effect.{Effect}
use Rattle.star_parser.specs.declared.nest.Effect.TheVariants as e
use Rattle.star_parser.specs.declared.nest.Nesting.{Nesting}

-- `+ - * ** // % ~ & | ^ << >> < > <= >= == != .` add 1
abbrev pub of_sign : Punctuator → Effect
of_sign s.Comma = e.Comma
of_sign s.Semicolon = e.Semicolon
of_sign s.LeftParen = e.Opens
of_sign s.LeftBracket = e.Opens
of_sign s.LeftBrace = e.Opens
of_sign s.RightParen = e.Closes
of_sign s.RightBracket = e.Closes
of_sign s.RightBrace = e.Closes
of_sign s.Plus = e.Adds
of_sign s.Minus = e.Adds
of_sign s.Star = e.Adds
of_sign s.StarStar = e.Adds
of_sign s.SlashSlash = e.Adds
of_sign s.Percent = e.Adds
of_sign s.Tilde = e.Adds
of_sign s.Ampersand = e.Adds
of_sign s.Bar = e.Adds
of_sign s.Caret = e.Adds
of_sign s.ShiftLeft = e.Adds
of_sign s.ShiftRight = e.Adds
of_sign s.Less = e.Adds
of_sign s.Greater = e.Adds
of_sign s.LessEqual = e.Adds
of_sign s.GreaterEqual = e.Adds
of_sign s.EqualEqual = e.Adds
of_sign s.NotEqual = e.Adds
of_sign s.Dot = e.Adds
of_sign _ = e.Nothing

-- `and or not in if else for` add 1
abbrev pub of_keyword : Keyword → Effect
of_keyword word.And = e.Adds
of_keyword word.Or = e.Adds
of_keyword word.Not = e.Adds
of_keyword word.In = e.Adds
of_keyword word.If = e.Adds
of_keyword word.Else = e.Adds
of_keyword word.For = e.Adds
of_keyword word.Lambda = e.Lambda
of_keyword _ = e.Nothing

abbrev pub of_kind : Kind → Effect
of_kind (k.Punctuator sign) = of_sign sign
of_kind (k.Keyword keyword) = of_keyword keyword
of_kind k.Newline = e.Newline
of_kind k.Indent = e.Indent
of_kind k.Outdent = e.Outdent
of_kind _ = e.Nothing

pub record State : Type 0 where
  pub weight : ℕ
  -- the weight that each open bracket remembers, the innermost first
  pub remembered : List ℕ
  -- how many indentations above 0 are open
  pub indents : ℕ

-- the state that the code keeps
abbrev pub state : Nesting → State
state n = record { weight = n.weight; remembered = n.remembered.items; indents = n.indents }

abbrev pub at_start : State
at_start = record { weight = 0; remembered = []; indents = 0 }

-- the weight that the innermost open bracket remembers, or else a number
abbrev pub innermost : ℕ → List ℕ → ℕ
innermost w [] = w
innermost w (r ∷ rs) = r

abbrev pub outer : List ℕ → List ℕ
outer [] = []
outer (r ∷ rs) = rs

abbrev pub raised : List ℕ → List ℕ
raised [] = []
raised (r ∷ rs) = (r + 1) ∷ rs

-- a `;` inside brackets changes nothing
abbrev pub semicolon : State → ℕ
semicolon n = elim n.remembered [ [] ↦ n.indents | r ∷ rs ↦ n.weight ]

abbrev pub after_token : Effect → State → State
after_token e.Nothing n = n
after_token e.Adds n = record { weight = n.weight + 1; remembered = n.remembered; indents = n.indents }
-- an opening bracket adds 1 and remembers the new weight
after_token e.Opens n =
    record { weight = n.weight + 1; remembered = (n.weight + 1) ∷ n.remembered; indents = n.indents }
-- a closing bracket gives back the weight that the innermost open one remembers, which is forgotten
after_token e.Closes n =
    record { weight = innermost n.weight n.remembered; remembered = outer n.remembered; indents = n.indents }
-- so does a comma inside brackets, which forgets nothing
after_token e.Comma n =
    record { weight = innermost n.weight n.remembered; remembered = n.remembered; indents = n.indents }
-- `lambda` adds 1, also to the weight that the innermost open bracket remembers
after_token e.Lambda n = record { weight = n.weight + 1; remembered = raised n.remembered; indents = n.indents }
-- as a statement begins the weight is the number of open indentations
after_token e.Semicolon n = record { weight = semicolon n; remembered = n.remembered; indents = n.indents }
after_token e.Newline n = record { weight = n.indents; remembered = n.remembered; indents = n.indents }
after_token e.Indent n = record { weight = n.indents + 1; remembered = n.remembered; indents = n.indents + 1 }
after_token e.Outdent n = record { weight = n.indents - 1; remembered = n.remembered; indents = n.indents - 1 }

abbrev pub limit : ℕ
limit = 100

-- the line of the first token that takes the weight above the limit
abbrev pub passes : State → List Token → Option ℕ
passes n [] = None
passes n (t ∷ ts) = let m = after_token (of_kind t.kind) n in if nat_lt limit m.weight then Some t.line else passes m ts

abbrev pub too_nested : List Token → Option ℕ
too_nested ts = passes at_start ts

-- ---- no number of a state is above a bound

abbrev pub Each : ℕ → List ℕ → Type 0
Each most [] = Unit {0}
Each most (r ∷ rs) = (r ≤ most) × Each most rs

pub record Within (most : ℕ) (n : State) : Type 0 where
  pub weight : n.weight ≤ most
  pub remembered : Each most n.remembered
  pub indents : n.indents ≤ most
