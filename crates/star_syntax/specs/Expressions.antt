-- The grammar of expressions: one line for each production, with the production above it.
use Rattle.std.specs.Prelude.{ℕ, zero, suc, ◌==◌, Bool, if◌then◌else◌, List, [], ◌∷◌, ◌++◌, Option, Some, None}
use denote.Enum.Bare.{sameb}
use Rattle.star_lex.specs.contracts.token.Punctuator.{the_type as sign_type}
use Rattle.star_lex.specs.contracts.token.Keyword.{the_type as keyword_type}
use Rattle.star_lex.specs.declared.token.Punctuator.{Punctuator}
use Rattle.star_lex.specs.declared.token.Punctuator.TheVariants as s
use Rattle.star_lex.specs.declared.token.Keyword.{Keyword}
use Rattle.star_lex.specs.declared.token.Keyword.TheVariants as k
use Rattle.star_syntax.specs.declared.leaf.TokenValue.{TokenValue}
use Rattle.star_syntax.specs.declared.leaf.TokenValue.TheVariants as word
use Rattle.star_syntax.specs.declared.level.Level.TheVariants as levels
use Rattle.star_syntax.specs.declared.level.Suffix.{Suffix}
use Rattle.star_syntax.specs.declared.level.Suffix.TheVariants as suffixes
use Rattle.star_tree.specs.declared.tree.Position.{Position}
use Rattle.star_tree.specs.declared.tree.Name.{Name}
use Rattle.star_tree.specs.declared.tree.UnaryOperator.{UnaryOperator}
use Rattle.star_tree.specs.declared.tree.UnaryOperator.TheVariants as unaries
use Rattle.star_tree.specs.declared.tree.BinaryOperator.{BinaryOperator}
use Rattle.star_tree.specs.declared.tree.BinaryOperator.TheVariants as binaries
use Rattle.star_tree.specs.declared.tree.Comparator.{Comparator}
use Rattle.star_tree.specs.declared.tree.Comparator.TheVariants as comparators
use Rattle.star_tree.specs.declared.tree.Expression.{Expression}
use Rattle.star_tree.specs.declared.tree.Expression.TheVariants as e
use Rattle.star_tree.specs.declared.tree.Entry.{Entry, roll-Entry}
use Rattle.star_tree.specs.declared.tree.Argument.{Argument}
use Rattle.star_tree.specs.declared.tree.Argument.TheVariants as arguments
use Rattle.star_tree.specs.declared.tree.Parameter.{Parameter}
use Rattle.star_tree.specs.declared.tree.Parameter.TheVariants as parameters
use Rattle.star_tree.specs.declared.tree.Target.{Target}
use Rattle.star_tree.specs.declared.tree.Clauses.{Clauses, roll-Clauses}
use Rattle.star_tree.specs.declared.tree.Clause.{Clause}
use Rattle.star_tree.specs.declared.tree.Clause.TheVariants as clauses
use Rattle.star_syntax.specs.Sorts.{Sort, Val, both, maybe, list}
use Rattle.star_syntax.specs.Sorts as sorts
use Rattle.star_syntax.specs.Grammar.{level, Part, terminal, empty, seq, alt, fold, act, when, nonterminal}
use Rattle.star_syntax.specs.Keeps.{keep, arguments_in_order, parameters_in_order, target_of}

-- ---- words for productions

abbrev pub left_of : {A B : Type 0} → A × B → A
left_of p = p.0

abbrev pub right_of : {A B : Type 0} → A × B → B
right_of p = p.1

abbrev pub none_of : {A : Type 0} → Unit {0} → Option A
none_of u = None

abbrev pub nil_of : {A : Type 0} → Unit {0} → List A
nil_of u = []

abbrev pub single : {A : Type 0} → A → List A
single x = x ∷ []

abbrev pub snoc : {A : Type 0} → List A → A → List A
snoc xs x = xs ++ x ∷ []

-- `[ g ]`
abbrev pub opt : {a : Sort} → Part a → Part (maybe a)
opt g = alt (act Some g) (act none_of empty)

-- `{ g }`
abbrev pub rep : {a : Sort} → Part a → Part (list a)
rep g = fold snoc (act nil_of empty) g

-- the second of two, if the first says nothing more
abbrev pub after : {a b : Sort} → Part a → Part b → Part b
after g h = act right_of (seq g h)

-- the first of two, if the second says nothing more
abbrev pub before : {a b : Sort} → Part a → Part b → Part a
before g h = act left_of (seq g h)

-- ---- leaves

-- `==` on signs and on keywords
unfoldable pub same_sign : Punctuator → Punctuator → Bool
same_sign = sameb sign_type

unfoldable pub same_keyword : Keyword → Keyword → Bool
same_keyword = sameb keyword_type

abbrev pub said : Bool → Option (Unit {0})
said b = if b then Some tt else None

abbrev pub is_sign : Punctuator → TokenValue → Option (Unit {0})
is_sign sign (word.Punctuator found) = said (same_sign sign found)
is_sign sign _ = None

abbrev pub is_keyword : Keyword → TokenValue → Option (Unit {0})
is_keyword keyword (word.Keyword found) = said (same_keyword keyword found)
is_keyword keyword _ = None

abbrev pub placed_at : Position → Option (Unit {0}) → Option Position
placed_at position None = None
placed_at position (Some u) = Some position

abbrev pub name_of : Position → TokenValue → Option Name
name_of position (word.Name text) = Some (record { text = text; position = position })
name_of position _ = None

-- a name, an int or a string as an operand
abbrev pub atom_of : Position → TokenValue → Option Expression
atom_of position (word.Name text) = Some (e.Name (record { text = text; position = position }))
atom_of position (word.Int value) = Some (e.Int value)
atom_of position (word.Text text) = Some (e.Text text)
atom_of position _ = None

abbrev pub unary_sign : Punctuator → Option UnaryOperator
unary_sign s.Plus = Some unaries.Plus
unary_sign s.Minus = Some unaries.Minus
unary_sign s.Tilde = Some unaries.Invert
unary_sign _ = None

abbrev pub unary_word : TokenValue → Option UnaryOperator
unary_word (word.Punctuator sign) = unary_sign sign
unary_word _ = None

-- the signs between two operands
abbrev pub binary_sign : Punctuator → Option BinaryOperator
binary_sign s.Star = Some binaries.Multiply
binary_sign s.SlashSlash = Some binaries.FloorDivide
binary_sign s.Percent = Some binaries.Modulo
binary_sign s.Plus = Some binaries.Add
binary_sign s.Minus = Some binaries.Subtract
binary_sign s.ShiftLeft = Some binaries.ShiftLeft
binary_sign s.ShiftRight = Some binaries.ShiftRight
binary_sign s.Ampersand = Some binaries.BitAnd
binary_sign s.Caret = Some binaries.BitXor
binary_sign s.Bar = Some binaries.BitOr
binary_sign _ = None

-- how loosely they bind: 0 is the tightest
abbrev pub precedence : BinaryOperator → ℕ
precedence binaries.Multiply = 0
precedence binaries.FloorDivide = 0
precedence binaries.Modulo = 0
precedence binaries.Add = 1
precedence binaries.Subtract = 1
precedence binaries.ShiftLeft = 2
precedence binaries.ShiftRight = 2
precedence binaries.BitAnd = 3
precedence binaries.BitXor = 4
precedence binaries.BitOr = 5

abbrev pub only_at : ℕ → Option BinaryOperator → Option BinaryOperator
only_at n None = None
only_at n (Some operator) = if precedence operator == n then Some operator else None

abbrev pub binary_word : ℕ → TokenValue → Option BinaryOperator
binary_word n (word.Punctuator sign) = only_at n (binary_sign sign)
binary_word n _ = None

abbrev pub comparator_sign : Punctuator → Option Comparator
comparator_sign s.EqualEqual = Some comparators.Equal
comparator_sign s.NotEqual = Some comparators.NotEqual
comparator_sign s.Less = Some comparators.Less
comparator_sign s.Greater = Some comparators.Greater
comparator_sign s.LessEqual = Some comparators.LessEqual
comparator_sign s.GreaterEqual = Some comparators.GreaterEqual
comparator_sign _ = None

abbrev pub comparator_word : TokenValue → Option Comparator
comparator_word (word.Punctuator sign) = comparator_sign sign
comparator_word (word.Keyword k.In) = Some comparators.In
comparator_word _ = None

abbrev pub sign_ : Punctuator → Part sorts.nothing
sign_ sign = terminal (λ t. is_sign sign t.word)

abbrev pub keyword_ : Keyword → Part sorts.nothing
keyword_ keyword = terminal (λ t. is_keyword keyword t.word)

-- a sign or a keyword, with its position
abbrev pub sign_at : Punctuator → Part sorts.position
sign_at sign = terminal (λ t. placed_at t.position (is_sign sign t.word))

abbrev pub keyword_at : Keyword → Part sorts.position
keyword_at keyword = terminal (λ t. placed_at t.position (is_keyword keyword t.word))

abbrev pub name : Part sorts.name
name = terminal (λ t. name_of t.position t.word)

abbrev pub unary_operator : Part sorts.unary
unary_operator = terminal (λ t. unary_word t.word)

abbrev pub binary_operator : ℕ → Part sorts.binary
binary_operator n = terminal (λ t. binary_word n t.word)

-- ---- the values of productions

abbrev pub unary_of : UnaryOperator × Expression → Expression
unary_of p = e.Unary p.0 p.1

abbrev pub not_of : Expression → Expression
not_of x = e.Unary unaries.Not x

abbrev pub binary_of : Expression → BinaryOperator × Expression → Expression
binary_of left p = e.Binary p.0 left p.1

abbrev pub not_in_of : Unit {0} × Unit {0} → Comparator
not_in_of u = comparators.NotIn

abbrev pub comparison_of : Expression × Option (Comparator × Expression) → Expression
comparison_of (left, None) = left
comparison_of (left, Some p) = e.Compare p.0 left p.1

abbrev pub and_of : Expression → Expression → Expression
and_of left right = e.And left right

abbrev pub or_of : Expression → Expression → Expression
or_of left right = e.Or left right

abbrev pub conditional_of : Expression × Option (Expression × Expression) → Expression
conditional_of (chosen, None) = chosen
conditional_of (chosen, Some p) = e.Conditional p.0 chosen p.1

abbrev pub lambda_of : Position × (List Parameter × Expression) → Expression
lambda_of p = e.Lambda p.0 p.1.0 p.1.1

abbrev pub tuple_unless_one : List Expression → Expression
tuple_unless_one [] = e.Tuple []
tuple_unless_one (x ∷ []) = x
tuple_unless_one (x ∷ y ∷ more) = e.Tuple (x ∷ y ∷ more)

-- the tests in parentheses, and whether a comma ends them
abbrev pub parentheses_of : Option (List Expression × Option (Unit {0})) → Expression
parentheses_of None = e.Tuple []
parentheses_of (Some (xs, None)) = tuple_unless_one xs
parentheses_of (Some (xs, Some comma)) = e.Tuple xs

-- the rest of a display after its first element or entry: clauses, or further ones
abbrev pub as_clauses : {A : Type 0} → Clauses → Option Clauses × List A
as_clauses c = (Some c, [])

abbrev pub as_further : {A : Type 0} → List A → Option Clauses × List A
as_further more = (None, more)

abbrev pub list_of : Position × Option (Expression × (Option Clauses × List Expression)) → Expression
list_of (position, None) = e.List []
list_of (position, Some (x, (None, more))) = e.List (x ∷ more)
list_of (position, Some (x, (Some c, more))) = e.ListComprehension position x c

abbrev pub entry_of : Expression × Expression → Entry
entry_of p = roll-Entry (record { key = p.0; value = p.1 })

abbrev pub dict_of : Position × Option (Entry × (Option Clauses × List Entry)) → Expression
dict_of (position, None) = e.Dict []
dict_of (position, Some (x, (None, more))) = e.Dict (x ∷ more)
dict_of (position, Some (x, (Some c, more))) = e.DictComprehension position x c

abbrev pub clause_of : Target × Expression → Clause
clause_of p = clauses.For p.0 p.1

abbrev pub clauses_of : (Target × Expression) × List Clause → Clauses
clauses_of p = roll-Clauses (record { target = p.0.0; iterable = p.0.1; more = p.1 })

-- the stop of a slice, and its stride
abbrev pub StopAndStride : Type 0
StopAndStride = Option Expression × Option Expression

abbrev pub as_slice : {A : Type 0} → StopAndStride → Option StopAndStride × List A
as_slice c = (Some c, [])

abbrev pub as_index : {A : Type 0} → List A → Option StopAndStride × List A
as_index more = (None, more)

abbrev pub slice_from_nothing : StopAndStride → Suffix
slice_from_nothing c = suffixes.Slice None c.0 c.1

abbrev pub subscript_of : Expression × (Option StopAndStride × List Expression) → Suffix
subscript_of (x, (None, more)) = suffixes.Index (tuple_unless_one (x ∷ more))
subscript_of (x, (Some c, more)) = suffixes.Slice (Some x) c.0 c.1

abbrev pub with_suffix : Expression → Suffix → Expression
with_suffix value (suffixes.Attribute attribute) = e.Attribute value attribute
with_suffix value (suffixes.Call given) = e.Call value given
with_suffix value (suffixes.Index index) = e.Index value index
with_suffix value (suffixes.Slice start stop stride) = e.Slice value start stop stride

abbrev pub named_of : Name × Expression → Argument
named_of p = arguments.Named p.0 p.1

abbrev pub parameter_of : Name × Option Expression → Parameter
parameter_of (bound, None) = parameters.Plain bound
parameter_of (bound, Some x) = parameters.Default bound x

abbrev pub star_of : Option Name → Parameter
star_of None = parameters.BareStar
star_of (Some bound) = parameters.Star bound

-- ---- productions

-- Test
abbrev pub a_test : Part sorts.expression
a_test = nonterminal (level levels.Test)

-- ',' Test
unfoldable pub next_test : Part sorts.expression
next_test = after (sign_ s.Comma) a_test

-- Test {',' Test}
unfoldable pub list_of_tests : Part (list sorts.expression)
list_of_tests = fold snoc (act single a_test) next_test

-- Tests = Test {',' Test}
unfoldable pub tests : Part sorts.expression
tests = act tuple_unless_one list_of_tests

-- ---- targets, clauses

-- ',' Primary
unfoldable pub next_primary : Part sorts.expression
next_primary = after (sign_ s.Comma) (nonterminal (level levels.Primary))

-- Primary {',' Primary}
unfoldable pub list_of_primaries : Part (list sorts.expression)
list_of_primaries = fold snoc (act single (nonterminal (level levels.Primary))) next_primary

-- Primary {',' Primary}, several as a tuple
unfoldable pub primaries : Part sorts.expression
primaries = act tuple_unless_one list_of_primaries

-- Targets = Primary {',' Primary}, if they are a target
unfoldable pub targets : Part sorts.target
targets = when target_of primaries

-- ForClause = 'for' Targets 'in' Or
unfoldable pub for_clause : Part (both sorts.target sorts.expression)
for_clause = after (keyword_ k.For) (seq targets (after (keyword_ k.In) (nonterminal (level levels.Or))))

-- 'if' Or
unfoldable pub if_clause : Part sorts.clause
if_clause = act clauses.If (after (keyword_ k.If) (nonterminal (level levels.Or)))

-- ForClause | 'if' Or
unfoldable pub next_clause : Part sorts.clause
next_clause = alt (act clause_of for_clause) if_clause

-- {ForClause | 'if' Or}
unfoldable pub further_clauses : Part (list sorts.clause)
further_clauses = rep next_clause

-- Clauses = ForClause {ForClause | 'if' Or}
unfoldable pub all_clauses : Part sorts.clauses
all_clauses = act clauses_of (seq for_clause further_clauses)

-- ---- parentheses and displays

-- [Tests [',']]
unfoldable pub inside : Part (maybe (both (list sorts.expression) (maybe sorts.nothing)))
inside = opt (seq list_of_tests (opt (sign_ s.Comma)))

-- '(' [Tests [',']] ')'
unfoldable pub parentheses : Part sorts.expression
parentheses = after (sign_ s.LeftParen) (act parentheses_of (before inside (sign_ s.RightParen)))

-- {',' Test}
unfoldable pub further_tests : Part (list sorts.expression)
further_tests = rep next_test

-- Clauses | {',' Test} [',']
unfoldable pub after_element : Part (both (maybe sorts.clauses) (list sorts.expression))
after_element = alt (act as_clauses all_clauses) (act as_further (before further_tests (opt (sign_ s.Comma))))

-- [Test (Clauses | {',' Test} [','])]
unfoldable pub elements : Part (maybe (both sorts.expression (both (maybe sorts.clauses) (list sorts.expression))))
elements = opt (seq a_test after_element)

-- '[' [Tests [',']] ']' | '[' Test Clauses ']'
unfoldable pub list_display : Part sorts.expression
list_display = act list_of (seq (sign_at s.LeftBracket) (before elements (sign_ s.RightBracket)))

-- Entry = Test ':' Test
unfoldable pub entry : Part sorts.entry
entry = act entry_of (seq a_test (after (sign_ s.Colon) a_test))

-- ',' Entry
unfoldable pub next_entry : Part sorts.entry
next_entry = after (sign_ s.Comma) entry

-- {',' Entry}
unfoldable pub further_entries : Part (list sorts.entry)
further_entries = rep next_entry

-- Clauses | {',' Entry} [',']
unfoldable pub after_entry : Part (both (maybe sorts.clauses) (list sorts.entry))
after_entry = alt (act as_clauses all_clauses) (act as_further (before further_entries (opt (sign_ s.Comma))))

-- [Entry (Clauses | {',' Entry} [','])]
unfoldable pub entries : Part (maybe (both sorts.entry (both (maybe sorts.clauses) (list sorts.entry))))
entries = opt (seq entry after_entry)

-- '{' [Entry {',' Entry} [',']] '}' | '{' Entry Clauses '}'
unfoldable pub dict_display : Part sorts.expression
dict_display = act dict_of (seq (sign_at s.LeftBrace) (before entries (sign_ s.RightBrace)))

-- name | int | string
unfoldable pub atom : Part sorts.expression
atom = terminal (λ t. atom_of t.position t.word)

-- Operand = name | int | string | '(' .. ')' | '[' .. ']' | '{' .. '}'
unfoldable pub operand : Part sorts.expression
operand = alt atom (alt parentheses (alt list_display dict_display))

-- ---- arguments

-- name '=' Test
unfoldable pub named : Part sorts.argument
named = act named_of (seq (before name (sign_ s.Assign)) a_test)

-- name '=' Test | '*' Test | '**' Test | Test: a name before '=' begins a named argument
unfoldable pub argument : Part sorts.argument
argument =
    alt named (alt (act arguments.Star (after (sign_ s.Star) a_test))
    (alt (act arguments.StarStar (after (sign_ s.StarStar) a_test)) (act arguments.Positional a_test)))

-- ',' argument
unfoldable pub next_argument : Part sorts.argument
next_argument = after (sign_ s.Comma) argument

-- argument {',' argument}
unfoldable pub list_of_arguments : Part (list sorts.argument)
list_of_arguments = fold snoc (act single argument) next_argument

-- Args = argument {',' argument}, in order
unfoldable pub ordered_arguments : Part (list sorts.argument)
ordered_arguments = when (keep arguments_in_order) list_of_arguments

-- [Args [',']]
unfoldable pub optional_arguments : Part (list sorts.argument)
optional_arguments = alt (before ordered_arguments (opt (sign_ s.Comma))) (act nil_of empty)

-- ---- parameters

-- '=' Test
unfoldable pub default : Part sorts.expression
default = after (sign_ s.Assign) a_test

-- name ['=' Test]
unfoldable pub named_parameter : Part sorts.parameter
named_parameter = act parameter_of (seq name (opt default))

-- '*' [name]
unfoldable pub star : Part sorts.parameter
star = act star_of (after (sign_ s.Star) (opt name))

-- '**' name
unfoldable pub star_star : Part sorts.parameter
star_star = act parameters.StarStar (after (sign_ s.StarStar) name)

-- name ['=' Test] | '*' [name] | '**' name
unfoldable pub parameter : Part sorts.parameter
parameter = alt named_parameter (alt star star_star)

-- ',' parameter
unfoldable pub next_parameter : Part sorts.parameter
next_parameter = after (sign_ s.Comma) parameter

-- parameter {',' parameter}
unfoldable pub list_of_parameters : Part (list sorts.parameter)
list_of_parameters = fold snoc (act single parameter) next_parameter

-- Params = parameter {',' parameter}, in order
unfoldable pub ordered_parameters : Part (list sorts.parameter)
ordered_parameters = when (keep parameters_in_order) list_of_parameters

-- [Params [',']]
unfoldable pub optional_parameters : Part (list sorts.parameter)
optional_parameters = alt (before ordered_parameters (opt (sign_ s.Comma))) (act nil_of empty)

-- '(' [Params [',']] ')'
unfoldable pub parameters_in_parentheses : Part (list sorts.parameter)
parameters_in_parentheses = after (sign_ s.LeftParen) (before optional_parameters (sign_ s.RightParen))

-- [Params]
unfoldable pub lambda_parameters : Part (list sorts.parameter)
lambda_parameters = alt ordered_parameters (act nil_of empty)

-- 'lambda' [Params] ':' Test
unfoldable pub lambda : Part sorts.expression
lambda = act lambda_of (seq (keyword_at k.Lambda) (seq lambda_parameters (after (sign_ s.Colon) a_test)))

-- ---- the suffixes of an operand

-- '.' name
unfoldable pub attribute : Part sorts.suffix
attribute = act suffixes.Attribute (after (sign_ s.Dot) name)

-- '(' [Args [',']] ')'
unfoldable pub call : Part sorts.suffix
call = act suffixes.Call (after (sign_ s.LeftParen) (before optional_arguments (sign_ s.RightParen)))

-- [':' [Test]]
unfoldable pub stride : Part (maybe sorts.expression)
stride = alt (after (sign_ s.Colon) (opt a_test)) (act none_of empty)

-- ':' [Test] [':' [Test]]
unfoldable pub stop_and_stride : Part (both (maybe sorts.expression) (maybe sorts.expression))
stop_and_stride = after (sign_ s.Colon) (seq (opt a_test) stride)

-- ':' [Test] [':' [Test]] | {',' Test}
unfoldable pub after_start : Part (both (maybe (both (maybe sorts.expression) (maybe sorts.expression)))
    (list sorts.expression))
after_start = alt (act as_slice stop_and_stride) (act as_index further_tests)

-- Test (':' [Test] [':' [Test]] | {',' Test})
unfoldable pub from_test : Part sorts.suffix
from_test = act subscript_of (seq a_test after_start)

-- Tests | [Test] ':' [Test] [':' [Test]]
unfoldable pub in_brackets : Part sorts.suffix
in_brackets = alt from_test (act slice_from_nothing stop_and_stride)

-- '[' Tests ']' | '[' [Test] ':' [Test] [':' [Test]] ']'
unfoldable pub subscript : Part sorts.suffix
subscript = after (sign_ s.LeftBracket) (before in_brackets (sign_ s.RightBracket))

-- '.' name | '(' .. ')' | '[' .. ']'
unfoldable pub suffix : Part sorts.suffix
suffix = alt attribute (alt call subscript)

-- Primary = Operand {suffix}
unfoldable pub primary : Part sorts.expression
primary = fold with_suffix operand suffix

-- ---- operators

-- ('+' | '-' | '~') Unary
unfoldable pub sign_operand : Part sorts.expression
sign_operand = act unary_of (seq unary_operator (nonterminal (level levels.Unary)))

-- Unary = ('+' | '-' | '~') Unary | Primary
unfoldable pub unary : Part sorts.expression
unary = alt sign_operand primary

-- the levels of signs between two operands, the tightest first:
-- Term = Unary {('*' | '//' | '%') Unary}
-- Sum = Term {('+' | '-') Term}
-- Shift = Sum {('<<' | '>>') Sum}
-- BitAnd = Shift {'&' Shift}
-- BitXor = BitAnd {'^' BitAnd}
-- BitOr = BitXor {'|' BitXor}
unfoldable pub climb : ℕ → Part sorts.expression
climb zero = unary
climb (suc n) = fold binary_of (climb n) (seq (binary_operator n) (climb n))

-- a sign of a level, and the operand after it
abbrev pub round_at : ℕ → Part (both sorts.binary sorts.expression)
round_at n = seq (binary_operator n) (climb n)

-- BitOr
unfoldable pub bit_or : Part sorts.expression
bit_or = climb 6

-- CmpOp = '==' | '!=' | '<' | '>' | '<=' | '>=' | 'in' | 'not' 'in'
unfoldable pub comparator : Part sorts.comparator
comparator = alt (terminal (λ t. comparator_word t.word)) (act not_in_of (seq (keyword_ k.Not) (keyword_ k.In)))

-- CmpOp BitOr
unfoldable pub compared : Part (both sorts.comparator sorts.expression)
compared = seq comparator bit_or

-- Cmp = BitOr [CmpOp BitOr]
unfoldable pub comparison : Part sorts.expression
comparison = act comparison_of (seq bit_or (opt compared))

-- 'not' Not
unfoldable pub not_operand : Part sorts.expression
not_operand = act not_of (after (keyword_ k.Not) (nonterminal (level levels.Negation)))

-- Not = 'not' Not | Cmp
unfoldable pub negation : Part sorts.expression
negation = alt not_operand comparison

-- 'and' Not
unfoldable pub next_negation : Part sorts.expression
next_negation = after (keyword_ k.And) negation

-- And = Not {'and' Not}
unfoldable pub conjunction : Part sorts.expression
conjunction = fold and_of negation next_negation

-- 'or' And
unfoldable pub next_conjunction : Part sorts.expression
next_conjunction = after (keyword_ k.Or) conjunction

-- Or = And {'or' And}
unfoldable pub disjunction : Part sorts.expression
disjunction = fold or_of conjunction next_conjunction

-- 'if' Or 'else' Test
unfoldable pub choice : Part (both sorts.expression sorts.expression)
choice = after (keyword_ k.If) (seq disjunction (after (keyword_ k.Else) a_test))

-- Or ['if' Or 'else' Test]
unfoldable pub conditional : Part sorts.expression
conditional = act conditional_of (seq disjunction (opt choice))

-- Test = Or ['if' Or 'else' Test] | 'lambda' [Params] ':' Test
unfoldable pub any_test : Part sorts.expression
any_test = alt lambda conditional
