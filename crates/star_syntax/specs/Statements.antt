-- The grammar of statements: one line for each production, with the production above it.
use Rattle.std.specs.Prelude.{if◌then◌else◌, List, [], ◌++◌, Option, Some, None}
use Rattle.star_lex.specs.declared.token.Punctuator.{Punctuator}
use Rattle.star_lex.specs.declared.token.Punctuator.TheVariants as s
use Rattle.star_lex.specs.declared.token.Keyword.TheVariants as k
use Rattle.star_syntax.specs.declared.leaf.TokenValue.{TokenValue}
use Rattle.star_syntax.specs.declared.leaf.TokenValue.TheVariants as word
use Rattle.star_tree.specs.declared.tree.Position.{Position}
use Rattle.star_tree.specs.declared.tree.Name.{Name}
use Rattle.star_tree.specs.declared.tree.Literal.{Literal}
use Rattle.star_tree.specs.declared.tree.BinaryOperator.{BinaryOperator}
use Rattle.star_tree.specs.declared.tree.BinaryOperator.TheVariants as binaries
use Rattle.star_tree.specs.declared.tree.Expression.{Expression}
use Rattle.star_tree.specs.declared.tree.Parameter.{Parameter}
use Rattle.star_tree.specs.declared.tree.Target.{Target}
use Rattle.star_tree.specs.declared.tree.Statement.{Statement, roll-Statement}
use Rattle.star_tree.specs.declared.tree.Form.{Form}
use Rattle.star_tree.specs.declared.tree.Form.TheVariants as f
use Rattle.star_tree.specs.declared.tree.Arm.{Arm, roll-Arm}
use Rattle.star_tree.specs.declared.tree.LoadedName.{LoadedName}
use Rattle.star_syntax.specs.Names.{is_name}
use Rattle.star_syntax.specs.Sorts.{Sort, Val, both, maybe, list}
use Rattle.star_syntax.specs.Sorts as sorts
use Rattle.star_syntax.specs.Grammar.{statement, Part, terminal, empty, seq, alt, fold, act, when, placed, nonterminal}
use Rattle.star_syntax.specs.Keeps.{target_of, augmented_of}
use Rattle.star_syntax.specs.Expressions.{none_of, nil_of, single, snoc, opt, rep, after, before, sign_, keyword_, name, a_test, tests, targets, parameters_in_parentheses}

-- ---- leaves

abbrev pub is_newline : TokenValue → Option (Unit {0})
is_newline word.Newline = Some tt
is_newline _ = None

abbrev pub is_indent : TokenValue → Option (Unit {0})
is_indent word.Indent = Some tt
is_indent _ = None

abbrev pub is_outdent : TokenValue → Option (Unit {0})
is_outdent word.Outdent = Some tt
is_outdent _ = None

abbrev pub is_end : TokenValue → Option (Unit {0})
is_end word.End = Some tt
is_end _ = None

abbrev pub newline : Part sorts.nothing
newline = terminal (λ t. is_newline t.word)

abbrev pub indent : Part sorts.nothing
indent = terminal (λ t. is_indent t.word)

abbrev pub outdent : Part sorts.nothing
outdent = terminal (λ t. is_outdent t.word)

abbrev pub end : Part sorts.nothing
end = terminal (λ t. is_end t.word)

abbrev pub literal_of : Position → TokenValue → Option Literal
literal_of position (word.Text text) = Some (record { text = text; position = position })
literal_of position _ = None

abbrev pub literal : Part sorts.literal
literal = terminal (λ t. literal_of t.position t.word)

-- AugOp: the sign before its `=`
abbrev pub augmenting_sign : Punctuator → Option BinaryOperator
augmenting_sign s.PlusAssign = Some binaries.Add
augmenting_sign s.MinusAssign = Some binaries.Subtract
augmenting_sign s.StarAssign = Some binaries.Multiply
augmenting_sign s.SlashSlashAssign = Some binaries.FloorDivide
augmenting_sign s.PercentAssign = Some binaries.Modulo
augmenting_sign s.AmpersandAssign = Some binaries.BitAnd
augmenting_sign s.BarAssign = Some binaries.BitOr
augmenting_sign s.CaretAssign = Some binaries.BitXor
augmenting_sign s.ShiftLeftAssign = Some binaries.ShiftLeft
augmenting_sign s.ShiftRightAssign = Some binaries.ShiftRight
augmenting_sign _ = None

abbrev pub augmenting_word : TokenValue → Option BinaryOperator
augmenting_word (word.Punctuator sign) = augmenting_sign sign
augmenting_word _ = None

abbrev pub augmenting : Part sorts.binary
augmenting = terminal (λ t. augmenting_word t.word)

-- ---- the values of productions

abbrev pub append : {A : Type 0} → List A → List A → List A
append xs ys = xs ++ ys

abbrev pub statement_of : Position × Form → Statement
statement_of p = roll-Statement (record { position = p.0; form = p.1 })

abbrev pub break_of : Unit {0} → Form
break_of u = f.Break

abbrev pub continue_of : Unit {0} → Form
continue_of u = f.Continue

abbrev pub pass_of : Unit {0} → Form
pass_of u = f.Pass

-- the name that a loaded one is bound to: its own, if no other is written
abbrev pub local_of : Option Name → Literal → Name
local_of None loaded = record { text = loaded.text; position = loaded.position }
local_of (Some local) loaded = local

-- the loaded name, whose string must have the form of a name and must not be a keyword
abbrev pub loaded_of : Option Name × Literal → Option LoadedName
loaded_of p = if is_name p.1.text then Some (record { local = local_of p.0 p.1; loaded = p.1 }) else None

abbrev pub load_of : Literal × List LoadedName → Form
load_of p = f.Load p.0 p.1

abbrev pub assign_of : Option Target → Expression → Option Form
assign_of None value = None
assign_of (Some target) value = Some (f.Assign target value)

abbrev pub augment_of : Option Target → BinaryOperator → Expression → Option Form
augment_of None operator value = None
augment_of (Some target) operator value = Some (f.Augment target operator value)

-- an assignment: before `=` is a target, before another sign a name or an index
abbrev pub assignment_of : Expression → Option BinaryOperator → Expression → Option Form
assignment_of left None value = assign_of (target_of left) value
assignment_of left (Some operator) value = augment_of (augmented_of left) operator value

-- an expression, or an assignment
abbrev pub expression_or_assignment_of : Expression × Option (Option BinaryOperator × Expression) → Option Form
expression_or_assignment_of (left, None) = Some (f.Expression left)
expression_or_assignment_of (left, Some (operator, value)) = assignment_of left operator value

abbrev pub arm_of : Expression × List Statement → Arm
arm_of p = roll-Arm (record { condition = p.0; body = p.1 })

abbrev pub if_of : List Arm × Option (List Statement) → Form
if_of (all, None) = f.If all []
if_of (all, Some others) = f.If all others

abbrev pub for_of : Target × (Expression × List Statement) → Form
for_of p = f.For p.0 p.1.0 p.1.1

abbrev pub def_of : Name × (List Parameter × List Statement) → Form
def_of p = f.Def p.0 p.1.0 p.1.1

-- ---- small statements

-- 'return' [Tests]
unfoldable pub returned : Part sorts.form
returned = act f.Return (after (keyword_ k.Return) (opt tests))

-- [name '=']
unfoldable pub local : Part (maybe sorts.name)
local = opt (before name (sign_ s.Assign))

-- [name '='] string
unfoldable pub loaded : Part sorts.loaded
loaded = when loaded_of (seq local literal)

-- ',' [name '='] string
unfoldable pub next_loaded : Part sorts.loaded
next_loaded = after (sign_ s.Comma) loaded

-- {',' [name '='] string}
unfoldable pub all_loaded : Part (list sorts.loaded)
all_loaded = rep next_loaded

-- '(' string {',' [name '='] string} [','] ')'
unfoldable pub loads : Part (both sorts.literal (list sorts.loaded))
loads = after (sign_ s.LeftParen) (before (seq literal (before all_loaded (opt (sign_ s.Comma)))) (sign_ s.RightParen))

-- Load = 'load' '(' string {',' [name '='] string} [','] ')'
unfoldable pub load : Part sorts.form
load = act load_of (after (keyword_ k.Load) loads)

-- '=' | AugOp
unfoldable pub assigning : Part (maybe sorts.binary)
assigning = alt (act none_of (sign_ s.Assign)) (act Some augmenting)

-- ('=' | AugOp) Tests
unfoldable pub right_side : Part (both (maybe sorts.binary) sorts.expression)
right_side = seq assigning tests

-- Tests | Tests '=' Tests | Tests AugOp Tests
unfoldable pub expression_or_assignment : Part sorts.form
expression_or_assignment = when expression_or_assignment_of (seq tests (opt right_side))

-- 'break' | 'continue' | 'pass'
unfoldable pub keyword_form : Part sorts.form
keyword_form =
    alt (act break_of (keyword_ k.Break)) (alt (act continue_of (keyword_ k.Continue)) (act pass_of (keyword_ k.Pass)))

-- Small = 'return' [Tests] | 'break' | 'continue' | 'pass' | Load | Tests | Tests '=' Tests | Tests AugOp Tests
unfoldable pub small_form : Part sorts.form
small_form = alt returned (alt keyword_form (alt load expression_or_assignment))

unfoldable pub small : Part sorts.statement
small = act statement_of (placed small_form)

-- ';' Small
unfoldable pub next_small : Part sorts.statement
next_small = after (sign_ s.Semicolon) small

-- Small {';' Small}
unfoldable pub small_statements : Part (list sorts.statement)
small_statements = fold snoc (act single small) next_small

-- Simple = Small {';' Small} [';'] NEWLINE
unfoldable pub simple : Part (list sorts.statement)
simple = before small_statements (seq (opt (sign_ s.Semicolon)) newline)

-- ---- statements that hold others

-- Statement {Statement}
unfoldable pub body : Part (list sorts.statement)
body = fold append (nonterminal statement) (nonterminal statement)

-- NEWLINE INDENT Statement {Statement} OUTDENT
unfoldable pub block : Part (list sorts.statement)
block = after newline (after indent (before body outdent))

-- Suite = Simple | NEWLINE INDENT Statement {Statement} OUTDENT
unfoldable pub suite : Part (list sorts.statement)
suite = alt simple block

-- ':' Suite
unfoldable pub colon_suite : Part (list sorts.statement)
colon_suite = after (sign_ s.Colon) suite

-- Test ':' Suite
unfoldable pub arm : Part sorts.arm
arm = act arm_of (seq a_test colon_suite)

-- 'elif' Test ':' Suite
unfoldable pub next_arm : Part sorts.arm
next_arm = after (keyword_ k.Elif) arm

-- 'if' Test ':' Suite
unfoldable pub first_arm : Part sorts.arm
first_arm = after (keyword_ k.If) arm

-- 'if' Test ':' Suite {'elif' Test ':' Suite}
unfoldable pub arms : Part (list sorts.arm)
arms = fold snoc (act single first_arm) next_arm

-- 'else' ':' Suite
unfoldable pub otherwise : Part (list sorts.statement)
otherwise = after (keyword_ k.Else) colon_suite

-- If = 'if' Test ':' Suite {'elif' Test ':' Suite} ['else' ':' Suite]
unfoldable pub condition : Part sorts.form
condition = act if_of (seq arms (opt otherwise))

-- For = 'for' Targets 'in' Tests ':' Suite
unfoldable pub iteration : Part sorts.form
iteration = act for_of (after (keyword_ k.For) (seq targets (after (keyword_ k.In) (seq tests colon_suite))))

-- Def = 'def' name '(' [Params [',']] ')' ':' Suite
unfoldable pub definition : Part sorts.form
definition = act def_of (after (keyword_ k.Def) (seq name (seq parameters_in_parentheses colon_suite)))

-- Def | If | For
unfoldable pub compound_form : Part sorts.form
compound_form = alt definition (alt condition iteration)

unfoldable pub compound : Part sorts.statement
compound = act statement_of (placed compound_form)

-- Statement = Def | If | For | Simple
unfoldable pub one_statement : Part (list sorts.statement)
one_statement = alt (act single compound) simple

-- {Statement}
unfoldable pub statements : Part (list sorts.statement)
statements = fold append (act nil_of empty) (nonterminal statement)

-- File = {Statement} END
unfoldable pub file : Part (list sorts.statement)
file = before statements end
