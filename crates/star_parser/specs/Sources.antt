-- The answer of the parser for a text: its tree, or the first fault.
use Rattle.std.specs.Prelude.{◌≡◌, ℕ, List, Option, Some, None, Result, Ok, Err}
use Rattle.star_lex.specs.declared.token.Token.{Token}
use Rattle.star_lex.specs.declared.token.SyntaxFault.{SyntaxFault}
use Rattle.star_lex.specs.declared.token.SyntaxFault.TheVariants.{TooNested, BadSyntax, Memory}
use Rattle.star_lex.specs.Values.{Text}
use Rattle.star_lex.specs.Lines.{lexed}
use Rattle.star_syntax.specs.declared.leaf.ValuedToken.{ValuedToken}
use Rattle.star_tree.specs.declared.tree.Statement.{Statement}
use Rattle.star_tree.specs.declared.tree.Tree.{Tree}
use Rattle.star_syntax.specs.Leaves.{leaves_of}
use Rattle.star_parser.specs.Nesting.{too_nested}
use Rattle.star_syntax.specs.Language.{Reading}

-- the grammar gives no tree
abbrev pub Unreadable : List ValuedToken → Type 0
Unreadable leaves = (statements : List Statement) → Reading statements leaves → ⊥

-- the answer for leaves that are not nested too deeply: their reading, or bad syntax if there is none
abbrev pub ReadAs : List ValuedToken → Result Tree SyntaxFault → Type 0
ReadAs leaves (Ok tree) = Reading tree.statements leaves
ReadAs leaves (Err fault) = (fault ≡ BadSyntax) × Unreadable leaves

-- the answer for tokens, with the line of the first that is nested too deeply
abbrev pub Weighed : Option ℕ → List ValuedToken → Result Tree SyntaxFault → Type 0
Weighed (Some line) leaves result = result ≡ Err (TooNested line)
Weighed None leaves result = ReadAs leaves result

-- the answer for a text with tokens, or with a fault of its own
abbrev pub WithTokens : Text → Result (List Token) SyntaxFault → Result Tree SyntaxFault → Type 0
WithTokens text (Err fault) result = result ≡ Err fault
WithTokens text (Ok tokens) result = Weighed (too_nested tokens) (leaves_of text tokens) result

-- want of memory is answered for any text
abbrev pub Parses : Text → Result Tree SyntaxFault → Type 0
Parses text (Err Memory) = Unit {0}
Parses text result = WithTokens text (lexed text) result
