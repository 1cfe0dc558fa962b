-- A text has one answer.
use Rattle.std.proofs.Common.{◌≡◌, ℕ, List, Option, Some, None, refl, ap, sym, ◌∙◌}
use Rattle.std.specs.Prelude.{Result, Ok, Err}
use Rattle.star_lex.specs.declared.token.Token.{Token}
use Rattle.star_lex.specs.declared.token.SyntaxFault.{SyntaxFault}
use Rattle.star_lex.specs.declared.token.SyntaxFault.TheVariants.{BadToken, BadIndent, TooNested, BadSyntax, Memory}
use Rattle.star_lex.specs.Values.{Text}
use Rattle.star_lex.specs.Lines.{lexed}
use Rattle.star_syntax.specs.declared.leaf.ValuedToken.{ValuedToken}
use Rattle.star_tree.specs.declared.tree.Statement.{Statement}
use Rattle.star_tree.specs.declared.tree.Tree.{Tree}
use Rattle.star_syntax.specs.Leaves.{leaves_of}
use Rattle.star_syntax.proofs.Once.{one_reading}
use Rattle.star_parser.specs.Nesting.{too_nested}
use Rattle.star_parser.specs.Sources.{ReadAs, Weighed, WithTokens, Parses}
use Rattle.star_parser.specs.Laws.{OneAnswer}

abbrev as_tree : List Statement → Result Tree SyntaxFault
as_tree z = Ok (record { statements = z })

read-once : (leaves : List ValuedToken) (r t : Result Tree SyntaxFault) → ReadAs leaves r → ReadAs leaves t → r ≡ t
read-once leaves (Ok a) (Ok b) i j = ap as_tree (one_reading leaves a.statements b.statements i j)
read-once leaves (Ok a) (Err f) i j = absurd (j.1 a.statements i)
read-once leaves (Err f) (Ok b) i j = absurd (i.1 b.statements j)
read-once leaves (Err f) (Err g) i j = ap (λ (z : SyntaxFault). Err z) (i.0 ∙ sym j.0)

weighed-once : (o : Option ℕ) (leaves : List ValuedToken) (r t : Result Tree SyntaxFault) → Weighed o leaves r → Weighed o leaves t → r ≡ t
weighed-once None leaves r t i j = read-once leaves r t i j
weighed-once (Some line) leaves r t i j = i ∙ sym j

with-tokens-once : (text : Text) (o : Result (List Token) SyntaxFault) (r t : Result Tree SyntaxFault) → WithTokens text o r → WithTokens text o t → r ≡ t
with-tokens-once text (Err fault) r t i j = i ∙ sym j
with-tokens-once text (Ok tokens) r t i j = weighed-once (too_nested tokens) (leaves_of text tokens) r t i j

with-tokens : (text : Text) (r : Result Tree SyntaxFault) → (r ≡ Err Memory → ⊥) → Parses text r → WithTokens text (lexed text) r
with-tokens text (Ok tree) clean p = p
with-tokens text (Err Memory) clean p = absurd (clean refl)
with-tokens text (Err (BadToken line)) clean p = p
with-tokens text (Err (BadIndent line)) clean p = p
with-tokens text (Err (TooNested line)) clean p = p
with-tokens text (Err BadSyntax) clean p = p

pub one_answer : OneAnswer
one_answer text r t clean pure p q = with-tokens-once text (lexed text) r t (with-tokens text r clean p) (with-tokens text t pure q)
