-- The law of the parser: a text has one answer.
use Rattle.std.specs.Prelude.{◌≡◌, Result, Err}
use Rattle.star_lex.specs.declared.token.SyntaxFault.{SyntaxFault}
use Rattle.star_lex.specs.declared.token.SyntaxFault.TheVariants.{Memory}
use Rattle.star_lex.specs.Values.{Text}
use Rattle.star_tree.specs.declared.tree.Tree.{Tree}
use Rattle.star_parser.specs.Sources.{Parses}

-- The law: a text has one answer, want of memory aside.
abbrev pub OneAnswer : Type 0
OneAnswer =
    (text : Text) (r t : Result Tree SyntaxFault) → (r ≡ Err Memory → ⊥) → (t ≡ Err Memory → ⊥) → Parses text r
    → Parses text t → r ≡ t
