-- Texts that are parsed already, by the numbers of their files.
use Rattle.std.specs.Prelude.{◌≢◌, ℕ, ◌<◌, List, length, Option, IfSome, Result, Ok, Err, slice_index_or}
use denote.Ref.{Bor}
use Rattle.star_label.specs.Files.{File, text_at}
use Rattle.star_lex.specs.declared.token.SyntaxFault.{SyntaxFault}
use Rattle.star_lex.specs.declared.token.SyntaxFault.TheVariants.{Memory}
use Rattle.star_parser.specs.Sources.{Parses}
use Rattle.star_tree.specs.declared.tree.Tree.{Tree}

-- the tree of a text, or the fault of a text that has none
abbrev pub ParsedView : Type 0
ParsedView = Result (Bor Tree) SyntaxFault

abbrev pub IsParsed : List ℕ → ParsedView → Type 0
IsParsed text (Ok tree) = Parses text (Ok tree.now)
IsParsed text (Err fault) = Parses text (Err fault) × (fault ≢ Memory)

-- whatever is there for a file, by its number, is the result of parsing its text
abbrev pub AreParsesOf : List File → List (Option ParsedView) → Type 0
AreParsesOf files parses =
    (n : ℕ) (d : Option ParsedView) → n < length parses → IfSome (slice_index_or parses n d) (IsParsed (text_at files n))
