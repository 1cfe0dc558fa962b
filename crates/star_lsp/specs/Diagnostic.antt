-- What is told of the mistakes of a file.
use Rattle.std.specs.Prelude.{◌≡◌, ◌++◌, [], ℕ, ℤ, List, Option, None, Some, codes, option_map, string_bytes}
use Rattle.serde_json.specs.Data.{Data}
use Rattle.star_lex.specs.declared.token.Span.{Span}
use Rattle.star_mistakes.specs.declared.mistake.Mistake.{Mistake}
use Rattle.star_lsp.specs.Place.{IsRange}
use Rattle.star_lsp.specs.declared.document.Document.{Document}
use Rattle.star_lsp.specs.Message.{diagnostic_data, notification_data, publication_data}

-- the help of a mistake, on a line of its own
abbrev pub help_line : Option (List ℕ) → List ℕ
help_line None = []
help_line (Some help) = codes "\nhelp: " ++ help

-- what is told of a mistake: its message and its help
abbrev pub told_of : Mistake → List ℕ
told_of mistake = string_bytes mistake.text ++ help_line (option_map string_bytes mistake.help)

-- the bytes of a mistake
abbrev pub span_of : Mistake → Span
span_of mistake = record { start = mistake.mark.start; end = mistake.mark.end }

-- a diagnostic has the place, the code and the message of a mistake of an open file
abbrev pub IsDiagnosticOf : Document → Mistake → Data → Type 0
IsDiagnosticOf document mistake d =
    (range : Data) × IsRange document.places document.text (span_of mistake) range
    × (d ≡ diagnostic_data range mistake.code.now (told_of mistake))

-- diagnostics are published for the file with this URI, of this version
abbrev pub IsPublished : List ℕ → ℤ → Data → Type 0
IsPublished uri version d =
    (diagnostics : Data)
    × (d ≡ notification_data (codes "textDocument/publishDiagnostics") (publication_data uri version diagnostics))
