-- What is written of joined reports.
use Rattle.std.specs.Prelude.{ℕ, List, [], ◌∷◌, ◌++◌}
use Rattle.std.specs.List.{All}
use Rattle.star_shards.specs.Lines.{Report, report_text}
use Rattle.star_shards.specs.Read.{IsRead, texts}
use Rattle.star_shards.specs.declared.joined.Joined.{Joined}

-- the report that lines were joined to
abbrev pub report_of : Joined → Report
report_of j = record { begun = j.begun; entries = texts j.entries.items }

-- each entry knows its label and its status
abbrev pub AreRead : Joined → Type 0
AreRead j = All IsRead j.entries.items

-- the text of a report, with a line end
abbrev pub text_with : ℕ → List (List ℕ) → List ℕ
text_with begun entries = report_text (record { begun = begun; entries = entries }) ++ 10 ∷ []
