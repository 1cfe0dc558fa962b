-- Lines, and the reports that they are.
use Rattle.std.specs.Prelude.{◌≡◌, ◌<◌, ◌^◌, ⊤, ℕ, nat_eq, false, List, [], ◌∷◌, ◌++◌, ◌⊎◌, length, codes, decimal, if◌then◌else◌}
use Rattle.std.specs.List.{All, list_any}
use Rattle.star_shards.specs.Entries.{IsEntry}

-- texts with a comma before each
unfoldable pub more : List (List ℕ) → List ℕ
more [] = []
more (t ∷ ts) = 44 ∷ (t ++ more ts)

-- texts with commas between them
unfoldable pub listed : List (List ℕ) → List ℕ
listed [] = []
listed (t ∷ ts) = t ++ more ts

-- a report: how many files it says were begun, and its entries
pub record Report : Type 0 where
  pub begun : ℕ
  pub entries : List (List ℕ)

-- its text, without a line end
abbrev pub front : ℕ → List ℕ
front begun = codes "{\"begun\":" ++ (decimal begun ++ codes ",\"modules\":[")

abbrev pub report_text : Report → List ℕ
report_text r = front r.begun ++ (listed r.entries ++ codes "]}")

-- it is of a run that left no module out, or of a check
abbrev pub IsRun : Report → Type 0
IsRun r = r.begun ≡ length r.entries

abbrev pub IsCheck : Report → Type 0
IsCheck r = r.begun ≡ 0

-- a line is a report that left nothing out
pub record IsReport (line : List ℕ) (r : Report) : Type 0 where
  pub line_is : line ≡ report_text r
  pub each : All IsEntry r.entries
  pub whole : IsRun r ⊎ IsCheck r

-- the lines of a text: each ends at a line end, and the last one may lack it
abbrev pub onto_first : ℕ → List (List ℕ) → List (List ℕ)
onto_first b [] = (b ∷ []) ∷ []
onto_first b (l ∷ ls) = (b ∷ l) ∷ ls

unfoldable pub lines : List ℕ → List (List ℕ)
lines [] = []
lines (b ∷ bs) = if nat_eq b 10 then [] ∷ lines bs else onto_first b (lines bs)

-- each line is its report
unfoldable pub AreReports : List (List ℕ) → List Report → Type 0
AreReports [] [] = ⊤
AreReports (l ∷ ls) (r ∷ rs) = IsReport l r × AreReports ls rs
AreReports [] (r ∷ rs) = ⊥
AreReports (l ∷ ls) [] = ⊥

-- a text without a line end
abbrev pub IsOneLine : List ℕ → Type 0
IsOneLine text = list_any (λ b. nat_eq b 10) text ≡ false

-- texts one after another, each with a line end
unfoldable pub ended : List (List ℕ) → List ℕ
ended [] = []
ended (l ∷ ls) = l ++ 10 ∷ ended ls

-- the lines of texts without line ends are these texts
abbrev pub LinesAreCut : Type 0
LinesAreCut = (ls : List (List ℕ)) → All IsOneLine ls → lines (ended ls) ≡ ls

-- the text of a report whose entries have no line end has none
abbrev pub ReportsAreOneLine : Type 0
ReportsAreOneLine = (r : Report) → All IsOneLine r.entries → IsOneLine (report_text r)

-- a line is one report
abbrev pub OneReport : Type 0
OneReport = (line : List ℕ) (r s : Report) → length line < 2 ^ 63 → IsReport line r → IsReport line s → r ≡ s
