-- Reports as lines that `--join` reads.
use Rattle.std.specs.Prelude.{◌≡◌, ◌++◌, ℕ, false, List, [], ◌∷◌, map}
use Rattle.serde_json.specs.Written.{compact_text}
use Rattle.star_label.specs.Files.{File, label_at}
use Rattle.star_plan.specs.Plan.{Plan}
use Rattle.star_report.specs.Wanted.{Full, IsFullText, full_data, is_ok}
use Rattle.star_report.specs.declared.wanted.Wanted.{Wanted}
use Rattle.star_shards.specs.Data.{IsPlain}
use Rattle.star_shards.specs.Entries.{is_good, label_of}
use Rattle.star_shards.specs.Lines.{IsReport, IsRun, Report}

-- no label of a file has a byte that JSON escapes, as none in normal form has
abbrev pub HavePlainLabels : List File → Type 0
HavePlainLabels files = (n : ℕ) → IsPlain (label_at files n)

-- the report leaves no module out, and has no calls
abbrev pub IsWhole : Wanted → Type 0
IsWhole wanted = (wanted.only_roots ≡ false) × (wanted.calls ≡ false)

-- the entry of a module
abbrev pub entry_text : List File → Full → List ℕ
entry_text files f = compact_text (full_data files f)

-- the text of a report is a line for `--join`: the report of a run, with an entry for each module, which has the label
-- of the module's file, and is good exactly if the module is ok
pub record IsLine (files : List File) (begun : ℕ) (fulls : List Full) (text : List ℕ) : Type 0 where
  pub line : List ℕ
  pub text_is : text ≡ line ++ 10 ∷ []
  pub report : IsReport line (record { begun = begun; entries = map (entry_text files) fulls })
  pub run : IsRun (record { begun = begun; entries = map (entry_text files) fulls })
  pub labels : map (λ f. label_of (entry_text files f)) fulls ≡ map (λ f. label_at files f.shown.file) fulls
  pub good : map (λ f. is_good (entry_text files f)) fulls ≡ map (λ f. is_ok f.shown.ended) fulls

-- so is the text of each report, with any further members but calls, that leaves no module out
abbrev pub ReportsAreLines : Type 0
ReportsAreLines =
    (wanted : Wanted) (files : List File) (plan : Plan) (text : List ℕ) → IsWhole wanted
    → HavePlainLabels files → (x : IsFullText wanted files plan text) → IsLine files x.begun x.fulls text
