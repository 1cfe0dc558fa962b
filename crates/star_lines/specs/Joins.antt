-- Joins of the reports of one set of files.
use Rattle.std.specs.Prelude.{◌≡◌, ◌<◌, ◌^◌, ◌⊎◌, ⊤, ℕ, List, [], ◌∷◌, ◌++◌, Contains, length, map}
use Rattle.std.specs.List.{concat}
use Rattle.star_label.specs.Files.{File, IsOrdered}
use Rattle.star_plan.specs.Plan.{Plan}
use Rattle.star_plan.specs.Reading.{IsPlanOf}
use Rattle.star_join.specs.Laws.{HasRootsAmong}
use Rattle.star_report.specs.Wanted.{IsFullText}
use Rattle.star_report.specs.declared.wanted.Wanted.{Wanted}
use Rattle.star_shards.specs.Joined.{IsJoined, IsJoinedText}
use Rattle.star_shards.specs.Lines.{Report, report_text}
use Rattle.star_lines.specs.Lines.{HavePlainLabels, IsWhole, entry_text}

-- a report, as `--join` reads it, is that of a plan of files
pub record IsOf (wanted : Wanted) (files : List File) (plan : Plan) (r : Report) : Type 0 where
  pub text : List ℕ
  pub whole : IsFullText wanted files plan text
  pub report : r ≡ record { begun = whole.begun; entries = map (entry_text files) whole.fulls }

-- so is each of some reports, of its own plan
unfoldable pub AreOf : Wanted → List File → List Plan → List Report → Type 0
AreOf wanted files [] [] = ⊤
AreOf wanted files (p ∷ ps) (r ∷ rs) = IsOf wanted files p r × AreOf wanted files ps rs
AreOf wanted files [] (r ∷ rs) = ⊥
AreOf wanted files (p ∷ ps) [] = ⊥

-- each of these is a plan of the files, whose roots are roots of the plan, with its prelude and its mode
unfoldable pub AreParts : List File → Plan → List Plan → Type 0
AreParts files plan [] = ⊤
AreParts files plan (p ∷ ps) = (IsPlanOf files p × HasRootsAmong p plan) × AreParts files plan ps

-- one of these has a root
unfoldable pub HasRoot : List Plan → ℕ → Type 0
HasRoot [] n = ⊥
HasRoot (p ∷ ps) n = Contains p.roots n ⊎ HasRoot ps n

-- The join of reports of plans of the same files, of which none leaves a module out or has calls, is the report of the plan that has
-- all their roots.
abbrev pub ReportsJoin : Type 0
ReportsJoin =
    (wanted : Wanted) (files : List File) (ps : List Plan) (rs : List Report) (plan : Plan) (whole joined : Report)
    → IsWhole wanted → HavePlainLabels files → IsOrdered files → IsPlanOf files plan
    → AreParts files plan ps → ((n : ℕ) → Contains plan.roots n → HasRoot ps n) → AreOf wanted files ps rs
    → IsOf wanted files plan whole → IsJoined rs joined → joined ≡ whole

-- each of some texts is the report of its own plan
unfoldable pub AreTexts : Wanted → List File → List Plan → List (List ℕ) → Type 0
AreTexts wanted files [] [] = ⊤
AreTexts wanted files (p ∷ ps) (t ∷ ts) = IsFullText wanted files p t × AreTexts wanted files ps ts
AreTexts wanted files [] (t ∷ ts) = ⊥
AreTexts wanted files (p ∷ ps) [] = ⊥

-- What lines are joined to that are such reports, one after another, is the report of the plan that has all their roots,
-- byte for byte. (A text in memory has fewer than 2^63 bytes.)
abbrev pub JoinsAreReports : Type 0
JoinsAreReports =
    (wanted : Wanted) (files : List File) (ps : List Plan) (ts : List (List ℕ)) (plan : Plan) (text : List ℕ)
    (joined : Report) → IsWhole wanted → HavePlainLabels files → IsOrdered files → IsPlanOf files plan
    → AreParts files plan ps → ((n : ℕ) → Contains plan.roots n → HasRoot ps n) → AreTexts wanted files ps ts
    → IsFullText wanted files plan text → length (concat ts) < 2 ^ 63 → IsJoinedText (concat ts) joined
    → report_text joined ++ 10 ∷ [] ≡ text
