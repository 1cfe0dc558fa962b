-- The join of reports: each entry of any of them once, in the order of the labels' bytes.
use Rattle.std.specs.Prelude.{◌≡◌, ◌<◌, ⊤, ℕ, Bool, true, false, not, ◌||◌, List, [], ◌∷◌, ◌++◌, ◌⊎◌, length, map, filter, slice_index_or}
use Rattle.std.specs.List.{All, list_any}
use Rattle.std.specs.List.Sorted.{IsStrictlySortedBy}
use Rattle.std.specs.Cmp.Lexicographic.{slice_cmp}
use Rattle.std.specs.Ordering.{nat_cmp}
use Rattle.std.specs.Str.{bytes_eq}
use Rattle.star_shards.specs.Entries.{is_good, label_of}
use Rattle.star_shards.specs.Lines.{AreReports, IsCheck, IsReport, IsRun, Report, lines}
use Rattle.star_shards.specs.declared.refusal.Refusal.{Refusal}
use Rattle.star_shards.specs.declared.refusal.Refusal.TheVariants.{Differ, Memory, Mixed, NoReport}

-- whether a text is among these
abbrev pub is_among : List (List ℕ) → List ℕ → Bool
is_among texts text = list_any (bytes_eq text) texts

-- the entries of all reports
unfoldable pub all_entries : List Report → List (List ℕ)
all_entries [] = []
all_entries (r ∷ rs) = r.entries ++ all_entries rs

-- texts are the join of others: they are in the order of their labels, each once, and they are these texts
pub record IsJoin (texts joined : List (List ℕ)) : Type 0 where
  pub in_order : IsStrictlySortedBy (slice_cmp nat_cmp) (map label_of joined)
  pub all : (t : List ℕ) → is_among joined t ≡ is_among texts t

-- a report is the join of reports, which are all of runs or all of checks. It says that so many files were begun as it
-- has entries, or none
pub record IsJoined (reports : List Report) (joined : Report) : Type 0 where
  pub entries : IsJoin (all_entries reports) joined.entries
  pub begun : (All IsRun reports × IsRun joined) ⊎ (All IsCheck reports × IsCheck joined)

-- two entries have this label, and differ
pub record AreDifferent (texts : List (List ℕ)) (label : List ℕ) : Type 0 where
  pub one : List ℕ
  pub other : List ℕ
  pub one_there : is_among texts one ≡ true
  pub other_there : is_among texts other ≡ true
  pub labels : (label_of one ≡ label) × (label_of other ≡ label)
  pub differ : one ≡ other → ⊥

-- a report is the join of the reports that are the lines of a text
abbrev pub IsJoinedText : List ℕ → Report → Type 0
IsJoinedText input joined = (rs : List Report) × AreReports (lines input) rs × IsJoined rs joined

-- why texts of entries have no join
abbrev pub IsDifference : List (List ℕ) → Refusal → Type 0
IsDifference texts (NoReport n) = ⊥
IsDifference texts Mixed = ⊥
IsDifference texts (Differ label) = AreDifferent texts label.now
IsDifference texts Memory = ⊤

-- why the lines of a text have no join
abbrev pub IsRefused : List ℕ → Refusal → Type 0
IsRefused input (NoReport n) =
    (n < length (lines input)) × ((r : Report) → IsReport (slice_index_or (lines input) n []) r → ⊥)
IsRefused input Mixed =
    (rs : List Report) × AreReports (lines input) rs × (All IsRun rs → ⊥) × (All IsCheck rs → ⊥)
IsRefused input (Differ label) =
    (rs : List Report) × AreReports (lines input) rs × AreDifferent (all_entries rs) label.now
IsRefused input Memory = ⊤

-- of the modules with nothing at fault, the roots alone
abbrev pub is_shown : List (List ℕ) → List ℕ → Bool
is_shown roots text = not (is_good text) || is_among roots (label_of text)

abbrev pub shown : List (List ℕ) → List (List ℕ) → List (List ℕ)
shown roots texts = filter (is_shown roots) texts
