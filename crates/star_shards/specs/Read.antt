-- What is read of lines, as the code keeps it.
use Rattle.std.specs.Prelude.{◌≡◌, ◌≤◌, ⊤, ℕ, Bool, true, false, List, [], ◌∷◌, ◌++◌, ◌⊎◌, length, map, codes, Option, Some, None, MatchOption}
use denote.Ref.{Bor}
use Rattle.std.specs.BTreeMap.{BTreeMap, get_by}
use Rattle.std.specs.Option.{is_some}
use Rattle.std.specs.List.{All}
use Rattle.std.specs.Cmp.Lexicographic.{slice_cmp}
use Rattle.std.specs.Ordering.{nat_cmp}
use Rattle.std.specs.declared.cmp.Ordering.{Ordering}
use Rattle.star_shards.specs.Entries.{IsEntry, is_good, label_of}
use Rattle.star_shards.specs.Lines.{AreReports, IsCheck, IsReport, IsRun, Report, front, lines, listed}
use Rattle.star_shards.specs.Joined.{all_entries}
use Rattle.star_shards.specs.declared.entry.Entry.{Entry}
use Rattle.star_shards.specs.declared.line.Kind.{Kind}
use Rattle.star_shards.specs.declared.line.Kind.TheVariants.{Check, Empty, Neither, Run}
use Rattle.star_shards.specs.declared.line.Line.{Line}
use Rattle.star_shards.specs.declared.lines.Lines.{Lines}

-- an entry knows the label and the status of its text
pub record IsRead (e : Entry) : Type 0 where
  pub label : label_of e.text.now ≡ e.label.now
  pub good : e.is_good ≡ is_good e.text.now

-- the order of labels, by their bytes
abbrev pub by_bytes : Bor (List ℕ) → Bor (List ℕ) → Ordering
by_bytes x y = slice_cmp nat_cmp x.now y.now

-- whether a label is in a map
abbrev pub has : BTreeMap (Bor (List ℕ)) (Unit {0}) → List ℕ → Bool
has known label = is_some (get_by (λ k. slice_cmp nat_cmp label k.now) known)

-- the texts of entries
abbrev pub texts : List Entry → List (List ℕ)
texts es = map (λ e. e.text.now) es

-- a row of entries, with the brackets that end a report
pub record IsRow (content : List ℕ) (ts : List (List ℕ)) : Type 0 where
  pub each : All IsEntry ts
  pub content_is : content ≡ listed ts ++ codes "]}"

-- what was read of a row
abbrev pub AreOfRow : List ℕ → Option (List Entry) → Type 0
AreOfRow content None = (ts : List (List ℕ)) → IsRow content ts → ⊥
AreOfRow content (Some es) = IsRow content (texts es) × All IsRead es

-- this stands before so many entries in a report of this kind
abbrev pub IsKind : List ℕ → ℕ → Kind → Type 0
IsKind text count Run = (text ≡ front count) × (count ≡ 0 → ⊥)
IsKind text count Check = (text ≡ front 0) × (count ≡ 0 → ⊥)
IsKind text count Empty = (text ≡ front 0) × (count ≡ 0)
IsKind text count Neither = (text ≡ front count → ⊥) × (text ≡ front 0 → ⊥)

-- a truth value says whether a fact holds
abbrev pub Says : Bool → Type 0 → Type 0
Says true P = P
Says false P = P → ⊥

-- what was read of a line
abbrev pub IsOfLine : List ℕ → Line → Type 0
IsOfLine line l =
    (r : Report) × IsReport line r × (r.entries ≡ texts l.entries.items) × All IsRead l.entries.items
    × Says l.is_run (IsRun r) × Says l.is_check (IsCheck r)

-- what was read of the lines of a text
abbrev pub AreOfLines : List ℕ → Lines → Type 0
AreOfLines input ls =
    (rs : List Report) × AreReports (lines input) rs × (all_entries rs ≡ texts ls.entries.items)
    × All IsRead ls.entries.items × Says ls.are_runs (All IsRun rs) × Says ls.are_checks (All IsCheck rs)
