-- The results of reading files that are kept.
use Rattle.std.specs.Prelude.{◌≡◌, ◌<◌, ℕ, List, Option, Some, IfSome, length, slice_get}
use Rattle.star_label.specs.Files.{File, text_at}
use Rattle.star_dialect.specs.declared.Language.{Language}
use Rattle.star_scope.specs.declared.program.Prelude.{Prelude}
use Rattle.star_scope.specs.Resolve.{outside}
use Rattle.star_plan.specs.Reading.{IsPrelude}
use Rattle.star_reading.specs.Parsed.{AreParsesOf}
use Rattle.star_reading.specs.Readings.{AreReadAs, Row}
use Rattle.star_memo.specs.declared.readings.Readings.{Readings}

-- whatever the names of the prelude are, the row has readings of the files that see them, in a language
abbrev pub AreKnown : List File → Option ℕ → Language → Row → Type 0
AreKnown files prelude d row =
    (block : Option Prelude) → IsPrelude files prelude block → AreReadAs files (outside block d) row

-- whatever is kept for a file, by its number, is the result of reading it and of parsing its text
pub record AreReadings (files : List File) (r : Readings) : Type 0 where
  pub reads : AreKnown files r.prelude r.language r.reads.all.items
  pub parses : AreParsesOf files r.parses.items

-- the prelude, if there is one, is a file, and has the same text in both rows of files
abbrev pub HasPrelude : List File → List File → Option ℕ → Type 0
HasPrelude before files prelude = IfSome prelude (λ q. (q < length files) × (text_at before q ≡ text_at files q))

-- of a row, the entries of the files that have the same text in both rows of files are left, and no others
pub record AreLeft {A : Type 0} (before files : List File) (old new : List (Option A)) : Type 0 where
  pub there : (n : ℕ) (x : A) → slice_get new n ≡ Some (Some x) → slice_get old n ≡ Some (Some x)
  pub texts : (n : ℕ) (x : A) → slice_get new n ≡ Some (Some x) → text_at before n ≡ text_at files n
  pub stay : (n : ℕ) (x : A) → text_at before n ≡ text_at files n → slice_get old n ≡ Some (Some x)
      → slice_get new n ≡ Some (Some x)

-- so it is with both rows of readings
pub record StayIn (before files : List File) (old new : Readings) : Type 0 where
  pub reads : AreLeft before files old.reads.all.items new.reads.all.items
  pub parses : AreLeft before files old.parses.items new.parses.items
