-- Words of the contracts of reading ahead: a row that was right for files and what they see stays right.
use Rattle.std.specs.Prelude.{ℕ, All, IfOk, IfSome, List, Option, Result, Vec}
use Rattle.star_label.specs.Files.{File}
use Rattle.star_scope.specs.Resolve.{Outside}
use Rattle.star_reading.specs.Readings.{AreAllReadAs, AreReadAs, IsReadAs, Row}
use Rattle.star_reading.specs.declared.reading.Read.{Read}

-- if each of the old ones is the reading of its file, so is each of the new ones
abbrev pub StayReadings : List File → Outside → List (ℕ × Read) → List (ℕ × Read) → Type 0
StayReadings files outside old new = AreAllReadAs files outside old → AreAllReadAs files outside new

-- if this holds of files and what they see, and the row was right for them, it still is
abbrev pub StaysRight : (List File → Outside → Type 0) → Row → Row → Type 0
StaysRight P old new =
    (files : List File) (outside : Outside) → P files outside → AreReadAs files outside old
    → AreReadAs files outside new

-- the reading of a file is taken out of a row: if the row was right, both are
abbrev pub IsTaken : ℕ → Option Read → Row → Row → Type 0
IsTaken n taken old new =
    (files : List File) (outside : Outside) → AreReadAs files outside old
    → IfSome taken (IsReadAs files outside n) × AreReadAs files outside new

-- in each share that was read, each is the reading of its file
abbrev pub AreSharesReadAs : {Z E : Type 0} → List File → Outside → List (Result (Vec (ℕ × Read) Z) E) → Type 0
AreSharesReadAs files outside shares = All (λ r. IfOk r (λ reads. AreAllReadAs files outside reads.items)) shares
