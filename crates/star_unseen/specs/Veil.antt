-- The cells and files that are hidden from a run, and what leads to none of them: values, cells, states.
use Rattle.std.specs.Prelude.{◌≡◌, ℕ, Bool, false, List, [], ◌∷◌, Option, Some, None}
use Rattle.star_store.specs.declared.values.Value.{Value}
use Rattle.star_store.specs.declared.values.Value.TheVariants as value
use Rattle.star_store.specs.declared.values.Cell.{Cell}
use Rattle.star_store.specs.declared.values.Cell.TheVariants as cell
use Rattle.star_store.specs.declared.values.HeapCell.{HeapCell}
use Rattle.star_meaning.specs.Run.{State}

-- the cells, by their homes and places, and the files that are hidden from a run
pub record Hides : Type 0 where
  pub cell : ℕ → ℕ → Bool
  pub file : ℕ → Bool

-- a value leads to no hidden cell by itself
abbrev pub IsVisible : Hides → Value → Type 0
IsVisible hides (value.Ref home at) = hides.cell home at ≡ false
IsVisible hides _ = Unit {0}

abbrev pub FileIsVisible : Hides → ℕ → Type 0
FileIsVisible hides n = hides.file n ≡ false

-- a fact holds of each of some things, or of the one that may be there
abbrev pub Every : {A : Type 0} → (A → Type 0) → List A → Type 0
Every P [] = Unit {0}
Every P (x ∷ xs) = P x × Every P xs

abbrev pub Maybe : {A : Type 0} → (A → Type 0) → Option A → Type 0
Maybe P None = Unit {0}
Maybe P (Some x) = P x

abbrev pub AreVisible : Hides → List Value → Type 0
AreVisible hides = Every (IsVisible hides)

abbrev pub VisibleIfThere : Hides → Option Value → Type 0
VisibleIfThere hides = Maybe (IsVisible hides)

abbrev pub PairIsVisible : Hides → Value × Value → Type 0
PairIsVisible hides e = IsVisible hides e.0 × IsVisible hides e.1

abbrev pub PairsAreVisible : Hides → List (Value × Value) → Type 0
PairsAreVisible hides = Every (PairIsVisible hides)

abbrev pub FieldsAreVisible : Hides → List (List ℕ × Value) → Type 0
FieldsAreVisible hides = Every (λ e. IsVisible hides e.1)

-- no value in a cell leads to a hidden one, and a function or a frame is of a file that is not hidden
abbrev pub CellIsVisible : Hides → Cell → Type 0
CellIsVisible hides (cell.Text t) = Unit {0}
CellIsVisible hides (cell.Range r) = Unit {0}
CellIsVisible hides (cell.Tuple xs) = AreVisible hides xs
CellIsVisible hides (cell.List xs) = AreVisible hides xs
CellIsVisible hides (cell.Dict es) = PairsAreVisible hides es
CellIsVisible hides (cell.Func f) = AreVisible hides f.defaults × IsVisible hides f.frame × FileIsVisible hides f.file
CellIsVisible hides (cell.Frame f) = VisibleIfThere hides f.parent × Every (VisibleIfThere hides) f.slots
    × FileIsVisible hides f.file
CellIsVisible hides (cell.Bound m v) = IsVisible hides v
CellIsVisible hides (cell.Set es) = PairsAreVisible hides es
CellIsVisible hides (cell.Struct fs) = FieldsAreVisible hides fs

-- so it is with each of these cells
abbrev pub CellsAreVisible : Hides → List HeapCell → Type 0
CellsAreVisible hides = Every (λ e. CellIsVisible hides e.cell)

-- the running module is this one, and none of its cells leads to anything hidden
pub record StateIsVisible (hides : Hides) (home : ℕ) (s : State) : Type 0 where
  pub home_is : s.store.home ≡ home
  pub cells : CellsAreVisible hides s.store.cells
