-- Laws of values as data.
use Rattle.std.specs.Prelude.{◌≡◌, ◌≤◌, ◌*◌, ◌⊎◌, ℕ, suc, true, List, [], Option, Some, length, slice_get}
use Rattle.serde_json.specs.Data.{Data, depth}
use Rattle.serde_json.specs.Read.{max_depth, read}
use Rattle.serde_json.specs.Written.{compact_text}
use Rattle.star_store.specs.declared.values.Value.{Value}
use Rattle.star_store.specs.declared.values.Cell.{Cell}
use Rattle.star_store.specs.declared.values.Cell.TheVariants as cell
use Rattle.star_store.specs.declared.fault.StoreFault.TheVariants.{Deep, Steps}
use Rattle.star_store.specs.declared.layout.Layout.TheVariants as layout
use Rattle.star_store.specs.Equal.{same}
use Rattle.star_store.specs.Fields.{names_of, rises}
use Rattle.star_store.specs.Json.{json}
use Rattle.star_store.specs.Spend.{Enough, Lacks, Spent}
use Rattle.star_store.specs.Text.{text}
use Rattle.star_data.specs.Data.{cell_of, data_of, text_in}
use Rattle.star_data.specs.Parts.{IsOpaque, IsPart, StandsIn}
use Rattle.star_data.specs.Reading.{read_within}

-- data stays where cells stay, and at every greater depth
abbrev pub DataStays : Type 0
DataStays =
    (look see : Value → Option Cell) → ((v : Value) (c : Cell) → look v ≡ Some c → see v ≡ Some c)
    → (n m : ℕ) (v : Value) (d : Data) → n ≤ m → data_of look n v ≡ Some d → data_of see m v ≡ Some d

-- a value has the same data at all depths where it has any
abbrev pub OneData : Type 0
OneData = (look : Value → Option Cell) (n m : ℕ) (v : Value) (d e : Data) → data_of look n v ≡ Some d
    → data_of look m v ≡ Some e → d ≡ e

-- the parts of a value that is data are data, at one depth less
abbrev pub PartsAreData : Type 0
PartsAreData = (look : Value → Option Cell) (n : ℕ) (v x : Value) (d : Data) → data_of look (suc n) v ≡ Some d
    → IsPart look v x → (e : Data) × (data_of look n x ≡ Some e)

-- no value inside of a value that is data is opaque: a function, a range, or a dictionary with a key that is not a
-- string
abbrev pub DataIsPlain : Type 0
DataIsPlain = (look : Value → Option Cell) (n k : ℕ) (v x : Value) (d : Data) → data_of look n v ≡ Some d
    → StandsIn look k v x → IsOpaque look x → ⊥

-- a value that contains itself is not data
abbrev pub NoCycleIsData : Type 0
NoCycleIsData = (look : Value → Option Cell) (n k : ℕ) (v : Value) (d : Data) → StandsIn look (suc k) v v
    → data_of look n v ≡ Some d → ⊥

-- no dictionary has a string twice as a key
abbrev pub KeysStandOnce : (Value → Option Cell) → Type 0
KeysStandOnce look =
    (v : Value) (es : List (Value × Value)) → look v ≡ Some (cell.Dict es) → (i j : ℕ) (x y : Value × Value) (t : List ℕ)
    → slice_get es i ≡ Some x → slice_get es j ≡ Some y → text_in (cell_of look x.0) ≡ Some t
    → text_in (cell_of look y.0) ≡ Some t → i ≡ j

-- a value is no set, and no value inside of it is one
abbrev pub HasNoSet : (Value → Option Cell) → Value → Type 0
HasNoSet look x =
    (k : ℕ) (v : Value) (es : List (Value × Value)) → StandsIn look k x v → cell_of look v ≡ Some (cell.Set es) → ⊥

-- values that are data and that equality finds equal have the same JSON, if there is no set in the left one. Sets with
-- the same elements in another order are equal, and their JSON is not
abbrev pub EqualAreSame : Type 0
EqualAreSame =
    (look : Value → Option Cell) → KeysStandOnce look → (levels steps left n m : ℕ) (x y : Value) (d e : Data)
    → HasNoSet look x → same look levels x y steps ≡ Enough true left → data_of look n x ≡ Some d
    → data_of look m y ≡ Some e → d ≡ e

-- the text of a value's JSON is read back as its data, by a reader that opens as many levels
abbrev pub ReadsBack : Type 0
ReadsBack =
    (look : Value → Option Cell) (n m : ℕ) (v : Value) (d : Data) → data_of look n v ≡ Some d → n ≤ m
    → read_within m (compact_text d) ≡ Some d

-- and by serde_json's own reader, if it nests no deeper than this reader reads
abbrev pub SerdeReadsBack : Type 0
SerdeReadsBack =
    (look : Value → Option Cell) (n : ℕ) (v : Value) (d : Data) → data_of look n v ≡ Some d
    → depth d ≤ max_depth → read (compact_text d) ≡ Some d

-- so the text determines the data
abbrev pub TextTells : Type 0
TextTells =
    (look see : Value → Option Cell) (n m : ℕ) (v w : Value) (d e : Data) → data_of look n v ≡ Some d
    → data_of see m w ≡ Some e → compact_text d ≡ compact_text e → d ≡ e

-- a byte that JSON writes as it is
pub record IsPlain (b : ℕ) : Type 0 where
  pub above : 32 ≤ b
  pub quote : b ≡ 34 → ⊥
  pub backslash : b ≡ 92 → ⊥

-- the names of all structs have such bytes alone
abbrev pub NamesArePlain : (Value → Option Cell) → Type 0
NamesArePlain look =
    (v : Value) (fs : List (List ℕ × Value)) → cell_of look v ≡ Some (cell.Struct fs) → (i : ℕ) (f : List ℕ × Value)
    → slice_get fs i ≡ Some f → (j b : ℕ) → slice_get f.0 j ≡ Some b → IsPlain b

-- then the JSON of a value is at most one and a half times as long as its text. A text shows names as they are
abbrev pub IsNoLonger : Type 0
IsNoLonger =
    (names : List (List ℕ)) (look : Value → Option Cell) → NamesArePlain look
    → (levels steps left n : ℕ) (v : Value) (t : List ℕ) (d : Data) → text names look levels [] v [] steps ≡ Enough t left → data_of look n v ≡ Some d
    → 2 * length (compact_text d) ≤ 3 * length t

-- the names of all structs rise, as those of a run do
abbrev pub NamesRise : (Value → Option Cell) → Type 0
NamesRise look = (v : Value) (fs : List (List ℕ × Value)) → look v ≡ Some (cell.Struct fs) → rises (names_of fs) ≡ true

-- this text, unless levels or steps are wanting
abbrev pub SaysOnly : Spent (List ℕ) → List ℕ → Type 0
SaysOnly (Enough t left) u = t ≡ u
SaysOnly (Lacks f left) u = (f ≡ Deep) ⊎ (f ≡ Steps)

-- a program that writes the JSON of a value writes the text that the report has of it, if levels and steps suffice
abbrev pub OneJson : Type 0
OneJson =
    (look : Value → Option Cell) → KeysStandOnce look → NamesRise look → (levels steps n : ℕ) (v : Value) (d : Data)
    → data_of look n v ≡ Some d → SaysOnly (json look layout.Compact levels 0 v [] steps) (compact_text d)
