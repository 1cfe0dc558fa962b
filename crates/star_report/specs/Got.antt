-- The globals of roots as data, by a name.
use Rattle.std.specs.Prelude.{◌≡◌, ℕ, List, [], ◌∷◌, ◌++◌, Option, Some, None, Result, Ok, Err, codes, flat_map, if◌then◌else◌}
use Rattle.serde_json.specs.Data.{Data}
use Rattle.serde_json.specs.Written.{compact_text}
use Rattle.star_label.specs.Files.{File, label_at}
use Rattle.star_store.specs.declared.values.Value.{Value}
use Rattle.star_store.specs.declared.values.Cell.{Cell}
use Rattle.star_store.specs.Store.{global_of}
use Rattle.star_data.specs.Data.{data_of, on_shelf}
use Rattle.star_scope.specs.Loads.{is_private}
use Rattle.star_meaning.specs.Module.{Good, most_levels}
use Rattle.star_plan.specs.Plan.{Plan}
use Rattle.star_plan.specs.Results.{IsOutcome, Outcome, Ran}
use Rattle.star_report.specs.declared.got.Lack.{Lack}
use Rattle.star_report.specs.declared.got.Lack.TheVariants.{NoData, NoGlobal, NotOk}

-- the global with a name: none if the name is private
abbrev pub public_global : List (List ℕ × Value) → List ℕ → Option Value
public_global globals name = if is_private name then None else global_of name globals

-- data, or that there is none
abbrev pub data_or : Option Data → Result Data Lack
data_or (Some d) = Ok d
data_or None = Err NoData

-- a global as data: it nests at most as deep as a value whose text was made
abbrev pub data_got : (Value → Option Cell) → Option Value → Result Data Lack
data_got look (Some v) = data_or (data_of look most_levels v)
data_got look None = Err NoGlobal

-- the answer of a file for a name, by its outcome
abbrev pub got_of : List ℕ → Outcome → Result Data Lack
got_of name (Ran (Good shelf globals texts lines)) = data_got (on_shelf shelf) (public_global globals name)
got_of name o = Err NotOk

-- a file of a plan has this answer for a name
abbrev pub HasGot : Plan → List ℕ → ℕ → Result Data Lack → Type 0
HasGot plan name n r = (o : Outcome) × IsOutcome plan n o × (got_of name o ≡ r)

-- each of these files has its data for a name, in their order
abbrev pub AreGot : Plan → List ℕ → List ℕ → List Data → Type 0
AreGot plan name [] [] = Unit {0}
AreGot plan name [] (d ∷ ds) = ⊥
AreGot plan name (n ∷ ns) [] = ⊥
AreGot plan name (n ∷ ns) (d ∷ ds) = HasGot plan name n (Ok d) × AreGot plan name ns ds

-- the first of these files that has no data for a name, and why
pub record IsFirstLack (plan : Plan) (name : List ℕ) (files : List ℕ) (n : ℕ) (why : Lack) : Type 0 where
  pub before : List ℕ
  pub after : List ℕ
  pub data_before : List Data
  pub files_are : files ≡ before ++ n ∷ after
  pub got : AreGot plan name before data_before
  pub lacks : HasGot plan name n (Err why)

-- a line for each
abbrev pub got_text : List Data → List ℕ
got_text ds = flat_map (λ d. compact_text d ++ 10 ∷ []) ds

-- the reason in the message about the first file that has no data
abbrev pub lack_text : Lack → List ℕ
lack_text NotOk = codes "not ok"
lack_text NoGlobal = codes "no such global"
lack_text NoData = codes "no data"

abbrev pub lack_line : List File → ℕ → Lack → List ℕ
lack_line files n why = codes "starload: " ++ (label_at files n ++ (codes ": " ++ (lack_text why ++ 10 ∷ [])))
