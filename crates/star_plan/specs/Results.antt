-- The result of a file's run, by depth of loads; the good files; and the outcome of a file.
use Rattle.std.specs.Prelude.{◌≡◌, ◌<◌, ℕ, zero, suc, Bool, true, false, List, [], ◌∷◌, map, Option, Some, None, slice_get}
use Rattle.std.specs.Option.{option_and_then, option_map}
use Rattle.star_meaning.specs.Local.{local_meaning}
use Rattle.star_meaning.specs.Module.{Local, Good, Stopped}
use Rattle.star_meaning.specs.Programs.{load_files}
use Rattle.star_plan.specs.Plan.{Plan, StaticFault, Faulty, loaded, loads_of, read_of, tree_in, trees}

-- a result that is good
abbrev pub if_good : Option Local → Option Local
if_good None = None
if_good (Some (Stopped f lines)) = None
if_good (Some (Good shelf globals texts lines)) = Some (Good shelf globals texts lines)

-- the results, if all are good
abbrev pub all_good : List (Option Local) → Option (List Local)
all_good [] = Some []
all_good (r ∷ rs) = option_and_then (λ m. option_map (λ ms. m ∷ ms) (all_good rs)) (if_good r)

-- the result of a file's run over the results of its loads
unfoldable pub ran : Plan → ℕ → List Local → Local
ran plan n results = local_meaning n (trees plan) (load_files (loads_of plan n)) plan.prelude results plan.mode

-- the result of a file at a depth, if it has one: it has no static fault, all its loads are good at the depth below,
-- and its body runs over them
unfoldable pub result : Plan → ℕ → ℕ → Option Local
result plan zero n = None
result plan (suc d) n =
    option_and_then (λ ss. option_map (ran plan n) (all_good (map (result plan d) (loaded plan n))))
    (tree_in (read_of plan n))

-- a file is good at a depth
abbrev pub IsGoodAt : Plan → ℕ → ℕ → Type 0
IsGoodAt plan d n = (m : Local) × (if_good (result plan d n) ≡ Some m)

-- a file is good: at some depth
abbrev pub IsGood : Plan → ℕ → Type 0
IsGood plan n = (d : ℕ) × IsGoodAt plan d n

-- the first of these files that is not good is at place i
pub record IsFirstBad (plan : Plan) (files : List ℕ) (i : ℕ) : Type 0 where
  pub file : ℕ
  pub there : slice_get files i ≡ Some file
  pub bad : IsGood plan file → ⊥
  pub before : (j m : ℕ) → j < i → slice_get files j ≡ Some m → IsGood plan m

-- the outcome of a file: its static fault, or the place of its first load that is not good, or the result of its run
pub data Outcome : Type 0 where
  Static : StaticFault → Outcome
  Unloaded : ℕ → Outcome
  Ran : Local → Outcome

abbrev pub IsOutcome : Plan → ℕ → Outcome → Type 0
IsOutcome plan n (Static f) = read_of plan n ≡ Some (Faulty f)
IsOutcome plan n (Unloaded i) = IsFirstBad plan (loaded plan n) i
IsOutcome plan n (Ran m) = (d : ℕ) × (result plan d n ≡ Some m)

-- whether a file may be used by those that load it
abbrev pub went_well : Outcome → Bool
went_well (Static f) = false
went_well (Unloaded i) = false
went_well (Ran (Good shelf globals texts lines)) = true
went_well (Ran (Stopped f lines)) = false

-- these are the good outcomes of files, in order
abbrev pub AreGood : Plan → List ℕ → List Local → Type 0
AreGood plan [] [] = Unit {0}
AreGood plan [] (m ∷ ms) = ⊥
AreGood plan (n ∷ ns) [] = ⊥
AreGood plan (n ∷ ns) (m ∷ ms) = IsOutcome plan n (Ran m) × (went_well (Ran m) ≡ true) × AreGood plan ns ms
