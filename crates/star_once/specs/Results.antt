-- Laws of keys that occur only once in all that the files of a plan leave.
use Rattle.std.specs.Prelude.{◌≡◌, ℕ, List, Some, true}
use Rattle.serde_json.specs.Data.{Data}
use Rattle.star_store.specs.declared.values.Value.{Value}
use Rattle.star_store.specs.Equal.{same}
use Rattle.star_store.specs.Spend.{Enough}
use Rattle.star_store.specs.Store.{Shelf}
use Rattle.star_meaning.specs.declared.said.Said.{Said}
use Rattle.star_meaning.specs.Module.{Good}
use Rattle.star_plan.specs.Plan.{Plan}
use Rattle.star_plan.specs.Results.{IsOutcome, Ran}
use Rattle.star_data.specs.Data.{data_of, on_shelf}
use Rattle.star_data.specs.Laws.{HasNoSet, KeysStandOnce}

-- The law: if a file of a plan ended well, no dictionary in its module or in those that it reaches has a string twice
-- as a key.
abbrev pub ResultsKeepKeys : Type 0
ResultsKeepKeys = (plan : Plan) (n : ℕ) (shelf : Shelf) (globals : List (List ℕ × Value))
    (texts : List (List ℕ × List ℕ)) (lines : List Said) → IsOutcome plan n (Ran (Good shelf globals texts lines))
    → KeysStandOnce (on_shelf shelf)

-- The law: so two values there that are data, and that the language's equality finds equal, have one JSON, if there is
-- no set in the left one.
abbrev pub EqualResultsAreSame : Type 0
EqualResultsAreSame = (plan : Plan) (n : ℕ) (shelf : Shelf) (globals : List (List ℕ × Value))
    (texts : List (List ℕ × List ℕ)) (lines : List Said) → IsOutcome plan n (Ran (Good shelf globals texts lines))
    → (levels steps left i j : ℕ) (x y : Value) (d e : Data) → HasNoSet (on_shelf shelf) x
    → same (on_shelf shelf) levels x y steps ≡ Enough true left → data_of (on_shelf shelf) i x ≡ Some d
    → data_of (on_shelf shelf) j y ≡ Some e → d ≡ e
