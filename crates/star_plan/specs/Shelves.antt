-- The shelves of results, and the modules on them.
use Rattle.std.specs.Prelude.{◌≡◌, ◌+◌, ◌↔◌, ℕ, List, length, Some, slice_get}
use Rattle.star_cache.specs.Walk.{LeadsTo}
use Rattle.star_cache.specs.State.{Loads}
use Rattle.star_store.specs.declared.values.Value.{Value}
use Rattle.star_store.specs.Store.{Published, Shelf}
use Rattle.star_meaning.specs.declared.said.Said.{Said}
use Rattle.star_meaning.specs.Module.{Good}
use Rattle.star_plan.specs.Plan.{Plan, loaded}
use Rattle.star_plan.specs.Results.{result}

-- a published module is a file's own: the file has a good result, with this module at its place
pub record IsOwn (plan : Plan) (n : ℕ) (p : Published) : Type 0 where
  pub depth : ℕ
  pub shelf : Shelf
  pub globals : List (List ℕ × Value)
  pub texts : List (List ℕ × List ℕ)
  pub lines : List Said
  pub ended : result plan depth n ≡ Some (Good shelf globals texts lines)
  pub there : slice_get shelf n ≡ Some (Some p)

-- a file needs another: the loads of one of its loads lead to it, or it is one of its loads
abbrev pub Needs : Plan → ℕ → ℕ → Type 0
Needs plan n k = (m : ℕ) × Loads (loaded plan) n m × LeadsTo (Loads (loaded plan)) m k

-- the last place of a shelf has a module
abbrev pub IsTight : Shelf → Type 0
IsTight shelf = (k : ℕ) → length shelf ≡ k + 1 → (p : Published) × (slice_get shelf k ≡ Some (Some p))

-- a shelf has the own module of each file that a file needs, at that file's place, and nothing else
abbrev pub HoldsNeeds : Plan → ℕ → Shelf → Type 0
HoldsNeeds plan n shelf =
    (k : ℕ) (p : Published) → (slice_get shelf k ≡ Some (Some p)) ↔ (Needs plan n k × IsOwn plan k p)
