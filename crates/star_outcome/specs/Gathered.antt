-- The stores of other files that are gathered for a file.
use Rattle.std.specs.Prelude.{ℕ, List, All, Contains, map}
use Rattle.star_plan.specs.Plan.{Plan}
use Rattle.star_plan.specs.Shelves.{IsOwn, Needs}
use Rattle.star_outcome.specs.Numbers.{Has}
use Rattle.star_outcome.specs.Reaches.{ReachView}

-- the stores that were gathered for a file
pub record GivenView : Type 0 where
  pub file : ℕ
  pub reaches : List ReachView

-- the file n needs the files of these stores. Each store is its file's own
abbrev pub AreNeeded : Plan → ℕ → List ReachView → Type 0
AreNeeded plan n rs = All (λ r. Needs plan n r.number × IsOwn plan r.number r.store) rs

-- one of these stores is that of the file k
abbrev pub IsListed : List ReachView → ℕ → Type 0
IsListed rs k = Contains (map (λ r. r.number) rs) k

-- stores of files that the file n needs, and a set of numbers. Each number is that of a store's file
pub record IsGathered (plan : Plan) (n : ℕ) (words : List ℕ) (rs : List ReachView) : Type 0 where
  pub needed : AreNeeded plan n rs
  pub listed : (k : ℕ) → Has words k → IsListed rs k
