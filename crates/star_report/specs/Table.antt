-- The modules of a run, by the numbers of their files.
use Rattle.std.specs.Prelude.{◌≡◌, ◌<◌, ℕ, List, Option, Some, slice_get, slice_index_or}
use denote.Ref.{Bor}
use Rattle.star_plan.specs.Plan.{Plan}
use Rattle.star_plan.specs.Reached.{IsReached}
use Rattle.star_outcome.specs.Kept.{KeptView}
use Rattle.star_outcome.specs.Views.{IsModule}
use Rattle.star_outcome.specs.declared.module.Module.{Module}

abbrev pub Table : Type 0
Table = List (Option (Bor Module))

-- a file has a module there, which is its own
abbrev pub HasModule : Plan → Table → ℕ → Type 0
HasModule plan table n = (m : Bor Module) × (slice_get table n ≡ Some (Some m)) × IsModule plan n m.now

-- each module in the table is right, and the files of the first `count` notes have theirs
pub record IsTableBelow (plan : Plan) (ks : List KeptView) (count : ℕ) (table : Table) : Type 0 where
  pub right : (n : ℕ) (m : Bor Module) → slice_get table n ≡ Some (Some m) → IsReached plan n × IsModule plan n m.now
  pub all : (k : ℕ) (d : KeptView) → k < count → HasModule plan table (slice_index_or ks k d).number

-- the module of each reached file, and no other
pub record IsTable (plan : Plan) (table : Table) : Type 0 where
  pub right : (n : ℕ) (m : Bor Module) → slice_get table n ≡ Some (Some m) → IsReached plan n × IsModule plan n m.now
  pub all : (n : ℕ) → IsReached plan n → HasModule plan table n
