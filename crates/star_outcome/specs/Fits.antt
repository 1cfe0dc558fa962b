-- The files that may be asked for: those within a plan that are reached.
use Rattle.std.specs.Prelude.{◌≡◌, ◌<◌, ℕ, List, Some, length, Contains}
use Rattle.star_cache.specs.State.{Loads}
use Rattle.star_label.specs.Files.{File}
use Rattle.star_plan.specs.Plan.{Plan, Reading, loaded, read_of}
use Rattle.star_plan.specs.Reached.{IsReached, root, load}

-- the roots and all loads of a plan are numbers of files, and each reached file was read
pub record IsWithin (files : List File) (plan : Plan) : Type 0 where
  pub roots : (n : ℕ) → Contains plan.roots n → n < length files
  pub loads : (n m : ℕ) → Loads (loaded plan) n m → m < length files
  pub read : (n : ℕ) → IsReached plan n → (r : Reading) × (read_of plan n ≡ Some r)

-- a reached file of a plan within these files
abbrev pub IsAsked : List File → Plan → ℕ → Type 0
IsAsked files plan n = IsWithin files plan × IsReached plan n

-- a file that such a file loads is such a file too
pub asked_next : (files : List File) (plan : Plan) (n m : ℕ) → IsAsked files plan n → Loads (loaded plan) n m
    → IsAsked files plan m
asked_next files plan n m a l = (a.0, load a.1 l)

pub reached_below : (files : List File) (plan : Plan) (n : ℕ) → IsWithin files plan → IsReached plan n → n
    < length files
reached_below files plan n w (root c) = w.roots n c
reached_below files plan n w (load {n = k} r l) = w.loads k n l

pub asked_below : (files : List File) (plan : Plan) (n : ℕ) → IsAsked files plan n → n < length files
asked_below files plan n a = reached_below files plan n a.0 a.1
