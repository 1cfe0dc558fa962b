-- Plans that agree on all that some files need.
use Rattle.std.specs.Prelude.{◌≡◌, ℕ, Bool, true, List, Some}
use Rattle.star_cache.specs.State.{Loads}
use Rattle.star_meaning.specs.Module.{Local}
use Rattle.star_plan.specs.Plan.{Plan, Reading, loaded, read_of, tree_in}
use Rattle.star_plan.specs.Results.{AreGood}
use Rattle.star_plan.specs.Runs.{run_by_names}
use Rattle.star_tree.specs.declared.tree.Statement.{Statement}

-- two plans agree on these files, which are all that they need. The plans have the same mode and the same prelude.
-- Each of these files was read and has the same reading in both, and all that it loads is among them
pub record AgreeAmong (is_in : ℕ → Bool) (p q : Plan) : Type 0 where
  pub mode : p.mode ≡ q.mode
  pub prelude : p.prelude ≡ q.prelude
  pub reads : (n : ℕ) → is_in n ≡ true → read_of p n ≡ read_of q n
  pub closed : (n m : ℕ) → is_in n ≡ true → Loads (loaded p) n m → is_in m ≡ true
  pub read : (n : ℕ) → is_in n ≡ true → (r : Reading) × (read_of p n ≡ Some r)

-- a plan is part of another: it has the same mode and the same prelude, and the readings of some of its files, with
-- each file all that it loads
pub record IsPartOf (part whole : Plan) : Type 0 where
  pub mode : part.mode ≡ whole.mode
  pub prelude : part.prelude ≡ whole.prelude
  pub reads : (n : ℕ) (r : Reading) → read_of part n ≡ Some r → read_of whole n ≡ Some r
  pub closed : (n m : ℕ) (r : Reading) → read_of part n ≡ Some r → Loads (loaded part) n m → (x : Reading)
      × (read_of part m ≡ Some x)

-- the run of a file without a static fault over the good outcomes of its loads is the same in two plans
abbrev pub RunsAgree : Plan → Plan → ℕ → Type 0
RunsAgree p q n =
    (ss : List Statement) (ms : List Local) → tree_in (read_of p n) ≡ Some ss → AreGood p (loaded p n) ms
    → run_by_names p n ss ms ≡ run_by_names q n ss ms
