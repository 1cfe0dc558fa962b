-- The end and the loads of a file for all roots, and files with some of the same texts.
use Rattle.std.specs.Prelude.{◌≡◌, ℕ, Bool, true, List, map, Option, Some, Contains}
use Rattle.star_dialect.specs.declared.Mode.{Mode}
use Rattle.star_label.specs.Files.{File, text_at}
use Rattle.star_scope.specs.declared.program.Prelude.{Prelude}
use Rattle.star_scope.specs.Resolve.{outside}
use Rattle.star_plan.specs.Plan.{Plan, Reading, loads_in}
use Rattle.star_plan.specs.Reached.{IsReached}
use Rattle.star_plan.specs.Reading.{IsPlanOf, IsPrelude, IsRead}
use Rattle.star_outcome.specs.Views.{IsBody, IsEnd}
use Rattle.star_outcome.specs.declared.module.Body.{Body}
use Rattle.star_outcome.specs.declared.module.Ended.{Ended}

-- a fact holds in each plan of these files that has this prelude and this mode and reaches the file n, whatever its
-- roots
abbrev pub InEachPlan : List File → Option ℕ → Mode → ℕ → (Plan → Type 0) → Type 0
InEachPlan files prelude mode n P =
    (plan : Plan) → IsPlanOf files plan → plan.prelude ≡ prelude → plan.mode ≡ mode → IsReached plan n → P plan

-- the module of the file n has this end in each of these plans
abbrev pub IsEndUnder : List File → Option ℕ → Mode → ℕ → Ended → Type 0
IsEndUnder files prelude mode n e = InEachPlan files prelude mode n (λ plan. IsEnd plan n e)

-- .. or ends well, with this body
abbrev pub IsBodyUnder : List File → Option ℕ → Mode → ℕ → Body → Type 0
IsBodyUnder files prelude mode n b = InEachPlan files prelude mode n (λ plan. IsBody plan n b)

-- the file n of these files, with this prelude and mode, loads these files, in order: each reading of it says so
abbrev pub AreLoadsUnder : List File → Option ℕ → Mode → ℕ → List ℕ → Type 0
AreLoadsUnder files prelude mode n loads =
    (p : Option Prelude) (r : Reading) → IsPrelude files prelude p → IsRead files (outside p mode.language) n r
    → map (λ l. l.file) (loads_in (Some r)) ≡ loads

-- each of some files has all that it loads among them
abbrev pub IsClosed : List File → Option ℕ → Mode → (ℕ → Bool) → Type 0
IsClosed files prelude mode is_in =
    (n : ℕ) → is_in n ≡ true → (loads : List ℕ) × AreLoadsUnder files prelude mode n loads
    × ((m : ℕ) → Contains loads m → is_in m ≡ true)

-- two rows of files have the same labels, in order, and so the same numbers. Some of them, and the prelude if there is
-- one, have the same texts in both
pub record HaveSame (is_in : ℕ → Bool) (prelude : Option ℕ) (files others : List File) : Type 0 where
  pub labels : map (λ f. f.0) files ≡ map (λ f. f.0) others
  pub texts : (n : ℕ) → is_in n ≡ true → text_at files n ≡ text_at others n
  pub prelude_text : (q : ℕ) → prelude ≡ Some q → text_at files q ≡ text_at others q
