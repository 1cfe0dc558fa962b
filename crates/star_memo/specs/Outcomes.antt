-- The outcomes that are kept of running files.
use Rattle.std.specs.Prelude.{◌≡◌, ℕ, Bool, true, false, List, Option, Some, map, slice_get, slice_index_or}
use Rattle.std.specs.List.{list_all}
use Rattle.std.specs.Arc.{arc_value}
use Rattle.star_dialect.specs.declared.Mode.{Mode}
use Rattle.star_label.specs.Files.{File, IsOrdered, text_at}
use Rattle.star_plan.specs.Plan.{Plan}
use Rattle.star_plan.specs.Reached.{IsReached}
use Rattle.star_plan.specs.Reading.{IsPlanOf}
use Rattle.star_outcome.specs.declared.good_end.GoodEnd.{GoodEnd}
use Rattle.star_needs.specs.Ends.{AreLoadsUnder, IsBodyUnder}

-- a run of these files with this prelude and this mode reaches the file n
abbrev pub HasRun : List File → Option ℕ → Mode → ℕ → Type 0
HasRun files prelude mode n =
    (plan : Plan) × IsPlanOf files plan × (plan.prelude ≡ prelude) × (plan.mode ≡ mode) × IsReached plan n

-- this is the outcome of the file n: the files that it loads, and the body with which it ends in each run of these files
-- with this prelude and this mode, whatever the roots. There is such a run, and the outcome is not stale
pub record IsOutcome (files : List File) (prelude : Option ℕ) (mode : Mode) (n : ℕ) (e : GoodEnd) : Type 0 where
  pub loads : AreLoadsUnder files prelude mode n e.loads.items
  pub body : IsBodyUnder files prelude mode n (arc_value e.body)
  pub run : HasRun files prelude mode n
  pub fresh : e.is_stale ≡ false

-- whatever is kept for a file, by its number, is its outcome
abbrev pub AreOutcomes : List File → Option ℕ → Mode → List (Option GoodEnd) → Type 0
AreOutcomes files prelude mode all =
    (n : ℕ) (e : GoodEnd) → slice_get all n ≡ Some (Some e) → IsOutcome files prelude mode n e

abbrev pub is_marked : List Bool → ℕ → Bool
is_marked marks n = slice_index_or marks n false

-- two rows of files have the same labels, in order
abbrev pub HaveLabels : List File → List File → Type 0
HaveLabels files others = map (λ f. f.0) files ≡ map (λ f. f.0) others

-- two rows of files have the same labels, which are in order, and the prelude, if there is one, has the same text
pub record AreAlike (before files : List File) (prelude : Option ℕ) : Type 0 where
  pub labels : HaveLabels before files
  pub ordered : IsOrdered before
  pub text : (q : ℕ) → prelude ≡ Some q → text_at before q ≡ text_at files q

-- the outcome of the file n stays: it has the same text, and all that it loads is marked. If all marked files stay so,
-- then the texts of all files that one of them needs are as they were: `texts_stay` of `proofs/Staying`
pub record IsStaying (files others : List File) (all : List (Option GoodEnd)) (marks : List Bool) (n : ℕ) : Type 0
  where
    pub text : text_at files n ≡ text_at others n
    pub end : GoodEnd
    pub kept : slice_get all n ≡ Some (Some end)
    pub loads : list_all (is_marked marks) end.loads.items ≡ true

-- the outcomes of all marked files stay
abbrev pub AreStaying : List File → List File → List (Option GoodEnd) → List Bool → Type 0
AreStaying files others all marks = (n : ℕ) → is_marked marks n ≡ true → IsStaying files others all marks n

-- whatever is there after was there before
abbrev pub AreAmong : List (Option GoodEnd) → List (Option GoodEnd) → Type 0
AreAmong before after = (n : ℕ) (e : GoodEnd) → slice_get after n ≡ Some (Some e) → slice_get before n ≡ Some (Some e)

-- whatever is left is of a marked file, and was there before. So it is an outcome of the files as they are now:
-- `all_stay` of `proofs/Staying`
abbrev pub AreMarkedOf : List Bool → List (Option GoodEnd) → List (Option GoodEnd) → Type 0
AreMarkedOf marks before after =
    (n : ℕ) (e : GoodEnd) → slice_get after n ≡ Some (Some e)
    → (is_marked marks n ≡ true) × (slice_get before n ≡ Some (Some e))
