-- Laws of plans that agree on all that a file needs.
use Rattle.std.specs.Prelude.{◌≡◌, ◌↔◌, ℕ, Bool, true, List, Some}
use Rattle.star_label.specs.Files.{File}
use Rattle.star_plan.specs.Plan.{Plan, Reading, read_of}
use Rattle.star_plan.specs.Reading.{IsPlanOf}
use Rattle.star_plan.specs.Report.{Ended, IsEnded}
use Rattle.star_plan.specs.Results.{IsOutcome, Outcome, result}
use Rattle.star_plan.specs.Shelves.{IsOwn}
use Rattle.star_store.specs.Store.{Published}
use Rattle.star_needs.specs.Agree.{AgreeAmong, IsPartOf, RunsAgree}

-- the run of a file is the same in a plan of files and in a part of it, whatever the other files of the plan are
abbrev pub PartsRun : Type 0
PartsRun = (files : List File) (part whole : Plan) → IsPlanOf files whole → IsPartOf part whole
    → (n : ℕ) → RunsAgree part whole n

-- so a file of the part has the same result in both at each depth
abbrev pub PartsHaveResults : Type 0
PartsHaveResults = (files : List File) (part whole : Plan) → IsPlanOf files whole → IsPartOf part whole
    → (n : ℕ) (r : Reading) → read_of part n ≡ Some r → (d : ℕ) → result part d n ≡ result whole d n

-- if two plans, each of files of its own, agree on all that some files need, this holds of each of these files
abbrev pub Among : (Plan → Plan → ℕ → Type 0) → Type 0
Among P =
    (files others : List File) (p q : Plan) → IsPlanOf files p → IsPlanOf others q
    → (is_in : ℕ → Bool) → AgreeAmong is_in p q → (n : ℕ) → is_in n ≡ true → P p q n

-- it has the same run over the good outcomes of its loads
abbrev pub OneRunByNeeds : Type 0
OneRunByNeeds = Among RunsAgree

-- .. the same result at each depth
abbrev pub OneResultByNeeds : Type 0
OneResultByNeeds = Among (λ p q n. (d : ℕ) → result p d n ≡ result q d n)

-- .. the same outcome
abbrev pub OneOutcomeByNeeds : Type 0
OneOutcomeByNeeds = Among (λ p q n. (o : Outcome) → IsOutcome p n o ↔ IsOutcome q n o)

-- .. the same module of its own
abbrev pub OneModuleByNeeds : Type 0
OneModuleByNeeds = Among (λ p q n. (m : Published) → IsOwn p n m ↔ IsOwn q n m)

-- .. and is reported with the same end, which has its cause if a load failed
abbrev pub OneEndByNeeds : Type 0
OneEndByNeeds = Among (λ p q n. (e : Ended) → IsEnded p n e ↔ IsEnded q n e)
