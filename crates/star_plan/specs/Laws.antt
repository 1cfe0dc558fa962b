-- Laws of plans, outcomes and reports.
use Rattle.std.specs.Prelude.{◌≡◌, ◌≤◌, ◌↔◌, ◌⊎◌, ◌∷◌, ◌++◌, ℕ, Bool, true, List, [], length, Option, Some, Contains}
use Rattle.star_label.specs.Files.{File, IsOrdered}
use Rattle.star_scope.specs.declared.program.Prelude.{Prelude}
use Rattle.star_scope.specs.Resolve.{outside}
use Rattle.star_outline.specs.Definitions.{AllDiffer}
use Rattle.star_cache.specs.Walk.{IsOnCycle, LeadsTo}
use Rattle.star_cache.specs.State.{Loads}
use Rattle.star_meaning.specs.declared.said.Said.{Said}
use Rattle.star_meaning.specs.Module.{Good, Local, local, local_of, start}
use Rattle.star_meaning.specs.Places.{AllFit, IsResolved, Stands}
use Rattle.star_meaning.specs.Programs.{ArePrograms, Files, tables_of, trees_of}
use Rattle.star_tree.specs.declared.tree.Statement.{Statement}
use Rattle.std.specs.Prelude.{slice_get}
use Rattle.star_store.specs.declared.values.Value.{Value}
use Rattle.star_store.specs.Store.{Published, Shelf, put_up}
use Rattle.star_meaning.specs.Local.{reached}
use Rattle.star_plan.specs.Shelves.{HoldsNeeds, IsOwn, IsTight, Needs}
use Rattle.star_plan.specs.Plan.{Plan, Reading, loaded, read_of, tree_in, trees}
use Rattle.star_plan.specs.Results.{AreGood, IsGood, IsGoodAt, IsOutcome, Outcome, Ran, ran, result, went_well}
use Rattle.star_plan.specs.Reached.{IsReached}
use Rattle.star_plan.specs.Reading.{IsPlanOf, IsPrelude, IsRead}
use Rattle.star_plan.specs.Causes.{Cause, Culprit, Cycle, FailsBy, HasFault, IsCause, Lead}
use Rattle.star_plan.specs.Runs.{ArePlaced, MayRun, PreludeIsSound, given, run_by_names, run_by_places}
use Rattle.star_plan.specs.Report.{IsReport, Module}
use Rattle.star_plan.specs.Text.{IsReportText}

-- a file on a cycle of loads is good at no depth, nor is the next file on it
abbrev pub NoCycleIsGood : Type 0
NoCycleIsGood =
    (plan : Plan) (d n m : ℕ) → IsOnCycle (Loads (loaded plan)) n m → (IsGoodAt plan d n → ⊥) × (IsGoodAt plan d m → ⊥)

-- a result stays at every greater depth
abbrev pub ResultsStay : Type 0
ResultsStay = (plan : Plan) (d e n : ℕ) (m : Local) → d ≤ e → result plan d n ≡ Some m → result plan e n ≡ Some m

-- a file has one result at all depths that have any
abbrev pub ResultsAgree : Type 0
ResultsAgree = (plan : Plan) (d e n : ℕ) (m k : Local) → result plan d n ≡ Some m → result plan e n ≡ Some k → m ≡ k

-- a file has at most one outcome
abbrev pub OneOutcome : Type 0
OneOutcome = (plan : Plan) (n : ℕ) (a b : Outcome) → IsOutcome plan n a → IsOutcome plan n b → a ≡ b

-- the outcome of a file says whether it is good
abbrev pub OutcomesTell : Type 0
OutcomesTell = (plan : Plan) (n : ℕ) (o : Outcome) → IsOutcome plan n o → (went_well o ≡ true) ↔ IsGood plan n

-- the reached files are those to which the roots lead by loads
abbrev pub ReachedByWalks : Type 0
ReachedByWalks =
    (plan : Plan) (n : ℕ) → IsReached plan n ↔ ((r : ℕ) × Contains plan.roots r × LeadsTo (Loads (loaded plan)) r n)

-- the reached files are in each set that has the roots and all files that its members load
abbrev pub ReachedIsLeast : Type 0
ReachedIsLeast = (plan : Plan) (is_in : ℕ → Bool)
    → ((n : ℕ) → Contains plan.roots n → is_in n ≡ true)
    → ((n m : ℕ) → is_in n ≡ true → Loads (loaded plan) n m → is_in m ≡ true)
    → (n : ℕ) → IsReached plan n → is_in n ≡ true

-- a file has at most one cause
abbrev pub OneCause : Type 0
OneCause = (plan : Plan) (n : ℕ) (a b : Cause) → IsCause plan n a → IsCause plan n b → a ≡ b

-- a file with a fault of its own is its own cause
abbrev pub FaultIsCause : Type 0
FaultIsCause = (plan : Plan) (n : ℕ) → HasFault plan n → IsCause plan n (Culprit n)

-- so is a cycle, for its first file in the list
abbrev pub CycleIsCause : Type 0
CycleIsCause =
    (plan : Plan) (n : ℕ) (ns : List ℕ) → Lead plan n (n ∷ ns) n → AllDiffer (n ∷ ns) → IsCause plan n (Cycle (n ∷ ns))

-- a file has the cause of the file by which it fails, unless it lies on that cycle itself
abbrev pub CausesFollow : Type 0
CausesFollow = (plan : Plan) (n k : ℕ) → FailsBy plan n k
    → ((m : ℕ) → IsCause plan k (Culprit m) → IsCause plan n (Culprit m))
    × ((ms : List ℕ) → IsCause plan k (Cycle ms) → (Contains ms n → ⊥) → IsCause plan n (Cycle ms))

-- the next file on a cycle has the cycle turned by one
abbrev pub CyclesTurn : Type 0
CyclesTurn =
    (plan : Plan) (n k : ℕ) (ns : List ℕ) → FailsBy plan n k → IsCause plan n (Cycle (n ∷ ns))
    → IsCause plan k (Cycle (ns ++ n ∷ []))

-- a plan has at most one report
abbrev pub OneReport : Type 0
OneReport =
    (plan : Plan) (b c : ℕ) (ms ks : List Module) → IsReport plan b ms → IsReport plan c ks → (b ≡ c) × (ms ≡ ks)

-- each reached file of a plan of files has an outcome
abbrev pub EachHasOutcome : Type 0
EachHasOutcome =
    (files : List File) (plan : Plan) → IsPlanOf files plan → (n : ℕ) → IsReached plan n → (o : Outcome)
    × IsOutcome plan n o

-- each plan of files has a report
abbrev pub EachHasReport : Type 0
EachHasReport =
    (files : List File) (plan : Plan) → IsPlanOf files plan → (begun : ℕ) × (modules : List Module)
    × IsReport plan begun modules

-- files with their roots, their prelude and their mode have at most one text that is their report
abbrev pub OneText : Type 0
OneText =
    (files : List File) → IsOrdered files → (p q : Plan) → IsPlanOf files p → IsPlanOf files q → p.roots ≡ q.roots
    → p.prelude ≡ q.prelude → p.mode ≡ q.mode
    → (a b : List ℕ) → IsReportText files p a → IsReportText files q b → a ≡ b

-- readings of all roots and of all loads of files that were read, and of reached files alone, make a plan
abbrev pub ReadingsMakePlans : Type 0
ReadingsMakePlans =
    (files : List File) (plan : Plan) (prelude : Option Prelude) → IsPrelude files plan.prelude prelude
    → length plan.reads ≡ length files
    → ((n : ℕ) (r : Reading) → read_of plan n ≡ Some r → IsRead files (outside prelude plan.mode.language) n r
    × IsReached plan n)
    → ((n : ℕ) → Contains plan.roots n → (r : Reading) × (read_of plan n ≡ Some r))
    → ((n m : ℕ) (r : Reading) → read_of plan n ≡ Some r → Loads (loaded plan) n m → (q : Reading)
    × (read_of plan m ≡ Some q))
    → IsPlanOf files plan

-- files have one plan for their roots, their prelude and their mode
abbrev pub OnePlan : Type 0
OnePlan =
    (files : List File) → IsOrdered files → (p q : Plan) → IsPlanOf files p → IsPlanOf files q → p.roots ≡ q.roots
    → p.prelude ≡ q.prelude → p.mode ≡ q.mode → p ≡ q

-- the outcome of a file without a static fault whose loads are good is the result of its run over theirs
abbrev pub RunsOverLoads : Type 0
RunsOverLoads =
    (plan : Plan) (n : ℕ) (ss : List Statement) (ms : List Local) → tree_in (read_of plan n) ≡ Some ss
    → AreGood plan (loaded plan n) ms → IsOutcome plan n (Ran (ran plan n ms))

-- each module on the shelf of a result is its file's own
abbrev pub ShelvesHoldResults : Type 0
ShelvesHoldResults =
    (plan : Plan) (d n : ℕ) (m : Local) → result plan d n ≡ Some m → (k : ℕ) (p : Published) → slice_get (reached m) k
    ≡ Some (Some p) → IsOwn plan k p

-- a file has at most one module of its own
abbrev pub OneModule : Type 0
OneModule = (plan : Plan) (n : ℕ) (p q : Published) → IsOwn plan n p → IsOwn plan n q → p ≡ q

-- if a file without a static fault has only good loads, the prelude has no static fault
abbrev pub GoodLoadsHavePrelude : Type 0
GoodLoadsHavePrelude = (files : List File) (plan : Plan) (n : ℕ) (ss : List Statement) (ms : List Local)
    → IsPlanOf files plan → tree_in (read_of plan n) ≡ Some ss → AreGood plan (loaded plan n) ms → PreludeIsSound plan

-- if the prelude has no static fault, the tables that the programs of a plan give are right for each file in every run
abbrev pub PlansPlaceNames : Type 0
PlansPlaceNames =
    (files : List File) (plan : Plan) (placed : Files) → IsPlanOf files plan → ArePlaced files plan placed
    → PreludeIsSound plan
    → (n : ℕ) (ms : List Local) (file : ℕ) (ss : List Statement) → Stands (trees plan) file ss
    → IsResolved (tables_of placed) (given plan n ms) file ss

-- if all loads of a file are good, each function that its run sees before it begins is one of its own file's
-- definitions, in frames that fit the blocks around it
abbrev pub PlansFit : Type 0
PlansFit = (files : List File) (plan : Plan) (placed : Files) → IsPlanOf files plan → ArePlaced files plan placed
    → (n : ℕ) (ss : List Statement) (ms : List Local) → tree_in (read_of plan n) ≡ Some ss
    → AreGood plan (loaded plan n) ms
    → AllFit (trees plan) (given plan n ms) (start (given plan n ms) plan.mode.steps)

-- a file without a static fault whose loads are good: its run by places, by the programs of the plan, is its run by
-- names, and gives its outcome
abbrev pub PlansRunByPlaces : Type 0
PlansRunByPlaces =
    (files : List File) (plan : Plan) (placed : Files) → IsPlanOf files plan → ArePlaced files plan placed
    → (n : ℕ) (ss : List Statement) (ms : List Local) → tree_in (read_of plan n) ≡ Some ss
    → AreGood plan (loaded plan n) ms
    → (run_by_places placed plan n ss ms ≡ run_by_names plan n ss ms)
    × (local_of (given plan n ms) (run_by_places placed plan n ss ms) ≡ ran plan n ms)
    × IsOutcome plan n (Ran (local_of (given plan n ms) (run_by_places placed plan n ss ms)))

-- good files have good outcomes
abbrev pub GoodFilesHaveOutcomes : Type 0
GoodFilesHaveOutcomes =
    (plan : Plan) (ns : List ℕ) → ((i n : ℕ) → slice_get ns i ≡ Some n → IsGood plan n) → (ms : List Local)
    × AreGood plan ns ms

-- a file needs its loads and all that these need
abbrev pub NeedsOfLoads : Type 0
NeedsOfLoads =
    (plan : Plan) (n k : ℕ) → Needs plan n k ↔ ((m : ℕ) × Loads (loaded plan) n m × ((m ≡ k) ⊎ Needs plan m k))

-- the shelf that a run is given over good outcomes has the own modules of all files that the running file needs, and
-- nothing else. Its own module is not among them
abbrev pub GivenHoldsNeeds : Type 0
GivenHoldsNeeds = (plan : Plan) (n : ℕ) (ms : List Local) → AreGood plan (loaded plan n) ms
    → HoldsNeeds plan n (given plan n ms).shelf × ((p : Published) → slice_get (given plan n ms).shelf n ≡ Some (Some p)
    → ⊥)

-- and each shelf that has these alone, with no place beyond the last, is that shelf
abbrev pub OneShelf : Type 0
OneShelf =
    (plan : Plan) (n : ℕ) (ms : List Local) → AreGood plan (loaded plan n) ms → (shelf : Shelf) → IsTight shelf
    → HoldsNeeds plan n shelf → shelf ≡ (given plan n ms).shelf

-- a shelf with no place beyond its last module stays so when a module is put up
abbrev pub PutsStayTight : Type 0
PutsStayTight = (shelf : Shelf) (home : ℕ) (p : Published) → IsTight shelf → IsTight (put_up home p shelf)

-- the module that a good run puts up at its file's place is the file's own
abbrev pub RunsLeaveOwn : Type 0
RunsLeaveOwn =
    (plan : Plan) (n : ℕ) (ss : List Statement) (ms : List Local) → tree_in (read_of plan n) ≡ Some ss
    → AreGood plan (loaded plan n) ms
    → (p : Published) (globals : List (List ℕ × Value)) (texts : List (List ℕ × List ℕ)) (lines : List Said)
    → ran plan n ms ≡ Good (put_up n p (given plan n ms).shelf) globals texts lines → IsOwn plan n p

-- a file without a static fault whose loads are good: its statements are among those of the programs, the programs are
-- right for its run, each function that it sees fits, and its local meaning is its outcome
abbrev pub PlansAreReady : Type 0
PlansAreReady = (files : List File) (plan : Plan) (placed : Files) → IsPlanOf files plan → ArePlaced files plan placed
    → (n : ℕ) (ss : List Statement) (ms : List Local) → tree_in (read_of plan n) ≡ Some ss
    → AreGood plan (loaded plan n) ms
    → Stands (trees_of placed) n ss
    × ArePrograms placed (given plan n ms).prelude plan.mode.language
    × AllFit (trees_of placed) (given plan n ms) (start (given plan n ms) plan.mode.steps)
    × IsOutcome plan n (Ran (local (given plan n ms) plan.mode.steps ss))

-- a file without a static fault whose loads are good may run over each shelf that holds the own modules of the files
-- that it needs, and no others
abbrev pub FilesMayRun : Type 0
FilesMayRun = (files : List File) (plan : Plan) (placed : Files) → IsPlanOf files plan → ArePlaced files plan placed
    → (n : ℕ) (ss : List Statement) (shelf : Shelf) → tree_in (read_of plan n) ≡ Some ss
    → ((i m : ℕ) → slice_get (loaded plan n) i ≡ Some m → IsGood plan m) → IsTight shelf → HoldsNeeds plan n shelf
    → MayRun plan placed n ss shelf
