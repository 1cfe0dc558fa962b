-- The run of a body over the stores of all files that it needs is the file's outcome.
use Rattle.std.proofs.Common.{◌≡◌, ◌<◌, ◌-◌, ℕ, List, length, Result, Ok, Err, IfOk, Option, Some, refl, ap, sym, ◌∙◌, subst, arith}
use Rattle.std.specs.Prelude.{String, Vec, slice_get}
use Rattle.std.specs.Arc.{arc_value}
use Rattle.std.specs.declared.alloc.Global.{Global}
use Rattle.std.specs.Option.{option_map}
use Rattle.std.specs.declared.alloc.AllocError.{AllocError}
use Rattle.std.proofs.lemmas.List.{length-map}
use Rattle.std.proofs.lemmas.Option.{slice_get_within}
use Rattle.star_dialect.specs.declared.Language.{Language}
use Rattle.star_dialect.specs.declared.Mode.{Mode}
use Rattle.star_label.specs.Files.{File}
use Rattle.star_scope.specs.declared.loads.Load.{Load}
use Rattle.star_scope.specs.declared.program.Program.{Program}
use Rattle.star_store.specs.Store.{Published, Shelf, put_up}
use Rattle.star_tree.specs.declared.tree.Statement.{Statement}
use Rattle.star_meaning.specs.Local.{Trees, outlines}
use Rattle.star_meaning.specs.Module.{Ended, Good as WentWell, Local, local, start}
use Rattle.star_meaning.specs.Run as run
use Rattle.star_meaning.specs.Places.{AllFit}
use Rattle.star_meaning.specs.Program.{Setting}
use Rattle.star_meaning.specs.Programs.{ArePrograms, Files, load_files, trees_of}
use Rattle.star_module.specs.declared.module.Outcome.{Outcome}
use Rattle.star_module.specs.declared.module.Outcome.TheVariants as outcome
use Rattle.star_module.specs.Globals.{owned}
use Rattle.star_module.specs.Outcomes.{AreReady, IsOutcome as IsRun, semantics, run_by_names}
use Rattle.star_plan.specs.Plan.{Plan, loaded, loads_in, loads_of, read_of, tree_in, trees}
use Rattle.star_plan.specs.Reading.{IsPlanOf}
use Rattle.star_plan.specs.Results.{AreGood, IsGood, IsOutcome, Ran}
use Rattle.star_plan.specs.Runs.{ArePlaced, MayRun, given, given_over, run_by_names as plan_run}
use Rattle.star_plan.specs.Shelves.{HoldsNeeds, IsTight}
use Rattle.star_plan.proofs.Needs.{good_files_have_outcomes, the_one_shelf}
use Rattle.star_plan.proofs.Ready.{files_may_run}
use Rattle.star_world.specs.World.{world_of}
use Rattle.star_host.specs.Bodies.{IsOwnIn, IsPaidIn, IsRan}
use Rattle.star_outcome.specs.Globals.{shown_texts}
use Rattle.star_outcome.specs.Paid.{HasPaid}
use Rattle.star_outcome.specs.Reaches.{row_of}
use Rattle.star_reading.specs.Readings.{Row, read_at, reading_of, readings}
use Rattle.star_outcome.specs.Views.{AreGoodLoads, AreStores, IsBody}
use Rattle.star_outcome.specs.declared.module.Body.{Body}
use Rattle.star_outcome.specs.declared.module.Module.{Module}
use Rattle.star_reading.specs.declared.reading.Read.TheVariants as read
use Rattle.star_outcome.proofs.Opens.{module_good}
use Rattle.star_reading.proofs.Rows.{loads_are, read_is}

pub loads_good : (plan : Plan) (n : ℕ) (ms : List Module) → AreGoodLoads plan n (length (loads_of plan n)) ms → (i m : ℕ) → slice_get (loaded plan n) i ≡ Some m → IsGood plan m
loads_good plan n ms loads i m at =
    let within = slice_get_within (loaded plan n) i m at in
    let long = length-map (loads_of plan n) (λ (l : Load). l.file) in
    let inside : i < length (loads_of plan n) = omega (arith, within, long) in
    let one = loads.each i m inside at in
    module_good plan m one.0 one.2.0 one.2.1

-- a file all of whose loads are good may run over the stores that were gathered for it
pub body_may_run : (files : List File) (plan : Plan) (table : Files) (row : Row) (n : ℕ) (p : Program) (shelf : Shelf) (ms : List Module) → IsPlanOf files plan → ArePlaced files plan table → readings row ≡ plan.reads
    → read_at row n ≡ Some (read.Program p) → AreGoodLoads plan n (length (loads_of plan n)) ms → IsTight shelf → HoldsNeeds plan n shelf → MayRun plan table n p.statements.now shelf
body_may_run files plan table row n p shelf ms planned placed is e loads tight holds =
    files_may_run files plan table planned placed n p.statements.now shelf (ap tree_in (read_is plan row n is ∙ ap (option_map reading_of) e)) (loads_good plan n ms loads) tight holds

same_setting : (plan : Plan) (table : Files) (n home : ℕ) (shelf : Shelf) (ls : List Load) (prelude : Option ℕ) (language : Language) → home ≡ n → ls ≡ loads_of plan n → prelude ≡ plan.prelude → language ≡ plan.mode.language → (world_of home shelf table ls prelude language).setting ≡ given_over table plan n shelf
same_setting plan table n home shelf ls prelude language e f g d =
    ap (λ h. (world_of h shelf table ls prelude language).setting) e
    ∙ ap (λ xs. (world_of n shelf table xs prelude language).setting) f
    ∙ ap (λ o. (world_of n shelf table (loads_of plan n) o language).setting) g
    ∙ ap (λ l. (world_of n shelf table (loads_of plan n) plan.prelude l).setting) d

own_in : (plan : Plan) (table : Files) (n : ℕ) (ss : List Statement) (shelf : Shelf) (o : Outcome) → MayRun plan table n ss shelf → semantics (given_over table plan n shelf) o ≡ local (given_over table plan n shelf) plan.mode.steps ss → IsOwnIn plan n o
own_in plan table n ss shelf (outcome.Good frozen texts lines left) may e = may.own frozen frozen.globals (owned texts.items) lines.items (sym e)
own_in plan table n ss shelf (outcome.Fault code line lines remains) may e = tt

same_given : (plan : Plan) (table : Files) (n : ℕ) (ms : List Local) (shelf : Shelf) → trees_of table ≡ trees plan → shelf ≡ (given plan n ms).shelf → given_over table plan n shelf ≡ given plan n ms
same_given plan table n ms shelf trees_are shelf_is =
    ap (λ (t : Trees). let w : Setting = record { home = n; outlines = outlines t; shelf = shelf; loads = load_files (loads_of plan n); prelude = plan.prelude; language = plan.mode.language } in w) trees_are
    ∙ ap (λ (s : Shelf). let w : Setting = record { home = n; outlines = outlines (trees plan); shelf = s; loads = load_files (loads_of plan n); prelude = plan.prelude; language = plan.mode.language } in w) shelf_is

paid_by : (plan : Plan) (n : ℕ) (ss : List Statement) (ms : List Local) (r : run.Outcome Ended) (o : Outcome) → tree_in (read_of plan n) ≡ Some ss → AreGood plan (loaded plan n) ms → plan_run plan n ss ms ≡ r → IsRun r o → IsPaidIn plan n o
paid_by plan n ss ms (run.Done e s) (outcome.Good frozen texts lines left) sound good ran so =
    record { statements = ss; outcomes = ms; ended = e; state = s; sound = sound; good = good; run = ran; steps = ap (λ k. plan.mode.steps - k) so.3 }
paid_by plan n ss ms (run.Done e s) (outcome.Fault code line lines remains) sound good ran so = tt
paid_by plan n ss ms (run.Failed f printed) (outcome.Good frozen texts lines left) sound good ran so = absurd so
paid_by plan n ss ms (run.Failed f printed) (outcome.Fault code line lines remains) sound good ran so = tt

-- a good run over the gathered stores has paid the steps that were given, less those that are left
paid_in : (plan : Plan) (table : Files) (n : ℕ) (ss : List Statement) (shelf : Shelf) (o : Outcome) → trees_of table ≡ trees plan → tree_in (read_of plan n) ≡ Some ss → ((i m : ℕ) → slice_get (loaded plan n) i ≡ Some m → IsGood plan m) → IsTight shelf → HoldsNeeds plan n shelf
    → IsRun (run_by_names (given_over table plan n shelf) plan.mode.steps ss) o → IsPaidIn plan n o
paid_in plan table n ss shelf o trees_are sound good tight holds is =
    let outcomes = good_files_have_outcomes plan (loaded plan n) good in
    let same : given_over table plan n shelf ≡ given plan n outcomes.0 = same_given plan table n outcomes.0 shelf trees_are (the_one_shelf plan n outcomes.0 outcomes.1 shelf tight holds) in
    paid_by plan n ss outcomes.0 (plan_run plan n ss outcomes.0) o sound outcomes.1 refl
    (subst (λ (v : Setting). IsRun (run_by_names v plan.mode.steps ss) o) same is)

-- a run of the file n with this outcome has paid its steps
abbrev pub Pays : Plan → Files → ℕ → List Statement → Shelf → Type 0
Pays plan table n ss shelf = (o : Outcome) → IsRun (run_by_names (given_over table plan n shelf) plan.mode.steps ss) o → IsPaidIn plan n o

pub body_pays : (files : List File) (plan : Plan) (table : Files) (row : Row) (n : ℕ) (p : Program) (shelf : Shelf) (ms : List Module) → ArePlaced files plan table → readings row ≡ plan.reads
    → read_at row n ≡ Some (read.Program p) → AreGoodLoads plan n (length (loads_of plan n)) ms → IsTight shelf → HoldsNeeds plan n shelf → Pays plan table n p.statements.now shelf
body_pays files plan table row n p shelf ms placed is e loads tight holds o h =
    paid_in plan table n p.statements.now shelf o placed.statements (ap tree_in (read_is plan row n is ∙ ap (option_map reading_of) e)) (loads_good plan n ms loads) tight holds h

ran_is : (plan : Plan) (table : Files) (n : ℕ) (ss : List Statement) (shelf : Shelf) (w : Setting) (mode : Mode) (o : Outcome) → MayRun plan table n ss shelf → Pays plan table n ss shelf → w ≡ given_over table plan n shelf → mode ≡ plan.mode → semantics w o ≡ local w mode.steps ss → IsRun (run_by_names w mode.steps ss) o → IsRan plan n o
ran_is plan table n ss shelf w mode o may pays same count e named =
    let f : semantics w o ≡ local w plan.mode.steps ss = e ∙ ap (λ (m : Mode). local w m.steps ss) count in
    let g : semantics (given_over table plan n shelf) o ≡ local (given_over table plan n shelf) plan.mode.steps ss = subst (λ (v : Setting). semantics v o ≡ local v plan.mode.steps ss) same f in
    record {
      over = given_over table plan n shelf;
      outcome = subst (λ m. IsOutcome plan n (Ran m)) (sym g) may.outcome;
      own = own_in plan table n ss shelf o may g;
      paid = pays o (subst (λ (v : Setting). IsRun (run_by_names v plan.mode.steps ss) o) same (subst (λ (m : Mode). IsRun (run_by_names w m.steps ss) o) count named));
    }

-- the outcome of the run of a body is the file's outcome
pub ran_so : (plan : Plan) (table : Files) (n home : ℕ) (ss : List Statement) (shelf : Shelf) (ls : List Load) (prelude : Option ℕ) (mode : Mode) (r : Result Outcome AllocError) → MayRun plan table n ss shelf → Pays plan table n ss shelf
    → home ≡ n → ls ≡ loads_of plan n → prelude ≡ plan.prelude → mode ≡ plan.mode
    → (AreReady (world_of home shelf table ls prelude mode.language) mode.steps → IfOk r (λ o. semantics (world_of home shelf table ls prelude mode.language).setting o ≡ local (world_of home shelf table ls prelude mode.language).setting mode.steps ss))
    → (AreReady (world_of home shelf table ls prelude mode.language) mode.steps → IfOk r (λ o. IsRun (run_by_names (world_of home shelf table ls prelude mode.language).setting mode.steps ss) o)) → IfOk r (IsRan plan n)
ran_so plan table n home ss shelf ls prelude mode r may pays at loads is count names named = by_result r (names ready) (named ready)
  where
    w : Setting
    w = (world_of home shelf table ls prelude mode.language).setting

    same : w ≡ given_over table plan n shelf
    same = same_setting plan table n home shelf ls prelude mode.language at loads is (ap (λ (m : Mode). m.language) count)

    ready : AreReady (world_of home shelf table ls prelude mode.language) mode.steps
    ready = record {
      programs = subst (λ (m : Mode). ArePrograms table prelude m.language) (sym count) (subst (λ o. ArePrograms table o plan.mode.language) (sym is) may.programs);
      functions = subst (λ (m : Mode). AllFit (trees_of table) w (start w m.steps)) (sym count) (subst (λ (v : Setting). AllFit (trees_of table) v (start v plan.mode.steps)) (sym same) may.functions);
    }

    by_result : (q : Result Outcome AllocError) → IfOk q (λ o. semantics w o ≡ local w mode.steps ss) → IfOk q (λ o. IsRun (run_by_names w mode.steps ss) o) → IfOk q (IsRan plan n)
    by_result (Ok o) e h = ran_is plan table n ss shelf w mode o may pays same count e h
    by_result (Err x) e h = tt

pub loads_in_row : (plan : Plan) (row : Row) (n : ℕ) (p : Program) → readings row ≡ plan.reads → read_at row n ≡ Some (read.Program p) → p.loads.items ≡ loads_of plan n
loads_in_row plan row n p is e = sym (loads_are plan row n is ∙ ap (λ o. loads_in (option_map reading_of o)) e)

-- the result of a good run
pub body_is : (plan : Plan) (n : ℕ) (o : Outcome) (frozen : Published) (globals : Vec (String Global × List ℕ) Global) (left : ℕ) (b : Body) → o ≡ outcome.Good frozen globals b.lines left → arc_value b.shown ≡ shown_texts globals.items → b.paid ≡ plan.mode.steps - left → IsRan plan n o → AreStores plan n (row_of b.stores) → IsBody plan n b
body_is plan n o frozen globals left b e shown paid ran stores =
    let r : IsRan plan n (outcome.Good frozen globals b.lines left) = subst (IsRan plan n) e ran in
    let ends : IsOutcome plan n (Ran (WentWell (put_up r.over.home frozen r.over.shelf) frozen.globals (arc_value b.shown) b.lines.items)) = subst (λ t. IsOutcome plan n (Ran (WentWell (put_up r.over.home frozen r.over.shelf) frozen.globals t b.lines.items))) (sym shown) r.outcome in
    record { shelf = put_up r.over.home frozen r.over.shelf; globals = frozen.globals; outcome = ends; stores = stores; paid = subst (HasPaid plan n) (sym paid) r.paid }
