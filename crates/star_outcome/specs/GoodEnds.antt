-- The ends of files whose runs went well, as a caller may keep them after a run.
use Rattle.std.specs.Arc.{arc_value}
use Rattle.std.specs.Prelude.{◌≡◌, ◌⊎◌, ℕ, true, false, All, Contains, List, Option, Some, None, Any, slice_get, slice_set}
use Rattle.star_dialect.specs.declared.Mode.{Mode}
use Rattle.star_label.specs.Files.{File, IsOrdered}
use Rattle.star_plan.specs.Plan.{Plan, loaded}
use Rattle.star_plan.specs.Reached.{IsReached}
use Rattle.star_plan.specs.Reading.{IsPlanOf}
use Rattle.star_outcome.specs.Kept.{AreModules, AreModulesOf, KeptView}
use Rattle.star_meaning.specs.Module.{Good as WentWell}
use Rattle.star_plan.specs.Results.{IsOutcome, Ran}
use Rattle.star_plan.specs.Shelves.{IsOwn}
use Rattle.star_store.specs.declared.values.Value.{Value}
use Rattle.star_store.specs.Store.{Published, Shelf}
use Rattle.star_outcome.specs.Paid.{HasPaid}
use Rattle.star_outcome.specs.Reaches.{ReachView, row_of}
use Rattle.star_outcome.specs.Views.{AreStores, ended_well}
use Rattle.star_outcome.specs.declared.good_end.GoodEnd.{GoodEnd}
use Rattle.star_outcome.specs.declared.module.Body.{Body}
use Rattle.star_outcome.specs.declared.module.Ended.{Ended}
use Rattle.star_outcome.specs.declared.module.Ended.TheVariants.{Static, Load as Unloaded, Stopped, Good}
use Rattle.star_outcome.specs.declared.module.Module.{Module}

-- a body of the file n but for the stores of other files: the texts of its globals, its lines and the steps that it has
-- paid, and its own store
pub record IsLasting (plan : Plan) (n : ℕ) (b : Body) : Type 0 where
  pub shelf : Shelf
  pub globals : List (List ℕ × Value)
  pub outcome : IsOutcome plan n (Ran (WentWell shelf globals (arc_value b.shown) b.lines.items))
  pub own : All (λ r. r.number ≡ n → IsOwn plan n r.store) (row_of b.stores)
  pub paid : HasPaid plan n b.paid

-- the good end of the file n: the files that it loads, and its body. A stale one may have stores of files that have
-- changed
pub record IsGoodEnd (plan : Plan) (n : ℕ) (e : GoodEnd) : Type 0 where
  pub loads : e.loads.items ≡ loaded plan n
  pub lasting : IsLasting plan n (arc_value e.body)
  pub stores : e.is_stale ≡ false → AreStores plan n (row_of (arc_value e.body).stores)

-- a row has this store of the file n
abbrev pub HasStoreOf : List ReachView → ℕ → Published → Type 0
HasStoreOf rs n store = Contains rs (record { number = n; store = store })

-- each of these, at the number of its file, is the good end of the file, if that is reached
abbrev pub AreGoodEnds : Plan → List (Option GoodEnd) → Type 0
AreGoodEnds plan es = (n : ℕ) (e : GoodEnd) → slice_get es n ≡ Some (Some e) → IsReached plan n → IsGoodEnd plan n e

-- each of these, at the number of its file, is the good end of a reached file, and not stale
abbrev pub AreReachedEnds : Plan → List (Option GoodEnd) → Type 0
AreReachedEnds plan es =
    (n : ℕ) (e : GoodEnd) → slice_get es n ≡ Some (Some e)
    → IsReached plan n × IsGoodEnd plan n e × (e.is_stale ≡ false)

-- they are good ends in the plan with these files, roots, prelude and mode
abbrev pub AreGoodEndsOf : List File → List ℕ → Option ℕ → Mode → List (Option GoodEnd) → Type 0
AreGoodEndsOf files roots prelude mode es =
    (plan : Plan) → IsPlanOf files plan → plan.roots ≡ roots → plan.prelude ≡ prelude → plan.mode ≡ mode
    → AreGoodEnds plan es

-- the body of a file whose run went well
abbrev pub body_in : Ended → Option Body
body_in (Static f) = None
body_in (Unloaded index line) = None
body_in (Stopped code line lines left) = None
body_in (Good body) = Some (arc_value body)

-- this is the end of the module
pub record IsEndOf (m : Module) (e : GoodEnd) : Type 0 where
  pub loads : e.loads.items ≡ m.loads.items
  pub body : body_in m.ended ≡ Some (arc_value e.body)
  pub fresh : e.is_stale ≡ false

-- the end of the module is put at its number, if its run went well
abbrev pub IsPut : Module → List (Option GoodEnd) → List (Option GoodEnd) → Type 0
IsPut m before after =
    ((ended_well m.ended ≡ false) × (after ≡ before))
    ⊎ ((e : GoodEnd) × IsEndOf m e × (after ≡ slice_set before m.number (Some e)))

-- the note knows a module of the file n with this end
abbrev pub KnowsEnd : ℕ → GoodEnd → KeptView → Type 0
KnowsEnd n e k = (m : Module) × (k.known ≡ Some m) × (m.number ≡ n) × IsEndOf m e

-- each of these, at the number of its file, is the end of a module that one of the notes knows
abbrev pub AreEndsAmong : List KeptView → List (Option GoodEnd) → Type 0
AreEndsAmong ks es = (n : ℕ) (e : GoodEnd) → slice_get es n ≡ Some (Some e) → Any (KnowsEnd n e) ks

-- these have the end of the module that the note knows, if its run went well
abbrev pub HaveEnd : List (Option GoodEnd) → KeptView → Type 0
HaveEnd es k =
    (m : Module) → k.known ≡ Some m → ended_well m.ended ≡ true → (e : GoodEnd)
    × (slice_get es m.number ≡ Some (Some e))

-- so these are good ends of reached files in each plan whose modules the notes know
abbrev pub AreEndsInPlans : List KeptView → List (Option GoodEnd) → Type 0
AreEndsInPlans ks es = (plan : Plan) → AreModules plan ks → AreReachedEnds plan es

-- and they are the good ends of the files, with the roots, the prelude and the mode
abbrev pub AreEndsAgain : List KeptView → List (Option GoodEnd) → Type 0
AreEndsAgain ks es =
    (files : List File) (roots : List ℕ) (prelude : Option ℕ) (mode : Mode) → IsOrdered files
    → AreModulesOf files roots prelude mode ks → AreGoodEndsOf files roots prelude mode es
