-- Keys differ before the run of each file whose loads are good, by the depth at which they are good. So they differ in
-- all that the run leaves.
use Rattle.std.proofs.Common.{◌≡◌, ℕ, zero, suc, List, map, Option, Some, None, refl, ap, sym, ◌∙◌}
use Rattle.std.specs.Prelude.{slice_get}
use Rattle.std.specs.Option.{option_flatten}
use Rattle.star_store.specs.declared.values.Value.{Value}
use Rattle.star_store.specs.declared.values.Cell.{Cell}
use Rattle.star_store.specs.declared.values.Cell.TheVariants as cell
use Rattle.star_store.specs.Store.{Published}
use Rattle.star_tree.specs.declared.tree.Statement.{Statement}
use Rattle.star_meaning.specs.Local.{reached}
use Rattle.star_meaning.specs.Module.{Good, Local, start, union}
use Rattle.star_meaning.specs.Places.{Loaded}
use Rattle.star_meaning.specs.Program.{Setting, seen}
use Rattle.star_meaning.specs.Run.{State}
use Rattle.star_plan.specs.Plan.{Plan, loaded}
use Rattle.star_plan.specs.Results.{all_good, if_good, result}
use Rattle.star_plan.specs.Runs.{given}
use Rattle.star_plan.proofs.Fit.{Source, is_loaded, none_seen, seen_before}
use Rattle.star_plan.proofs.Homes.{ends_at_home}
use Rattle.star_plan.proofs.Outcomes.{never}
use Rattle.star_plan.proofs.Seen.{EndsWell, ends_well, not_own, result-sound}
use Rattle.star_plan.proofs.Stay.{result-from}
use Rattle.star_data.specs.Data.{on_shelf}
use Rattle.star_data.specs.Laws.{KeysStandOnce}
use Rattle.star_once.specs.Keys.{KeysDiffer}
use Rattle.star_once.specs.Results.{ResultsKeepKeys}
use Rattle.star_once.proofs.Once.{different_keys_stand_once, files_keep_keys, fewer_once, loads_keep_keys, seen_at_end}

-- keys differ before the run of each file whose loads are good at a depth
abbrev DifferAt : Plan → ℕ → Type 0
DifferAt plan d = (n : ℕ) (ms : List Local) → all_good (map (result plan d) (loaded plan n)) ≡ Some ms → KeysDiffer (given plan n ms) (start (given plan n ms) plan.mode.steps)

-- after the load's run keys differ
differ_after : (plan : Plan) (d n : ℕ) (ms : List Local) (k : ℕ) (m : Local) (s : Source plan d n ms k m) → DifferAt plan d → KeysDiffer (given plan k s.outcomes) s.run.state
differ_after plan d n ms k m s differ = files_keep_keys (given plan k s.outcomes) plan.mode.steps s.statements s.run.ended s.run.state (differ k s.outcomes s.below) s.run.done

-- a dictionary that a file sees was seen by a load, after whose run keys differ
was_seen : (plan : Plan) (d n : ℕ) (ms : List Local) → all_good (map (result plan (suc d)) (loaded plan n)) ≡ Some ms → DifferAt plan d
    → (v : Value) (es : List (Value × Value)) → seen (given plan n ms) (start (given plan n ms) plan.mode.steps) v ≡ Some (cell.Dict es)
    → (u : Setting) × (t : State) × Loaded u t (given plan n ms) × KeysDiffer u t × (seen u t v ≡ Some (cell.Dict es))
was_seen plan d n ms all differ v es e =
    let it = seen_before plan d n ms all v (cell.Dict es) e in
    let s = it.2 in (
      given plan it.0 s.outcomes,
      s.run.state,
      is_loaded plan d n ms it.0 it.1 s,
      differ_after plan d n ms it.0 it.1 s differ,
      it.3,
    )

differ_at : (plan : Plan) (d : ℕ) → DifferAt plan d
differ_at plan zero = λ n ms all. loads_keep_keys (given plan n ms) plan.mode.steps (λ v es e. absurd (none_seen plan n ms all v (cell.Dict es) e))
differ_at plan (suc d) = λ n ms all. loads_keep_keys (given plan n ms) plan.mode.steps (was_seen plan d n ms all (differ_at plan d))

-- ---- so on the shelf of each result

none_published : (o : Option (Option Published)) → ((p : Published) → o ≡ Some (Some p) → ⊥) → option_flatten o ≡ None
none_published None h = refl
none_published (Some None) h = refl
none_published (Some (Some p)) h = absurd (h p refl)

on_seen : (plan : Plan) (d n : ℕ) (m : Local) (ms : List Local) (ss : List Statement) (run : EndsWell plan n ss ms m) → all_good (map (result plan d) (loaded plan n)) ≡ Some ms → (v : Value) (c : Cell) → on_shelf (reached m) v ≡ Some c → seen (given plan n ms) run.state v ≡ Some c
on_seen plan d n m ms ss run all v c e =
    seen_at_end (given plan n ms) run.state run.ended.globals v c (ends_at_home (given plan n ms) ss plan.mode.steps run.ended run.state run.done)
    (none_published (slice_get (union (map reached ms)) n) (not_own plan d n ms all)) (ap (λ shelf. on_shelf shelf v) (sym run.shelf) ∙ e)

of_result : (plan : Plan) (d n : ℕ) (m : Local) → if_good (Some m) ≡ Some m → result plan (suc d) n ≡ Some m → KeysStandOnce (on_shelf (reached m))
of_result plan d n m good is =
    let from = result-from plan d n m is in
    let sound = result-sound plan (suc d) n m is in
    let run = ends_well plan n sound.0 from.0 m sound.1 from.2 good in
    fewer_once (on_shelf (reached m)) (seen (given plan n from.0) run.state) (on_seen plan d n m from.0 sound.0 run from.1)
    (different_keys_stand_once (given plan n from.0) run.state (files_keep_keys (given plan n from.0) plan.mode.steps sound.0 run.ended run.state (differ_at plan d n from.0 from.1) run.done))

at_depth : (plan : Plan) (d n : ℕ) (m : Local) → if_good (Some m) ≡ Some m → result plan d n ≡ Some m → KeysStandOnce (on_shelf (reached m))
at_depth plan zero n m good is = absurd (never plan n (m, ap if_good is ∙ good))
at_depth plan (suc d) n m good is = of_result plan d n m good is

pub results_keep_keys : ResultsKeepKeys
results_keep_keys plan n shelf globals texts lines is = at_depth plan is.0 n (Good shelf globals texts lines) refl is.1
