-- The meaning of an outcome, and that a run by places is the run by names if a file is ready to run.
use Rattle.std.proofs.Common.{◌≡◌, ℕ, List, Vec, String, Global, Result, Ok, Err, IfOk, refl, sym, ap, ◌∙◌, subst}
use Rattle.std.specs.declared.alloc.AllocError.{AllocError}
use Rattle.star_store.specs.Store.{Published, put_up}
use Rattle.star_tree.specs.declared.tree.Statement.{Statement}
use Rattle.star_meaning.specs.declared.fault.FaultCode.{FaultCode}
use Rattle.star_meaning.specs.declared.fault.Fault.{Fault}
use Rattle.star_meaning.specs.declared.said.Said.{Said}
use Rattle.star_meaning.specs.Local.{outlines}
use Rattle.star_meaning.specs.Module.{Ended, Local, Good, Stopped, local, local_of}
use Rattle.star_meaning.specs.Places.{FitAfter, Stands}
use Rattle.star_meaning.specs.Program.{Setting}
use Rattle.star_meaning.specs.Programs.{tables_of, trees_of}
use Rattle.star_meaning.specs.Run as run
use Rattle.star_meaning.proofs.ByPlaces.{places_mean_names}
use Rattle.star_meaning.proofs.Resolved.{programs_place_names}
use Rattle.star_world.specs.World.{World}
use Rattle.star_machine.specs.declared.fault.EvalError.{EvalError}
use Rattle.star_machine.specs.declared.fault.EvalError.TheVariants.{Faulted}
use Rattle.star_machine.specs.Refines.{RefinesBy}
use Rattle.star_module.specs.declared.module.Ended.{Ended as HeldEnded}
use Rattle.star_module.specs.declared.module.Outcome.{Outcome}
use Rattle.star_module.specs.declared.module.Remains.{Remains}
use Rattle.star_module.specs.declared.module.Outcome.TheVariants as outcome
use Rattle.star_module.specs.Globals.{owned}
use Rattle.star_module.specs.Outcomes.{AreReady, IsOutcome, semantics, run_by_names, run_by_places, shown}

-- the state that a run with this end left
pub good_is : (o : run.Outcome Ended) (r : Result HeldEnded EvalError) (e : HeldEnded) (s : run.State) (frozen : Published) (texts : Vec (String Global × List ℕ) Global) (lines : Vec Said Global) (left : ℕ)
    → r ≡ Ok e → frozen ≡ record { cells = s.store.cells; globals = owned e.globals.items } → texts ≡ e.texts → lines.items ≡ s.lines → left ≡ s.steps → RefinesBy shown o r s → IsOutcome o (outcome.Good frozen texts lines left)
good_is o r e s frozen texts lines left q f t l k h =
    let g : RefinesBy shown o (Ok e) s = subst (λ x. RefinesBy shown o x s) q h in
    subst (λ p. IsOutcome p (outcome.Good frozen texts lines left)) (sym g) (f, ap (λ x. owned x.items) t, l, k)

pub fault_is : (o : run.Outcome Ended) (r : Result HeldEnded EvalError) (code : FaultCode) (line : ℕ) (s : run.State) (lines : Vec Said Global) (remains : Remains)
    → r ≡ Err (Faulted code line) → lines.items ≡ s.lines → RefinesBy shown o r s → IsOutcome o (outcome.Fault code line lines remains)
fault_is o r code line s lines remains q l h =
    let k : RefinesBy shown o (Err (Faulted code line)) s = subst (λ x. RefinesBy shown o x s) q h in
    subst (λ p. IsOutcome p (outcome.Fault code line lines remains)) (sym k) (refl, l)

-- an outcome as the local meaning of a file
pub meant_is : (w : Setting) (o : run.Outcome Ended) (out : Outcome) → IsOutcome o out → semantics w out ≡ local_of w o
meant_is w (run.Done e s) (outcome.Good frozen texts lines left) h = λ i. Good (put_up w.home (h.0 i) w.shelf) (h.0 i).globals (h.1 i) (h.2 i)
meant_is w (run.Done e s) (outcome.Fault code line lines remains) h = absurd h
meant_is w (run.Failed f printed) (outcome.Good frozen texts lines left) h = absurd h
meant_is w (run.Failed f printed) (outcome.Fault code line lines remains) h = λ i. Stopped (sym h.0 i) (h.1 i)

named : (w : World) (ss : List Statement) (steps : ℕ) → w.setting.outlines ≡ outlines (trees_of w.files) → Stands (trees_of w.files) w.setting.home ss → AreReady w steps
    → (run_by_places w steps ss ≡ run_by_names w.setting steps ss) × FitAfter (trees_of w.files) w.setting (run_by_names w.setting steps ss)
named w ss steps h s r = places_mean_names (tables_of w.files) (trees_of w.files) w.setting ss steps h s (programs_place_names w.files w.setting h r.programs) r.functions

means_local : (w : World) (ss : List Statement) (steps : ℕ) (out : Outcome) → w.setting.outlines ≡ outlines (trees_of w.files) → Stands (trees_of w.files) w.setting.home ss → AreReady w steps
    → IsOutcome (run_by_places w steps ss) out → semantics w.setting out ≡ local w.setting steps ss
means_local w ss steps out h s r o = meant_is w.setting (run_by_places w steps ss) out o ∙ ap (local_of w.setting) (named w ss steps h s r).0

pub means_names : (w : World) (ss : List Statement) (steps : ℕ) (r : Result Outcome AllocError) → w.setting.outlines ≡ outlines (trees_of w.files) → Stands (trees_of w.files) w.setting.home ss → AreReady w steps
    → IfOk r (λ out. IsOutcome (run_by_places w steps ss) out) → IfOk r (λ out. semantics w.setting out ≡ local w.setting steps ss)
means_names w ss steps (Ok out) h s r o = means_local w ss steps out h s r o
means_names w ss steps (Err e) h s r o = tt

pub all_fit : (w : World) (ss : List Statement) (steps : ℕ) → w.setting.outlines ≡ outlines (trees_of w.files) → Stands (trees_of w.files) w.setting.home ss → AreReady w steps
    → FitAfter (trees_of w.files) w.setting (run_by_names w.setting steps ss)
all_fit w ss steps h s r = (named w ss steps h s r).1

-- an outcome of the run by places is the outcome of the run by names
pub so_named : (w : World) (ss : List Statement) (steps : ℕ) (r : Result Outcome AllocError) → w.setting.outlines ≡ outlines (trees_of w.files) → Stands (trees_of w.files) w.setting.home ss → AreReady w steps
    → IfOk r (λ out. IsOutcome (run_by_places w steps ss) out) → IfOk r (λ out. IsOutcome (run_by_names w.setting steps ss) out)
so_named w ss steps (Ok out) h s r o = subst (λ p. IsOutcome p out) (named w ss steps h s r).0 o
so_named w ss steps (Err e) h s r o = tt
