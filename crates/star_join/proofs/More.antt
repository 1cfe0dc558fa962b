-- The further members of a module are the same in two plans of the same files that reach its file.
use Rattle.star_dialect.specs.declared.Mode.{Mode}
use Rattle.std.proofs.Common.{◌≡◌, ◌-◌, ℕ, Bool, true, false, List, map, ap, sym, subst, ◌∙◌}
use Rattle.serde_json.specs.Data.{Members}
use Rattle.star_label.specs.Files.{File, IsOrdered}
use Rattle.star_meaning.specs.Module.{Good, Stopped}
use Rattle.star_plan.specs.Plan.{Plan, loaded, loads_in, loads_of, tree_in}
use Rattle.star_plan.specs.Reached.{IsReached}
use Rattle.star_plan.specs.Reading.{IsPlanOf}
use Rattle.star_plan.specs.Results.{AreGood, IsOutcome, Outcome, Ran, Static, Unloaded}
use Rattle.star_outcome.specs.Paid.{HasPaid}
use Rattle.star_needs.proofs.Among.{good_over, one_outcome_by_needs, one_run_by_needs}
use Rattle.star_needs.proofs.Ends.{both}
use Rattle.star_report.specs.Wanted.{AreMore, AreWanted, HasLoads, HasSteps, HasStepsAs, HasValues, loads_member}
use Rattle.star_report.specs.declared.wanted.Wanted.{Wanted}
use Rattle.star_join.proofs.Reached.{agreed, every, in_agreed}

module _ (files : List File) (p r : Plan) (ordered : IsOrdered files) (is : IsPlanOf files p) (also : IsPlanOf files r) (prelude : p.prelude ≡ r.prelude) (mode : p.mode ≡ r.mode) (n : ℕ) (x : IsReached p n) (y : IsReached r n) where
  abbrev within : both every p r n ≡ true
  within = in_agreed files p r ordered is also prelude mode n x y

  loads_same : loads_of p n ≡ loads_of r n
  loads_same = ap loads_in ((agreed files p r ordered is also prelude mode).reads n within)

  outcome_to : (k : ℕ) → both every p r k ≡ true → (o : Outcome) → IsOutcome p k o → IsOutcome r k o
  outcome_to k h o = (one_outcome_by_needs files files p r is also (both every p r) (agreed files p r ordered is also prelude mode) k h o).0

  paid_to : (paid : ℕ) → HasPaid p n paid → HasPaid r n paid
  paid_to paid b =
      let a = agreed files p r ordered is also prelude mode in
      let lists : loaded p n ≡ loaded r n = ap (λ ls. map (λ l. l.file) ls) loads_same in
      record {
        statements = b.statements;
        outcomes = b.outcomes;
        ended = b.ended;
        state = b.state;
        sound = ap tree_in (sym (a.reads n within)) ∙ b.sound;
        good = subst (λ ns. AreGood r ns b.outcomes) lists (good_over p r (loaded p n) b.outcomes (λ k c o. outcome_to k (a.closed n k within c) o) b.good);
        run = sym (one_run_by_needs files files p r is also (both every p r) a n within b.statements b.outcomes b.sound b.good) ∙ b.run;
        steps = b.steps ∙ ap (λ (m : Mode). m.steps - b.state.steps) a.mode;
      }

  steps_as : (o : Outcome) (ms : Members) → HasStepsAs p n o ms → HasStepsAs r n o ms
  steps_as (Ran (Good shelf globals texts lines)) ms (paid, h, e) = (paid, paid_to paid h, e)
  steps_as (Ran (Stopped f lines)) ms e = e
  steps_as (Static f) ms e = e
  steps_as (Unloaded i) ms e = e

  wanted_to : (b : Bool) (P Q : Members → Type 0) → ((ms : Members) → P ms → Q ms) → (ms : Members) → AreWanted b P ms → AreWanted b Q ms
  wanted_to true P Q f ms h = f ms h
  wanted_to false P Q f ms h = h

  pub more_to : (wanted : Wanted) (ms : Members) → AreMore wanted files p n ms → AreMore wanted files r n ms
  more_to wanted ms (l, s, v, x, y, z, e) = (
    l,
    s,
    v,
    wanted_to wanted.loads (HasLoads files p n) (HasLoads files r n) (λ ks k. k ∙ ap (loads_member files) loads_same) l x,
    wanted_to wanted.steps (HasSteps p n) (HasSteps r n) (λ ks k. (k.0, outcome_to n within k.0 k.1, steps_as k.0 ks k.2)) s y,
    wanted_to wanted.values (HasValues p n) (HasValues r n) (λ ks k. (k.0, outcome_to n within k.0 k.1, k.2)) v z,
    e,
  )
