-- The module of a file ends the same in two plans that agree on all that the file needs.
use Rattle.std.specs.Arc.{arc_value}
use Rattle.std.proofs.Common.{◌≡◌, ◌-◌, ℕ, zero, suc, Bool, true, List, map, Some, ap, sym, subst, ◌∙◌}
use Rattle.std.specs.Prelude.{Contains, slice_get}
use Rattle.std.proofs.lemmas.List.Elements.{All-weaker}
use Rattle.star_dialect.specs.declared.Mode.{Mode}
use Rattle.star_cache.specs.State.{Loads}
use Rattle.star_cache.specs.Walk.{LeadsTo, Walk}
use Rattle.star_label.specs.Files.{File}
use Rattle.star_meaning.specs.Module.{Good as WentWell, Stopped as HadFault}
use Rattle.star_plan.specs.Plan.{Plan, loaded, loads_in, read_of, tree_in}
use Rattle.star_plan.specs.Reading.{IsPlanOf}
use Rattle.star_plan.specs.Results.{AreGood, IsOutcome, Outcome, Ran, Static as StaticOutcome, Unloaded as UnloadedOutcome}
use Rattle.star_plan.specs.Shelves.{IsOwn}
use Rattle.star_reading.specs.Codes.{fault_of}
use Rattle.star_outcome.specs.Paid.{HasPaid}
use Rattle.star_outcome.specs.Reaches.{ReachView}
use Rattle.star_outcome.specs.Views.{AreStores, IsBody, IsEnd}
use Rattle.star_outcome.specs.declared.module.Body.{Body}
use Rattle.star_outcome.specs.declared.module.Ended.{Ended}
use Rattle.star_outcome.specs.declared.module.Ended.TheVariants.{Static, Load as Unloaded, Stopped, Good}
use Rattle.star_needs.specs.Agree.{AgreeAmong}
use Rattle.star_needs.specs.Laws.{Among}
use Rattle.star_needs.specs.Texts.{OneModuleEndByNeeds}
use Rattle.star_needs.proofs.Among.{good_over, one_module_by_needs, one_outcome_by_needs, one_run_by_needs}

loaded-same : (p q : Plan) (n : ℕ) → read_of p n ≡ read_of q n → loaded p n ≡ loaded q n
loaded-same p q n e = ap (λ r. map (λ l. l.file) (loads_in r)) e

-- agreement goes both ways
pub among_back : (is_in : ℕ → Bool) (p q : Plan) → AgreeAmong is_in p q → AgreeAmong is_in q p
among_back is_in p q a = record {
  mode = sym a.mode;
  prelude = sym a.prelude;
  reads = λ n h. sym (a.reads n h);
  closed = λ n m h step. a.closed n m h (subst (λ xs. Contains xs m) (sym (loaded-same p q n (a.reads n h))) step);
  read = λ n h. (let read = a.read n h in (read.0, sym (a.reads n h) ∙ read.1));
}

module _ (files others : List File) (p q : Plan) (is : IsPlanOf files p) (also : IsPlanOf others q) (is_in : ℕ → Bool) (a : AgreeAmong is_in p q) where
  -- a walk of loads stays among these files, in both plans
  within : (j n k : ℕ) → is_in n ≡ true → Walk (Loads (loaded p)) j n k → is_in k ≡ true
  within zero n k h w = subst (λ z. is_in z ≡ true) w h
  within (suc j) n k h w = within j w.0 k (a.closed n w.0 h w.1) w.2

  walk_to : (j n k : ℕ) → is_in n ≡ true → Walk (Loads (loaded p)) j n k → Walk (Loads (loaded q)) j n k
  walk_to zero n k h w = w
  walk_to (suc j) n k h w = (w.0, subst (λ xs. Contains xs w.0) (loaded-same p q n (a.reads n h)) w.1, walk_to j w.0 k (a.closed n w.0 h w.1) w.2)

  leads_to : (n k : ℕ) → is_in n ≡ true → LeadsTo (Loads (loaded p)) n k → LeadsTo (Loads (loaded q)) n k
  leads_to n k h way = (way.0, walk_to way.0 n k h way.1)

  outcome_to : (n : ℕ) → is_in n ≡ true → (o : Outcome) → IsOutcome p n o → IsOutcome q n o
  outcome_to n h o = (one_outcome_by_needs files others p q is also is_in a n h o).0

  store_to : (n : ℕ) → is_in n ≡ true → (r : ReachView) → LeadsTo (Loads (loaded p)) n r.number × IsOwn p r.number r.store → LeadsTo (Loads (loaded q)) n r.number × IsOwn q r.number r.store
  store_to n h r (way, own) = (leads_to n r.number h way, (one_module_by_needs files others p q is also is_in a r.number (within way.0 n r.number h way.1) r.store).0 own)

  paid_to : (n paid : ℕ) → is_in n ≡ true → HasPaid p n paid → HasPaid q n paid
  paid_to n paid h b = record {
    statements = b.statements;
    outcomes = b.outcomes;
    ended = b.ended;
    state = b.state;
    sound = ap tree_in (sym (a.reads n h)) ∙ b.sound;
    good = subst (λ ns. AreGood q ns b.outcomes) (loaded-same p q n (a.reads n h)) (good_over p q (loaded p n) b.outcomes (λ k c o. outcome_to k (a.closed n k h c) o) b.good);
    run = sym (one_run_by_needs files others p q is also is_in a n h b.statements b.outcomes b.sound b.good) ∙ b.run;
    steps = b.steps ∙ ap (λ (m : Mode). m.steps - b.state.steps) a.mode;
  }

module _ (files others : List File) (p q : Plan) (is : IsPlanOf files p) (also : IsPlanOf others q) (is_in : ℕ → Bool) (a : AgreeAmong is_in p q) where
  stores_to : (n : ℕ) → is_in n ≡ true → (rs : List ReachView) → AreStores p n rs → AreStores q n rs
  stores_to n h rs s = record {
    own = All-weaker (λ (r : ReachView). LeadsTo (Loads (loaded p)) n r.number × IsOwn p r.number r.store) (λ (r : ReachView). LeadsTo (Loads (loaded q)) n r.number × IsOwn q r.number r.store) (store_to files others p q is also is_in a n h) rs s.own;
    all = λ k way. s.all k (leads_to others files q p also is is_in (among_back is_in p q a) n k h way);
  }

  body_to : (n : ℕ) → is_in n ≡ true → (b : Body) → IsBody p n b → IsBody q n b
  body_to n h b is_body = record {
    shelf = is_body.shelf;
    globals = is_body.globals;
    outcome = outcome_to files others p q is also is_in a n h (Ran (WentWell is_body.shelf is_body.globals (arc_value b.shown) b.lines.items)) is_body.outcome;
    stores = stores_to n h _ is_body.stores;
    paid = paid_to files others p q is also is_in a n b.paid h is_body.paid;
  }

  end_to : (n : ℕ) → is_in n ≡ true → (e : Ended) → IsEnd p n e → IsEnd q n e
  end_to n h (Static f) e = outcome_to files others p q is also is_in a n h (StaticOutcome (fault_of f)) e
  end_to n h (Unloaded index line) (e, (l, at, on)) = (outcome_to files others p q is also is_in a n h (UnloadedOutcome index) e, (l, subst (λ r. slice_get (loads_in r) index ≡ Some l) (a.reads n h) at, on))
  end_to n h (Stopped code line lines left) e = outcome_to files others p q is also is_in a n h (Ran (HadFault (record { code = code; line = line }) lines.items)) e
  end_to n h (Good b) e = body_to n h _ e

pub one_body_by_needs : (b : Body) → Among (λ p q n. IsBody p n b → IsBody q n b)
one_body_by_needs b files others p q is also is_in a n h = body_to files others p q is also is_in a n h b

pub ends_by_needs : (e : Ended) → Among (λ p q n. IsEnd p n e → IsEnd q n e)
ends_by_needs e files others p q is also is_in a n h = end_to files others p q is also is_in a n h e

pub one_module_end_by_needs : OneModuleEndByNeeds
one_module_end_by_needs files others p q is also is_in a n h e =
    (end_to files others p q is also is_in a n h e, end_to others files q p also is is_in (among_back is_in p q a) n h e)
