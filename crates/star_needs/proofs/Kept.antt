-- The result of a file stays if what it loads of changed files is the same.
use Rattle.std.proofs.Common.{◌≡◌, ◌⊎◌, inl, inr, ℕ, zero, suc, ◌-◌, nat_eq, eqb-true, Bool, true, List, [], ◌∷◌, map, Option, Some, None, refl, ap, sym, subst, ◌∙◌}
use Rattle.std.specs.Prelude.{Contains, slice_get}
use Rattle.star_dialect.specs.declared.Mode.{Mode}
use Rattle.star_cache.specs.State.{Loads}
use Rattle.star_label.specs.Files.{File}
use Rattle.star_store.specs.declared.values.Value.{Value}
use Rattle.star_store.specs.declared.values.Value.TheVariants as value
use Rattle.star_store.specs.Store.{Published, global_of, put_up}
use Rattle.star_tree.specs.declared.tree.Form.TheOpen as form
use Rattle.star_tree.specs.declared.tree.LoadedName.{LoadedName}
use Rattle.star_tree.specs.declared.tree.Statement.{Statement}
use Rattle.star_outline.specs.Syntax.{StatementForm, form_of, position_of}
use Rattle.star_scope.specs.Placement.{in_statements, misplaced, of_prelude}
use Rattle.star_meaning.specs.Module.{Ended, Good, Local, local_of, most_levels, run_file, start}
use Rattle.star_meaning.specs.Program.{Setting, file_of}
use Rattle.star_meaning.specs.Run.{Done, Failed, Outcome}
use Rattle.star_meaning.specs.Variables.{by_names}
use Rattle.star_plan.specs.Plan.{Plan, loaded, loads_of, read_of, tree_in}
use Rattle.star_plan.specs.Reading.{IsPlanOf}
use Rattle.star_plan.specs.Results.{all_good, ran, result}
use Rattle.star_plan.specs.Runs.{given, run_by_names}
use Rattle.star_plan.specs.Shelves.{IsOwn}
use Rattle.star_plan.proofs.Needs.{given_holds_needs}
use Rattle.star_plan.proofs.Outcomes.{gather, runs-over_loads}
use Rattle.star_plan.proofs.Seen.{own_module, ran-is, result-sound}
use Rattle.star_plan.proofs.Stay.{result-from}
use Rattle.star_plan.proofs.Union.{is_free, put_up-keeps, put_up-own}
use Rattle.star_unseen.specs.Veil.{Every, Hides, IsVisible, VisibleIfThere}
use Rattle.star_unseen.specs.Shelves.{FormIsShared, IsShared, LoadsAreShared, global_in, with_other}
use Rattle.star_unseen.specs.Laws.{EndIsVisible, FilesRunTheSame, FilesWithoutLoadsRunTheSame, RunsTheSame}
use Rattle.star_needs.specs.Changed.{AgreeButFor, FormLoads, KeptResultsStay, LoadsName, SharesLoads, same_at, same_data}
use Rattle.star_needs.proofs.Data.{both}
use Rattle.star_needs.proofs.Needs.{are_good}
use Rattle.star_needs.proofs.SoundFiles.{file_placed, load_among}
use Rattle.star_needs.proofs.Steps.{Kept, KeptAt, KeptBy, Step, hides_of, load_there, loads_good, module_is, own_of, same_loads, seen_globals, shelf_p, shelf_q}
use Rattle.star_needs.proofs.VeilOver.{SharedOf, in_module, other_of, shared_load, veil_over, with_is}
use Rattle.star_needs.proofs.VisiblePlaces.{Reveals, cells_more, hides_over, in_over, opened, over_in}

-- ---- the names that a file loads of a changed file

value_seen : (is_in : ℕ → Bool) (p q : Plan) (n : ℕ) (k : Step is_in p q n) (m : ℕ) (one other : Published) → slice_get (shelf_p k) m ≡ Some (Some one) → slice_get (shelf_q k) m ≡ Some (Some other)
    → (v : Value) → same_data one.cells other.cells m most_levels v ≡ true → IsVisible (hides_of k) v
value_seen is_in p q n k m one other on_p on_q (value.Ref h at) e =
    let s = both (nat_eq h m) (same_at one.cells other.cells m most_levels at) e in
    ap (λ z. (hides_of k).cell z at) (eqb-true h m s.0)
    ∙ (over_in is_in n (shelf_p k) (shelf_q k)).cell m at (opened is_in (shelf_p k) (shelf_q k) m at (record { one = one; other = other; on_one = on_p; on_other = on_q; why = inr s.1 }))
value_seen is_in p q n k m one other on_p on_q v e = tt

maybe_seen : (hides : Hides) (o : Option Value) → ((v : Value) → o ≡ Some v → IsVisible hides v) → VisibleIfThere hides o
maybe_seen hides None h = tt
maybe_seen hides (Some v) h = h v refl

shared_name : (is_in : ℕ → Bool) (p q : Plan) (n : ℕ) (k : Step is_in p q n) (m : ℕ) → SharesLoads p q n m → Loads (loaded p) n m → (name : List ℕ) → LoadsName p n m name → SharedOf k (Some m) name
shared_name is_in p q n k m s load name l =
    let w : Setting = given p n k.ms in
    let load_q : Loads (loaded q) n m = subst (λ ns. Contains ns m) (same_loads is_in p q k.agree n k.within) load in
    let on_p : slice_get (shelf_p k) m ≡ Some (Some s.one) = load_there p n k.ms k.good_p m load s.one s.own_one in
    let on_q : slice_get (shelf_q k) m ≡ Some (Some s.other) = load_there q n k.ks k.good_q m load_q s.other s.own_other in
    let one : global_in w (Some m) name ≡ global_of name s.one.globals = in_module w m s.one name on_p in
    let other : global_in (with_other (other_of k) w) (Some m) name ≡ global_of name s.other.globals = in_module (with_other (other_of k) w) m s.other name on_q in (
      one ∙ (s.same name l ∙ sym other),
      subst (VisibleIfThere (hides_of k)) (sym one) (maybe_seen (hides_of k) (global_of name s.one.globals) (λ v e. value_seen is_in p q n k m s.one s.other on_p on_q v (s.as_data name v l e))),
    )

-- ---- the load statements

every_of : {A : Type 0} (P : A → Type 0) (xs : List A) → ((i : ℕ) (x : A) → slice_get xs i ≡ Some x → P x) → Every P xs
every_of P [] h = tt
every_of P (x ∷ xs) h = (h 0 x refl, every_of P xs (λ i. h (suc i)))

shared_by : (is_in : ℕ → Bool) (p q : Plan) (n : ℕ) (k : Step is_in p q n) (i : ℕ) (x : Statement) → slice_get k.statements i ≡ Some x → (name : List ℕ) → FormLoads (form_of x) name
    → (o : Option ℕ) → file_of (given p n k.ms) (position_of x).token ≡ o → SharedOf k o name
shared_by is_in p q n k i x at name loads None e = (refl, tt)
shared_by is_in p q n k i x at name loads (Some m) e =
    let load : Loads (loaded p) n m = load_among (position_of x).token m (loads_of p n) e in
    turn load (k.agree.loads n m k.within load)
  where
    turn : Loads (loaded p) n m → (is_in m ≡ true) ⊎ SharesLoads p q n m → SharedOf k (Some m) name
    turn load (inl h) = shared_load is_in p q n k m h load name
    turn load (inr s) = shared_name is_in p q n k m s load name (record { statements = k.statements; sound = k.sound; place = i; statement = x; there = at; file = e; loads = loads })

form_shared : (is_in : ℕ → Bool) (p q : Plan) (n : ℕ) (k : Step is_in p q n) (i : ℕ) (x : Statement) → slice_get k.statements i ≡ Some x → (f : StatementForm) → form_of x ≡ f → FormIsShared (veil_over is_in p q n k) (position_of x).token f
form_shared is_in p q n k i x at (form.Load l names) is =
    every_of (λ (z : LoadedName). IsShared (veil_over is_in p q n k) (file_of (given p n k.ms) (position_of x).token) z.loaded.text) names
    (λ j z there. shared_by is_in p q n k i x at z.loaded.text (subst (λ f. FormLoads f z.loaded.text) (sym is) (j, z, there, refl)) (file_of (given p n k.ms) (position_of x).token) refl)
form_shared is_in p q n k i x at f is = tt

loads_shared : (is_in : ℕ → Bool) (p q : Plan) (n : ℕ) (k : Step is_in p q n) → Every (LoadsAreShared (veil_over is_in p q n k)) k.statements
loads_shared is_in p q n k = every_of (LoadsAreShared (veil_over is_in p q n k)) k.statements (λ i x at. form_shared is_in p q n k i x at (form_of x) refl)

-- ---- the run

same_run : (is_in : ℕ → Bool) (p q : Plan) (n : ℕ) (k : Step is_in p q n) → RunsTheSame (given p n k.ms) (veil_over is_in p q n k) p.mode.steps k.statements
same_run is_in p q n k = turn (file_placed k.files p k.is_p n k.statements k.sound)
  where
    turn : (misplaced k.statements ≡ []) ⊎ (in_statements k.statements of_prelude ≡ []) → RunsTheSame (given p n k.ms) (veil_over is_in p q n k) p.mode.steps k.statements
    turn (inl h) = k.runs (given p n k.ms) (veil_over is_in p q n k) p.mode.steps k.statements h (loads_shared is_in p q n k)
    turn (inr h) = k.runs_without_loads (given p n k.ms) (veil_over is_in p q n k) p.mode.steps k.statements h

runs_same : (is_in : ℕ → Bool) (p q : Plan) (n : ℕ) (k : Step is_in p q n) → run_by_names p n k.statements k.ms ≡ run_by_names q n k.statements k.ks
runs_same is_in p q n k =
    (same_run is_in p q n k).0
    ∙ (ap (λ z. run_file (by_names z) z most_levels k.statements (start z p.mode.steps)) (with_is is_in p q n k)
    ∙ ap (λ (m : Mode). run_file (by_names (given q n k.ks)) (given q n k.ks) most_levels k.statements (start (given q n k.ks) m.steps)) k.agree.mode)

sound_in : (is_in : ℕ → Bool) (p q : Plan) (n : ℕ) (k : Step is_in p q n) → tree_in (read_of q n) ≡ Some k.statements
sound_in is_in p q n k = ap tree_in (sym (k.agree.reads n k.within)) ∙ k.sound

kept_by : (is_in : ℕ → Bool) (p q : Plan) (n : ℕ) (k : Step is_in p q n) (o : Outcome Ended) → run_by_names p n k.statements k.ms ≡ o → KeptBy is_in q n (local_of (given p n k.ms) o)
kept_by is_in p q n k (Failed f lines) e = tt
kept_by is_in p q n k (Done x t) e =
    let seen : EndIsVisible (hides_of k) n (Done x t) = subst (EndIsVisible (hides_of k) n) e (same_run is_in p q n k).1 in
    let run_q : run_by_names q n k.statements k.ks ≡ Done x t = sym (runs_same is_in p q n k) ∙ e in
    let one : Published = own_module x t in
    let local_q : ran q n k.ks ≡ Good (put_up n one (shelf_q k)) x.globals x.texts t.lines = sym (ran-is q n k.statements k.ks (sound_in is_in p q n k)) ∙ ap (local_of (given q n k.ks)) run_q in
    let comes = runs-over_loads q n k.statements k.ks (sound_in is_in p q n k) k.good_q in
    let on_p : slice_get (put_up n one (shelf_p k)) n ≡ Some (Some one) = put_up-own n one (shelf_p k) (is_free (slice_get (shelf_p k) n) (given_holds_needs p n k.ms k.good_p).1) in
    let on_q : slice_get (put_up n one (shelf_q k)) n ≡ Some (Some one) = put_up-own n one (shelf_q k) (is_free (slice_get (shelf_q k) n) (given_holds_needs q n k.ks k.good_q).1) in
    let more : Reveals (hides_of k) (hides_over is_in (put_up n one (shelf_p k)) (put_up n one (shelf_q k))) = in_over is_in n (shelf_p k) (shelf_q k) (put_up n one (shelf_p k)) (put_up n one (shelf_q k)) one one k.within (λ j y on. put_up-keeps n one (shelf_p k) j y on) (λ j y on. put_up-keeps n one (shelf_q k) j y on) on_p on_q in
    record {
      depth = comes.0;
      other = put_up n one (shelf_q k);
      ended = comes.1 ∙ ap Some local_q;
      one = one;
      on_one = on_p;
      on_other = on_q;
      cells = cells_more (hides_of k) (hides_over is_in (put_up n one (shelf_p k)) (put_up n one (shelf_q k))) more one.cells seen.1.cells;
      globals_seen = seen_globals (hides_of k) (hides_over is_in (put_up n one (shelf_p k)) (put_up n one (shelf_q k))) more one.globals seen.0;
    }

-- ---- all depths

abbrev step_of : FilesRunTheSame → FilesWithoutLoadsRunTheSame → (files others : List File) (p q : Plan) → IsPlanOf files p → IsPlanOf others q → (is_in : ℕ → Bool) → AgreeButFor is_in p q → (n : ℕ) → is_in n ≡ true
    → (d : ℕ) → KeptAt is_in p q d → (ss : List Statement) → tree_in (read_of p n) ≡ Some ss → (ms : List Local) → all_good (map (result p d) (loaded p n)) ≡ Some ms → Step is_in p q n
step_of runs bare files others p q is also is_in a n h d kept ss sound ms all =
    let ks = loads_good is_in p q a d n h kept ms all in
    record {
      runs = runs;
      runs_without_loads = bare;
      files = files;
      others = others;
      is_p = is;
      is_q = also;
      agree = a;
      within = h;
      depth = d;
      kept = kept;
      statements = ss;
      sound = sound;
      ms = ms;
      ks = ks.0;
      all = all;
      good_p = are_good p d (loaded p n) ms all;
      good_q = ks.1;
    }

kept_at : FilesRunTheSame → FilesWithoutLoadsRunTheSame → (files others : List File) (p q : Plan) → IsPlanOf files p → IsPlanOf others q → (is_in : ℕ → Bool) → AgreeButFor is_in p q → (d : ℕ) → KeptAt is_in p q d
unfolding result
kept_at runs bare files others p q is also is_in a zero n h m e = absurd (let no : ⊥ = cc in no)
kept_at runs bare files others p q is also is_in a (suc d) n h m e =
    let from = result-from p d n m e in
    let tree = result-sound p (suc d) n m e in
    let k : Step is_in p q n = step_of runs bare files others p q is also is_in a n h d (kept_at runs bare files others p q is also is_in a d) tree.0 tree.1 from.0 from.1 in
    subst (KeptBy is_in q n) (ran-is p n tree.0 from.0 tree.1 ∙ from.2) (kept_by is_in p q n k (run_by_names p n tree.0 from.0) refl)

-- by the laws of runs over two shelves
pub kept_results_stay : FilesRunTheSame → FilesWithoutLoadsRunTheSame → KeptResultsStay
kept_results_stay runs bare files others p q is also is_in a n h =
    record {
      own = λ m o.
          let z : Kept is_in q n o.shelf o.globals o.texts o.lines = kept_at runs bare files others p q is also is_in a o.depth n h (Good o.shelf o.globals o.texts o.lines) o.ended in
          subst (IsOwn q n) (module_is (slice_get o.shelf n) z.one m z.on_one o.there) (own_of is_in q n o.shelf o.globals o.texts o.lines z);
      outcome = λ s g t l o.
          let z : Kept is_in q n s g t l = kept_at runs bare files others p q is also is_in a o.0 n h (Good s g t l) o.1 in
          (z.other, (z.depth, z.ended));
      paid = λ c x.
          let all = gather p (loaded p n) x.outcomes x.good in
          let k : Step is_in p q n = step_of runs bare files others p q is also is_in a n h all.0 (kept_at runs bare files others p q is also is_in a all.0) x.statements x.sound x.outcomes all.1 in
          record {
            statements = x.statements;
            outcomes = k.ks;
            ended = x.ended;
            state = x.state;
            sound = sound_in is_in p q n k;
            good = k.good_q;
            run = sym (runs_same is_in p q n k) ∙ x.run;
            steps = x.steps ∙ ap (λ (m : Mode). m.steps - x.state.steps) a.mode;
          };
    }
