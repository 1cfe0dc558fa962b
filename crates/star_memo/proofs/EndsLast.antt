-- Ends that last though files that they need have changed.
use Rattle.std.proofs.Common.{◌≡◌, ◌⊎◌, inl, inr, ℕ, nat_eq, eqb-true, get_or, Bool, true, false, List, [], ◌∷◌, ◌++◌, length, map, Option, Some, None, Ok, refl, ap, sym, subst, ◌∙◌}
use Rattle.std.specs.Arc.{arc_value}
use Rattle.std.specs.Prelude.{All, Contains, IfSome, slice_get, slice_set}
use Rattle.std.proofs.lemmas.Bool.Decides.{Decides-eqb}
use Rattle.std.proofs.lemmas.List.{get_or-set_other}
use Rattle.std.proofs.lemmas.Option.{slice_get_within, get_or_from_slice_get}
use Rattle.star_dialect.specs.declared.Mode.{Mode}
use Rattle.star_cache.specs.State.{Loads}
use Rattle.star_label.specs.Files.{File, text_at}
use Rattle.star_store.specs.Store.{Published}
use Rattle.star_tree.specs.declared.tree.Statement.{Statement}
use Rattle.star_outline.specs.Syntax.{position_of}
use Rattle.star_scope.specs.declared.loads.Load.{Load}
use Rattle.star_scope.specs.declared.program.Program.{Program}
use Rattle.star_scope.specs.Resolve.{Outside, Resolves, outside}
use Rattle.star_meaning.specs.Module.{most_levels}
use Rattle.star_plan.specs.Plan.{Plan, Sound, loaded, loads_in, loads_of, read_of, tree_in}
use Rattle.star_plan.specs.Reached.{IsReached, load}
use Rattle.star_plan.specs.Reading.{IsPlanOf, IsPrelude, IsRead}
use Rattle.star_plan.specs.Shelves.{IsOwn}
use Rattle.star_plan.proofs.Causes.{here}
use Rattle.star_plan.proofs.Plans.{one-reading}
use Rattle.star_plan.proofs.Tables.{first_load, prelude_sound, sound_read}
use Rattle.star_reading.proofs.Finds.{by_cases, same_or_not}
use Rattle.star_reading.specs.Readings.{IsPlaceOf, IsReadAs}
use Rattle.star_reading.specs.declared.reading.Read.TheVariants as read
use Rattle.star_outcome.specs.GoodEnds.{HasStoreOf, IsLasting}
use Rattle.star_outcome.specs.Reaches.{ReachView, row_of}
use Rattle.star_outcome.specs.Views.{AreStores, IsBody}
use Rattle.star_outcome.specs.declared.good_end.GoodEnd.{GoodEnd}
use Rattle.star_outcome.specs.declared.module.Body.{Body}
use Rattle.star_outcome.proofs.GoodEnds.{lasting_body}
use Rattle.star_needs.specs.Changed.{AgreeButFor, KeptResultsStay, LoadsName, SharesLoads, Stays, same_data}
use Rattle.star_needs.specs.Ends.{AreLoadsUnder, HaveSame, InEachPlan}
use Rattle.star_needs.proofs.Ends.{InBoth, both, in_both, loads_in_plans, loads_stay, one_reading_by_texts, ordered_to, to_both}
use Rattle.star_memo.specs.Lasting.{AllLast, AreAllStores, AreEndsNow, AreShared, AreStoresOf, HasPreludeMarked, IsChange, IsEndNow, IsFilled, IsMarkedOrShared, IsShared, IsStaleOf, Lasts, LastsOver, LoadsNow, SharesAcross, StoresView, file_at}
use Rattle.star_memo.specs.Outcomes.{AreAlike, AreAmong, AreOutcomes, IsOutcome, is_marked}
use Rattle.star_memo.specs.declared.lasting.Change.{Change}
use Rattle.star_memo.proofs.Rows.{last_or}
use Rattle.star_memo.proofs.Staying.{more_marked, outcome_now}

-- ---- one file with the same text

itself : (n : ℕ) → nat_eq n n ≡ true
itself n = (Decides-eqb n n).1 refl

alone : (before files : List File) (prelude : Option ℕ) (n : ℕ) → AreAlike before files prelude → text_at before n ≡ text_at files n → HaveSame (nat_eq n) prelude before files
alone before files prelude n alike text = record {
  labels = alike.labels;
  texts = λ k h. subst (λ i. text_at before i ≡ text_at files i) (eqb-true n k h) text;
  prelude_text = alike.text;
}

-- it has the same loads
pub loads_too : (before files : List File) (prelude : Option ℕ) (mode : Mode) (n : ℕ) (loads : List ℕ) → AreAlike before files prelude → text_at before n ≡ text_at files n → AreLoadsUnder before prelude mode n loads → AreLoadsUnder files prelude mode n loads
loads_too before files prelude mode n loads alike text are = loads_stay before files prelude mode (nat_eq n) (alone before files prelude n alike text) n loads (itself n) are

-- .. and one reading in a run of the files before and a run of the files after
one_reading : (before files : List File) (prelude : Option ℕ) (n : ℕ) (p q : Plan) → AreAlike before files prelude → text_at before n ≡ text_at files n → IsPlanOf before p → p.prelude ≡ prelude → IsPlanOf files q → q.prelude ≡ prelude → p.mode ≡ q.mode → IsReached p n → IsReached q n → read_of p n ≡ read_of q n
one_reading before files prelude n p q alike text is at also too modes x y =
    let same : HaveSame (nat_eq n) p.prelude before files = subst (λ o. HaveSame (nat_eq n) o before files) (sym at) (alone before files prelude n alike text) in
    one_reading_by_texts before files p q (nat_eq n) alike.ordered is also (at ∙ sym too) (ap (λ (m : Mode). m.language) modes) same n (itself n) x y

program_read : (files : List File) (block : Outside) (n : ℕ) (pr : Program) → IsReadAs files block n (read.Program pr) → IsRead files block n (Sound pr.statements.now pr.loads.items)
program_read files block n pr (tree, parses, same, resolves) =
    (tree, parses, sym same, (pr, subst (λ (ss : List Statement). Resolves files n block ss (Ok pr)) (sym same) resolves, refl))

-- ---- a file shares what it loads of another

-- a program of the file n, and the stores of the file m, which it loads: each name that it loads of m is shared
pub record SharesBy (c : Change) (n m : ℕ) : Type 0 where
  pub program : Program
  pub there : slice_get c.reads.now n ≡ Some (Some (read.Program program))
  pub stores : StoresView
  pub own : AreStoresOf c m stores
  pub shared : AreShared stores program.loads.items program.statements.now

module _ (c : Change) (is : IsChange c) (n m : ℕ) (text : text_at c.compared.now.before n ≡ text_at c.compared.now.files n) (load_is : LoadsNow c n m) (s : SharesBy c n m) (p q : Plan) (plan_p : IsPlanOf c.compared.now.before p) (prelude_p : p.prelude ≡ c.terms.now.prelude) (mode_p : p.mode ≡ c.terms.now.mode) (at_p : IsReached p n) (plan_q : IsPlanOf c.compared.now.files q) (prelude_q : q.prelude ≡ c.terms.now.prelude) (mode_q : q.mode ≡ c.terms.now.mode) (at_q : IsReached q n) where
  same_read : read_of p n ≡ read_of q n
  same_read = one_reading c.compared.now.before c.compared.now.files c.terms.now.prelude n p q is.alike text plan_p prelude_p plan_q prelude_q (mode_p ∙ sym mode_q) at_p at_q

  read_in : read_of p n ≡ Some (Sound s.program.statements.now s.program.loads.items)
  read_in =
      let row = c.reads.now in
      let less = slice_get_within row n (Some (read.Program s.program)) s.there in
      let there : IsPrelude c.compared.now.files c.terms.now.prelude plan_q.prelude = subst (λ o. IsPrelude c.compared.now.files o plan_q.prelude) prelude_q plan_q.prelude_is in
      let seen : Outside = outside plan_q.prelude q.mode.language in
      let known = subst (λ (m : Mode). IsPlaceOf c.compared.now.files (outside plan_q.prelude m.language) n (get_or row n None)) (sym mode_q) (is.reads plan_q.prelude there n None less) in
      let place : IsPlaceOf c.compared.now.files seen n (Some (read.Program s.program)) = subst (IsPlaceOf c.compared.now.files seen n) (get_or_from_slice_get row n (Some (read.Program s.program)) None s.there) known in
      let one = (plan_q.reached n).0 at_q in
      let ordered = ordered_to c.compared.now.before c.compared.now.files is.alike.labels is.alike.ordered in
      let same : one.0 ≡ Sound s.program.statements.now s.program.loads.items = one-reading c.compared.now.files seen n ordered one.0 (Sound s.program.statements.now s.program.loads.items) (plan_q.right n one.0 one.1) (program_read c.compared.now.files seen n s.program place) in
      same_read ∙ (one.1 ∙ ap Some same)

  loads_q : Contains (loaded q n) m
  loads_q = subst (λ ns. Contains ns m) (loads_in_plans c.compared.now.files c.terms.now.prelude c.terms.now.mode n load_is.0 load_is.1 q plan_q prelude_q mode_q at_q) load_is.2

  loads_p : Contains (loaded p n) m
  loads_p = subst (λ r. Contains (map (λ (l : Load). l.file) (loads_in r)) m) (sym same_read) loads_q

  name_shared : (name : List ℕ) → LoadsName p n m name → IsShared s.stores name
  name_shared name l =
      let both_are : Some s.program.statements.now ≡ Some l.statements = sym (ap tree_in read_in) ∙ l.sound in
      let one : l.statements ≡ s.program.statements.now = cc in
      let loads : loads_of p n ≡ s.program.loads.items = ap loads_in read_in in
      let there : slice_get s.program.statements.now l.place ≡ Some l.statement = subst (λ (xs : List Statement). slice_get xs l.place ≡ Some l.statement) one l.there in
      s.shared l.place l.statement name there
      (record { file = subst (λ (ls : List Load). file_at ls (position_of l.statement).token ≡ Some s.stores.file) loads (l.file ∙ ap Some (sym s.own.file)); names = l.loads })

  shares_loads : SharesLoads p q n m
  shares_loads = record {
    one = s.stores.before;
    other = s.stores.after;
    own_one = s.own.before p plan_p prelude_p mode_p (load at_p loads_p);
    own_other = s.own.after q plan_q prelude_q mode_q (load at_q loads_q);
    same = λ name l. (name_shared name l).same;
    as_data = λ name v l e. subst (λ k. same_data s.stores.before.cells s.stores.after.cells k most_levels v ≡ true) s.own.file ((name_shared name l).as_data v e);
  }

pub shares_across : (c : Change) → IsChange c → (n m : ℕ) → text_at c.compared.now.before n ≡ text_at c.compared.now.files n → LoadsNow c n m → SharesBy c n m → SharesAcross c n m
shares_across c is n m text load_is s p plan_p prelude_p mode_p at_p q plan_q prelude_q mode_q at_q = shares_loads c is n m text load_is s p q plan_p prelude_p mode_p at_p plan_q prelude_q mode_q at_q

-- ---- marked files

same : (before files : List File) (prelude : Option ℕ) (mode : Mode) (marks : List Bool) → AreAlike before files prelude → AllLast before files prelude mode marks → HaveSame (is_marked marks) prelude before files
same before files prelude mode marks alike last = record { labels = alike.labels; texts = λ n h. (last n h).text; prelude_text = alike.text }

module _ (before files : List File) (prelude : Option ℕ) (mode : Mode) (marks : List Bool) (alike : AreAlike before files prelude) (last : AllLast before files prelude mode marks) (first : HasPreludeMarked prelude marks) (p q : Plan) (is : IsPlanOf before p) (at : p.prelude ≡ prelude) (paid : p.mode ≡ mode) (also : IsPlanOf files q) (too : q.prelude ≡ prelude) (within : q.mode ≡ mode) where
  in_p : (n : ℕ) → InBoth (is_marked marks) p q n → IsReached p n
  in_p n b = (is.reached n).1 b.one

  in_q : (n : ℕ) → InBoth (is_marked marks) p q n → IsReached q n
  in_q n b = (also.reached n).1 b.other

  reads : (n : ℕ) → InBoth (is_marked marks) p q n → read_of p n ≡ read_of q n
  reads n b = one_reading before files prelude n p q alike (last n b.within).text is at also too (paid ∙ sym within) (in_p n b) (in_q n b)

  -- a file in both: one that is marked, and reached in both
  here_too : (n : ℕ) → is_marked marks n ≡ true → IsReached p n → IsReached q n → both (is_marked marks) p q n ≡ true
  here_too n m x y =
      let one = (is.reached n).0 x in
      let other = (also.reached n).0 y in
      to_both (is_marked marks) p q n one.0 other.0 m one.1 other.1

  loads : (n m : ℕ) → InBoth (is_marked marks) p q n → Loads (loaded p) n m → (both (is_marked marks) p q m ≡ true) ⊎ SharesLoads p q n m
  loads n m b step =
      let l = last n b.within in
      let step_q : Loads (loaded q) n m = subst (λ r. Contains (map (λ (x : Load). x.file) (loads_in r)) m) (reads n b) step in
      let among : Contains l.loads m = subst (λ ns. Contains ns m) (sym (loads_in_plans files prelude mode n l.loads l.are_loads q also too within (in_q n b))) step_q in
      turn step_q (l.each m among)
    where
      turn : Loads (loaded q) n m → (is_marked marks m ≡ true) ⊎ ((r : Plan) → IsPlanOf before r → r.prelude ≡ prelude → r.mode ≡ mode → IsReached r n → InEachPlan files prelude mode n (λ s. SharesLoads r s n m)) → (both (is_marked marks) p q m ≡ true) ⊎ SharesLoads p q n m
      turn step_q (inl marked) = inl (here_too m marked (load (in_p n b) step) (load (in_q n b) step_q))
      turn step_q (inr shares) = inr (shares p is at paid (in_p n b) q also too within (in_q n b))

  -- the prelude of a good file is reached
  prelude_in : (n : ℕ) → InBoth (is_marked marks) p q n → (body : Body) → IsBody p n body → (k : ℕ) → p.prelude ≡ Some k → both (is_marked marks) p q k ≡ true
  prelude_in n b body good k e =
      let tree = prelude_sound before p n good.paid.statements good.paid.outcomes is good.paid.sound good.paid.good k e in
      let read_p = sound_read (read_of p k) tree.0 tree.1 in
      let marked : is_marked marks k ≡ true = first n k b.within (sym at ∙ e) in
      let sound_q : tree_in (read_of q n) ≡ Some good.paid.statements = ap tree_in (sym (reads n b)) ∙ good.paid.sound in
      here_too k marked ((is.reached k).1 (Sound tree.0 read_p.0, read_p.1)) (turn sound_q (nat_eq k n) refl)
    where
      turn : tree_in (read_of q n) ≡ Some good.paid.statements → (same_file : Bool) → nat_eq k n ≡ same_file → IsReached q k
      turn sound_q true h = subst (IsReached q) (sym (eqb-true k n h)) (in_q n b)
      turn sound_q false h =
          let one = first_load files q also n good.paid.statements sound_q k (too ∙ (sym at ∙ e)) h in
          load (in_q n b) (subst (λ ns. Contains ns k) (sym one.1) (here k one.0))

  agree : (n : ℕ) → InBoth (is_marked marks) p q n → (body : Body) → IsBody p n body → AgreeButFor (both (is_marked marks) p q) p q
  agree n b body good = record {
    mode = paid ∙ sym within;
    prelude = at ∙ sym too;
    prelude_in = prelude_in n b body good;
    reads = λ k h. reads k (in_both (is_marked marks) p q k h);
    loads = λ k m h step. loads k m (in_both (is_marked marks) p q k h) step;
    read = λ k h. (in_both (is_marked marks) p q k h).one;
  }

  -- a body lasts
  body_lasts : KeptResultsStay → (n : ℕ) → is_marked marks n ≡ true → IsReached p n → IsReached q n → (body : Body) → IsBody p n body → IsLasting q n body
  body_lasts law n m x y body good =
      let h = here_too n m x y in
      let st : Stays p q n = law before files p q is also (both (is_marked marks) p q) (agree n (in_both (is_marked marks) p q n h) body good) n h in
      let old : IsLasting p n body = lasting_body p n body good in
      let other = st.outcome old.shelf old.globals (arc_value body.shown) body.lines.items old.outcome in
      record {
        shelf = other.0;
        globals = old.globals;
        outcome = other.1;
        own = λ i d less number. st.own _ (old.own i d less number);
        paid = st.paid body.paid old.paid;
      }

-- an end that a marked file had before is its end now, but for the stores of other files
pub ends_last : KeptResultsStay → (before files : List File) (prelude : Option ℕ) (mode : Mode) (marks : List Bool) → AreAlike before files prelude → AllLast before files prelude mode marks → HasPreludeMarked prelude marks → (n : ℕ) (e s : GoodEnd) → is_marked marks n ≡ true → IsOutcome before prelude mode n e → s ≡ record e { is_stale = true } → IsEndNow files prelude mode n s
ends_last law before files prelude mode marks alike last first n e s m o stale =
    let loads = loads_stay before files prelude mode (is_marked marks) (same before files prelude mode marks alike last) n e.loads.items m o.loads in
    let run = o.run in
    subst (IsEndNow files prelude mode n) (sym stale) (record {
      loads = loads;
      end = λ q also too within reached. record {
        loads = loads_in_plans files prelude mode n e.loads.items loads q also too within reached;
        lasting = body_lasts before files prelude mode marks alike last first run.0 q run.1 run.2 run.3 also too within law n m run.4 reached (arc_value e.body) (o.body run.0 run.1 run.2 run.3 run.4);
        stores = λ fresh. absurd (let no : ⊥ = cc in no);
      };
    })

-- ---- more marks

-- the loads of an end after the change, or before it
pub end_loads : (c : Change) → IsChange c → (n : ℕ) (e : GoodEnd) → text_at c.compared.now.before n ≡ text_at c.compared.now.files n → (slice_get c.ends.now n ≡ Some (Some e)) ⊎ (slice_get c.former.now n ≡ Some (Some e)) → AreLoadsUnder c.compared.now.files c.terms.now.prelude c.terms.now.mode n e.loads.items
end_loads c is n e text at = by_cases at
    (λ h. (is.ends n e h).loads)
    (λ h. loads_too c.compared.now.before c.compared.now.files c.terms.now.prelude c.terms.now.mode n e.loads.items is.alike text (is.former n e h).loads)

-- of these files each is marked, or shared by the file n: so its end lasts
pub lasts_by : (c : Change) → IsChange c → (marks : List Bool) (n : ℕ) (loads : List ℕ) → text_at c.compared.now.before n ≡ text_at c.compared.now.files n → AreLoadsUnder c.compared.now.files c.terms.now.prelude c.terms.now.mode n loads → All (IsMarkedOrShared c marks n) loads → LastsOver c marks n
lasts_by c is marks n loads text are all = record {
  text = text;
  loads = loads;
  are_loads = are;
  each = λ m at. subst (IsMarkedOrShared c marks n) at.2 (all at.0 m at.1);
}

still_lasts : (before files : List File) (prelude : Option ℕ) (mode : Mode) (marks : List Bool) (n k : ℕ) → Lasts before files prelude mode marks k → Lasts before files prelude mode (slice_set marks n true) k
still_lasts before files prelude mode marks n k l = record {
  text = l.text;
  loads = l.loads;
  are_loads = l.are_loads;
  each = λ m at. by_cases (l.each m at) (λ h. inl (more_marked marks n m h)) (λ h. inr h);
}

pub one_lasts : (before files : List File) (prelude : Option ℕ) (mode : Mode) (marks : List Bool) (n : ℕ) → AllLast before files prelude mode marks → Lasts before files prelude mode marks n → AllLast before files prelude mode (slice_set marks n true)
one_lasts before files prelude mode marks n are l = λ k h. by_cases (same_or_not k n)
    (λ e. subst (λ i. Lasts before files prelude mode (slice_set marks n true) i) (sym e) (still_lasts before files prelude mode marks n n l))
    (λ ne. still_lasts before files prelude mode marks n k (are k (sym (get_or-set_other marks n k true false ne) ∙ h)))

-- ---- stores

own_in_row : (plan : Plan) (n : ℕ) (rs : List ReachView) (store : Published) → AreStores plan n rs → HasStoreOf rs n store → IsOwn plan n store
own_in_row plan n rs store are has =
    let r : ReachView = record { number = n; store = store } in
    subst (λ (x : ReachView). IsOwn plan x.number x.store) has.2 (are.own has.0 r has.1).1

-- the store of a file in its outcome is its own in each run
own_in : (files : List File) (prelude : Option ℕ) (mode : Mode) (n : ℕ) (e : GoodEnd) (store : Published) → IsOutcome files prelude mode n e → HasStoreOf (row_of (arc_value e.body).stores) n store → InEachPlan files prelude mode n (λ plan. IsOwn plan n store)
own_in files prelude mode n e store o has plan is at paid reached = own_in_row plan n (row_of (arc_value e.body).stores) store (o.body plan is at paid reached).stores has

pub stores_are : (c : Change) → IsChange c → (n : ℕ) (e f : GoodEnd) (one other : Published) → slice_get c.former.now n ≡ Some (Some e) → slice_get c.ends.now n ≡ Some (Some f) → HasStoreOf (row_of (arc_value e.body).stores) n one → HasStoreOf (row_of (arc_value f.body).stores) n other → AreStoresOf c n (record { file = n; before = one; after = other })
stores_are c is n e f one other at too has also = record {
  file = refl;
  before = own_in c.compared.now.before c.terms.now.prelude c.terms.now.mode n e one (is.former n e at) has;
  after = own_in c.compared.now.files c.terms.now.prelude c.terms.now.mode n f other (is.ends n f too) also;
}

pub one_more : (c : Change) (all : List (Option StoresView)) (n : ℕ) (o : Option StoresView) → AreAllStores c all → length all ≡ n → IfSome o (AreStoresOf c n) → AreAllStores c (all ++ o ∷ [])
one_more c all n o are long is k s at = by_cases (last_or all o k s at)
    (λ h. are k s h)
    (λ h. subst (λ i. AreStoresOf c i s) (sym (h.0 ∙ long)) (subst (λ x. IfSome x (AreStoresOf c n)) h.1 is))

-- ---- rows of ends

-- whatever is there was there before, or is the stale end of a marked file
abbrev pub AreOrStale : List Bool → List (Option GoodEnd) → List (Option GoodEnd) → List (Option GoodEnd) → Type 0
AreOrStale marks former before after =
    (k : ℕ) (e : GoodEnd) → slice_get after k ≡ Some (Some e)
    → (slice_get before k ≡ Some (Some e)) ⊎ ((is_marked marks k ≡ true) × IsStaleOf former k e)

pub more_stale : (marks : List Bool) (former rest before now after : List (Option GoodEnd)) (n : ℕ) (end : Option GoodEnd) → is_marked marks n ≡ true → AreAmong former rest → IfSome end (IsStaleOf rest n) → AreOrStale marks former before now → IsFilled n end now after → AreOrStale marks former before after
more_stale marks former rest before now after n end marked among stale are filled k e at = by_cases (filled k e at)
    (λ h. are k e h)
    (λ h.
    let s : IsStaleOf rest n e = subst (λ o. IfSome o (IsStaleOf rest n)) h.1 stale in
    inr (subst (λ i. is_marked marks i ≡ true) (sym h.0) marked, (s.0, subst (λ i. slice_get former i ≡ Some (Some s.0)) (sym h.0) (among n s.0 s.1), s.2)))

pub all_now : KeptResultsStay → (before files : List File) (prelude : Option ℕ) (mode : Mode) (marks : List Bool) (former old new : List (Option GoodEnd)) → AreOrStale marks former old new → AreAlike before files prelude → AreOutcomes before prelude mode former → AreOutcomes files prelude mode old → AllLast before files prelude mode marks → HasPreludeMarked prelude marks → AreEndsNow files prelude mode new
all_now law before files prelude mode marks former old new each alike are now last first k e at = by_cases (each k e at)
    (λ h. outcome_now files prelude mode k e (now k e h))
    (λ h. ends_last law before files prelude mode marks alike last first k h.1.0 e h.0 (are k h.1.0 h.1.1) h.1.2)

-- whatever is there was there before, or is among these
abbrev pub AreOrAmong : List (Option GoodEnd) → List (Option GoodEnd) → List (Option GoodEnd) → Type 0
AreOrAmong ends before after =
    (k : ℕ) (e : GoodEnd) → slice_get after k ≡ Some (Some e)
    → (slice_get before k ≡ Some (Some e)) ⊎ (slice_get ends k ≡ Some (Some e))

pub more_among : (ends rest before now after : List (Option GoodEnd)) (n : ℕ) (end : Option GoodEnd) → AreAmong ends rest → IfSome end (λ e. slice_get rest n ≡ Some (Some e)) → AreOrAmong ends before now → IsFilled n end now after → AreOrAmong ends before after
more_among ends rest before now after n end among there are filled k e at = by_cases (filled k e at)
    (λ h. are k e h)
    (λ h. inr (among k e (subst (λ i. slice_get rest i ≡ Some (Some e)) (sym h.0) (subst (λ o. IfSome o (λ x. slice_get rest n ≡ Some (Some x))) h.1 there))))

pub all_added : (ends old new : List (Option GoodEnd)) → AreOrAmong ends old new → (files : List File) (prelude : Option ℕ) (mode : Mode) → AreOutcomes files prelude mode old → AreOutcomes files prelude mode ends → AreOutcomes files prelude mode new
all_added ends old new each files prelude mode are too k e at = by_cases (each k e at) (λ h. are k e h) (λ h. too k e h)
