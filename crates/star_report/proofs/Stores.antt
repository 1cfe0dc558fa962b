-- Values lead to the same cells by a module's stores and by the module's own shelf.
use Rattle.std.proofs.Common.{arith, ◌≡◌, ◌<◌, ℕ, zero, suc, Bool, true, false, nat_eq, List, [], ◌∷◌, fold, map, length, Option, Some, None, refl, ap, sym, subst, ◌∙◌, ◌⊎◌, inl, inr, if◌then◌else◌, eqb-true}
use Rattle.std.specs.Arc.{arc_value}
use Rattle.std.specs.Prelude.{String, codes, filter, is_some, not, ◌&&◌, option_and_then, slice_get, slice_index_or, string_bytes}
use Rattle.serde_json.specs.Data.{Data, Members, array, member, no_members, object, string}
use Rattle.serde_json.specs.View.{items_of}
use Rattle.std.specs.Option.{option_flatten, option_map}
use Rattle.star_cache.specs.State.{Loads}
use Rattle.star_cache.specs.Walk.{LeadsTo}
use Rattle.star_label.specs.Files.{File}
use Rattle.star_store.specs.declared.values.Value.{Value}
use Rattle.star_store.specs.declared.values.Value.TheVariants as value
use Rattle.star_store.specs.declared.values.Cell.{Cell}
use Rattle.star_store.specs.declared.values.HeapCell.{HeapCell}
use Rattle.star_store.specs.Store.{Published, Shelf, global_of, is_taken, look, published_cells}
use Rattle.star_data.specs.Data.{data_of, on_shelf}
use Rattle.star_data.proofs.Stays.{data_stays}
use Rattle.star_scope.specs.Loads.{is_private}
use Rattle.star_scope.specs.declared.loads.Load.{Load}
use Rattle.star_meaning.specs.declared.said.Said.{Said}
use Rattle.star_meaning.specs.Local.{reached}
use Rattle.star_meaning.specs.Module.{Good, Local, Stopped as HadFault, local_of, most_levels}
use Rattle.star_tree.specs.declared.tree.Statement.{Statement}
use Rattle.star_plan.specs.Plan.{Plan, Reading, loaded, read_of, tree_in}
use Rattle.star_plan.specs.Reading.{IsPlanOf}
use Rattle.star_plan.specs.Results.{AreGood, Ran, Static as StaticOutcome, Unloaded as UnloadedOutcome, all_good, if_good, ran, result}
use Rattle.star_plan.specs.Runs.{given}
use Rattle.star_plan.specs.Shelves.{IsOwn, Needs}
use Rattle.star_plan.proofs.Goodness.{well}
use Rattle.star_plan.proofs.Needs.{given_holds_needs}
use Rattle.star_plan.proofs.Options.{chained, mapped}
use Rattle.star_plan.proofs.Seen.{EndsWell, ends_well, leads, own_module, ran-is, result-sound, run-keeps, run-own}
use Rattle.star_plan.proofs.Shelves.{from_put, holds, one-own}
use Rattle.star_plan.proofs.Stay.{good_is, result-from}
use Rattle.star_plan.proofs.Union.{put_up-keeps, put_up-own}
use Rattle.star_outcome.specs.Homes.{seated}
use Rattle.star_outcome.specs.Reaches.{ReachView, row_of}
use Rattle.star_outcome.specs.Globals.{shown_texts}
use Rattle.star_outcome.specs.Views.{AreStores, IsBody, IsEnd, IsModule}
use Rattle.star_outcome.specs.declared.module.Body.{Body}
use Rattle.star_outcome.specs.declared.module.Ended.{Ended}
use Rattle.star_outcome.specs.declared.module.Ended.TheVariants.{Static, Load as Unloaded, Stopped, Good as Well}
use Rattle.star_outcome.specs.declared.module.Module.{Module}
use Rattle.star_reading.specs.Codes.{fault_of}
use Rattle.star_reading.specs.Readings.{Row, loads_at, readings}
use Rattle.star_reading.proofs.Rows.{loads_are}
use Rattle.star_report.specs.Shelf.{globals_in, loads_part, more_of, names_of, shelf_in, steps_in, steps_part, stored_data, values_in, values_part}
use Rattle.star_report.specs.Values.{global_data, is_opaque, put_some, value_members_by, with_value}
use Rattle.star_report.specs.Wanted.{AreMore, AreWanted, HasLoads, HasSteps, HasValues, loads_member}
use Rattle.star_report.specs.declared.wanted.Wanted.{Wanted}

-- ---- stores that are put up

pub record Comes (rs : List ReachView) (k : ℕ) (p : Published) : Type 0 where
  pub place : ℕ
  pub reach : ReachView
  pub at : slice_get rs place ≡ Some reach
  pub number : reach.number ≡ k
  pub store : reach.store ≡ p

later : (r : ReachView) (rs : List ReachView) (k : ℕ) (p : Published) → Comes rs k p → Comes (r ∷ rs) k p
later r rs k p h = record { place = suc h.place; reach = h.reach; at = h.at; number = h.number; store = h.store }

seated_from : (rs : List ReachView) (s : Shelf) (k : ℕ) (p : Published) → slice_get (fold seated s rs) k ≡ Some (Some p) → (slice_get s k ≡ Some (Some p)) ⊎ Comes rs k p
seated_from [] s k p e = inl e
seated_from (r ∷ rs) s k p e = turn (seated_from rs (seated s r) k p e)
  where
    here : ((slice_get s k ≡ Some (Some p)) ⊎ ((k ≡ r.number) × (r.store ≡ p))) → (slice_get s k ≡ Some (Some p)) ⊎ Comes (r ∷ rs) k p
    here (inl h) = inl h
    here (inr (same, is)) = inr (record { place = 0; reach = r; at = refl; number = sym same; store = is })

    turn : ((slice_get (seated s r) k ≡ Some (Some p)) ⊎ Comes rs k p) → (slice_get s k ≡ Some (Some p)) ⊎ Comes (r ∷ rs) k p
    turn (inl h) = here (from_put (is_taken (slice_get s r.number)) r.number r.store s k p h)
    turn (inr h) = inr (later r rs k p h)

seated_keep : (rs : List ReachView) (s : Shelf) (k : ℕ) (p : Published) → slice_get s k ≡ Some (Some p) → slice_get (fold seated s rs) k ≡ Some (Some p)
seated_keep [] s k p e = e
seated_keep (r ∷ rs) s k p e = seated_keep rs (seated s r) k p (put_up-keeps r.number r.store s k p e)

taken_by : (o : Option (Option Published)) → is_taken o ≡ true → (p : Published) × (o ≡ Some (Some p))
taken_by None e = absurd (let no : ⊥ = cc in no)
taken_by (Some None) e = absurd (let no : ⊥ = cc in no)
taken_by (Some (Some p)) e = (p, refl)

is_there : (s : Shelf) (r : ReachView) (b : Bool) → is_taken (slice_get s r.number) ≡ b → (q : Published) × (slice_get (seated s r) r.number ≡ Some (Some q))
is_there s r true e =
    let one = taken_by (slice_get s r.number) e in
    (one.0, put_up-keeps r.number r.store s r.number one.0 one.1)
is_there s r false e = (r.store, put_up-own r.number r.store s e)

seated_has : (rs : List ReachView) (s : Shelf) (i : ℕ) (n : ℕ) → i < length (map (λ (r : ReachView). r.number) rs) → slice_index_or (map (λ (r : ReachView). r.number) rs) i n ≡ n → (q : Published) × (slice_get (fold seated s rs) n ≡ Some (Some q))
seated_has [] s i n less e = absurd (let no : ⊥ = omega (arith, less) in no)
seated_has (r ∷ rs) s zero n less e =
    let one = is_there s r (is_taken (slice_get s r.number)) refl in
    (one.0, seated_keep rs (seated s r) n one.0 (subst (λ z. slice_get (seated s r) z ≡ Some (Some one.0)) e one.1))
seated_has (r ∷ rs) s (suc i) n less e = seated_has rs (seated s r) i n (omega (arith, less)) e

-- ---- the shelf of a result

are_good : (plan : Plan) (d : ℕ) (ns : List ℕ) (ms : List Local) → all_good (map (result plan d) ns) ≡ Some ms → AreGood plan ns ms
are_good plan d [] [] e = tt
are_good plan d [] (m ∷ ms) e = let no : ⊥ = cc in no
are_good plan d (n ∷ ns) [] e =
    let first = chained (λ m. option_map (λ xs. m ∷ xs) (all_good (map (result plan d) ns))) (if_good (result plan d n)) [] e in
    let rest = mapped (λ xs. first.0 ∷ xs) (all_good (map (result plan d) ns)) [] first.2 in
    let is = rest.2 in
    let no : ⊥ = cc in no
are_good plan d (n ∷ ns) (m ∷ ms) e =
    let first = chained (λ x. option_map (λ xs. x ∷ xs) (all_good (map (result plan d) ns))) (if_good (result plan d n)) (m ∷ ms) e in
    let rest = mapped (λ xs. first.0 ∷ xs) (all_good (map (result plan d) ns)) (m ∷ ms) first.2 in
    let both : (let xs : List Local = first.0 ∷ rest.0 in xs) ≡ m ∷ ms = rest.2 in
    let head : first.0 ≡ m = cc in
    let tail : rest.0 ≡ ms = cc in
    let is : result plan d n ≡ Some m = good_is (result plan d n) first.0 first.1 ∙ ap Some head in
    let fine : if_good (Some m) ≡ Some m = ap if_good (sym is) ∙ (first.1 ∙ ap Some head) in
    ((d, is), well m fine, are_good plan d ns ms (rest.1 ∙ ap Some tail))

-- the run that a good result comes from
record Run (plan : Plan) (n : ℕ) (m : Local) : Type 0 where
  depth : ℕ
  statements : List Statement
  loads : List Local
  all : all_good (map (result plan depth) (loaded plan n)) ≡ Some loads
  sound : tree_in (read_of plan n) ≡ Some statements
  comes : ran plan n loads ≡ m
  run : EndsWell plan n statements loads m

run_of : (plan : Plan) (d n : ℕ) (m : Local) → result plan d n ≡ Some m → if_good (Some m) ≡ Some m → Run plan n m
unfolding result
run_of plan zero n m e good = let no : ⊥ = cc in absurd no
run_of plan (suc d) n m e good =
    let from = result-from plan d n m e in
    let sound = result-sound plan (suc d) n m e in
    record { depth = d; statements = sound.0; loads = from.0; all = from.1; sound = sound.1; comes = from.2; run = ends_well plan n sound.0 from.0 m sound.1 from.2 good }

own_there : (plan : Plan) (d n : ℕ) (m : Local) → result plan d n ≡ Some m → (r : Run plan n m) → slice_get (reached m) n ≡ Some (Some (own_module r.run.ended r.run.state))
own_there plan d n m e r = run-own plan r.depth n r.statements r.loads m r.run r.all

-- the own module of each file that the file leads to is there
shelf_has : (plan : Plan) (d n : ℕ) (m : Local) → result plan d n ≡ Some m → Run plan n m → (k : ℕ) (p : Published) → LeadsTo (Loads (loaded plan)) n k → IsOwn plan k p → slice_get (reached m) k ≡ Some (Some p)
shelf_has plan d n m e r k p (zero, walk) own =
    let at = own_there plan d n m e r in
    let mine : own_module r.run.ended r.run.state ≡ p = one-own plan n (own_module r.run.ended r.run.state) p (holds plan d n m e n (own_module r.run.ended r.run.state) at) (subst (λ z. IsOwn plan z p) (sym walk) own) in
    subst (λ z. slice_get (reached m) z ≡ Some (Some p)) walk (at ∙ ap (λ q. Some (Some q)) mine)
shelf_has plan d n m e r k p (suc j, walk) own =
    let need : Needs plan n k = (walk.0, walk.1, (j, walk.2)) in
    let held = ((given_holds_needs plan n r.loads (are_good plan r.depth (loaded plan n) r.loads r.all)).0 k p).1 (need, own) in
    run-keeps plan n r.statements r.loads m r.run k p held

done_globals : (plan : Plan) (n : ℕ) (shelf : Shelf) (globals : List (List ℕ × Value)) (texts : List (List ℕ × List ℕ)) (lines : List Said) (r : Run plan n (Good shelf globals texts lines)) → r.run.ended.globals ≡ globals
done_globals plan n shelf globals texts lines r =
    let is = ap (local_of (given plan n r.loads)) (sym r.run.done) ∙ (ran-is plan n r.statements r.loads r.sound ∙ r.comes) in
    cc

short : {A : Type 0} (xs : List A) (i : ℕ) (x : A) → slice_get xs i ≡ Some x → i < length xs
short [] i x e = absurd (let no : ⊥ = cc in no)
short (y ∷ xs) zero x e = omega arith
short (y ∷ xs) (suc i) x e = let less : i < length xs = short xs i x e in omega (arith, less)

got : {A : Type 0} (xs : List A) (i : ℕ) (x d : A) → slice_get xs i ≡ Some x → slice_index_or xs i d ≡ x
got [] i x d e = absurd (let no : ⊥ = cc in no)
got (y ∷ xs) zero x d e = cc
got (y ∷ xs) (suc i) x d e = got xs i x d e

was_read : (plan : Plan) (k : ℕ) (ss : List Statement) (o : Option (Option Reading)) → slice_get plan.reads k ≡ o → tree_in (option_flatten o) ≡ Some ss → k < length plan.reads
was_read plan k ss None is e = absurd (let no : ⊥ = cc in no)
was_read plan k ss (Some r) is e = short plan.reads k r is

is_file : (files : List File) (plan : Plan) → IsPlanOf files plan → (k : ℕ) (p : Published) → IsOwn plan k p → k < length files
is_file files plan is k p own =
    let sound = result-sound plan own.depth k (Good own.shelf own.globals own.texts own.lines) own.ended in
    let less : k < length plan.reads = was_read plan k sound.0 (slice_get plan.reads k) refl sound.1 in
    omega (arith, less, is.size)

-- ---- the same cells

stores_from : (plan : Plan) (n : ℕ) (rs : List ReachView) → AreStores plan n rs → (k : ℕ) (p : Published) → slice_get (fold seated [] rs) k ≡ Some (Some p) → LeadsTo (Loads (loaded plan)) n k × IsOwn plan k p
stores_from plan n rs are k p e = turn (seated_from rs [] k p e)
  where
    turn : ((slice_get [] k ≡ Some (Some p)) ⊎ Comes rs k p) → LeadsTo (Loads (loaded plan)) n k × IsOwn plan k p
    turn (inl h) = absurd (let no : ⊥ = cc in no)
    turn (inr h) =
        let own = are.own h.place h.reach (short rs h.place h.reach h.at) in
        let at : slice_index_or rs h.place h.reach ≡ h.reach = got rs h.place h.reach h.reach h.at in
        let here : LeadsTo (Loads (loaded plan)) n h.reach.number × IsOwn plan h.reach.number h.reach.store =
        subst (λ (r : ReachView). LeadsTo (Loads (loaded plan)) n r.number × IsOwn plan r.number r.store) at own in
        (subst (λ z. LeadsTo (Loads (loaded plan)) n z) h.number here.0, subst (λ z. IsOwn plan z p) h.number (subst (λ q. IsOwn plan h.reach.number q) h.store here.1))

stored_at : (plan : Plan) (n : ℕ) (rs : List ReachView) → AreStores plan n rs → (k : ℕ) → LeadsTo (Loads (loaded plan)) n k → (q : Published) × (slice_get (fold seated [] rs) k ≡ Some (Some q))
stored_at plan n rs are k way = let c = are.all k way in seated_has rs [] c.0 k c.1 c.2

module _ (plan : Plan) (d n : ℕ) (m : Local) (e : result plan d n ≡ Some m) (r : Run plan n m) (rs : List ReachView) (are : AreStores plan n rs) where
  not_missing : (k : ℕ) (q : Published) (o : Option (Option Published)) → slice_get (reached m) k ≡ Some (Some q) → slice_get (fold seated [] rs) k ≡ o → is_taken o ≡ true
  not_missing k q o at is =
      let stored = stored_at plan n rs are k (leads plan d n m e k q at) in
      ap is_taken (sym is ∙ stored.1)

  cells_by : (k : ℕ) (o u : Option (Option Published)) → slice_get (fold seated [] rs) k ≡ o → slice_get (reached m) k ≡ u → published_cells o ≡ published_cells u
  cells_by k (Some (Some p)) u is at =
      let from = stores_from plan n rs are k p is in
      let has = shelf_has plan d n m e r k p from.0 from.1 in
      ap published_cells (sym has ∙ at)
  cells_by k None (Some (Some q)) is at = let no : false ≡ true = not_missing k q None at is in absurd (let none : ⊥ = cc in none)
  cells_by k (Some None) (Some (Some q)) is at = let no : false ≡ true = not_missing k q (Some None) at is in absurd (let none : ⊥ = cc in none)
  cells_by k None None is at = refl
  cells_by k None (Some None) is at = refl
  cells_by k (Some None) None is at = refl
  cells_by k (Some None) (Some None) is at = refl

  same_cells : (k : ℕ) → published_cells (slice_get (fold seated [] rs) k) ≡ published_cells (slice_get (reached m) k)
  same_cells k = cells_by k (slice_get (fold seated [] rs) k) (slice_get (reached m) k) refl refl

  no_cells_by : (files : List File) → IsPlanOf files plan → (u : Option (Option Published)) → slice_get (reached m) (length files) ≡ u → published_cells u ≡ []
  no_cells_by files planned None at = refl
  no_cells_by files planned (Some None) at = refl
  no_cells_by files planned (Some (Some q)) at = absurd (let less : length files < length files = is_file files plan planned (length files) q (holds plan d n m e (length files) q at) in let no : ⊥ = omega arith in no)

  cell_by : (files : List File) → IsPlanOf files plan → (b : Bool) (home at : ℕ) → nat_eq home (length files) ≡ b
      → option_map (λ (c : HeapCell). c.cell) (slice_get (if b then [] else published_cells (slice_get (fold seated [] rs) home)) at) ≡ option_map (λ (c : HeapCell). c.cell) (slice_get (published_cells (slice_get (reached m) home)) at)
  cell_by files planned true home at is =
      let same : home ≡ length files = eqb-true home (length files) is in
      let none : published_cells (slice_get (reached m) home) ≡ [] = ap (λ k. published_cells (slice_get (reached m) k)) same ∙ no_cells_by files planned (slice_get (reached m) (length files)) refl in
      ap (λ cs. option_map (λ (c : HeapCell). c.cell) (slice_get cs at)) (sym none)
  cell_by files planned false home at is = ap (λ cs. option_map (λ (c : HeapCell). c.cell) (slice_get cs at)) (same_cells home)

  -- a value leads to the same cell by the stores and on the shelf
  same_look : (files : List File) → IsPlanOf files plan → (v : Value) → look (record { home = length files; cells = [] }) (fold seated [] rs) v ≡ on_shelf (reached m) v
  same_look files planned (value.Ref home at) = cell_by files planned (nat_eq home (length files)) home at refl
  same_look files planned value.NoneValue = refl
  same_look files planned (value.Bool b) = refl
  same_look files planned (value.Int i) = refl
  same_look files planned (value.Builtin b) = refl

-- ---- the same data

data_by : (look see : Value → Option Cell) → ((v : Value) → look v ≡ see v) → (n : ℕ) (v : Value) (o u : Option Data) → data_of look n v ≡ o → data_of see n v ≡ u → o ≡ u
data_by look see same n v (Some d) u is at = sym (data_stays look see (λ x c h. sym (same x) ∙ h) n n v d (omega arith) is) ∙ at
data_by look see same n v None (Some d) is at = sym is ∙ data_stays see look (λ x c h. same x ∙ h) n n v d (omega arith) at
data_by look see same n v None None is at = refl

pub same_data : (look see : Value → Option Cell) → ((v : Value) → look v ≡ see v) → (n : ℕ) (v : Value) → data_of look n v ≡ data_of see n v
same_data look see same n v = data_by look see same n v (data_of look n v) (data_of see n v) refl refl

found_data : (look see : Value → Option Cell) → ((v : Value) → look v ≡ see v) → (o : Option Value) → option_and_then (data_of look most_levels) o ≡ option_and_then (data_of see most_levels) o
found_data look see same None = refl
found_data look see same (Some v) = same_data look see same most_levels v

own_globals : (plan : Plan) (d n : ℕ) (shelf : Shelf) (globals : List (List ℕ × Value)) (texts : List (List ℕ × List ℕ)) (lines : List Said) → result plan d n ≡ Some (Good shelf globals texts lines) → (rs : List ReachView) → AreStores plan n rs
    → globals_in (option_flatten (slice_get (fold seated [] rs) n)) ≡ globals
own_globals plan d n shelf globals texts lines e rs are =
    let m : Local = Good shelf globals texts lines in
    let r : Run plan n m = run_of plan d n m e refl in
    let stored = stored_at plan n rs are n (0, refl) in
    let from = stores_from plan n rs are n stored.0 stored.1 in
    let at = own_there plan d n m e r in
    let same : stored.0 ≡ own_module r.run.ended r.run.state = one-own plan n stored.0 (own_module r.run.ended r.run.state) from.1 (holds plan d n m e n (own_module r.run.ended r.run.state) at) in
    ap (λ o. globals_in (option_flatten o)) stored.1 ∙ (ap (λ (q : Published). q.globals) same ∙ done_globals plan n shelf globals texts lines r)

-- the stores of a module lead where its own shelf leads, and have its globals
pub stores_say : (files : List File) (plan : Plan) (n : ℕ) (b : Body) → IsPlanOf files plan → (is : IsBody plan n b) → ((v : Value) → look (record { home = length files; cells = [] }) (shelf_in b) v ≡ on_shelf is.shelf v) × (globals_in (option_flatten (slice_get (shelf_in b) n)) ≡ is.globals)
stores_say files plan n b planned is =
    let m : Local = Good is.shelf is.globals (arc_value b.shown) b.lines.items in
    let d = is.outcome.0 in
    let e = is.outcome.1 in
    let rs = row_of b.stores in
    (same_look plan d n m e (run_of plan d n m e refl) rs is.stores files planned, own_globals plan d n is.shelf is.globals (arc_value b.shown) b.lines.items e rs is.stores)

stored_is : (files : List File) (plan : Plan) (n : ℕ) (b : Body) → IsPlanOf files plan → (is : IsBody plan n b) → (name : List ℕ) → stored_data (length files) n b name ≡ global_data (on_shelf is.shelf) is.globals name
stored_is files plan n b planned is name =
    let see = look (record { home = length files; cells = [] }) (shelf_in b) in
    let say = stores_say files plan n b planned is in
    ap (λ gs. global_data see gs name) say.1 ∙ found_data see (on_shelf is.shelf) say.0 (global_of name is.globals)

-- ---- the members

filtered : (f g : List ℕ → Option Data) → ((x : List ℕ) → f x ≡ g x) → (xs : List (List ℕ)) → filter (is_opaque f) xs ≡ filter (is_opaque g) xs
filtered f g same [] = refl
filtered f g same (x ∷ xs) =
    ap (λ o. if not (is_private x) && not (is_some o) then x ∷ filter (is_opaque f) xs else filter (is_opaque f) xs) (same x)
    ∙ ap (λ zs. if not (is_private x) && not (is_some (g x)) then x ∷ zs else zs) (filtered f g same xs)

folded : (f g : List ℕ → Option Data) → ((x : List ℕ) → f x ≡ g x) → (xs : List (List ℕ)) (ms : Members) → fold (with_value f) ms xs ≡ fold (with_value g) ms xs
folded f g same [] ms = refl
folded f g same (x ∷ xs) ms =
    ap (λ o. fold (with_value f) (if is_private x then ms else put_some x o ms) xs) (same x) ∙ folded f g same xs (with_value g ms x)

same_members : (f g : List ℕ → Option Data) → ((x : List ℕ) → f x ≡ g x) → (xs : List (List ℕ)) → value_members_by f xs ≡ value_members_by g xs
same_members f g same xs =
    ap (λ os. member (codes "opaque") (array (items_of (map string os))) (member (codes "values") (object (fold (with_value f) no_members xs)) no_members)) (filtered f g same xs)
    ∙ ap (λ vs. member (codes "opaque") (array (items_of (map string (filter (is_opaque g) xs)))) (member (codes "values") (object vs) no_members)) (folded f g same xs no_members)

pub names_are : {Z : Type 0} (gs : List (String Z × List ℕ)) → map (λ (g : String Z × List ℕ). string_bytes g.0) gs ≡ map (λ (g : List ℕ × List ℕ). g.0) (shown_texts gs)
names_are [] = refl
names_are (g ∷ gs) = ap (λ ns. string_bytes g.0 ∷ ns) (names_are gs)

values_has : (files : List File) (plan : Plan) (n : ℕ) (x : Ended) → IsPlanOf files plan → IsEnd plan n x → HasValues plan n (values_in (length files) n x)
values_has files plan n (Static f) planned is = (StaticOutcome (fault_of f), is, refl)
values_has files plan n (Unloaded index line) planned is = (UnloadedOutcome index, is.0, refl)
values_has files plan n (Stopped code line lines trail) planned is = (Ran (HadFault (record { code = code; line = line }) lines.items), is, refl)
values_has files plan n (Well b) planned is =
    let body = arc_value b in
    let f = stored_data (length files) n body in
    let g = global_data (on_shelf is.shelf) is.globals in (
      Ran (Good is.shelf is.globals (arc_value body.shown) body.lines.items),
      is.outcome,
      same_members f g (stored_is files plan n body planned is) (names_of body),
    )

if_wanted : (b : Bool) (P : Members → Type 0) (ms : Members) → P ms → AreWanted b P (if b then ms else no_members)
if_wanted true P ms h = h
if_wanted false P ms h = refl

steps_has : (plan : Plan) (n : ℕ) (x : Ended) → IsEnd plan n x → HasSteps plan n (steps_in x)
steps_has plan n (Static f) is = (StaticOutcome (fault_of f), is, refl)
steps_has plan n (Unloaded index line) is = (UnloadedOutcome index, is.0, refl)
steps_has plan n (Stopped code line lines trail) is = (Ran (HadFault (record { code = code; line = line }) lines.items), is, refl)
steps_has plan n (Well b) is = (Ran (Good is.shelf is.globals (arc_value (arc_value b).shown) (arc_value b).lines.items), is.outcome, ((arc_value b).paid, is.paid, refl))

-- the further members of a module, by what was read and by its stores, are those of its file
pub more_is : (wanted : Wanted) (files : List File) (row : Row) (plan : Plan) (n : ℕ) (m : Module) (loads : List Load) → IsPlanOf files plan → readings row ≡ plan.reads → loads ≡ loads_at row m.number → IsModule plan n m → AreMore wanted files plan n (more_of wanted files loads m)
more_is wanted files row plan n m loads planned read own is = (
  loads_part wanted files loads,
  steps_part wanted m.ended,
  values_part wanted (length files) m.number m.ended,
  if_wanted wanted.loads (HasLoads files plan n) (loads_member files loads)
      (ap (loads_member files) own ∙ ap (λ k. loads_member files (loads_at row k)) is.number ∙ ap (loads_member files) (sym (loads_are plan row n read))),
  if_wanted wanted.steps (HasSteps plan n) (steps_in m.ended) (steps_has plan n m.ended is.ended),
  if_wanted wanted.values (HasValues plan n) (values_in (length files) m.number m.ended)
      (subst (λ k. HasValues plan n (values_in (length files) k m.ended)) (sym is.number) (values_has files plan n m.ended planned is.ended)),
  refl,
)
