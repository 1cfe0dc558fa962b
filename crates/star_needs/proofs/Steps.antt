-- Two plans that agree but for changed files, at one file whose loads are good in both: what is on both shelves of its run.
use Rattle.std.proofs.Common.{◌≡◌, ◌⊎◌, inl, inr, ℕ, Bool, true, List, map, Option, Some, None, refl, ap, sym, subst, ◌∙◌}
use Rattle.std.specs.Prelude.{slice_get}
use Rattle.star_cache.specs.State.{Loads}
use Rattle.star_label.specs.Files.{File}
use Rattle.star_store.specs.declared.values.Value.{Value}
use Rattle.star_store.specs.Store.{Published, Shelf}
use Rattle.star_tree.specs.declared.tree.Statement.{Statement}
use Rattle.star_meaning.specs.declared.said.Said.{Said}
use Rattle.star_meaning.specs.Local.{reached}
use Rattle.star_meaning.specs.Module.{Good, Local, Stopped}
use Rattle.star_plan.specs.Plan.{Plan, loaded, loads_in, read_of, tree_in}
use Rattle.star_plan.specs.Reading.{IsPlanOf}
use Rattle.star_plan.specs.Results.{AreGood, IsGood, all_good, if_good, result}
use Rattle.star_plan.specs.Runs.{given}
use Rattle.star_plan.specs.Shelves.{IsOwn}
use Rattle.star_plan.proofs.Needs.{given_holds_needs, good_files_have_outcomes}
use Rattle.star_plan.proofs.Outcomes.{all_good-each, place_of}
use Rattle.star_plan.proofs.Seen.{contained}
use Rattle.star_plan.proofs.Shelves.{one-own}
use Rattle.star_plan.proofs.Stay.{good_is}
use Rattle.star_unseen.specs.Laws.{FilesRunTheSame, FilesWithoutLoadsRunTheSame}
use Rattle.star_unseen.specs.Veil.{CellsAreVisible, Every, Hides, IsVisible}
use Rattle.star_needs.specs.Changed.{AgreeButFor, SharesLoads}
use Rattle.star_needs.proofs.Below.{given_below, reached_there}
use Rattle.star_needs.proofs.VisiblePlaces.{Reveals, cells_more, every_more, hides_in, hides_over, over_in, over_more, reveals_both, value_more}

-- a good result in one plan has a counterpart in the other, with the same module of its own, which leads to nothing hidden
pub record Kept (is_in : ℕ → Bool) (q : Plan) (n : ℕ) (shelf : Shelf) (globals : List (List ℕ × Value)) (texts : List (List ℕ × List ℕ)) (lines : List Said) : Type 0 where
  pub depth : ℕ
  pub other : Shelf
  pub ended : result q depth n ≡ Some (Good other globals texts lines)
  pub one : Published
  pub on_one : slice_get shelf n ≡ Some (Some one)
  pub on_other : slice_get other n ≡ Some (Some one)
  pub cells : CellsAreVisible (hides_over is_in shelf other) one.cells
  pub globals_seen : Every (λ g. IsVisible (hides_over is_in shelf other) g.1) one.globals

abbrev pub KeptBy : (ℕ → Bool) → Plan → ℕ → Local → Type 0
KeptBy is_in q n (Good shelf globals texts lines) = Kept is_in q n shelf globals texts lines
KeptBy is_in q n (Stopped f lines) = Unit {0}

-- so it is with all results of a depth
abbrev pub KeptAt : (ℕ → Bool) → Plan → Plan → ℕ → Type 0
KeptAt is_in p q d = (n : ℕ) → is_in n ≡ true → (m : Local) → result p d n ≡ Some m → KeptBy is_in q n m

pub own_of : (is_in : ℕ → Bool) (q : Plan) (n : ℕ) (s : Shelf) (g : List (List ℕ × Value)) (t : List (List ℕ × List ℕ)) (l : List Said) (z : Kept is_in q n s g t l) → IsOwn q n z.one
own_of is_in q n s g t l z = record { depth = z.depth; shelf = z.other; globals = g; texts = t; lines = l; ended = z.ended; there = z.on_other }

-- a file whose loads have good outcomes in both plans, and the laws of runs over two shelves
pub record Step (is_in : ℕ → Bool) (p q : Plan) (n : ℕ) : Type 0 where
  pub runs : FilesRunTheSame
  pub runs_without_loads : FilesWithoutLoadsRunTheSame
  pub files : List File
  pub others : List File
  pub is_p : IsPlanOf files p
  pub is_q : IsPlanOf others q
  pub agree : AgreeButFor is_in p q
  pub within : is_in n ≡ true
  pub depth : ℕ
  pub kept : KeptAt is_in p q depth
  pub statements : List Statement
  pub sound : tree_in (read_of p n) ≡ Some statements
  pub ms : List Local
  pub ks : List Local
  pub all : all_good (map (result p depth) (loaded p n)) ≡ Some ms
  pub good_p : AreGood p (loaded p n) ms
  pub good_q : AreGood q (loaded q n) ks

abbrev pub shelf_p : {is_in : ℕ → Bool} {p q : Plan} {n : ℕ} → Step is_in p q n → Shelf
shelf_p {p = p} {n = n} k = (given p n k.ms).shelf

abbrev pub shelf_q : {is_in : ℕ → Bool} {p q : Plan} {n : ℕ} → Step is_in p q n → Shelf
shelf_q {q = q} {n = n} k = (given q n k.ks).shelf

abbrev pub hides_of : {is_in : ℕ → Bool} {p q : Plan} {n : ℕ} → Step is_in p q n → Hides
hides_of {is_in = is_in} {n = n} k = hides_in is_in n (shelf_p k) (shelf_q k)

pub same_loads : (is_in : ℕ → Bool) (p q : Plan) → AgreeButFor is_in p q → (n : ℕ) → is_in n ≡ true → loaded p n ≡ loaded q n
same_loads is_in p q a n h = ap (λ r. map (λ l. l.file) (loads_in r)) (a.reads n h)

-- ---- a file that is in, on both shelves

pub record SharedModule (hides : Hides) (one other : Published) : Type 0 where
  pub same : other ≡ one
  pub cells : CellsAreVisible hides one.cells
  pub globals : Every (λ g. IsVisible hides g.1) one.globals

pub seen_globals : (a b : Hides) → Reveals a b → (gs : List (List ℕ × Value)) → Every (λ g. IsVisible a g.1) gs → Every (λ g. IsVisible b g.1) gs
seen_globals a b r gs h = every_more (λ (g : List ℕ × Value). IsVisible a g.1) (λ (g : List ℕ × Value). IsVisible b g.1) (λ g x. value_more a b r g.1 x) gs h

pub module_is : (o : Option (Option Published)) (x y : Published) → o ≡ Some (Some x) → o ≡ Some (Some y) → x ≡ y
module_is o x y a b =
    let both : Some (Some x) ≡ Some (Some y) = sym a ∙ b in
    let one : Some x ≡ Some y = cc in
    cc

shared_by : (is_in : ℕ → Bool) (p q : Plan) (n : ℕ) (k : Step is_in p q n) (h : ℕ) → is_in h ≡ true → (one other : Published) → slice_get (shelf_p k) h ≡ Some (Some one) → slice_get (shelf_q k) h ≡ Some (Some other)
    → (m : Local) → result p k.depth h ≡ Some m → slice_get (reached m) h ≡ Some (Some one) → SharedModule (hides_of k) one other
shared_by is_in p q n k h i one other on_p on_q (Stopped f lines) e at = absurd (let no : ⊥ = cc in no)
shared_by is_in p q n k h i one other on_p on_q (Good s g t l) e at =
    let z : Kept is_in q h s g t l = k.kept h i (Good s g t l) e in
    let is : z.one ≡ one = module_is (slice_get s h) z.one one z.on_one at in
    let own : IsOwn q h other = (((given_holds_needs q n k.ks k.good_q).0 h other).0 on_q).1 in
    let same : other ≡ z.one = one-own q h other z.one own (own_of is_in q h s g t l z) in
    let more : Reveals (hides_over is_in s z.other) (hides_of k) = reveals_both (hides_over is_in s z.other) (hides_over is_in (shelf_p k) (shelf_q k)) (hides_of k)
    (over_more is_in s z.other (shelf_p k) (shelf_q k)
    (λ j x on. reached_there p n k.ms k.good_p h one on_p k.depth (Good s g t l) e j x on)
    (λ j x on. reached_there q n k.ks k.good_q h other on_q z.depth (Good z.other g t l) z.ended j x on))
    (over_in is_in n (shelf_p k) (shelf_q k)) in
    record {
      same = same ∙ is;
      cells = cells_more (hides_over is_in s z.other) (hides_of k) more one.cells (subst (λ (x : Published). CellsAreVisible (hides_over is_in s z.other) x.cells) is z.cells);
      globals = seen_globals (hides_over is_in s z.other) (hides_of k) more one.globals (subst (λ (x : Published). Every (λ g. IsVisible (hides_over is_in s z.other) g.1) x.globals) is z.globals_seen);
    }

-- its module is one, and leads to nothing hidden
pub shared_module : (is_in : ℕ → Bool) (p q : Plan) (n : ℕ) (k : Step is_in p q n) (h : ℕ) → is_in h ≡ true → (one other : Published) → slice_get (shelf_p k) h ≡ Some (Some one) → slice_get (shelf_q k) h ≡ Some (Some other)
    → SharedModule (hides_of k) one other
shared_module is_in p q n k h i one other on_p on_q =
    let o = given_below p k.depth n k.ms k.all h one on_p in
    shared_by is_in p q n k h i one other on_p on_q o.outcome o.ended o.there

-- ---- loads

-- the own module of a load is on the shelf
pub load_there : (plan : Plan) (n : ℕ) (ms : List Local) → AreGood plan (loaded plan n) ms → (m : ℕ) → Loads (loaded plan) n m → (x : Published) → IsOwn plan m x → slice_get (given plan n ms).shelf m ≡ Some (Some x)
load_there plan n ms g m load x own = (((given_holds_needs plan n ms g).0 m x).1 ((m, load, (0, refl)), own))

-- a load that is in is on both shelves
pub record OnBoth {is_in : ℕ → Bool} {p q : Plan} {n : ℕ} (k : Step is_in p q n) (m : ℕ) : Type 0 where
  pub one : Published
  pub on_p : slice_get (shelf_p k) m ≡ Some (Some one)
  pub on_q : slice_get (shelf_q k) m ≡ Some (Some one)
  pub shared : SharedModule (hides_of k) one one

on_both_by : (is_in : ℕ → Bool) (p q : Plan) (n : ℕ) (k : Step is_in p q n) (m : ℕ) → is_in m ≡ true → Loads (loaded p) n m → (o : Local) → if_good (result p k.depth m) ≡ Some o → result p k.depth m ≡ Some o → OnBoth k m
on_both_by is_in p q n k m i load (Stopped f lines) e r =
    let nothing : None ≡ Some (Stopped f lines) = ap if_good (sym r) ∙ e in
    absurd (let no : ⊥ = cc in no)
on_both_by is_in p q n k m i load (Good s g t l) e r =
    let z : Kept is_in q m s g t l = k.kept m i (Good s g t l) r in
    let on_p : slice_get (shelf_p k) m ≡ Some (Some z.one) = load_there p n k.ms k.good_p m load z.one (record { depth = k.depth; shelf = s; globals = g; texts = t; lines = l; ended = r; there = z.on_one }) in
    let load_q : Loads (loaded q) n m = subst (λ ns. Loads (λ j. ns) n m) (same_loads is_in p q k.agree n k.within) load in
    let on_q : slice_get (shelf_q k) m ≡ Some (Some z.one) = load_there q n k.ks k.good_q m load_q z.one (own_of is_in q m s g t l z) in
    record { one = z.one; on_p = on_p; on_q = on_q; shared = shared_module is_in p q n k m i z.one z.one on_p on_q }

pub on_both : (is_in : ℕ → Bool) (p q : Plan) (n : ℕ) (k : Step is_in p q n) (m : ℕ) → is_in m ≡ true → Loads (loaded p) n m → OnBoth k m
on_both is_in p q n k m i load =
    let place : slice_get (loaded p n) load.0 ≡ Some m = place_of (loaded p n) m load.0 load.1 load.2 in
    let one = all_good-each (result p k.depth) (loaded p n) k.ms k.all load.0 m place in
    on_both_by is_in p q n k m i load one.0 one.1 (good_is (result p k.depth m) one.0 one.1)

-- ---- the loads are good in the other plan

good_by : (is_in : ℕ → Bool) (q : Plan) (m : ℕ) (o : Local) → if_good (Some o) ≡ Some o → KeptBy is_in q m o → IsGood q m
good_by is_in q m (Stopped f lines) e h = absurd (let no : ⊥ = cc in no)
good_by is_in q m (Good s g t l) e z = (z.depth, (Good z.other g t l, ap if_good z.ended))

pub loads_good : (is_in : ℕ → Bool) (p q : Plan) → AgreeButFor is_in p q → (d n : ℕ) → is_in n ≡ true → KeptAt is_in p q d → (ms : List Local) → all_good (map (result p d) (loaded p n)) ≡ Some ms → (ks : List Local) × AreGood q (loaded q n) ks
loads_good is_in p q a d n within kept ms all = good_files_have_outcomes q (loaded q n) (λ i m at. each i m (subst (λ ns. slice_get ns i ≡ Some m) (sym (same_loads is_in p q a n within)) at))
  where
    turn : (i m : ℕ) → slice_get (loaded p n) i ≡ Some m → (is_in m ≡ true) ⊎ SharesLoads p q n m → IsGood q m
    turn i m at (inl h) =
        let one = all_good-each (result p d) (loaded p n) ms all i m at in
        let is : result p d m ≡ Some one.0 = good_is (result p d m) one.0 one.1 in
        good_by is_in q m one.0 (ap if_good (sym is) ∙ one.1) (kept m h one.0 is)
    turn i m at (inr s) = (s.own_other.depth, (Good s.own_other.shelf s.own_other.globals s.own_other.texts s.own_other.lines, ap if_good s.own_other.ended))

    each : (i m : ℕ) → slice_get (loaded p n) i ≡ Some m → IsGood q m
    each i m at = turn i m at (a.loads n m within (contained (loaded p n) i m at))
