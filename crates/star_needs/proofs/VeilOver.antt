-- The veil over the run of a file whose loads are good in two plans that agree but for changed files.
use Rattle.std.proofs.Common.{◌≡◌, ◌⊎◌, inl, inr, ℕ, zero, suc, nat_eq, eqb-true, arith, Bool, true, false, not, List, [], ◌∷◌, Option, Some, None, refl, ap, sym, subst, ◌∙◌, if◌then◌else◌}
use Rattle.std.specs.Prelude.{Contains, slice_get}
use Rattle.std.specs.Cmp.Lexicographic.{pointwise}
use Rattle.std.specs.Option.{option_and_then, option_flatten, option_map}
use Rattle.star_dialect.specs.declared.Mode.{Mode}
use Rattle.star_cache.specs.State.{Loads}
use Rattle.star_store.specs.declared.values.Value.{Value}
use Rattle.star_store.specs.declared.values.Cell.{Cell}
use Rattle.star_store.specs.declared.values.HeapCell.{HeapCell}
use Rattle.star_store.specs.Store.{Published, Shelf, global_of, published_cells}
use Rattle.star_store.specs.Write.{cell_at}
use Rattle.star_outline.specs.Outlines.{outline}
use Rattle.star_meaning.specs.Local.{setting}
use Rattle.star_meaning.specs.Module.{most_levels}
use Rattle.star_meaning.specs.Program.{Setting}
use Rattle.star_meaning.specs.Programs.{load_files}
use Rattle.star_plan.specs.Plan.{Plan, loaded, loads_in, loads_of, tree_in, trees}
use Rattle.star_plan.specs.Runs.{given}
use Rattle.star_plan.proofs.Causes.{here}
use Rattle.star_plan.proofs.Needs.{given_holds_needs}
use Rattle.star_plan.proofs.Tables.{first_load}
use Rattle.star_unseen.specs.Veil.{CellIsVisible, CellsAreVisible, Every, Hides, IsVisible, VisibleIfThere}
use Rattle.star_unseen.specs.Shelves.{IsSharedBy, Other, Veil, global_in, with_other}
use Rattle.star_needs.specs.Changed.{same_at}
use Rattle.star_needs.proofs.Data.{data_at, one_at}
use Rattle.star_needs.proofs.SoundFiles.{definitions_placed, outline_is}
use Rattle.star_needs.proofs.Steps.{OnBoth, Step, hides_of, on_both, shared_module, shelf_p, shelf_q}
use Rattle.star_needs.proofs.VisiblePlaces.{Open, hidden_cell, in_split, is_open, opened, over_in}

abbrev pub other_of : {is_in : ℕ → Bool} {p q : Plan} {n : ℕ} → Step is_in p q n → Other
other_of {q = q} {n = n} k = record { shelf = shelf_q k; outlines = (given q n k.ks).outlines }

-- the setting in the other plan
pub with_is : (is_in : ℕ → Bool) (p q : Plan) (n : ℕ) (k : Step is_in p q n) → with_other (other_of k) (given p n k.ms) ≡ given q n k.ks
with_is is_in p q n k =
    ap (λ r. setting n (trees q) (load_files (loads_in r)) p.prelude p.mode.language k.ks) (k.agree.reads n k.within)
    ∙ (ap (λ o. setting n (trees q) (load_files (loads_of q n)) o p.mode.language k.ks) k.agree.prelude
    ∙ ap (λ (m : Mode). setting n (trees q) (load_files (loads_of q n)) q.prelude m.language k.ks) k.agree.mode)

-- ---- cells

untaken : (o : Option (Option Published)) → ((x : Published) → o ≡ Some (Some x) → ⊥) → option_flatten o ≡ None
untaken None h = refl
untaken (Some None) h = refl
untaken (Some (Some x)) h = absurd (h x refl)

no_cells : (o : Option (Option Published)) → option_flatten o ≡ None → published_cells o ≡ []
no_cells None e = refl
no_cells (Some None) e = refl
no_cells (Some (Some x)) e = absurd (let no : ⊥ = cc in no)

free_p : (is_in : ℕ → Bool) (p q : Plan) (n : ℕ) (k : Step is_in p q n) → option_flatten (slice_get (shelf_p k) n) ≡ None
free_p is_in p q n k = untaken (slice_get (shelf_p k) n) (given_holds_needs p n k.ms k.good_p).1

free_q : (is_in : ℕ → Bool) (p q : Plan) (n : ℕ) (k : Step is_in p q n) → option_flatten (slice_get (shelf_q k) n) ≡ None
free_q is_in p q n k = untaken (slice_get (shelf_q k) n) (given_holds_needs q n k.ks k.good_q).1

abbrev pub cells_on : Shelf → ℕ → List HeapCell
cells_on shelf home = published_cells (slice_get shelf home)

own_none : (shelf : Shelf) (n home at : ℕ) → option_flatten (slice_get shelf n) ≡ None → home ≡ n → cell_at (cells_on shelf home) at ≡ None
own_none shelf n home at free is = ap (λ z. cell_at (cells_on shelf z) at) is ∙ ap (λ z. cell_at z at) (no_cells (slice_get shelf n) free)

open_same : (is_in : ℕ → Bool) (p q : Plan) (n : ℕ) (k : Step is_in p q n) (home at : ℕ) (o : Open is_in (shelf_p k) (shelf_q k) home at)
    → (is_in home ≡ true) ⊎ (same_at o.one.cells o.other.cells home most_levels at ≡ true) → cell_at o.one.cells at ≡ cell_at o.other.cells at
open_same is_in p q n k home at o (inl i) = ap (λ (z : Published). cell_at z.cells at) (sym (shared_module is_in p q n k home i o.one o.other o.on_one o.on_other).same)
open_same is_in p q n k home at o (inr s) = one_at o.one.cells o.other.cells home most_levels at s

pub same_cells : (is_in : ℕ → Bool) (p q : Plan) (n : ℕ) (k : Step is_in p q n) (home at : ℕ) → (hides_of k).cell home at ≡ false → cell_at (cells_on (shelf_p k) home) at ≡ cell_at (cells_on (shelf_q k) home) at
same_cells is_in p q n k home at e = in_split (nat_eq home n) (hidden_cell is_in (shelf_p k) (shelf_q k) home at)
    (λ same. own_none (shelf_p k) n home at (free_p is_in p q n k) (eqb-true home n same) ∙ sym (own_none (shelf_q k) n home at (free_q is_in p q n k) (eqb-true home n same)))
    (λ seen. let o = is_open is_in (shelf_p k) (shelf_q k) home at seen in
    ap (λ z. cell_at (published_cells z) at) o.on_one ∙ (open_same is_in p q n k home at o o.why ∙ sym (ap (λ z. cell_at (published_cells z) at) o.on_other))) e

every_at : (hides : Hides) (es : List HeapCell) (at : ℕ) (c : Cell) → CellsAreVisible hides es → cell_at es at ≡ Some c → CellIsVisible hides c
every_at hides [] at c h e = absurd (let no : ⊥ = cc in no)
every_at hides (x ∷ es) zero c h e = let same : x.cell ≡ c = cc in subst (CellIsVisible hides) same h.0
every_at hides (x ∷ es) (suc at) c h e = every_at hides es at c h.1 e

open_content : (is_in : ℕ → Bool) (p q : Plan) (n : ℕ) (k : Step is_in p q n) (home at : ℕ) (c : Cell) (o : Open is_in (shelf_p k) (shelf_q k) home at)
    → (is_in home ≡ true) ⊎ (same_at o.one.cells o.other.cells home most_levels at ≡ true) → cell_at o.one.cells at ≡ Some c → CellIsVisible (hides_of k) c
open_content is_in p q n k home at c o (inl i) e = every_at (hides_of k) o.one.cells at c (shared_module is_in p q n k home i o.one o.other o.on_one o.on_other).cells e
open_content is_in p q n k home at c o (inr s) e =
    data_at (hides_of k) o.one.cells o.other.cells home most_levels at
    (λ j t. (over_in is_in n (shelf_p k) (shelf_q k)).cell home j (opened is_in (shelf_p k) (shelf_q k) home j (record { one = o.one; other = o.other; on_one = o.on_one; on_other = o.on_other; why = inr t }))) s c e

nothing_there : {A : Type 0} (c : Cell) → None ≡ Some c → A
nothing_there c e = absurd (let no : ⊥ = cc in no)

pub seen_content : (is_in : ℕ → Bool) (p q : Plan) (n : ℕ) (k : Step is_in p q n) (home at : ℕ) (c : Cell) → (hides_of k).cell home at ≡ false → cell_at (cells_on (shelf_p k) home) at ≡ Some c → CellIsVisible (hides_of k) c
seen_content is_in p q n k home at c e is = in_split (nat_eq home n) (hidden_cell is_in (shelf_p k) (shelf_q k) home at)
    (λ same. nothing_there c (sym (own_none (shelf_p k) n home at (free_p is_in p q n k) (eqb-true home n same)) ∙ is))
    (λ seen. let o = is_open is_in (shelf_p k) (shelf_q k) home at seen in
    open_content is_in p q n k home at c o o.why (sym (ap (λ z. cell_at (published_cells z) at) o.on_one) ∙ is)) e

-- ---- globals

visible_if : (hides : Hides) (b : Bool) (v : Value) (o : Option Value) → IsVisible hides v → VisibleIfThere hides o → VisibleIfThere hides (if b then Some v else o)
visible_if hides true v o h k = h
visible_if hides false v o h k = k

global_seen : (hides : Hides) (name : List ℕ) (gs : List (List ℕ × Value)) → Every (λ g. IsVisible hides g.1) gs → VisibleIfThere hides (global_of name gs)
global_seen hides name [] h = tt
global_seen hides name (g ∷ gs) h = visible_if hides (pointwise nat_eq g.0 name) g.1 (global_of name gs) h.0 (global_seen hides name gs h.1)

pub in_module : (w : Setting) (m : ℕ) (x : Published) (name : List ℕ) → slice_get w.shelf m ≡ Some (Some x) → global_in w (Some m) name ≡ global_of name x.globals
in_module w m x name e = ap (λ o. option_and_then (λ (p : Published). global_of name p.globals) (option_flatten o)) e

in_none : (w : Setting) (m : ℕ) (name : List ℕ) → option_flatten (slice_get w.shelf m) ≡ None → global_in w (Some m) name ≡ None
in_none w m name e = ap (λ o. option_and_then (λ (p : Published). global_of name p.globals) o) e

abbrev pub SharedOf : {is_in : ℕ → Bool} {p q : Plan} {n : ℕ} → Step is_in p q n → Option ℕ → List ℕ → Type 0
SharedOf {p = p} {n = n} k o name = IsSharedBy (hides_of k) (other_of k) (given p n k.ms) o name

-- the globals of a load that is in
pub shared_load : (is_in : ℕ → Bool) (p q : Plan) (n : ℕ) (k : Step is_in p q n) (m : ℕ) → is_in m ≡ true → Loads (loaded p) n m → (name : List ℕ) → SharedOf k (Some m) name
shared_load is_in p q n k m i load name =
    let b : OnBoth k m = on_both is_in p q n k m i load in
    let w : Setting = given p n k.ms in
    let one : global_in w (Some m) name ≡ global_of name b.one.globals = in_module w m b.one name b.on_p in
    let other : global_in (with_other (other_of k) w) (Some m) name ≡ global_of name b.one.globals = in_module (with_other (other_of k) w) m b.one name b.on_q in
    (one ∙ sym other, subst (VisibleIfThere (hides_of k)) (sym one) (global_seen (hides_of k) name b.one.globals b.shared.globals))

own_prelude : (is_in : ℕ → Bool) (p q : Plan) (n : ℕ) (k : Step is_in p q n) (name : List ℕ) → SharedOf k (Some n) name
own_prelude is_in p q n k name =
    let w : Setting = given p n k.ms in
    let one : global_in w (Some n) name ≡ None = in_none w n name (free_p is_in p q n k) in
    let other : global_in (with_other (other_of k) w) (Some n) name ≡ None = in_none (with_other (other_of k) w) n name (free_q is_in p q n k) in
    (one ∙ sym other, subst (VisibleIfThere (hides_of k)) (sym one) tt)

prelude_by : (is_in : ℕ → Bool) (p q : Plan) (n : ℕ) (k : Step is_in p q n) (name : List ℕ) (z : ℕ) → p.prelude ≡ Some z → (b : Bool) → nat_eq z n ≡ b → SharedOf k (Some z) name
prelude_by is_in p q n k name z e true same =
    let is : z ≡ n = eqb-true z n same in
    subst (λ j. SharedOf k (Some j) name) (sym is) (own_prelude is_in p q n k name)
prelude_by is_in p q n k name z e false apart =
    let first = first_load k.files p k.is_p n k.statements k.sound z e apart in
    let load : Loads (loaded p) n z = subst (λ ns. Contains ns z) (sym first.1) (here z first.0) in
    shared_load is_in p q n k z (k.agree.prelude_in z e) load name

pub shared_prelude : (is_in : ℕ → Bool) (p q : Plan) (n : ℕ) (k : Step is_in p q n) (name : List ℕ) (o : Option ℕ) → p.prelude ≡ o → SharedOf k o name
shared_prelude is_in p q n k name None e = (refl, tt)
shared_prelude is_in p q n k name (Some z) e = prelude_by is_in p q n k name z e (nat_eq z n) refl

-- ---- the veil

pub is_not : (b : Bool) → not b ≡ false → b ≡ true
is_not true e = refl
is_not false e = absurd (let no : ⊥ = cc in no)

pub own_number : (n : ℕ) → nat_eq n n ≡ true
own_number n = grind arith

abbrev pub veil_over : (is_in : ℕ → Bool) (p q : Plan) (n : ℕ) (k : Step is_in p q n) → Veil (given p n k.ms)
veil_over is_in p q n k = record {
  hides = hides_of k;
  other = other_of k;
  own = λ at. ap (λ b. let r : Bool = if b then false else hidden_cell is_in (shelf_p k) (shelf_q k) n at in r) (own_number n);
  own_file = ap not k.within;
  cells = λ home at e. same_cells is_in p q n k home at e;
  contents = λ home at c e is. seen_content is_in p q n k home at c e is;
  prelude_file = λ z e. ap not (k.agree.prelude_in z e);
  prelude = λ name. shared_prelude is_in p q n k name p.prelude refl;
  outline = λ file e. outline_is p n k.ms file ∙ (ap (λ r. option_map outline (tree_in r)) (k.agree.reads file (is_not (is_in file) e)) ∙ sym (outline_is q n k.ks file));
  bodies = λ file number d e is. definitions_placed k.files p k.is_p n k.ms file number d is;
}
