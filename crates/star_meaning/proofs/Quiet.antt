-- An action that ends well makes no function, and each frame stays the frame that it was.
use Rattle.std.proofs.Common.{◌≡◌, ℕ, zero, suc, ◌+◌, ◌-◌, ◌<◌, ◌≤◌, List, [], ◌∷◌, ◌++◌, length, slice_get, Option, Some, None, Bool, true, false, if◌then◌else◌, refl, ap, sym, ◌∙◌, arith, subst, nat_lt, nat_eq, Result, Ok, Err}
use Rattle.std.specs.Option.{option_map}
use Rattle.star_store.specs.declared.values.Value.{Value}
use Rattle.star_store.specs.declared.values.Value.TheVariants as value
use Rattle.star_store.specs.declared.values.Cell.{Cell}
use Rattle.star_store.specs.declared.values.Cell.TheVariants as cell
use Rattle.star_store.specs.declared.values.Frame.{Frame}
use Rattle.star_store.specs.declared.range.Range.{Range}
use Rattle.star_store.specs.declared.values.HeapCell.{HeapCell}
use Rattle.star_store.specs.declared.values.Function.{Function}
use Rattle.star_store.specs.declared.names.Method.{Method}
use Rattle.star_store.specs.declared.arena.write.Change.{Change}
use Rattle.star_store.specs.declared.fault.StoreFault.{StoreFault}
use Rattle.star_store.specs.Store.{Store, changed, changed_at, bound, bound_cell, opened_in, closed_in, is_container}
use Rattle.star_store.specs.Spend.{Spend, Spent, Enough, Lacks}
use Rattle.star_store.specs.Write.{allowed, made_if, in_store, cell_at}
use Rattle.star_meaning.specs.declared.fault.FaultCode.{FaultCode}
use Rattle.star_meaning.specs.declared.fault.FaultCode.TheVariants as code
use Rattle.star_meaning.specs.declared.said.Said.{Said}
use Rattle.star_meaning.specs.Run.{State, Outcome, Done, Action, ◌>>=◌, give, fail, pay, check, found, settled, visiting, seeing, storing, make, build, add_said}
use Rattle.star_meaning.specs.Program.{Setting}
use Rattle.star_meaning.specs.Values.{written, change, iterate, leave, count_of}
use Rattle.star_meaning.specs.Laws.{KeepsFrame, KeepsKind}
use Rattle.star_meaning.specs.Calls.{activate, deactivate, rest_of}
use Rattle.star_meaning.proofs.Stays as stays
use Rattle.star_meaning.proofs.Through.{Through, through_then}

-- after it all frames are the same frames, and no function is new
pub record Follows (s t : State) : Type 0 where
  pub home : t.store.home ≡ s.store.home
  pub frames : (at : ℕ) (f : Frame) → cell_at s.store.cells at ≡ Some (cell.Frame f) → (g : Frame) × (cell_at t.store.cells at ≡ Some (cell.Frame g)) × KeepsFrame f g
  pub functions : (at : ℕ) (f : Function) → cell_at t.store.cells at ≡ Some (cell.Func f) → cell_at s.store.cells at ≡ Some (cell.Func f)

abbrev pub Followed : {A : Type 0} → State → Outcome A → Type 0
Followed s o = Through Follows s o

pub record Keeps {A : Type 0} (m : Action A) : Type 0 where
  pub holds : (s : State) → Followed s (m s)

pub frame_on : (f g h : Frame) → KeepsFrame f g → KeepsFrame g h → KeepsFrame f h
frame_on f g h a b = record { file = b.file ∙ a.file; block = b.block ∙ a.block; parent = b.parent ∙ a.parent; slots = b.slots ∙ a.slots }

pub frame_same : (f : Frame) → KeepsFrame f f
frame_same f = record { file = refl; block = refl; parent = refl; slots = refl }

-- the same store
pub follows_same : (s : State) (active : List (ℕ × ℕ)) (steps : ℕ) (lines : List Said) → Follows s (record { store = s.store; active = active; steps = steps; lines = lines })
follows_same s active steps lines = record { home = refl; frames = λ at f h. (f, h, frame_same f); functions = λ at f h. h }

pub follows_on : (s t u : State) → Follows s t → Follows t u → Follows s u
follows_on s t u h k = record {
  home = k.home ∙ h.home;
  frames = λ at f e. let g = h.frames at f e in let i = k.frames at g.0 g.1 in (i.0, i.1, frame_on f g.0 i.0 g.2 i.2);
  functions = λ at f e. h.functions at f (k.functions at f e);
}

pub keeps_then : {A B : Type 0} (m : Action A) (f : A → Action B) → Keeps m → ((x : A) → Keeps (f x)) → Keeps (m >>= f)
keeps_then m f k l = record { holds = λ s. through_then Follows follows_on s (m s) f (k.holds s) (λ x u. (l x).holds u) }

pub keeps_give : {A : Type 0} (x : A) → Keeps (give x)
keeps_give x = record { holds = λ s. follows_same s s.active s.steps s.lines }

pub keeps_fail : (A : Type 0) (c : FaultCode) (line : ℕ) → Keeps (fail {A = A} c line)
keeps_fail A c line = record { holds = λ s. tt }

pub keeps_if : {A : Type 0} (b : Bool) (m n : Action A) → Keeps m → Keeps n → Keeps (if b then m else n)
keeps_if true m n k l = k
keeps_if false m n k l = l

pub keeps_found : {A : Type 0} (c : FaultCode) (line : ℕ) (o : Option A) → Keeps (found c line o)
keeps_found {A = A} c line None = keeps_fail A c line
keeps_found {A = A} c line (Some x) = keeps_give x

paid : (b : Bool) (line n : ℕ) (s : State) → Followed {A = Unit {0}} s (if b then fail code.Steps line s else Done tt (record s { steps = s.steps - n }))
paid true line n s = tt
paid false line n s = follows_same s s.active (s.steps - n) s.lines

pub keeps_pay : (line n : ℕ) → Keeps (pay line n)
unfolding pay
keeps_pay line n = record { holds = λ s. paid (nat_lt s.steps n) line n s }

pub keeps_seeing : {A : Type 0} (f : State → Action A) → ((s : State) → Keeps (f s)) → Keeps (seeing f)
keeps_seeing f k = record { holds = λ s. (k s).holds s }

pub keeps_check : (c : FaultCode) (line : ℕ) (b : Bool) → Keeps (check c line b)
keeps_check c line b = keeps_if b _ _ (keeps_give {A = Unit {0}} tt) (keeps_fail (Unit {0}) c line)

-- ---- new cells

pub cell_more : (xs ys : List HeapCell) (at : ℕ) (c : Cell) → cell_at xs at ≡ Some c → cell_at (xs ++ ys) at ≡ Some c
cell_more [] ys at c h = cc
cell_more (x ∷ xs) ys zero c h = h
cell_more (x ∷ xs) ys (suc at) c h = cell_more xs ys at c h

nothing_there : (at : ℕ) (c : Cell) → cell_at [] at ≡ Some c → ⊥
nothing_there at c h = cc

pub one_there : (x : HeapCell) (at : ℕ) (c : Cell) → cell_at (x ∷ []) at ≡ Some c → x.cell ≡ c
one_there x zero c h = cc
one_there x (suc at) c h = elim (nothing_there at c h) [ ]

function_before : (xs : List HeapCell) (x : HeapCell) (at : ℕ) (f : Function) → (x.cell ≡ cell.Func f → ⊥) → cell_at (xs ++ x ∷ []) at ≡ Some (cell.Func f) → cell_at xs at ≡ Some (cell.Func f)
function_before [] x at f other h = elim (other (one_there x at (cell.Func f) h)) [ ]
function_before (y ∷ xs) x zero f other h = h
function_before (y ∷ xs) x (suc at) f other h = function_before xs x at f other h

pub keeps_make : (c : Cell) → ((f : Function) → c ≡ cell.Func f → ⊥) → Keeps (make c)
unfolding make
keeps_make c other = record {
  holds = λ s. record {
    home = refl;
    frames = λ at f h. (f, cell_more s.store.cells _ at (cell.Frame f) h, frame_same f);
    functions = λ at f h. function_before s.store.cells (record { iterations = 0; cell = c }) at f (other f) h;
  };
}

pub keeps_make_text : (t : List ℕ) → Keeps (make (cell.Text t))
keeps_make_text t = keeps_make (cell.Text t) (λ f e. let g : cell.Text t ≡ cell.Func f → ⊥ = λ e. cc in g e)

pub keeps_make_tuple : (xs : List Value) → Keeps (make (cell.Tuple xs))
keeps_make_tuple xs = keeps_make (cell.Tuple xs) (λ f e. let g : cell.Tuple xs ≡ cell.Func f → ⊥ = λ e. cc in g e)

pub keeps_make_list : (xs : List Value) → Keeps (make (cell.List xs))
keeps_make_list xs = keeps_make (cell.List xs) (λ f e. let g : cell.List xs ≡ cell.Func f → ⊥ = λ e. cc in g e)

pub keeps_make_dict : (es : List (Value × Value)) → Keeps (make (cell.Dict es))
keeps_make_dict es = keeps_make (cell.Dict es) (λ f e. let g : cell.Dict es ≡ cell.Func f → ⊥ = λ e. cc in g e)

pub keeps_make_range : (r : Range) → Keeps (make (cell.Range r))
keeps_make_range r = keeps_make (cell.Range r) (λ f e. let g : cell.Range r ≡ cell.Func f → ⊥ = λ e. cc in g e)

pub keeps_make_bound : (m : Method) (v : Value) → Keeps (make (cell.Bound m v))
keeps_make_bound m v = keeps_make (cell.Bound m v) (λ f e. let g : cell.Bound m v ≡ cell.Func f → ⊥ = λ e. cc in g e)

pub keeps_make_struct : (fs : List (List ℕ × Value)) → Keeps (make (cell.Struct fs))
keeps_make_struct fs = keeps_make (cell.Struct fs) (λ f e. let g : cell.Struct fs ≡ cell.Func f → ⊥ = λ e. cc in g e)

pub keeps_make_set : (es : List (Value × Value)) → Keeps (make (cell.Set es))
keeps_make_set es = keeps_make (cell.Set es) (λ f e. let g : cell.Set es ≡ cell.Func f → ⊥ = λ e. cc in g e)

pub keeps_make_frame : (x : Frame) → Keeps (make (cell.Frame x))
keeps_make_frame x = keeps_make (cell.Frame x) (λ f e. let g : cell.Frame x ≡ cell.Func f → ⊥ = λ e. cc in g e)

built : (line cost : ℕ) (c : Cell) → Keeps (make c) → Keeps (build line cost c)
unfolding build
built line cost c k = keeps_then _ _ (keeps_pay line cost) (λ _. k)

pub keeps_build_text : (line cost : ℕ) (t : List ℕ) → Keeps (build line cost (cell.Text t))
keeps_build_text line cost t = built line cost (cell.Text t) (keeps_make_text t)

pub keeps_build_tuple : (line cost : ℕ) (xs : List Value) → Keeps (build line cost (cell.Tuple xs))
keeps_build_tuple line cost xs = built line cost (cell.Tuple xs) (keeps_make_tuple xs)

pub keeps_build_list : (line cost : ℕ) (xs : List Value) → Keeps (build line cost (cell.List xs))
keeps_build_list line cost xs = built line cost (cell.List xs) (keeps_make_list xs)

pub keeps_build_dict : (line cost : ℕ) (es : List (Value × Value)) → Keeps (build line cost (cell.Dict es))
keeps_build_dict line cost es = built line cost (cell.Dict es) (keeps_make_dict es)

pub keeps_build_range : (line cost : ℕ) (r : Range) → Keeps (build line cost (cell.Range r))
keeps_build_range line cost r = built line cost (cell.Range r) (keeps_make_range r)

pub keeps_build_bound : (line cost : ℕ) (m : Method) (v : Value) → Keeps (build line cost (cell.Bound m v))
keeps_build_bound line cost m v = built line cost (cell.Bound m v) (keeps_make_bound m v)

pub keeps_build_struct : (line cost : ℕ) (fs : List (List ℕ × Value)) → Keeps (build line cost (cell.Struct fs))
keeps_build_struct line cost fs = built line cost (cell.Struct fs) (keeps_make_struct fs)

pub keeps_build_set : (line cost : ℕ) (es : List (Value × Value)) → Keeps (build line cost (cell.Set es))
keeps_build_set line cost es = built line cost (cell.Set es) (keeps_make_set es)

-- ---- loops

settled_follows : {A : Type 0} (line : ℕ) (s : State) (o : Spent A) → Followed s (settled line o s)
settled_follows line s (Enough x left) = follows_same s s.active left s.lines
settled_follows line s (Lacks f left) = tt

pub keeps_visiting : {A : Type 0} (line : ℕ) (f : State → Spend A) → Keeps (visiting line f)
keeps_visiting line f = record { holds = λ s. settled_follows line s (f s s.steps) }

pub keeps_add_said : (x : Said) → Keeps (add_said x)
unfolding add_said
keeps_add_said x = record { holds = λ s. follows_same s s.active s.steps (s.lines ++ x ∷ []) }

pub keeps_activate : (f : Function) → Keeps (activate f)
unfolding activate
keeps_activate f = record { holds = λ s. follows_same s ((f.file, f.definition) ∷ s.active) s.steps s.lines }

pub keeps_deactivate : Keeps deactivate
unfolding deactivate
keeps_deactivate = record { holds = λ s. follows_same s (rest_of s.active) s.steps s.lines }

-- ---- changes of a cell

-- the changes of a cell that keep its kind
kind_frame : (c d : Cell) (f : Frame) → KeepsKind c d → c ≡ cell.Frame f → (g : Frame) × (d ≡ cell.Frame g) × KeepsFrame f g
kind_frame c d f h e = subst (λ z. KeepsKind z d) e h

kind_function : (c d : Cell) (f : Function) → KeepsKind c d → d ≡ cell.Func f → c ≡ cell.Func f
kind_function (cell.List xs) d f h e = let k : cell.List h.0 ≡ cell.Func f = sym h.1 ∙ e in cc
kind_function (cell.Dict xs) d f h e = let k : cell.Dict h.0 ≡ cell.Func f = sym h.1 ∙ e in cc
kind_function (cell.Set xs) d f h e = let k : cell.Set h.0 ≡ cell.Func f = sym h.1 ∙ e in cc
kind_function (cell.Frame xs) d f h e = let k : cell.Frame h.0 ≡ cell.Func f = sym h.1 ∙ e in cc
kind_function c d f h e = sym h ∙ e

has_cell : (o : Option HeapCell) (c : Cell) → option_map (λ e. e.cell) o ≡ Some c → (a : HeapCell) × (o ≡ Some a) × (a.cell ≡ c)
has_cell None c h = cc
has_cell (Some a) c h = (a, refl, cc)

within : (xs : List HeapCell) (at : ℕ) (a : HeapCell) → slice_get xs at ≡ Some a → at < length xs
within [] at a h = cc
within (x ∷ xs) zero a h = omega arith
within (x ∷ xs) (suc at) a h = omega (arith, within xs at a h)

present : (xs : List HeapCell) (at : ℕ) → at < length xs → (a : HeapCell) × (slice_get xs at ≡ Some a)
present [] at h = absurd (omega (arith, h))
present (x ∷ xs) zero h = (x, refl)
present (x ∷ xs) (suc at) h = present xs at (omega (arith, h))

shorter : (m n k : ℕ) → k < m → m ≤ n → k < n
shorter m n k a b = omega (arith, a, b)

same_cell : (a b : HeapCell) → Some a ≡ Some b → a.cell ≡ b.cell
same_cell a b h = let e : a ≡ b = cc in ap (λ x. x.cell) e

pub follows_stays : (s t : State) → stays.Stays s t → length t.store.cells ≤ length s.store.cells → Follows s t
follows_stays s t h l = record {
  home = h.home;
  frames = λ at f e.
      let a = has_cell (slice_get s.store.cells at) (cell.Frame f) e in
      let b = h.cells at a.0 a.1 in
      let g = kind_frame a.0.cell b.0.cell f b.2.kind a.2 in
      (g.0, ap (option_map (λ e. e.cell)) b.1 ∙ ap Some g.1, g.2);
  functions = λ at f e.
      let b = has_cell (slice_get t.store.cells at) (cell.Func f) e in
      let a = present s.store.cells at (shorter (length t.store.cells) (length s.store.cells) at (within t.store.cells at b.0 b.1) l) in
      let k = h.cells at a.0 a.1 in
      let same : Some k.0 ≡ Some b.0 = sym k.1 ∙ b.1 in
      let one : k.0.cell ≡ cell.Func f = same_cell k.0 b.0 same ∙ b.2 in
      ap (option_map (λ e. e.cell)) a.1 ∙ ap Some (kind_function a.0.cell k.0.cell f k.2.kind one);
}

length_changed : (f : HeapCell → HeapCell) (xs : List HeapCell) (at : ℕ) → length (changed_at f xs at) ≡ length xs
length_changed f [] at = refl
length_changed f (x ∷ xs) zero = refl
length_changed f (x ∷ xs) (suc at) = ap suc (length_changed f xs at)

own_length : (b : Bool) (s : Store) (cells : List HeapCell) → length cells ≡ length s.cells → length ((if b then record s { cells = cells } else s).cells) ≡ length s.cells
own_length true s cells h = h
own_length false s cells h = refl

pub changed_length : (f : HeapCell → HeapCell) (v : Value) (s : Store) → length (changed f v s).cells ≡ length s.cells
changed_length f (value.Ref home at) s = own_length (nat_eq home s.home) s _ (length_changed f s.cells at)
changed_length f _ s = refl

not_longer : (m n : ℕ) → m ≡ n → m ≤ n
not_longer m n e = omega (arith, e)

written_follows : (c : Result (Unit {0}) StoreFault) (d : Result (Option Value × Cell) StoreFault) (v : Value) (line : ℕ) (s : State) → stays.Preserved s (written line (made_if c (in_store v s.store d)) s) → Followed s (written line (made_if c (in_store v s.store d)) s)
written_follows (Ok u) (Ok r) v line s h = follows_stays s _ h (not_longer _ _ (changed_length (λ e. record e { cell = r.1 }) v s.store))
written_follows (Ok u) (Err f) v line s h = tt
written_follows (Err f) d v line s h = tt

change_follows : (w : Setting) (line : ℕ) (v : Value) (c : Change) (s : State) → stays.Preserved s (change w line v c s) → Followed s (change w line v c s)
unfolding change
change_follows w line v c s h = written_follows (allowed s.store w.shelf v c) _ v line s h

pub keeps_change : (w : Setting) (line : ℕ) (v : Value) (c : Change) → Keeps (change w line v c)
keeps_change w line v c = record { holds = λ s. change_follows w line v c s ((stays.keeps_change w line v c).holds s) }

pub keeps_bound : (frame : Value) (slot : ℕ) (v : Value) → Keeps (storing (bound frame slot v))
keeps_bound frame slot v = record { holds = λ s. follows_stays s _ ((stays.keeps_bound frame slot v).holds s) (not_longer _ _ (changed_length (λ e. record e { cell = bound_cell slot v e.cell }) frame s.store)) }

-- a change that leaves the content of each cell
pub same_cells : (f : HeapCell → HeapCell) → ((e : HeapCell) → (f e).cell ≡ e.cell) → (xs : List HeapCell) (i at : ℕ) → cell_at (changed_at f xs i) at ≡ cell_at xs at
same_cells f h [] i at = refl
same_cells f h (x ∷ xs) zero zero = ap Some (h x)
same_cells f h (x ∷ xs) zero (suc at) = refl
same_cells f h (x ∷ xs) (suc i) zero = refl
same_cells f h (x ∷ xs) (suc i) (suc at) = same_cells f h xs i at

own_cells : (b : Bool) (s : Store) (cells : List HeapCell) (at : ℕ) → cell_at cells at ≡ cell_at s.cells at → cell_at ((if b then record s { cells = cells } else s).cells) at ≡ cell_at s.cells at
own_cells true s cells at h = h
own_cells false s cells at h = refl

changed_cells : (f : HeapCell → HeapCell) → ((e : HeapCell) → (f e).cell ≡ e.cell) → (v : Value) (s : Store) (at : ℕ) → cell_at (changed f v s).cells at ≡ cell_at s.cells at
changed_cells f h (value.Ref home i) s at = own_cells (nat_eq home s.home) s _ at (same_cells f h s.cells i at)
changed_cells f h _ s at = refl

changing : (f : HeapCell → HeapCell) → ((e : HeapCell) → (f e).cell ≡ e.cell) → (v : Value) → Keeps (storing (changed f v))
changing f h v = record {
  holds = λ s. record {
    home = stays.changed_home f v s.store;
    frames = λ at x e. (x, changed_cells f h v s.store at ∙ e, frame_same x);
    functions = λ at x e. sym (changed_cells f h v s.store at) ∙ e;
  };
}

pub open_cell : (b : Bool) (e : HeapCell) → (if b then record e { iterations = e.iterations + 1 } else e).cell ≡ e.cell
open_cell true e = refl
open_cell false e = refl

pub close_cell : (b : Bool) (e : HeapCell) → (if b then record e { iterations = e.iterations - 1 } else e).cell ≡ e.cell
close_cell true e = refl
close_cell false e = refl

pub keeps_iterate : (w : Setting) (line : ℕ) (v : Value) → Keeps (iterate w line v)
unfolding iterate count_of
keeps_iterate w line v = keeps_then _ _ (keeps_seeing _ (λ s. keeps_found code.BadType line _)) (λ n. keeps_then _ _ (changing opened_in (λ e. open_cell (is_container e.cell) e) v) (λ _. keeps_give n))

pub keeps_leave : (v : Value) → Keeps (leave v)
unfolding leave
keeps_leave v = changing closed_in (λ e. close_cell (is_container e.cell) e) v
