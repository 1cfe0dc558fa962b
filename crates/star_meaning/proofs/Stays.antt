-- An action that ends well keeps the active definitions, and of each cell its kind, its open iterations and, while it
-- is being iterated, its content.
use Rattle.std.proofs.Common.{◌≡◌, ℕ, zero, suc, ◌+◌, ◌-◌, ◌<◌, List, [], ◌∷◌, ◌++◌, length, slice_get, slice_set, Option, Some, None, Bool, true, false, ◌&&◌, if◌then◌else◌, refl, ap, sym, ◌∙◌, arith, subst, nat_lt, nat_eq, Result, Ok, Err}
use Rattle.star_store.specs.declared.values.Value.{Value}
use Rattle.star_store.specs.declared.values.Value.TheVariants as value
use Rattle.star_store.specs.declared.values.Cell.{Cell}
use Rattle.star_store.specs.declared.values.Cell.TheVariants as cell
use Rattle.star_store.specs.declared.values.Frame.{Frame}
use Rattle.star_store.specs.declared.values.HeapCell.{HeapCell}
use Rattle.star_store.specs.declared.values.Function.{Function}
use Rattle.star_store.specs.declared.arena.write.Change.{Change}
use Rattle.star_store.specs.declared.fault.StoreFault.{StoreFault}
use Rattle.star_store.specs.Store.{Store, Shelf, look, changed, changed_at, bound, bound_cell, opened, opened_in, closed, closed_in, is_container, iterations_in, iterations_of}
use Rattle.star_store.specs.Spend.{Spend, Spent, Enough, Lacks}
use Rattle.star_store.specs.Write.{allowed, made_if, in_store, in_cell, change_cell, change_items, change_entries}
use Rattle.star_meaning.specs.declared.fault.FaultCode.{FaultCode}
use Rattle.star_meaning.specs.declared.fault.FaultCode.TheVariants as code
use Rattle.star_meaning.specs.declared.said.Said.{Said}
use Rattle.star_meaning.specs.Run.{State, Outcome, Done, Failed, Action, and_then, ◌>>=◌, give, fail, pay, found, settled, visiting, seeing, storing, make, build, add_said}
use Rattle.star_meaning.specs.Program.{Setting}
use Rattle.star_meaning.specs.Values.{written, change, iterate, leave, count_of, count_in, content}
use Rattle.std.proofs.lemmas.Bool.{and_parts, eqb-true}
use Rattle.star_store.specs.declared.fault.StoreFault.TheVariants as refused
use Rattle.star_meaning.specs.Laws.{KeepsFrame, KeepsKind, KeepsCell}
use Rattle.star_meaning.specs.Calls.{activate, deactivate, rest_of}
use Rattle.star_meaning.proofs.Through.{Through, through_then}

kind_same : (c : Cell) → KeepsKind c c
kind_same (cell.List xs) = (xs, refl)
kind_same (cell.Dict es) = (es, refl)
kind_same (cell.Set es) = (es, refl)
kind_same (cell.Frame f) = (f, refl, record { file = refl; block = refl; parent = refl; slots = refl })
kind_same _ = refl

kind_on : (a b c : Cell) → KeepsKind a b → KeepsKind b c → KeepsKind a c
kind_on (cell.List xs) b c h k = subst (λ z. KeepsKind z c) h.1 k
kind_on (cell.Dict es) b c h k = subst (λ z. KeepsKind z c) h.1 k
kind_on (cell.Set es) b c h k = subst (λ z. KeepsKind z c) h.1 k
kind_on (cell.Frame f) b c h k =
    let m : (g : Frame) × (c ≡ cell.Frame g) × KeepsFrame h.0 g = subst (λ z. KeepsKind z c) h.1 k in
    (m.0, m.1, record { file = m.2.file ∙ h.2.file; block = m.2.block ∙ h.2.block; parent = m.2.parent ∙ h.2.parent; slots = m.2.slots ∙ h.2.slots })
kind_on a b c h k = subst (λ z. KeepsKind z c) h k

pub kind_container : (a b : Cell) → KeepsKind a b → is_container b ≡ is_container a
kind_container (cell.List xs) b h = ap is_container h.1
kind_container (cell.Dict es) b h = ap is_container h.1
kind_container (cell.Set es) b h = ap is_container h.1
kind_container (cell.Frame f) b h = ap is_container h.1
kind_container a b h = ap is_container h

cell_same : (a : HeapCell) → KeepsCell a a
cell_same a = record { kind = kind_same a.cell; iterations = refl; held = λ i. refl }

same_count : (a b : HeapCell) → b.cell ≡ a.cell → b.iterations ≡ a.iterations → iterations_in (Some a) ≡ iterations_in (Some b)
same_count a b e i = rw (e, i) refl

cell_on : (a b c : HeapCell) → KeepsCell a b → KeepsCell b c → KeepsCell a c
cell_on a b c h k = record {
  kind = kind_on a.cell b.cell c.cell h.kind k.kind;
  iterations = k.iterations ∙ h.iterations;
  held = λ i. k.held (subst (λ n. 0 < n) (same_count a b (h.held i) h.iterations) i) ∙ h.held i;
}

-- the parts of its state that a run keeps; on a cell that is new after it no iteration is open
pub record Stays (s t : State) : Type 0 where
  pub home : t.store.home ≡ s.store.home
  pub cells : (at : ℕ) (a : HeapCell) → slice_get s.store.cells at ≡ Some a → (b : HeapCell) × (slice_get t.store.cells at ≡ Some b) × KeepsCell a b
  pub fresh : (at : ℕ) (b : HeapCell) → slice_get s.store.cells at ≡ None → slice_get t.store.cells at ≡ Some b → b.iterations ≡ 0
  pub active : t.active ≡ s.active

abbrev pub Preserved : {A : Type 0} → State → Outcome A → Type 0
Preserved s o = Through Stays s o

pub record Keeps {A : Type 0} (m : Action A) : Type 0 where
  pub holds : (s : State) → Preserved s (m s)

none_there : (o : Option HeapCell) (b : HeapCell) → o ≡ None → o ≡ Some b → b.iterations ≡ 0
none_there None b h k = cc
none_there (Some a) b h k = cc

pub stays_same : (s : State) (steps : ℕ) (lines : List Said) → Stays s (record { store = s.store; active = s.active; steps = steps; lines = lines })
stays_same s steps lines = record { home = refl; cells = λ at a h. (a, h, cell_same a); fresh = λ at b h k. none_there _ b h k; active = refl }

fresh_on : (s t u : State) → Stays s t → Stays t u → (at : ℕ) (c : HeapCell) (o : Option HeapCell) → slice_get t.store.cells at ≡ o → slice_get s.store.cells at ≡ None → slice_get u.store.cells at ≡ Some c → c.iterations ≡ 0
fresh_on s t u h k at c None e n l = k.fresh at c e l
fresh_on s t u h k at c (Some b) e n l = let d = k.cells at b e in let same : Some d.0 ≡ Some c = sym d.1 ∙ l in let one : d.0 ≡ c = cc in subst (λ z. z.iterations ≡ 0) one (d.2.iterations ∙ h.fresh at b n e)

pub stays_on : (s t u : State) → Stays s t → Stays t u → Stays s u
stays_on s t u h k = record {
  home = k.home ∙ h.home;
  cells = λ at a e. let b = h.cells at a e in let c = k.cells at b.0 b.1 in (c.0, c.1, cell_on a b.0 c.0 b.2 c.2);
  fresh = λ at c n l. fresh_on s t u h k at c (slice_get t.store.cells at) refl n l;
  active = k.active ∙ h.active;
}

pub keeps_then : {A B : Type 0} (m : Action A) (f : A → Action B) → Keeps m → ((x : A) → Keeps (f x)) → Keeps (m >>= f)
keeps_then m f k l = record { holds = λ s. through_then Stays stays_on s (m s) f (k.holds s) (λ x u. (l x).holds u) }

pub keeps_give : {A : Type 0} (x : A) → Keeps (give x)
keeps_give x = record { holds = λ s. stays_same s s.steps s.lines }

pub keeps_fail : (A : Type 0) (c : FaultCode) (line : ℕ) → Keeps (fail {A = A} c line)
keeps_fail A c line = record { holds = λ s. tt }

paid : (b : Bool) (line n : ℕ) (s : State) → Preserved {A = Unit {0}} s (if b then fail code.Steps line s else Done tt (record s { steps = s.steps - n }))
paid true line n s = tt
paid false line n s = stays_same s (s.steps - n) s.lines

pub keeps_pay : (line n : ℕ) → Keeps (pay line n)
unfolding pay
keeps_pay line n = record { holds = λ s. paid (nat_lt s.steps n) line n s }

pub keeps_seeing : {A : Type 0} (f : State → Action A) → ((s : State) → Keeps (f s)) → Keeps (seeing f)
keeps_seeing f k = record { holds = λ s. (k s).holds s }

get_more : (xs ys : List HeapCell) (at : ℕ) (a : HeapCell) → slice_get xs at ≡ Some a → slice_get (xs ++ ys) at ≡ Some a
get_more [] ys at a h = cc
get_more (x ∷ xs) ys zero a h = h
get_more (x ∷ xs) ys (suc at) a h = get_more xs ys at a h

get_last : (xs : List HeapCell) (x b : HeapCell) (at : ℕ) → slice_get xs at ≡ None → slice_get (xs ++ x ∷ []) at ≡ Some b → x ≡ b
get_last [] x b zero h k = cc
get_last [] x b (suc at) h k = cc
get_last (y ∷ ys) x b zero h k = cc
get_last (y ∷ ys) x b (suc at) h k = get_last ys x b at h k

pub keeps_make : (c : Cell) → Keeps (make c)
unfolding make
keeps_make c = record {
  holds = λ s. record {
    home = refl;
    cells = λ at a h. (a, get_more s.store.cells _ at a h, cell_same a);
    fresh = λ at b h k. ap (λ z. z.iterations) (sym (get_last s.store.cells _ b at h k));
    active = refl;
  };
}

pub keeps_build : (line cost : ℕ) (c : Cell) → Keeps (build line cost c)
unfolding build
keeps_build line cost c = keeps_then _ _ (keeps_pay line cost) (λ _. keeps_make c)

settled_stays : {A : Type 0} (line : ℕ) (s : State) (o : Spent A) → Preserved s (settled line o s)
settled_stays line s (Enough x left) = stays_same s left s.lines
settled_stays line s (Lacks f left) = tt

pub keeps_visiting : {A : Type 0} (line : ℕ) (f : State → Spend A) → Keeps (visiting line f)
keeps_visiting line f = record { holds = λ s. settled_stays line s (f s s.steps) }

pub keeps_add_said : (x : Said) → Keeps (add_said x)
unfolding add_said
keeps_add_said x = record { holds = λ s. stays_same s s.steps (s.lines ++ x ∷ []) }

-- whether two places are one
abbrev pub one_place : ℕ → ℕ → Bool
one_place zero zero = true
one_place zero (suc n) = false
one_place (suc m) zero = false
one_place (suc m) (suc n) = one_place m n

get_changed : (f : HeapCell → HeapCell) (xs : List HeapCell) (i at : ℕ) (a : HeapCell) → slice_get xs at ≡ Some a → slice_get (changed_at f xs i) at ≡ Some (if one_place i at then f a else a)
get_changed f [] i at a h = cc
get_changed f (x ∷ xs) zero zero a h = let e : x ≡ a = cc in ap (λ z. Some (f z)) e
get_changed f (x ∷ xs) zero (suc at) a h = h
get_changed f (x ∷ xs) (suc i) zero a h = h
get_changed f (x ∷ xs) (suc i) (suc at) a h = get_changed f xs i at a h

-- whether a value leads to a place of a module
abbrev pub is_at : Value → ℕ → ℕ → Bool
is_at (value.Ref h i) home at = nat_eq h home && one_place i at
is_at _ home at = false

get_own : (b : Bool) (f : HeapCell → HeapCell) (s : Store) (i at : ℕ) (a : HeapCell) → slice_get s.cells at ≡ Some a → slice_get ((if b then record s { cells = changed_at f s.cells i } else s).cells) at ≡ Some (if b && one_place i at then f a else a)
get_own true f s i at a h = get_changed f s.cells i at a h
get_own false f s i at a h = h

pub get_in_changed : (f : HeapCell → HeapCell) (v : Value) (s : Store) (at : ℕ) (a : HeapCell) → slice_get s.cells at ≡ Some a → slice_get (changed f v s).cells at ≡ Some (if is_at v s.home at then f a else a)
get_in_changed f (value.Ref home i) s at a h = get_own (nat_eq home s.home) f s i at a h
get_in_changed f _ s at a h = h

none_changed : (f : HeapCell → HeapCell) (xs : List HeapCell) (i at : ℕ) → slice_get xs at ≡ None → slice_get (changed_at f xs i) at ≡ None
none_changed f [] i at h = h
none_changed f (x ∷ xs) zero zero h = cc
none_changed f (x ∷ xs) zero (suc at) h = h
none_changed f (x ∷ xs) (suc i) zero h = h
none_changed f (x ∷ xs) (suc i) (suc at) h = none_changed f xs i at h

none_own : (b : Bool) (f : HeapCell → HeapCell) (s : Store) (i at : ℕ) → slice_get s.cells at ≡ None → slice_get ((if b then record s { cells = changed_at f s.cells i } else s).cells) at ≡ None
none_own true f s i at h = none_changed f s.cells i at h
none_own false f s i at h = h

pub none_in_changed : (f : HeapCell → HeapCell) (v : Value) (s : Store) (at : ℕ) → slice_get s.cells at ≡ None → slice_get (changed f v s).cells at ≡ None
none_in_changed f (value.Ref home i) s at h = none_own (nat_eq home s.home) f s i at h
none_in_changed f _ s at h = h

-- a cell with no open iteration has none after a change that keeps it
zero_or : (b : Bool) (f : HeapCell → HeapCell) (a : HeapCell) → ((e : HeapCell) → e.iterations ≡ 0 → (f e).iterations ≡ 0) → a.iterations ≡ 0 → (if b then f a else a).iterations ≡ 0
zero_or true f a k h = k a h
zero_or false f a k h = h

zero_at : (f : HeapCell → HeapCell) (v : Value) (s : Store) (at : ℕ) (b : HeapCell) (o : Option HeapCell) → slice_get s.cells at ≡ o → ((e : HeapCell) → e.iterations ≡ 0 → (f e).iterations ≡ 0) → ((a : HeapCell) → o ≡ Some a → a.iterations ≡ 0) → slice_get (changed f v s).cells at ≡ Some b → b.iterations ≡ 0
zero_at f v s at b None e k h l = none_there _ b (none_in_changed f v s at e) l
zero_at f v s at b (Some a) e k h l =
    let same : Some (if is_at v s.home at then f a else a) ≡ Some b = sym (get_in_changed f v s at a e) ∙ l in
    let one : (if is_at v s.home at then f a else a) ≡ b = cc in
    subst (λ z. z.iterations ≡ 0) one (zero_or (is_at v s.home at) f a k (h a refl))

zero_changed : (f : HeapCell → HeapCell) (v : Value) (s : Store) (at : ℕ) (b : HeapCell) → ((e : HeapCell) → e.iterations ≡ 0 → (f e).iterations ≡ 0) → ((a : HeapCell) → slice_get s.cells at ≡ Some a → a.iterations ≡ 0) → slice_get (changed f v s).cells at ≡ Some b → b.iterations ≡ 0
zero_changed f v s at b k h l = zero_at f v s at b (slice_get s.cells at) refl k h l

own_home : (b : Bool) (s : Store) (cells : List HeapCell) → (if b then record s { cells = cells } else s).home ≡ s.home
own_home true s cells = refl
own_home false s cells = refl

pub changed_home : (f : HeapCell → HeapCell) (v : Value) (s : Store) → (changed f v s).home ≡ s.home
changed_home f (value.Ref home at) s = own_home (nat_eq home s.home) s _
changed_home f _ s = refl

choice_stays : (b : Bool) (f : HeapCell → HeapCell) (a : HeapCell) → KeepsCell a (f a) → KeepsCell a (if b then f a else a)
choice_stays true f a h = h
choice_stays false f a h = cell_same a

length_set : {A : Type 0} (xs : List A) (i : ℕ) (x : A) → length (slice_set xs i x) ≡ length xs
length_set [] i x = refl
length_set (y ∷ ys) zero x = refl
length_set (y ∷ ys) (suc i) x = ap suc (length_set ys i x)

bound_stays : (slot : ℕ) (v : Value) (n : ℕ) (c : Cell) → KeepsCell (record { iterations = n; cell = c }) (record { iterations = n; cell = bound_cell slot v c })
bound_stays slot v n (cell.Frame f) = record { kind = (record f { slots = slice_set f.slots slot (Some v) }, refl, record { file = refl; block = refl; parent = refl; slots = length_set f.slots slot (Some v) }); iterations = refl; held = λ i. absurd (omega (arith, i)) }
bound_stays slot v n c = cell_same (record { iterations = n; cell = c })

pub keeps_bound : (frame : Value) (slot : ℕ) (v : Value) → Keeps (storing (bound frame slot v))
keeps_bound frame slot v = record {
  holds = λ s. record {
    home = changed_home _ frame s.store;
    cells = λ at a h. (if is_at frame s.store.home at then record a { cell = bound_cell slot v a.cell } else a, get_in_changed _ frame s.store at a h, choice_stays (is_at frame s.store.home at) (λ e. record e { cell = bound_cell slot v e.cell }) a (bound_stays slot v a.iterations a.cell));
    fresh = λ at b h k. none_there _ b (none_in_changed _ frame s.store at h) k;
    active = refl;
  };
}

-- a write keeps the kind of its cell, and is made only if no iteration is open
list_kind : (o : Result (Option Value × List Value) StoreFault) (r : Option Value × Cell) → in_cell cell.List o ≡ Ok r → (ys : List Value) × (r.1 ≡ cell.List ys)
list_kind (Ok q) r h = (q.1, let e : (q.0, cell.List q.1) ≡ r = cc in ap (λ (z : Option Value × Cell). z.1) (sym e))
list_kind (Err f) r h = cc

dict_kind : (o : Result (Option Value × List (Value × Value)) StoreFault) (r : Option Value × Cell) → in_cell cell.Dict o ≡ Ok r → (es : List (Value × Value)) × (r.1 ≡ cell.Dict es)
dict_kind (Ok q) r h = (q.1, let e : (q.0, cell.Dict q.1) ≡ r = cc in ap (λ (z : Option Value × Cell). z.1) (sym e))
dict_kind (Err f) r h = cc

set_kind : (o : Result (Option Value × List (Value × Value)) StoreFault) (r : Option Value × Cell) → in_cell cell.Set o ≡ Ok r → (es : List (Value × Value)) × (r.1 ≡ cell.Set es)
set_kind (Ok q) r h = (q.1, let e : (q.0, cell.Set q.1) ≡ r = cc in ap (λ (z : Option Value × Cell). z.1) (sym e))
set_kind (Err f) r h = cc

change_kind : (c : Change) (place : Option ℕ) (d : Cell) (r : Option Value × Cell) → change_cell c place (Some d) ≡ Ok r → KeepsKind d r.1
change_kind c place (cell.List xs) r h = list_kind (change_items c xs) r h
change_kind c place (cell.Dict es) r h = dict_kind (change_entries c place es) r h
change_kind c place (cell.Set es) r h = set_kind (change_entries c place es) r h
change_kind c place _ r h = cc

none_open : (b1 b2 b3 b4 : Bool) (u : Unit {0}) → (if b1 then (if b2 then (if b3 then (if b4 then Ok tt else Err refused.BadType) else Err refused.Iterating) else Err refused.Frozen) else Err refused.BadType) ≡ Ok u → b3 ≡ true
none_open true true true b4 u h = refl
none_open true true false b4 u h = cc
none_open true false b3 b4 u h = cc
none_open false b2 b3 b4 u h = cc

pub same_place : (m n : ℕ) → one_place m n ≡ true → m ≡ n
same_place zero zero h = refl
same_place zero (suc n) h = cc
same_place (suc m) zero h = cc
same_place (suc m) (suc n) h = ap suc (same_place m n h)

looked : (s : Store) (shelf : Shelf) (v : Value) (at : ℕ) (a : HeapCell) → slice_get s.cells at ≡ Some a → is_at v s.home at ≡ true → (look s shelf v ≡ Some a.cell) × (iterations_of s v ≡ iterations_in (Some a))
looked s shelf (value.Ref home i) at a h e =
    let own : nat_eq home s.home ≡ true = (and_parts (nat_eq home s.home) (one_place i at) e).0 in
    let place : i ≡ at = same_place i at (and_parts (nat_eq home s.home) (one_place i at) e).1 in
    (rw own (rw place (rw h refl)), rw own (rw place (rw h refl)))
looked s shelf _ at a h e = cc

choice_if : (b : Bool) (f : HeapCell → HeapCell) (a : HeapCell) → (b ≡ true → KeepsCell a (f a)) → KeepsCell a (if b then f a else a)
choice_if true f a h = h refl
choice_if false f a h = cell_same a

made_stays : (p : Result (Unit {0}) StoreFault) (d : Result (Option Value × Cell) StoreFault) (v : Value) (line : ℕ) (s : State)
    → ((u : Unit {0}) (r : Option Value × Cell) (at : ℕ) (a : HeapCell) → p ≡ Ok u → d ≡ Ok r → slice_get s.store.cells at ≡ Some a → is_at v s.store.home at ≡ true → KeepsCell a (record a { cell = r.1 }))
    → Preserved s (written line (made_if p (in_store v s.store d)) s)
made_stays (Ok u) (Ok r) v line s ok = record {
  home = changed_home _ v s.store;
  cells = λ at a h. (if is_at v s.store.home at then record a { cell = r.1 } else a, get_in_changed (λ e. record e { cell = r.1 }) v s.store at a h, choice_if (is_at v s.store.home at) (λ e. record e { cell = r.1 }) a (λ e. ok u r at a refl refl h e));
  fresh = λ at b h k. none_there _ b (none_in_changed _ v s.store at h) k;
  active = refl;
}
made_stays (Ok u) (Err f) v line s ok = tt
made_stays (Err f) d v line s ok = tt

not_below : (n : ℕ) → 0 < n → n ≡ 0 → ⊥
not_below n h e = omega (arith, h, e)

write_stays : (w : Setting) (line : ℕ) (v : Value) (c : Change) (s : State) (place : Option ℕ) → Preserved s (written line (made_if (allowed s.store w.shelf v c) (in_store v s.store (change_cell c place (look s.store w.shelf v)))) s)
write_stays w line v c s place = made_stays (allowed s.store w.shelf v c) (change_cell c place (look s.store w.shelf v)) v line s (λ u r at a p d h e.
    let l = looked s.store w.shelf v at a h e in
    let none_is_open : nat_eq (iterations_of s.store v) 0 ≡ true = none_open _ _ _ _ u p in
    let none : iterations_of s.store v ≡ 0 = eqb-true (iterations_of s.store v) 0 none_is_open in
    let made : change_cell c place (Some a.cell) ≡ Ok r = subst (λ o. change_cell c place o ≡ Ok r) l.0 d in
    record { kind = change_kind c place a.cell r made; iterations = refl; held = λ i. absurd (not_below (iterations_in (Some a)) i (sym l.1 ∙ none)) })

pub keeps_change : (w : Setting) (line : ℕ) (v : Value) (c : Change) → Keeps (change w line v c)
unfolding change
keeps_change w line v c = record { holds = λ s. write_stays w line v c s _ }

-- an iteration that is opened and closed again
open_kind : (x : Bool) (a : HeapCell) (d : Cell) → KeepsKind ((if x then record a { iterations = a.iterations + 1 } else a).cell) d → KeepsKind a.cell d
open_kind true a d h = h
open_kind false a d h = h

close_by : (x : Bool) (a b : HeapCell) → is_container a.cell ≡ x → KeepsCell (if x then record a { iterations = a.iterations + 1 } else a) b → KeepsCell a (if x then record b { iterations = b.iterations - 1 } else b)
close_by true a b e h = record {
  kind = h.kind;
  iterations = omega (arith, h.iterations);
  held = λ i. h.held (let c : (if is_container a.cell then a.iterations + 1 else 0) ≡ a.iterations + 1 = rw e refl in omega (arith, c));
}
close_by false a b e h = h

closing : (x : Bool) (a b : HeapCell) → KeepsCell (if x then opened_in a else a) b → KeepsCell a (if x then closed_in b else b)
closing true a b h =
    let k : is_container b.cell ≡ is_container a.cell = kind_container a.cell b.cell (open_kind (is_container a.cell) a b.cell h.kind) in
    subst (λ x. KeepsCell a (if x then record b { iterations = b.iterations - 1 } else b)) (sym k) (close_by (is_container a.cell) a b refl h)
closing false a b h = h

closed_zero : (e : HeapCell) → e.iterations ≡ 0 → (closed_in e).iterations ≡ 0
closed_zero e h = by_kind (is_container e.cell)
  where
    by_kind : (x : Bool) → (if x then record e { iterations = e.iterations - 1 } else e).iterations ≡ 0
    by_kind true = omega (arith, h)
    by_kind false = h

between_stays : (v : Value) (s u : State) → Stays (record s { store = opened v s.store }) u → Stays s (record u { store = closed v u.store })
between_stays v s u k = record {
  home = changed_home _ v u.store ∙ k.home ∙ changed_home _ v s.store;
  cells = λ at a h.
      let b = k.cells at _ (get_in_changed opened_in v s.store at a h) in
      let e : s.store.home ≡ u.store.home = sym (k.home ∙ changed_home _ v s.store) in
      (if is_at v u.store.home at then closed_in b.0 else b.0, get_in_changed closed_in v u.store at b.0 b.1, subst (λ home. KeepsCell a (if is_at v home at then closed_in b.0 else b.0)) e (closing (is_at v s.store.home at) a b.0 b.2));
  fresh = λ at b h l. zero_changed closed_in v u.store at b closed_zero (λ a e. k.fresh at a (none_in_changed opened_in v s.store at h) e) l;
  active = k.active;
}

over_stays : {A : Type 0} (v : Value) (s : State) (o : Outcome A) → Preserved (record s { store = opened v s.store }) o → Preserved s (and_then o (λ x. storing (closed v)))
over_stays v s (Done x u) h = between_stays v s u h
over_stays v s (Failed f lines) h = tt

loop_stays : {A : Type 0} (v : Value) (s : State) (o : Outcome A) → Preserved (record s { store = opened v s.store }) o → Preserved s (and_then o (λ x. storing (closed v) >>= λ _. give x))
loop_stays v s (Done x u) h = between_stays v s u h
loop_stays v s (Failed f lines) h = tt

over_counted : {A : Type 0} (line : ℕ) (v : Value) (s : State) (o : Option ℕ) (m : ℕ → Action A) → ((n : ℕ) → Keeps (m n)) → Preserved s (and_then (and_then (found code.BadType line o s) (λ n. storing (opened v) >>= λ _. give n)) (λ n. m n >>= λ x. storing (closed v)))
over_counted line v s None m k = tt
over_counted line v s (Some n) m k = over_stays v s (m n _) ((k n).holds _)

loop_counted : {A : Type 0} (line : ℕ) (v : Value) (s : State) (o : Option ℕ) (m : ℕ → Action A) → ((n : ℕ) → Keeps (m n)) → Preserved s (and_then (and_then (found code.BadType line o s) (λ n. storing (opened v) >>= λ _. give n)) (λ n. m n >>= λ x. storing (closed v) >>= λ _. give x))
loop_counted line v s None m k = tt
loop_counted line v s (Some n) m k = loop_stays v s (m n _) ((k n).holds _)

pub keeps_while : {A : Type 0} (w : Setting) (line : ℕ) (v : Value) (m : ℕ → Action A) → ((n : ℕ) → Keeps (m n)) → Keeps (iterate w line v >>= λ n. m n >>= λ x. leave v)
unfolding iterate leave count_of
keeps_while w line v m k = record { holds = λ s. over_counted line v s (count_in (content w s v)) m k }

pub keeps_looping : {A : Type 0} (w : Setting) (line : ℕ) (v : Value) (m : ℕ → Action A) → ((n : ℕ) → Keeps (m n)) → Keeps (iterate w line v >>= λ n. m n >>= λ x. leave v >>= λ _. give x)
unfolding iterate leave count_of
keeps_looping w line v m k = record { holds = λ s. loop_counted line v s (count_in (content w s v)) m k }

-- a definition that becomes active and ceases to be
active_stays : {A : Type 0} (f : Function) (s : State) (o : Outcome A) → Preserved (record s { active = (f.file, f.definition) ∷ s.active }) o → Preserved s (and_then o (λ x u. Done x (record u { active = rest_of u.active })))
active_stays f s (Done x u) h = record { home = h.home; cells = h.cells; fresh = h.fresh; active = ap rest_of h.active }
active_stays f s (Failed e lines) h = tt

pub keeps_active : {A : Type 0} (f : Function) (m : Action A) → Keeps m → Keeps (activate f >>= λ _. m >>= λ v. deactivate >>= λ _. give v)
unfolding activate deactivate
keeps_active f m k = record { holds = λ s. active_stays f s (m (record s { active = (f.file, f.definition) ∷ s.active })) (k.holds _) }
