-- Pairs of actions, over a run's own shelf and over the other one, that do the same in every visible state. The state is
-- visible after them, and so is the answer.
use Rattle.std.proofs.Common.{◌≡◌, ℕ, zero, suc, ◌+◌, ◌-◌, List, [], ◌∷◌, length, Option, Some, None, Bool, true, false, if◌then◌else◌, nat_lt, nat_eq, Result, Ok, Err, refl, ap, sym, subst, ◌∙◌}
use Rattle.star_store.specs.declared.values.Value.{Value}
use Rattle.star_store.specs.declared.values.Value.TheVariants as value
use Rattle.star_store.specs.declared.values.Cell.{Cell}
use Rattle.star_store.specs.declared.values.Cell.TheVariants as cell
use Rattle.star_store.specs.declared.values.HeapCell.{HeapCell}
use Rattle.star_store.specs.declared.values.Function.{Function}
use Rattle.star_store.specs.declared.fault.StoreFault.{StoreFault}
use Rattle.star_store.specs.Store.{bound, bound_cell, changed, changed_at, closed_in, is_container, opened, opened_in}
use Rattle.star_store.specs.Spend.{Spend, Spent, Enough, Lacks}
use Rattle.star_meaning.specs.declared.fault.FaultCode.{FaultCode}
use Rattle.star_meaning.specs.declared.fault.FaultCode.TheVariants as code
use Rattle.star_meaning.specs.declared.site.Flow.{Flow}
use Rattle.star_meaning.specs.declared.site.Flow.TheVariants as flow
use Rattle.star_meaning.specs.declared.said.Said.{Said}
use Rattle.star_meaning.specs.Run.{State, Outcome, Done, Failed, Action, and_then, ◌>>=◌, give, fail, pay, check, found, code_of, agreed, settled, visiting, seeing, storing, make, build, each, all_of, collect, until, add_said}
use Rattle.star_meaning.specs.Program.{Setting}
use Rattle.star_meaning.specs.Values.{Content, content, with_content, leave}
use Rattle.star_meaning.specs.Semantics.{block, then_go, then_turn, turns, repeat}
use Rattle.star_meaning.specs.Calls.{activate, deactivate}
use Rattle.star_unseen.specs.Veil.{CellIsVisible, CellsAreVisible, Every, Hides, IsVisible, Maybe, VisibleIfThere, StateIsVisible}
use Rattle.star_unseen.specs.Shelves.{Veil, with_other}
use Rattle.star_unseen.proofs.Looks.{ContentIsVisible, visible_content, same_content}
use Rattle.star_unseen.proofs.Rows.{every_append, every_set}

-- an answer of which nothing is said
abbrev pub Any : {A : Type 0} → A → Type 0
Any x = Unit {0}

-- after an end: a visible state, and an answer with the property
abbrev pub Ends : {A : Type 0} → Hides → ℕ → (A → Type 0) → Outcome A → Type 0
Ends hides home P (Done x t) = P x × StateIsVisible hides home t
Ends hides home P (Failed f lines) = Unit {0}

pub record Alike {A : Type 0} {w : Setting} (k : Veil w) (P : A → Type 0) (m n : Action A) : Type 0 where
  pub holds : (s : State) → StateIsVisible k.hides w.home s → (m s ≡ n s) × Ends k.hides w.home P (m s)

-- ---- joining

ends_then : {A B : Type 0} {w : Setting} (k : Veil w) (P : A → Type 0) (Q : B → Type 0) (o : Outcome A) (f g : A → Action B) → Ends k.hides w.home P o → ((x : A) → P x → Alike k Q (f x) (g x))
    → (and_then o f ≡ and_then o g) × Ends k.hides w.home Q (and_then o f)
ends_then k P Q (Done x t) f g h l = (l x h.0).holds t h.1
ends_then k P Q (Failed e lines) f g h l = (refl, tt)

pub alike_then : {A B : Type 0} {w : Setting} {k : Veil w} {P : A → Type 0} {Q : B → Type 0} {m n : Action A} {f g : A → Action B}
    → Alike k P m n → ((x : A) → P x → Alike k Q (f x) (g x)) → Alike k Q (m >>= f) (n >>= g)
alike_then {k = k} {P = P} {Q = Q} {m = m} {n = n} {f = f} {g = g} h l = record {
  holds = λ s c.
      let r = h.holds s c in
      let q = ends_then k P Q (m s) f g r.1 l in
      (q.0 ∙ ap (λ o. and_then o g) r.0, q.1);
}

-- .. after which the answer is known to be that of the state
pub alike_give : {A : Type 0} {w : Setting} {k : Veil w} (P : A → Type 0) (x : A) → P x → Alike k P (give x) (give x)
alike_give P x h = record { holds = λ s c. (refl, (h, c)) }

pub alike_fail : {w : Setting} {k : Veil w} (A : Type 0) (P : A → Type 0) (c : FaultCode) (line : ℕ) → Alike k P (fail {A = A} c line) (fail c line)
alike_fail A P c line = record { holds = λ s c. (refl, tt) }

weaker : {A : Type 0} {w : Setting} (k : Veil w) (P Q : A → Type 0) → ((x : A) → P x → Q x) → (o : Outcome A) → Ends k.hides w.home P o → Ends k.hides w.home Q o
weaker k P Q f (Done x t) h = (f x h.0, h.1)
weaker k P Q f (Failed e lines) h = tt

-- an answer with a weaker property
pub alike_weaker : {A : Type 0} {w : Setting} {k : Veil w} {P : A → Type 0} (Q : A → Type 0) {m n : Action A} → ((x : A) → P x → Q x) → Alike k P m n → Alike k Q m n
alike_weaker {k = k} {P = P} Q {m = m} f h = record { holds = λ s c. let r = h.holds s c in (r.0, weaker k P Q f (m s) r.1) }

pub alike_any : {A : Type 0} {w : Setting} {k : Veil w} {P : A → Type 0} {m n : Action A} → Alike k P m n → Alike k Any m n
alike_any h = alike_weaker Any (λ x p. tt) h

pub alike_if : {A : Type 0} {w : Setting} {k : Veil w} (P : A → Type 0) (b : Bool) (m m' n n' : Action A) → Alike k P m m' → Alike k P n n' → Alike k P (if b then m else n) (if b then m' else n')
alike_if P true m m' n n' h l = h
alike_if P false m m' n n' h l = l

pub alike_found : {A : Type 0} {w : Setting} {k : Veil w} (P : A → Type 0) (c : FaultCode) (line : ℕ) (o : Option A) → Maybe P o → Alike k P (found c line o) (found c line o)
alike_found {A = A} P c line None h = alike_fail A P c line
alike_found P c line (Some x) h = alike_give P x h

-- .. where what is found is the same over both shelves
pub alike_finds : {A : Type 0} {w : Setting} {k : Veil w} (P : A → Type 0) (c : FaultCode) (line : ℕ) (o p : Option A) → o ≡ p → Maybe P o → Alike k P (found c line o) (found c line p)
alike_finds {k = k} P c line o p e h = subst (λ q. Alike k P (found c line o) (found c line q)) e (alike_found P c line o h)

paid : {w : Setting} (k : Veil w) (b : Bool) (line n : ℕ) (s : State) → StateIsVisible k.hides w.home s → Ends {A = Unit {0}} k.hides w.home Any (if b then fail code.Steps line s else Done tt (record s { steps = s.steps - n }))
paid k true line n s c = tt
paid k false line n s c = (tt, record { home_is = c.home_is; cells = c.cells })

pub alike_pay : {w : Setting} {k : Veil w} (line n : ℕ) → Alike k Any (pay line n) (pay line n)
unfolding pay
alike_pay {k = k} line n = record { holds = λ s c. (refl, paid k (nat_lt s.steps n) line n s c) }

pub alike_check : {w : Setting} {k : Veil w} (c : FaultCode) (line : ℕ) (b : Bool) → Alike k Any (check c line b) (check c line b)
alike_check c line b = alike_if Any b _ _ _ _ (alike_give {A = Unit {0}} Any tt tt) (alike_fail (Unit {0}) Any c line)

pub alike_agreed : {A : Type 0} {w : Setting} {k : Veil w} (P : A → Type 0) (line : ℕ) (r : Result A StoreFault) → ((x : A) → r ≡ Ok x → P x) → Alike k P (agreed line r) (agreed line r)
alike_agreed P line (Ok x) h = alike_give P x (h x refl)
alike_agreed {A = A} P line (Err f) h = alike_fail A P (code_of f) line

-- an action that depends on the state
pub alike_seeing : {A : Type 0} {w : Setting} {k : Veil w} (P : A → Type 0) (f g : State → Action A) → ((s : State) → StateIsVisible k.hides w.home s → Alike k P (f s) (g s)) → Alike k P (seeing f) (seeing g)
alike_seeing P f g h = record { holds = λ s c. (h s c).holds s c }

-- .. or on the content of a visible value
pub alike_content : {A : Type 0} {w : Setting} {k : Veil w} (P : A → Type 0) (v : Value) (f g : Content → Action A) → IsVisible k.hides v → ((c : Content) → ContentIsVisible k.hides c → Alike k P (f c) (g c))
    → Alike k P (with_content w v f) (with_content (with_other k.other w) v g)
alike_content {w = w} {k = k} P v f g h l = alike_seeing P _ _ (λ s c. subst (λ x. Alike k P (f (content w s v)) (g x)) (same_content k s v h) (l (content w s v) (visible_content k s v c h)))

ends_settled : {A : Type 0} {w : Setting} (k : Veil w) (line : ℕ) (s : State) (o : Spent A) → StateIsVisible k.hides w.home s → Ends k.hides w.home Any (settled line o s)
ends_settled k line s (Enough x left) c = (tt, record { home_is = c.home_is; cells = c.cells })
ends_settled k line s (Lacks f left) c = tt

-- a visit of values
pub alike_visiting : {A : Type 0} {w : Setting} {k : Veil w} (line : ℕ) (f g : State → Spend A) → ((s : State) → StateIsVisible k.hides w.home s → f s ≡ g s) → Alike k Any (visiting line f) (visiting line g)
alike_visiting {A = A} {k = k} line f g h = record { holds = λ s c. (ap (λ (m : Spend A). settled line (m s.steps) s) (h s c), ends_settled k line s (f s s.steps) c) }

-- ---- new cells

pub alike_make : {w : Setting} {k : Veil w} (c : Cell) → CellIsVisible k.hides c → Alike k (IsVisible k.hides) (make c) (make c)
unfolding make
alike_make {w = w} {k = k} c h = record {
  holds = λ s i. (refl, (subst (λ n. k.hides.cell n (length s.store.cells) ≡ false) (sym i.home_is) (k.own (length s.store.cells)), record { home_is = i.home_is; cells = every_append _ s.store.cells _ i.cells (h, tt) }));
}

pub alike_build : {w : Setting} {k : Veil w} (line cost : ℕ) (c : Cell) → CellIsVisible k.hides c → Alike k (IsVisible k.hides) (build line cost c) (build line cost c)
unfolding build
alike_build line cost c h = alike_then (alike_pay line cost) (λ _ _. alike_make c h)

-- ---- changes of own cells

pub changed_cells : (hides : Hides) (f : HeapCell → HeapCell) → ((e : HeapCell) → CellIsVisible hides e.cell → CellIsVisible hides (f e).cell) → (cells : List HeapCell) (at : ℕ) → CellsAreVisible hides cells → CellsAreVisible hides (changed_at f cells at)
changed_cells hides f l [] at h = tt
changed_cells hides f l (e ∷ es) zero h = (l e h.0, h.1)
changed_cells hides f l (e ∷ es) (suc at) h = (h.0, changed_cells hides f l es at h.1)

changed_own : (hides : Hides) (home : ℕ) (s : State) (b : Bool) (cells : List HeapCell) → StateIsVisible hides home s → CellsAreVisible hides cells → StateIsVisible hides home (record s { store = if b then record s.store { cells = cells } else s.store })
changed_own hides home s true cells c h = record { home_is = c.home_is; cells = h }
changed_own hides home s false cells c h = record { home_is = c.home_is; cells = c.cells }

pub changed_visible : (hides : Hides) (home : ℕ) (f : HeapCell → HeapCell) → ((e : HeapCell) → CellIsVisible hides e.cell → CellIsVisible hides (f e).cell) → (v : Value) (s : State) → StateIsVisible hides home s → StateIsVisible hides home (record s { store = changed f v s.store })
changed_visible hides home f l (value.Ref h at) s c = changed_own hides home s (nat_eq h s.store.home) _ c (changed_cells hides f l s.store.cells at c.cells)
changed_visible hides home f l value.NoneValue s c = record { home_is = c.home_is; cells = c.cells }
changed_visible hides home f l (value.Bool b) s c = record { home_is = c.home_is; cells = c.cells }
changed_visible hides home f l (value.Int n) s c = record { home_is = c.home_is; cells = c.cells }
changed_visible hides home f l (value.Builtin b) s c = record { home_is = c.home_is; cells = c.cells }

alike_changing : {w : Setting} {k : Veil w} (f : HeapCell → HeapCell) → ((e : HeapCell) → CellIsVisible k.hides e.cell → CellIsVisible k.hides (f e).cell) → (v : Value) → Alike k Any (storing (changed f v)) (storing (changed f v))
alike_changing {w = w} {k = k} f l v = record { holds = λ s c. (refl, (tt, changed_visible k.hides w.home f l v s c)) }

open_visible : (hides : Hides) (b : Bool) (e f : HeapCell) → f.cell ≡ e.cell → CellIsVisible hides e.cell → CellIsVisible hides (if b then f else e).cell
open_visible hides true e f h c = subst (CellIsVisible hides) (sym h) c
open_visible hides false e f h c = c

pub alike_opened : {w : Setting} {k : Veil w} (v : Value) → Alike k Any (storing (opened v)) (storing (opened v))
alike_opened {k = k} v = alike_changing opened_in (λ e c. open_visible k.hides (is_container e.cell) e _ refl c) v

pub alike_leave : {w : Setting} {k : Veil w} (v : Value) → Alike k Any (leave v) (leave v)
unfolding leave
alike_leave {k = k} v = alike_changing closed_in (λ e c. open_visible k.hides (is_container e.cell) e _ refl c) v

bound_visible : (hides : Hides) (slot : ℕ) (v : Value) (c : Cell) → IsVisible hides v → CellIsVisible hides c → CellIsVisible hides (bound_cell slot v c)
bound_visible hides slot v (cell.Frame f) h c = (c.0, every_set (VisibleIfThere hides) f.slots slot (Some v) c.1 h, c.2)
bound_visible hides slot v (cell.Text t) h c = c
bound_visible hides slot v (cell.Range r) h c = c
bound_visible hides slot v (cell.Tuple xs) h c = c
bound_visible hides slot v (cell.List xs) h c = c
bound_visible hides slot v (cell.Dict es) h c = c
bound_visible hides slot v (cell.Set es) h c = c
bound_visible hides slot v (cell.Func f) h c = c
bound_visible hides slot v (cell.Bound m x) h c = c
bound_visible hides slot v (cell.Struct fs) h c = c

pub alike_bound : {w : Setting} {k : Veil w} (frame : Value) (slot : ℕ) (v : Value) → IsVisible k.hides v → Alike k Any (storing (bound frame slot v)) (storing (bound frame slot v))
alike_bound {k = k} frame slot v h = alike_changing (λ e. record e { cell = bound_cell slot v e.cell }) (λ e c. bound_visible k.hides slot v e.cell h c) frame

pub alike_add_said : {w : Setting} {k : Veil w} (x : Said) → Alike k Any (add_said x) (add_said x)
unfolding add_said
alike_add_said x = record { holds = λ s c. (refl, (tt, record { home_is = c.home_is; cells = c.cells })) }

pub alike_activate : {w : Setting} {k : Veil w} (f : Function) → Alike k Any (activate f) (activate f)
unfolding activate
alike_activate f = record { holds = λ s c. (refl, (tt, record { home_is = c.home_is; cells = c.cells })) }

pub alike_deactivate : {w : Setting} {k : Veil w} → Alike k Any deactivate deactivate
unfolding deactivate
alike_deactivate = record { holds = λ s c. (refl, (tt, record { home_is = c.home_is; cells = c.cells })) }

-- ---- loops

pub alike_each : {A B : Type 0} {w : Setting} {k : Veil w} (P : A → Type 0) (Q : B → Type 0) (f g : A → Action B) (xs : List A) → Every P xs → ((x : A) → P x → Alike k Q (f x) (g x)) → Alike k (Every Q) (each f xs) (each g xs)
alike_each {B = B} P Q f g [] h l = alike_give {A = List B} (Every Q) [] tt
alike_each P Q f g (x ∷ xs) h l = alike_then (l x h.0) (λ y p. alike_then (alike_each P Q f g xs h.1 l) (λ ys ps. alike_give (Every Q) (y ∷ ys) (p, ps)))

pub alike_all_of : {A : Type 0} {w : Setting} {k : Veil w} (P : A → Type 0) (f g : A → Action (Unit {0})) (xs : List A) → Every P xs → ((x : A) → P x → Alike k Any (f x) (g x)) → Alike k Any (all_of f xs) (all_of g xs)
alike_all_of P f g [] h l = alike_give {A = Unit {0}} Any tt tt
alike_all_of P f g (x ∷ xs) h l = alike_then (l x h.0) (λ _ _. alike_all_of P f g xs h.1 l)

pub alike_collect : {B : Type 0} {w : Setting} {k : Veil w} (Q : B → Type 0) (f g : ℕ → Action B) (n i : ℕ) → ((i : ℕ) → Alike k Q (f i) (g i)) → Alike k (Every Q) (collect f n i) (collect g n i)
alike_collect {B = B} Q f g zero i l = alike_give {A = List B} (Every Q) [] tt
alike_collect Q f g (suc n) i l = alike_then (l i) (λ y p. alike_then (alike_collect Q f g n (i + 1) l) (λ ys ps. alike_give (Every Q) (y ∷ ys) (p, ps)))

pub alike_until : {w : Setting} {k : Veil w} (f g : ℕ → Action Bool) (n i : ℕ) → ((i : ℕ) → Alike k Any (f i) (g i)) → Alike k Any (until f n i) (until g n i)
alike_until f g zero i l = alike_give Any false tt
alike_until f g (suc n) i l = alike_then (l i) (λ stop _. alike_if Any stop _ _ _ _ (alike_give Any true tt) (alike_until f g n (i + 1) l))

-- how statements end
abbrev pub FlowIsVisible : Hides → Flow → Type 0
FlowIsVisible hides (flow.Return v) = IsVisible hides v
FlowIsVisible hides _ = Unit {0}

alike_then_go : {w : Setting} {k : Veil w} (m n : Action Flow) (f : Flow) → FlowIsVisible k.hides f → Alike k (FlowIsVisible k.hides) m n → Alike k (FlowIsVisible k.hides) (then_go m f) (then_go n f)
alike_then_go {k = k} m n flow.Next h l = l
alike_then_go {k = k} m n flow.Break h l = alike_give (FlowIsVisible k.hides) flow.Break tt
alike_then_go {k = k} m n flow.Continue h l = alike_give (FlowIsVisible k.hides) flow.Continue tt
alike_then_go {k = k} m n (flow.Return v) h l = alike_give (FlowIsVisible k.hides) (flow.Return v) h

pub alike_block : {A : Type 0} {w : Setting} {k : Veil w} (P : A → Type 0) (f g : A → Action Flow) (xs : List A) → Every P xs → ((x : A) → P x → Alike k (FlowIsVisible k.hides) (f x) (g x)) → Alike k (FlowIsVisible k.hides) (block f xs) (block g xs)
alike_block {k = k} P f g [] h l = alike_give (FlowIsVisible k.hides) flow.Next tt
alike_block P f g (x ∷ xs) h l = alike_then (l x h.0) (λ y p. alike_then_go _ _ y p (alike_block P f g xs h.1 l))

alike_then_turn : {w : Setting} {k : Veil w} (m n : Action Flow) (f : Flow) → FlowIsVisible k.hides f → Alike k (FlowIsVisible k.hides) m n → Alike k (FlowIsVisible k.hides) (then_turn m f) (then_turn n f)
alike_then_turn {k = k} m n flow.Next h l = l
alike_then_turn {k = k} m n flow.Break h l = alike_give (FlowIsVisible k.hides) flow.Next tt
alike_then_turn {k = k} m n flow.Continue h l = l
alike_then_turn {k = k} m n (flow.Return v) h l = alike_give (FlowIsVisible k.hides) (flow.Return v) h

pub alike_turns : {w : Setting} {k : Veil w} (f g : ℕ → Action Flow) (n i : ℕ) → ((i : ℕ) → Alike k (FlowIsVisible k.hides) (f i) (g i)) → Alike k (FlowIsVisible k.hides) (turns f n i) (turns g n i)
alike_turns {k = k} f g zero i l = alike_give (FlowIsVisible k.hides) flow.Next tt
alike_turns f g (suc n) i l = alike_then (l i) (λ y p. alike_then_turn _ _ y p (alike_turns f g n (i + 1) l))

pub alike_repeat : {w : Setting} {k : Veil w} (f g : ℕ → Action (Unit {0})) (n i : ℕ) → ((i : ℕ) → Alike k Any (f i) (g i)) → Alike k Any (repeat f n i) (repeat g n i)
alike_repeat f g zero i l = alike_give {A = Unit {0}} Any tt tt
alike_repeat f g (suc n) i l = alike_then (l i) (λ _ _. alike_repeat f g n (i + 1) l)
