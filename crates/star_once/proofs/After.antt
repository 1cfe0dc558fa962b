-- The facts after an action that ends well: keys differ, strings and tuples stay, and the answer has some property.
use Rattle.std.proofs.Common.{◌≡◌, ℕ, zero, suc, ◌+◌, ◌-◌, List, [], ◌∷◌, ◌++◌, length, slice_get, Option, Some, None, Bool, true, false, if◌then◌else◌, nat_lt, nat_eq, refl, ap, subst, ◌∙◌, arith, Result, Ok, Err}
use Rattle.star_store.specs.declared.values.Value.{Value}
use Rattle.star_store.specs.declared.values.Value.TheVariants as value
use Rattle.star_store.specs.declared.values.Cell.{Cell}
use Rattle.star_store.specs.declared.values.Cell.TheVariants as cell
use Rattle.star_store.specs.declared.values.HeapCell.{HeapCell}
use Rattle.star_store.specs.declared.fault.StoreFault.{StoreFault}
use Rattle.star_store.specs.declared.fault.StoreFault.TheVariants as refused
use Rattle.star_store.specs.Key as keys
use Rattle.star_store.specs.Spend.{Enough, Lacks, Spend, Spent}
use Rattle.star_store.specs.Store.{Shelf, Store, look, made, next_value, published_cells}
use Rattle.star_store.specs.Write.{cell_at, put}
use Rattle.star_meaning.specs.declared.fault.FaultCode.{FaultCode}
use Rattle.star_meaning.specs.declared.fault.FaultCode.TheVariants as code
use Rattle.star_meaning.specs.Entries.{entries_after, with_entries, with_entry}
use Rattle.star_meaning.specs.Program.{Setting, seen}
use Rattle.star_meaning.specs.Run.{Action, Done, Failed, Outcome, State, and_then, build, check, fail, give, make, pay, settled}
use Rattle.star_meaning.specs.Values.{check_key, new_dict, new_text}
use Rattle.star_meaning.proofs.Stays as stays
use Rattle.star_meaning.proofs.Invariants.{Invariant, Respects}
use Rattle.star_meaning.proofs.Keeps.{kept, kept_by}
use Rattle.star_once.specs.Keys.{Differ, IsThere, KeysDiffer, LeadsToFixed}
use Rattle.star_once.proofs.Keeps.{make_differs, once, once_by}
use Rattle.star_once.proofs.Keys.{Stay, there_stays}
use Rattle.star_once.proofs.BoundArguments.{IsText}
use Rattle.star_once.proofs.Stores.{stays_seen}
use Rattle.star_once.proofs.Writes.{Held, put_in}

abbrev pub After : {A : Type 0} → Setting → State → (State → A → Type 0) → Outcome A → Type 0
After w s P (Done x t) = KeysDiffer w t × Stay (seen w s) (seen w t) × P t x
After w s P (Failed f lines) = Unit {0}

-- no property of the answer
abbrev pub Some_answer : {A : Type 0} → State → A → Type 0
Some_answer t x = Unit {0}

pub after_held : {A : Type 0} (w : Setting) (s : State) (P : State → A → Type 0) (o : Outcome A) → After w s P o → Held w o
after_held w s P (Done x t) h = h.0
after_held w s P (Failed f lines) h = tt

pub held_then : {A B : Type 0} (w : Setting) (s : State) (P : State → A → Type 0) (o : Outcome A) (f : A → Action B) → After w s P o
    → ((x : A) (t : State) → KeysDiffer w t → Stay (seen w s) (seen w t) → P t x → Held w (f x t)) → Held w (and_then o f)
held_then w s P (Done x t) f h k = k x t h.0 h.1 h.2
held_then w s P (Failed e lines) f h k = tt

moved : {A : Type 0} (w : Setting) (s t : State) (Q : State → A → Type 0) (o : Outcome A) → Stay (seen w s) (seen w t) → After w t Q o → After w s Q o
moved w s t Q (Done x u) k h = (h.0, (λ v c e f. h.1 v c (k v c e f) f), h.2)
moved w s t Q (Failed e lines) k h = tt

pub after_then : {A B : Type 0} (w : Setting) (s : State) (P : State → A → Type 0) (Q : State → B → Type 0) (o : Outcome A) (f : A → Action B) → After w s P o
    → ((x : A) (t : State) → KeysDiffer w t → Stay (seen w s) (seen w t) → P t x → After w t Q (f x t)) → After w s Q (and_then o f)
after_then w s P Q (Done x t) f h k = moved w s t Q (f x t) h.1 (k x t h.0 h.1 h.2)
after_then w s P Q (Failed e lines) f h k = tt

-- an action without a known property of its answer
plain_after : {A : Type 0} (w : Setting) (s : State) (o : Outcome A) → Held w o → stays.Preserved s o → After w s Some_answer o
plain_after w s (Done x t) h k = (h, stays_seen w s t k, tt)
plain_after w s (Failed f lines) h k = tt

pub plain : {A : Type 0} (w : Setting) (m : Action A) → ((inv : Invariant w) → Respects inv m) → (s : State) → KeysDiffer w s → After w s Some_answer (m s)
plain w m k s h = plain_after w s (m s) ((once_by (k (once w))).holds s h) ((kept_by w (k (kept w false))).stays.holds s)

pub given_now : {A : Type 0} (w : Setting) (s : State) (P : State → A → Type 0) (x : A) → KeysDiffer w s → P s x → After w s P (give x s)
given_now w s P x h p = (h, (λ v c e f. e), p)

-- ---- payments and checks

paid : (w : Setting) (b : Bool) (line n : ℕ) (s : State) → KeysDiffer w s → After {A = Unit {0}} w s Some_answer (if b then fail code.Steps line s else Done tt (record s { steps = s.steps - n }))
paid w true line n s h = tt
paid w false line n s h = (h, (λ v c e f. e), tt)

pub pay_after : (w : Setting) (line n : ℕ) (s : State) → KeysDiffer w s → After w s Some_answer (pay line n s)
unfolding pay
pay_after w line n s h = paid w (nat_lt s.steps n) line n s h

-- a payment changes nothing that is seen
paid_same : (w : Setting) (b : Bool) (line n : ℕ) (s : State) (P : (Value → Option Cell) → Type 0) → KeysDiffer w s → P (seen w s) → After {A = Unit {0}} w s (λ t x. P (seen w t)) (if b then fail code.Steps line s else Done tt (record s { steps = s.steps - n }))
paid_same w true line n s P h p = tt
paid_same w false line n s P h p = (h, (λ v c e f. e), p)

pub pay_same : (w : Setting) (line n : ℕ) (s : State) (P : (Value → Option Cell) → Type 0) → KeysDiffer w s → P (seen w s) → After w s (λ t x. P (seen w t)) (pay line n s)
unfolding pay
pay_same w line n s P h p = paid_same w (nat_lt s.steps n) line n s P h p

pub check_after : (w : Setting) (c : FaultCode) (line : ℕ) (b : Bool) (s : State) → KeysDiffer w s → After w s (λ t x. b ≡ true) (check c line b s)
check_after w c line true s h = (h, (λ v d e f. e), refl)
check_after w c line false s h = tt

-- ---- a value that has passed the check of keys is there

cell_there : (f : Value → Spend (Unit {0})) (o : Option Cell) (n left : ℕ) (u : Unit {0}) → keys.check_cell f o n ≡ Enough u left → LeadsToFixed o
cell_there f (Some (cell.Text t)) n left u h = tt
cell_there f (Some (cell.Tuple xs)) n left u h = tt
cell_there f (Some (cell.Struct fs)) n left u h = tt
cell_there f (Some (cell.List xs)) n left u h = absurd (let no : ⊥ = cc in no)
cell_there f (Some (cell.Dict xs)) n left u h = absurd (let no : ⊥ = cc in no)
cell_there f (Some (cell.Range xs)) n left u h = absurd (let no : ⊥ = cc in no)
cell_there f (Some (cell.Set xs)) n left u h = absurd (let no : ⊥ = cc in no)
cell_there f (Some (cell.Func xs)) n left u h = absurd (let no : ⊥ = cc in no)
cell_there f (Some (cell.Frame xs)) n left u h = absurd (let no : ⊥ = cc in no)
cell_there f (Some (cell.Bound m xs)) n left u h = absurd (let no : ⊥ = cc in no)
cell_there f None n left u h = absurd (let no : ⊥ = cc in no)

value_there : (look : Value → Option Cell) (f : Value → Spend (Unit {0})) (k : Value) (n left : ℕ) (u : Unit {0}) → keys.check_value look f k n ≡ Enough u left → IsThere look k
value_there look f (value.Ref h a) n left u e = cell_there f (look (value.Ref h a)) n left u e
value_there look f value.NoneValue n left u e = tt
value_there look f (value.Bool b) n left u e = tt
value_there look f (value.Int z) n left u e = tt
value_there look f (value.Builtin b) n left u e = tt

visit_there : (look : Value → Option Cell) (f : Value → Spend (Unit {0})) (k : Value) (n left : ℕ) (u : Unit {0}) (b : Bool) → (if b then Lacks refused.Steps n else keys.check_value look f k (n - 1)) ≡ Enough u left → IsThere look k
visit_there look f k n left u true e = absurd (let no : ⊥ = cc in no)
visit_there look f k n left u false e = value_there look f k (n - 1) left u e

checked_there : (look : Value → Option Cell) (levels : ℕ) (k : Value) (n left : ℕ) (u : Unit {0}) → keys.check look levels k n ≡ Enough u left → IsThere look k
unfolding keys.check
checked_there look zero k n left u e = absurd (let no : ⊥ = cc in no)
checked_there look (suc levels) k n left u e = visit_there look (keys.check look levels) k n left u (nat_lt n 1) e

settled_there : (w : Setting) (line : ℕ) (s : State) (k : Value) (o : Spent (Unit {0})) → ((left : ℕ) (u : Unit {0}) → o ≡ Enough u left → IsThere (seen w s) k) → KeysDiffer w s → After w s (λ t x. IsThere (seen w t) k) (settled line o s)
settled_there w line s k (Enough u left) there h = (h, (λ v c e f. e), there left u refl)
settled_there w line s k (Lacks f left) there h = tt

pub check_key_after : (w : Setting) (levels line : ℕ) (k : Value) (s : State) → KeysDiffer w s → After w s (λ t x. IsThere (seen w t) k) (check_key w levels line k s)
unfolding check_key
check_key_after w levels line k s h = settled_there w line s k (keys.check (seen w s) levels k s.steps) (λ left u e. checked_there (seen w s) levels k s.steps left u e) h

-- it pays alone, so entries whose keys differ differ after it
settled_same : (w : Setting) (line : ℕ) (s : State) (o : Spent (Unit {0})) (P Q : (Value → Option Cell) → Type 0) → P (seen w s) → After w s (λ t x. Q (seen w t)) (settled line o s) → After w s (λ t x. Q (seen w t) × P (seen w t)) (settled line o s)
settled_same w line s (Enough u left) P Q p h = (h.0, h.1, (h.2, p))
settled_same w line s (Lacks f left) P Q p h = tt

pub check_key_same : (w : Setting) (levels line : ℕ) (k : Value) (s : State) (P : (Value → Option Cell) → Type 0) → KeysDiffer w s → P (seen w s) → After w s (λ t x. IsThere (seen w t) k × P (seen w t)) (check_key w levels line k s)
unfolding check_key
check_key_same w levels line k s P h p = settled_same w line s (keys.check (seen w s) levels k s.steps) P (λ look. IsThere look k) p (check_key_after w levels line k s h)

-- ---- a new dictionary

made_paid : (w : Setting) (b : Bool) (line n : ℕ) (es : List (Value × Value)) (s : State) → KeysDiffer w s → Differ (seen w s) es → Held w (and_then {A = Unit {0}} (if b then fail code.Steps line s else Done tt (record s { steps = s.steps - n })) (λ _. make (cell.Dict es)))
made_paid w true line n es s h d = tt
made_paid w false line n es s h d = make_differs w (cell.Dict es) (record s { steps = s.steps - n }) h (λ fs e. let same : es ≡ fs = cc in subst (Differ (seen w s)) same d)

pub new_dict_differs : (w : Setting) (line : ℕ) (es : List (Value × Value)) (s : State) → KeysDiffer w s → Differ (seen w s) es → Held w (new_dict line es s)
unfolding build pay
new_dict_differs w line es s h d = made_paid w (nat_lt s.steps (1 + length es)) line (1 + length es) es s h d

entries_after_differ : (look : Value → Option Cell) (k v : Value) (es : List (Value × Value)) (o : Option ℕ) → IsThere look k → keys.place_of look k es ≡ o → Differ look es → Differ look (entries_after es (put k v o es))
entries_after_differ look k v es o t at d = by (put k v o es) (put_in look k v es o t at d)
  where
    by : (r : Result (Option Value × List (Value × Value)) StoreFault) → ((q : Option Value × List (Value × Value)) → r ≡ Ok q → Differ look q.1) → Differ look (entries_after es r)
    by (Ok q) h = h q refl
    by (Err f) h = d

pub with_entry_differs : (w : Setting) (s : State) (es : List (Value × Value)) (e : Value × Value) → Differ (seen w s) es → IsThere (seen w s) e.0 → Differ (seen w s) (with_entry w s es e)
with_entry_differs w s es e d t = entries_after_differ (seen w s) e.0 e.1 es (keys.place_of (seen w s) e.0 es) t refl d

-- each key is there
abbrev pub AllThere : (Value → Option Cell) → List (Value × Value) → Type 0
AllThere look [] = Unit {0}
AllThere look (e ∷ es) = IsThere look e.0 × AllThere look es

pub differ_there : (look : Value → Option Cell) (es : List (Value × Value)) → Differ look es → AllThere look es
differ_there look [] d = tt
differ_there look (e ∷ es) d = (d.0, differ_there look es d.2)

pub all_stay : (look see : Value → Option Cell) (es : List (Value × Value)) → Stay look see → AllThere look es → AllThere see es
all_stay look see [] k h = tt
all_stay look see (e ∷ es) k h = (there_stays look see e.0 k h.0, all_stay look see es k h.1)

pub with_entries_differ : (w : Setting) (s : State) (es fs : List (Value × Value)) → Differ (seen w s) es → AllThere (seen w s) fs → Differ (seen w s) (with_entries w s es fs)
with_entries_differ w s es [] d t = d
with_entries_differ w s es (f ∷ fs) d t = with_entries_differ w s (with_entry w s es f) fs (with_entry_differs w s es f d t.0) t.1

-- ---- a new string

last_is : (xs : List HeapCell) (x : HeapCell) → cell_at (xs ++ x ∷ []) (length xs) ≡ Some x.cell
last_is [] x = refl
last_is (y ∷ xs) x = last_is xs x

self : (n : ℕ) → nat_eq n n ≡ true
self n = grind arith

pub made_is : (c : Cell) (s : Store) (shelf : Shelf) → look (made c s) shelf (next_value s) ≡ Some c
made_is c s shelf = ap (λ b. cell_at (if b then s.cells ++ record { iterations = 0; cell = c } ∷ [] else published_cells (slice_get shelf s.home)) (length s.cells)) (self s.home) ∙ last_is s.cells (record { iterations = 0; cell = c })

text_made : (w : Setting) (t : List ℕ) (s : State) → KeysDiffer w s → After w s (λ u k. IsText (seen w u) k t) (make (cell.Text t) s)
unfolding make
text_made w t s h = (make_differs_now w t s h, stays_seen w s _ (made_stays t s), made_is (cell.Text t) s.store w.shelf)
  where
    made_stays : (t : List ℕ) (s : State) → stays.Preserved s (make (cell.Text t) s)
    made_stays t s = (stays.keeps_make (cell.Text t)).holds s

    make_differs_now : (w : Setting) (t : List ℕ) (s : State) → KeysDiffer w s → Held w (make (cell.Text t) s)
    make_differs_now w t s h = make_differs w (cell.Text t) s h (λ es e. absurd (let no : ⊥ = cc in no))

pub new_text_after : (w : Setting) (line : ℕ) (t : List ℕ) (s : State) → KeysDiffer w s → After w s (λ u k. IsText (seen w u) k t) (new_text line t s)
unfolding build
new_text_after w line t s h = after_then w s Some_answer (λ u k. IsText (seen w u) k t) (pay line (1 + length t) s) (λ _. make (cell.Text t)) (pay_after w line (1 + length t) s h) (λ x u k stay p. text_made w t u k)
