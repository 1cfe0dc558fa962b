-- The laws: in all that a run leaves keys differ, and no dictionary has a string twice as a key.
use Rattle.std.proofs.Common.{◌≡◌, ℕ, zero, suc, ◌+◌, ◌-◌, Bool, true, false, List, [], ◌∷◌, ◌++◌, length, replicate, slice_get, slice_set, Option, Some, None, if◌then◌else◌, refl, ap, sym, subst, ◌∙◌, arith, nat_eq}
use Rattle.std.specs.Option.{option_flatten}
use Rattle.star_store.specs.declared.values.Value.{Value}
use Rattle.star_store.specs.declared.values.Value.TheVariants as value
use Rattle.star_store.specs.declared.values.Cell.{Cell}
use Rattle.star_store.specs.declared.values.Cell.TheVariants as cell
use Rattle.star_store.specs.Store.{Published, Shelf, is_taken, published_cells, put_up, widened}
use Rattle.star_store.specs.Write.{cell_at}
use Rattle.star_tree.specs.declared.tree.Statement.{Statement}
use Rattle.star_meaning.specs.declared.said.Said.{Said}
use Rattle.star_meaning.specs.Laws.{Grown}
use Rattle.star_meaning.specs.Module.{Ended, Good, end, local_of, meaning, most_levels, run_file, start}
use Rattle.star_meaning.specs.Places.{Loaded}
use Rattle.star_meaning.specs.Program.{Setting, Variables, published_of, seen}
use Rattle.star_meaning.specs.Run.{Done, Failed, Outcome, State}
use Rattle.star_meaning.specs.Variables.{by_names}
use Rattle.star_meaning.proofs.Keeps as base
use Rattle.star_meaning.proofs.KeepsModule as base_module
use Rattle.star_meaning.proofs.Runs as base_runs
use Rattle.star_meaning.proofs.LoadedFit.{cells_in, flat_cells, equal_numbers}
use Rattle.star_data.specs.Data.{cell_of, on_shelf, text_in}
use Rattle.star_data.specs.Laws.{KeysStandOnce}
use Rattle.star_data.proofs.Parts.{is_text}
use Rattle.star_once.specs.Keys.{KeysDiffer}
use Rattle.star_once.specs.Laws.{DifferentKeysStandOnce, FilesKeepKeys, FrozenKeysStandOnce, LoadsKeepKeys, RunsKeepKeys}
use Rattle.star_once.proofs.Keys.{differ_stays, once}
use Rattle.star_once.proofs.Runs.{file_keeps, meaning_keeps, names_keep}
use Rattle.star_once.proofs.Writes as writes
use Rattle.star_plan.proofs.Rows.{get_set_other}

ended : {A : Type 0} (w : Setting) (o : Outcome A) (x : A) (t : State) → writes.Held w o → o ≡ Done x t → KeysDiffer w t
ended w o x t h e = subst (writes.Held w) e h

pub runs_keep_keys : RunsKeepKeys
runs_keep_keys w levels p s t h = (
  (λ e v k. ended w _ v t (((meaning_keeps (by_names w) w levels (names_keep w)).expr p e).holds s h) k),
  (λ x f k. ended w _ f t (((meaning_keeps (by_names w) w levels (names_keep w)).stmt p x).holds s h) k),
)

pub files_keep_keys : FilesKeepKeys
files_keep_keys w steps statements e t h k = ended w (run_file (by_names w) w most_levels statements (start w steps)) e t ((file_keeps w most_levels statements).holds (start w steps) h) k

pub different_keys_stand_once : DifferentKeysStandOnce
different_keys_stand_once w s h v es e = once (seen w s) es (h v es e)

-- ---- the cells that a module sees that loads another

other_number : (b : Bool) (m n : ℕ) → nat_eq m n ≡ b → (m ≡ n → ⊥) → b ≡ false
other_number true m n e h = absurd (h (equal_numbers m n e))
other_number false m n e h = refl

-- a module on the shelf is seen from a module of another file
from_shelf : (w : Setting) (steps file at : ℕ) (p : Published) (c : Cell) → (file ≡ w.home → ⊥) → published_of w file ≡ Some p → cell_at p.cells at ≡ Some c → seen w (start w steps) (value.Ref file at) ≡ Some c
from_shelf w steps file at p c other e h =
    ap (λ b. cell_at (if b then [] else published_cells (slice_get w.shelf file)) at) (other_number (nat_eq file w.home) file w.home refl other)
    ∙ ap (λ xs. cell_at xs at) (flat_cells (slice_get w.shelf file) ∙ ap cells_in e) ∙ h

shelved : (u w : Setting) (t : State) (steps file at : ℕ) (c : Cell) → Loaded u t w → (o : Option Published) → published_of u file ≡ o → cell_at (cells_in o) at ≡ Some c → seen w (start w steps) (value.Ref file at) ≡ Some c
shelved u w t steps file at c l None e h = absurd (let no : ⊥ = cc in no)
shelved u w t steps file at c l (Some p) e h = from_shelf w steps file at p c (λ same. none_some p (sym l.unseen ∙ ap (published_of u) (sym same) ∙ e)) (l.others file p e) h
  where
    none_some : (p : Published) → None ≡ Some p → ⊥
    none_some p e = let no : ⊥ = cc in no

seen_by : (u w : Setting) (t : State) (steps file at : ℕ) (c : Cell) → Loaded u t w → (b : Bool) → nat_eq file t.store.home ≡ b → cell_at (if b then t.store.cells else published_cells (slice_get u.shelf file)) at ≡ Some c → seen w (start w steps) (value.Ref file at) ≡ Some c
seen_by u w t steps file at c l true e h =
    let home : file ≡ u.home = equal_numbers file t.store.home e ∙ l.home in
    from_shelf w steps file at l.own.0 c (λ same. l.apart (sym same ∙ home)) (ap (published_of w) home ∙ l.own.1) (ap (λ xs. cell_at xs at) l.own.2 ∙ h)
seen_by u w t steps file at c l false e h = shelved u w t steps file at c l (published_of u file) refl (ap (λ xs. cell_at xs at) (sym (flat_cells (slice_get u.shelf file))) ∙ h)

loaded_seen : (u w : Setting) (t : State) (steps : ℕ) → Loaded u t w → (v : Value) (c : Cell) → seen u t v ≡ Some c → seen w (start w steps) v ≡ Some c
loaded_seen u w t steps l (value.Ref file at) c h = seen_by u w t steps file at c l (nat_eq file t.store.home) refl h
loaded_seen u w t steps l value.NoneValue c h = absurd (let no : ⊥ = cc in no)
loaded_seen u w t steps l (value.Bool b) c h = absurd (let no : ⊥ = cc in no)
loaded_seen u w t steps l (value.Int n) c h = absurd (let no : ⊥ = cc in no)
loaded_seen u w t steps l (value.Builtin b) c h = absurd (let no : ⊥ = cc in no)

pub loads_keep_keys : LoadsKeepKeys
loads_keep_keys w steps h v es e =
    let r = h v es e in
    differ_stays (seen r.0 r.1) (seen w (start w steps)) es (λ x c k f. loaded_seen r.0 w r.1 steps r.2 x c k) (r.3 v es r.4)

-- ---- a cell that is on the shelf after a run was seen at its end

base-end : (w : Setting) (levels line : ℕ) (frame : Value) → base.Keeps false (end w levels line frame)
base-end w levels line frame = search (base.keeps, base_module.keeps-global_text) depth 14

base-file : (vs : Variables) (w : Setting) (levels : ℕ) (ss : List Statement) → base.VariablesKeep vs → base.AllKeep (meaning vs w levels) → base.Keeps false (run_file vs w levels ss)
base-file vs w levels ss k h = search (base.keeps, base-end) depth 14

ends_at_home : (w : Setting) (ss : List Statement) (steps : ℕ) (e : Ended) (t : State) → run_file (by_names w) w most_levels ss (start w steps) ≡ Done e t → t.store.home ≡ w.home
ends_at_home w ss steps e t is = (subst (Grown (start w steps)) is ((base-file (by_names w) w most_levels ss (base_runs.names_keep w) (base_runs.meaning_keeps (by_names w) w most_levels (base_runs.names_keep w))).grows.holds (start w steps))).home

set_same : {A : Type 0} (xs : List A) (i : ℕ) (x y : A) → slice_get (slice_set xs i x) i ≡ Some y → x ≡ y
set_same [] i x y h = absurd (let no : ⊥ = cc in no)
set_same (z ∷ xs) zero x y h = cc
set_same (z ∷ xs) (suc i) x y h = set_same xs i x y h

none_more : (n j : ℕ) (q : Published) → slice_get (replicate n None) j ≡ Some (Some q) → ⊥
none_more zero j q h = let no : ⊥ = cc in no
none_more (suc n) zero q h = let no : ⊥ = cc in no
none_more (suc n) (suc j) q h = none_more n j q h

wide : (n : ℕ) (shelf : Shelf) (j : ℕ) (q : Published) → slice_get (shelf ++ replicate n None) j ≡ Some (Some q) → slice_get shelf j ≡ Some (Some q)
wide n [] j q h = absurd (none_more n j q h)
wide n (x ∷ shelf) zero q h = h
wide n (x ∷ shelf) (suc j) q h = wide n shelf j q h

published : (o : Option (Option Published)) (at : ℕ) (c : Cell) → cell_at (published_cells o) at ≡ Some c → (q : Published) × (o ≡ Some (Some q)) × (cell_at q.cells at ≡ Some c)
published None at c h = absurd (let no : ⊥ = cc in no)
published (Some None) at c h = absurd (let no : ⊥ = cc in no)
published (Some (Some q)) at c h = (q, refl, h)

not_taken : (o : Option (Option Published)) → option_flatten o ≡ None → is_taken o ≡ false
not_taken None e = refl
not_taken (Some None) e = refl
not_taken (Some (Some p)) e = absurd (let no : ⊥ = cc in no)

-- the cells of a place after a module was put up at a free one
put_cells : (home : ℕ) (p : Published) (shelf : Shelf) (j at : ℕ) (c : Cell) (b : Bool) → nat_eq j home ≡ b → cell_at (published_cells (slice_get (slice_set (widened (home + 1) shelf) home (Some p)) j)) at ≡ Some c → cell_at (if b then p.cells else published_cells (slice_get shelf j)) at ≡ Some c
put_cells home p shelf j at c true e h =
    let same : j ≡ home = equal_numbers j home e in
    let r = published (slice_get (slice_set (widened (home + 1) shelf) home (Some p)) j) at c h in
    let is : Some p ≡ Some r.0 = set_same (widened (home + 1) shelf) home (Some p) (Some r.0) (subst (λ z. slice_get (slice_set (widened (home + 1) shelf) home (Some p)) z ≡ Some (Some r.0)) same r.1) in
    let one : p ≡ r.0 = cc in
    ap (λ (z : Published). cell_at z.cells at) one ∙ r.2
put_cells home p shelf j at c false e h =
    let r = published (slice_get (slice_set (widened (home + 1) shelf) home (Some p)) j) at c h in
    let there : slice_get shelf j ≡ Some (Some r.0) = wide (home + 1 - length shelf) shelf j r.0 (sym (get_set_other (widened (home + 1) shelf) home j (Some p) (λ same. differ j home e same)) ∙ r.1) in
    ap (λ o. cell_at (published_cells o) at) there ∙ r.2
  where
    differ : (m n : ℕ) → nat_eq m n ≡ false → m ≡ n → ⊥
    differ m n e h = let k : nat_eq m n ≡ true = grind (arith, h) in let no : ⊥ = cc in no

pub seen_at_end : (w : Setting) (t : State) (globals : List (List ℕ × Value)) (v : Value) (c : Cell) → t.store.home ≡ w.home → published_of w w.home ≡ None
    → on_shelf (put_up w.home (record { cells = t.store.cells; globals = globals }) w.shelf) v ≡ Some c → seen w t v ≡ Some c
seen_at_end w t globals (value.Ref j at) c home free h =
    let p : Published = record { cells = t.store.cells; globals = globals } in
    ap (λ n. cell_at (if nat_eq j n then t.store.cells else published_cells (slice_get w.shelf j)) at) home
    ∙ put_cells w.home p w.shelf j at c (nat_eq j w.home) refl
    (ap (λ b. cell_at (published_cells (slice_get (if b then w.shelf else slice_set (widened (w.home + 1) w.shelf) w.home (Some p)) j)) at) (sym (not_taken (slice_get w.shelf w.home) free)) ∙ h)
seen_at_end w t globals value.NoneValue c home free h = absurd (let no : ⊥ = cc in no)
seen_at_end w t globals (value.Bool b) c home free h = absurd (let no : ⊥ = cc in no)
seen_at_end w t globals (value.Int n) c home free h = absurd (let no : ⊥ = cc in no)
seen_at_end w t globals (value.Builtin b) c home free h = absurd (let no : ⊥ = cc in no)

-- keys that occur only once do so if fewer cells are seen
text_too : (look see : Value → Option Cell) → ((v : Value) (c : Cell) → look v ≡ Some c → see v ≡ Some c) → (k : Value) (t : List ℕ) → text_in (cell_of look k) ≡ Some t → text_in (cell_of see k) ≡ Some t
text_too look see all (value.Ref h a) t e = ap text_in (all (value.Ref h a) (cell.Text t) (is_text (look (value.Ref h a)) t e))
text_too look see all value.NoneValue t e = absurd (let no : ⊥ = cc in no)
text_too look see all (value.Bool b) t e = absurd (let no : ⊥ = cc in no)
text_too look see all (value.Int n) t e = absurd (let no : ⊥ = cc in no)
text_too look see all (value.Builtin b) t e = absurd (let no : ⊥ = cc in no)

pub fewer_once : (look see : Value → Option Cell) → ((v : Value) (c : Cell) → look v ≡ Some c → see v ≡ Some c) → KeysStandOnce see → KeysStandOnce look
fewer_once look see all h v es e i j x y t a b p q = h v es (all v (cell.Dict es) e) i j x y t a b (text_too look see all x.0 t p) (text_too look see all y.0 t q)

by_outcome : (w : Setting) (steps : ℕ) (statements : List Statement) (shelf : Shelf) (globals : List (List ℕ × Value)) (texts : List (List ℕ × List ℕ)) (lines : List Said) (o : Outcome Ended)
    → KeysDiffer w (start w steps) → published_of w w.home ≡ None → run_file (by_names w) w most_levels statements (start w steps) ≡ o → local_of w o ≡ Good shelf globals texts lines → KeysStandOnce (on_shelf shelf)
by_outcome w steps statements shelf globals texts lines (Done e t) h free is good =
    let same : put_up w.home (record { cells = t.store.cells; globals = e.globals }) w.shelf ≡ shelf = cc in
    subst (λ z. KeysStandOnce (on_shelf z)) same
    (fewer_once (on_shelf (put_up w.home (record { cells = t.store.cells; globals = e.globals }) w.shelf)) (seen w t)
    (λ v c k. seen_at_end w t e.globals v c (ends_at_home w statements steps e t is) free k)
    (different_keys_stand_once w t (files_keep_keys w steps statements e t h is)))
by_outcome w steps statements shelf globals texts lines (Failed f printed) h free is good = absurd (let no : ⊥ = cc in no)

pub frozen_keys_stand_once : FrozenKeysStandOnce
frozen_keys_stand_once w steps statements shelf globals texts lines h free good = by_outcome w steps statements shelf globals texts lines (run_file (by_names w) w most_levels statements (start w steps)) h free refl good
