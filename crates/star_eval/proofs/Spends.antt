-- Steps only fall in the parts of a comprehension's turn.
use Rattle.std.proofs.Common.{◌≡◌, ◌<◌, ◌≤◌, ◌-◌, ℕ, zero, suc, Bool, true, false, if◌then◌else◌, List, Option, Some, None, nat_lt, refl, ap, subst, arith}
use Rattle.std.proofs.lemmas.Bool.{ltb-false}
use Rattle.star_store.specs.declared.values.Value.{Value}
use Rattle.star_scope.specs.declared.spot.Spot.{Spot}
use Rattle.star_scope.specs.declared.spot.Spot.TheVariants as spot
use Rattle.star_tree.specs.declared.tree.Expression.{Expression}
use Rattle.star_tree.specs.declared.tree.Target.{Target}
use Rattle.star_tree.specs.declared.tree.Name.{Name}
use Rattle.star_meaning.specs.declared.fault.FaultCode.TheVariants as code
use Rattle.star_meaning.specs.declared.fault.Fault.{Fault}
use Rattle.star_meaning.specs.declared.site.Site.{Site}
use Rattle.star_meaning.specs.declared.said.Said.{Said}
use Rattle.star_meaning.specs.Laws.{Grows, Grown}
use Rattle.star_meaning.specs.Places.{Tables, at_spot, bind_spot, by_places, frame_above, joined, new_slots, own_spot, read_spot, slot_in}
use Rattle.star_meaning.specs.Program.{Setting, seen}
use Rattle.star_meaning.specs.Programs.{tables_of}
use Rattle.star_meaning.specs.Run.{State, Done, Failed, Action, and_then, fail, found, pay}
use Rattle.star_meaning.specs.Targets.{to_target}
use Rattle.star_meaning.specs.Comprehensions.{add_element, add_entry}
use Rattle.star_meaning.specs.Values.{content, count_of, item_in, iterate, leave, take_item, with_content}
use Rattle.star_meaning.specs.Variables.{frame_of}
use Rattle.std.specs.Option.{option_and_then}
use Rattle.star_meaning.proofs.Extends.{with_more}
use Rattle.star_meaning.proofs.Growth as growth
use Rattle.star_meaning.proofs.Keeps.{AllKeep, Keeps, VariablesKeep, keeps_found, keeps_make_frame, keeps_seeing}
use Rattle.star_meaning.proofs.KeepsComprehensions.{keeps-add_element, keeps-add_entry}
use Rattle.star_meaning.proofs.KeepsTargets.{keeps-to_target}
use Rattle.star_meaning.proofs.KeepsVariables.{keeps-bind_at}
use Rattle.star_meaning.proofs.Runs.{meaning_keeps}
use Rattle.star_eval.specs.declared.output.Output.{Output}
use Rattle.star_eval.specs.declared.output.Output.TheVariants as output
use Rattle.star_eval.specs.Steps.{last}
use Rattle.star_world.specs.World.{World, semantics, variables}

spent : {A : Type 0} (m : Action A) (s t : State) (x : A) → growth.Keeps m → m s ≡ Done x t → t.steps ≤ s.steps
spent m s t x k e = let g : Grows s t = subst (Grown s) e (k.holds s) in g.steps

-- the value at a spot does not depend on the steps
same_above : (w : Setting) (k : ℕ) (s : State) (up : ℕ) (frame : Option Value) → frame_above w (with_more k s) up frame ≡ frame_above w s up frame
same_above w k s zero frame = refl
same_above w k s (suc up) frame = same_above w k s up (option_and_then (λ f. f.parent) (option_and_then (λ v. frame_of (seen w s v)) frame))

same_spot : (w : Setting) (k : ℕ) (s : State) (p : Site) (name : List ℕ) (x : Option Spot) → at_spot w (with_more k s) p name x ≡ at_spot w s p name x
same_spot w k s p name (Some (spot.Frame up slot)) = ap (λ (f : Option Value). joined (slot_in w s slot f)) (same_above w k s up (Some p.frame))
same_spot w k s p name (Some spot.Prelude) = refl
same_spot w k s p name (Some spot.Outermost) = refl
same_spot w k s p name None = refl

-- variables by their places keep the invariants of every run
keeps-read_spot : (tables : Tables) (w : Setting) (p : Site) (n : Name) → Keeps false (read_spot tables w p n)
unfolding read_spot
keeps-read_spot tables w p n =
    let x = tables.spots p.file n.position.token in
    keeps_seeing (λ s. found code.Unbound p.line (at_spot w s p n.text x)) (λ k s. ap (λ (o : Option Value). found code.Unbound p.line o) (same_spot w k s p n.text x)) (λ s. keeps_found code.Unbound p.line (at_spot w s p n.text x))

keeps-bind_spot : (tables : Tables) (p : Site) (n : Name) (v : Value) → Keeps false (bind_spot tables p n v)
unfolding bind_spot
keeps-bind_spot tables p n v = keeps-bind_at p.frame v (own_spot (tables.spots p.file n.position.token))

keeps-new_slots : (tables : Tables) (file number : ℕ) (parent : Option Value) → Keeps false (new_slots tables file number parent)
unfolding new_slots
keeps-new_slots tables file number parent = keeps_make_frame _

places_keep : (tables : Tables) (w : Setting) → VariablesKeep (by_places tables w)
places_keep tables w = record { read = keeps-read_spot tables w; bind = keeps-bind_spot tables; frame = keeps-new_slots tables }

variables_keep : (c : World) → VariablesKeep (variables c)
variables_keep c = places_keep (tables_of c.files) c.setting

all_keep : (c : World) (levels : ℕ) → AllKeep (semantics c levels)
all_keep c levels = meaning_keeps (variables c) c.setting levels (variables_keep c)

pub expression_spends : (c : World) (levels : ℕ) (p : Site) (e : Expression) (v : Value) (s t : State) → (semantics c levels).expr p e s ≡ Done v t → t.steps ≤ s.steps
expression_spends c levels p e v s t h = spent ((semantics c levels).expr p e) s t v ((all_keep c levels).expr p e).grows h

pub target_spends : (c : World) (levels : ℕ) (p : Site) (g : Target) (v : Value) (s t : State) → to_target (variables c) (semantics c levels) p g v s ≡ Done tt t → t.steps ≤ s.steps
target_spends c levels p g v s t h = spent (to_target (variables c) (semantics c levels) p g v) s t tt (keeps-to_target (variables c) (semantics c levels) p g v (variables_keep c) (all_keep c levels)).grows h

pub last_spends : (c : World) (levels : ℕ) (p : Site) (o : Output) (s t : State) → last c levels p o s ≡ Done tt t → t.steps ≤ s.steps
last_spends c levels p (output.Element e l) s t h = spent (add_element c.setting (semantics c levels) p e.now l) s t tt (keeps-add_element c.setting (semantics c levels) p e.now l (all_keep c levels)).grows h
last_spends c levels p (output.Entry e d) s t h = spent (add_entry c.setting levels (semantics c levels) p e.now d) s t tt (keeps-add_entry c.setting levels (semantics c levels) p e.now d (all_keep c levels)).grows h

grows_iterate : (w : Setting) (line : ℕ) (v : Value) → growth.Keeps (iterate w line v)
unfolding iterate count_of
grows_iterate w line v = growth.keeps_then _ _ (growth.keeps_seeing _ (λ s. growth.keeps_found _ line _)) (λ n. growth.keeps_then _ _ (growth.keeps_storing _ (growth.keeping_opened v)) (λ _. growth.keeps_give n))

pub iterate_spends : (w : Setting) (line : ℕ) (v : Value) (n : ℕ) (s t : State) → iterate w line v s ≡ Done n t → t.steps ≤ s.steps
iterate_spends w line v n s t h = spent (iterate w line v) s t n (grows_iterate w line v) h

grows_leave : (v : Value) → growth.Keeps (leave v)
unfolding leave
grows_leave v = growth.keeps_storing _ (growth.keeping_closed v)

pub leave_spends : (v : Value) (s t : State) → leave v s ≡ Done tt t → t.steps ≤ s.steps
leave_spends v s t h = spent (leave v) s t tt (grows_leave v) h

-- an item is paid for
not_done : {A : Type 0} (f : Fault) (lines : List Said) (x : A) (t : State) → Failed f lines ≡ Done x t → ⊥
not_done f lines x t e = cc

pays : {A : Type 0} (b : Bool) (line : ℕ) (m : Action A) (s t : State) (x : A) → nat_lt s.steps 1 ≡ b → growth.Keeps m → and_then (if b then fail {A = Unit {0}} code.Steps line s else Done tt (record s { steps = s.steps - 1 })) (λ _. m) ≡ Done x t → t.steps < s.steps
pays true line m s t x e k h = absurd (not_done _ _ x t h)
pays false line m s t x e k h =
    let enough : 1 ≤ s.steps = ltb-false s.steps 1 e in
    let rest : t.steps ≤ s.steps - 1 = spent m (record s { steps = s.steps - 1 }) t x k h in
    omega arith

grows_item : (w : Setting) (line : ℕ) (v : Value) (i : ℕ) → growth.Keeps (with_content w v (λ c. found code.BadType line (item_in c i)))
grows_item w line v i = growth.keeps_seeing (λ s. found code.BadType line (item_in (content w s v) i)) (λ s. growth.keeps_found code.BadType line (item_in (content w s v) i))

pub item_pays : (w : Setting) (line : ℕ) (v : Value) (i : ℕ) (x : Value) (s t : State) → take_item w line v i s ≡ Done x t → t.steps < s.steps
unfolding take_item pay
item_pays w line v i x s t h = pays (nat_lt s.steps 1) line (with_content w v (λ c. found code.BadType line (item_in c i))) s t x refl (grows_item w line v i) h
