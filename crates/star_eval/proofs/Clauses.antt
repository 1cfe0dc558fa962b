-- The rest of open clauses, from one turn to the next.
use Rattle.std.proofs.Common.{◌≡◌, ℕ, ◌+◌, ◌-◌, ◌<◌, ◌≤◌, List, [], ◌∷◌, ◌++◌, Option, Some, None, Bool, true, false, if◌then◌else◌, length, take, drop, get_or, refl, ap, sym, subst, ◌∙◌, arith}
use Rattle.std.proofs.lemmas.List.{take_rest}
use denote.Ref.{Bor}
use Rattle.star_store.specs.declared.values.Value.{Value}
use Rattle.star_tree.specs.declared.tree.Clause.{Clause, out-Clause, out-roll-Clause}
use Rattle.star_tree.specs.declared.tree.Clause.TheVariants as variant
use Rattle.star_tree.specs.declared.tree.Argument.TheOpen as tree
use Rattle.star_tree.specs.declared.tree.Expression.{Expression}
use Rattle.star_tree.specs.declared.tree.Target.{Target}
use Rattle.star_meaning.specs.declared.site.Site.{Site}
use Rattle.star_meaning.specs.declared.fault.Fault.{Fault}
use Rattle.star_meaning.specs.declared.said.Said.{Said}
use Rattle.star_meaning.specs.Comprehensions.{clause_node, clause_turn, over}
use Rattle.star_meaning.specs.Program.{Setting}
use Rattle.star_machine.specs.declared.fault.EvalError.{EvalError}
use Rattle.star_machine.specs.declared.fault.EvalError.TheVariants.{Memory, Faulted}
use Rattle.star_machine.specs.Refines.{Ends}
use Rattle.star_meaning.specs.Semantics.{repeat}
use Rattle.star_meaning.specs.Run.{State, Outcome, Done, Failed, Action, and_then, give}
use Rattle.star_meaning.specs.Values.{is_true, iterate, leave}
use Rattle.star_eval.specs.declared.output.Output.{Output}
use Rattle.star_eval.specs.declared.open_clause.OpenClause.{OpenClause}
use Rattle.star_tree.specs.declared.tree.Clauses.{Clauses, out-Clauses}
use Rattle.star_eval.specs.Steps.{all_left, after, container, filled, opened_left, turn_of, remaining_turns}
use Rattle.star_world.specs.World.{World, semantics, variables}
use Rattle.star_eval.proofs.Turns.{repeat_next}

nothing_more : (o : Outcome (Unit {0})) → and_then o (λ _. give tt) ≡ o
nothing_more (Done x s) = refl
nothing_more (Failed e lines) = refl

again : (o : Outcome (Unit {0})) (f g : Action (Unit {0})) → and_then (and_then o (λ _. f)) (λ _. g) ≡ and_then o (λ _ u. and_then (f u) (λ _. g))
again (Done x s) f g = refl
again (Failed e lines) f g = refl

alike : (o : Outcome (Unit {0})) (f g : Action (Unit {0})) → ((s : State) → f s ≡ g s) → and_then o (λ _. f) ≡ and_then o (λ _. g)
alike (Done x s) f g h = h s
alike (Failed e lines) f g h = refl

-- the same clause after its next item was taken
abbrev pub taken : OpenClause → OpenClause
taken f = record f { next = f.next + 1 }

-- one clause more, inside of all others, ends first
pub one_inside : (c : World) (levels : ℕ) (p : Site) (o : Output) (fs : List OpenClause) (f : OpenClause) (s : State) → all_left c levels p o (fs ++ f ∷ []) s ≡ and_then (remaining_turns c levels p o f s) (λ _. all_left c levels p o fs)
one_inside c levels p o [] f s = sym (nothing_more (remaining_turns c levels p o f s))
one_inside c levels p o (g ∷ fs) f s =
    ap (λ (r : Outcome (Unit {0})). and_then r (λ _. remaining_turns c levels p o g)) (one_inside c levels p o fs f s)
    ∙ again (remaining_turns c levels p o f s) (all_left c levels p o fs) (remaining_turns c levels p o g)

-- if items are left, the next turn comes first
first_turn : (c : World) (levels : ℕ) (p : Site) (o : Output) (f : OpenClause) (s : State) → f.next < f.count → remaining_turns c levels p o f s ≡ and_then (turn_of c levels p o f f.next s) (λ _. remaining_turns c levels p o (taken f))
first_turn c levels p o f s h =
    ap (λ (r : Outcome (Unit {0})). and_then r (λ _. leave f.value)) (repeat_next (turn_of c levels p o f) f.count f.next s h)
    ∙ again (turn_of c levels p o f f.next s) (repeat (turn_of c levels p o f) (f.count - (f.next + 1)) (f.next + 1)) (leave f.value)

turn_led : (c : World) (levels : ℕ) (p : Site) (o : Output) (f : OpenClause) (x : Option OpenClause) (s t : State) → f.next < f.count → turn_of c levels p o f f.next s ≡ opened_left c levels p o x t → remaining_turns c levels p o f s ≡ and_then (opened_left c levels p o x t) (λ _. remaining_turns c levels p o (taken f))
turn_led c levels p o f x s t h e = first_turn c levels p o f s h ∙ ap (λ (r : Outcome (Unit {0})). and_then r (λ _. remaining_turns c levels p o (taken f))) e

-- a turn that opened no clause
pub turn_ended : (c : World) (levels : ℕ) (p : Site) (o : Output) (fs : List OpenClause) (f : OpenClause) (s t : State) → f.next < f.count → turn_of c levels p o f f.next s ≡ Done tt t
    → and_then (remaining_turns c levels p o (taken f) t) (λ _. all_left c levels p o fs) ≡ and_then (remaining_turns c levels p o f s) (λ _. all_left c levels p o fs)
turn_ended c levels p o fs f s t h e = sym (ap (λ (r : Outcome (Unit {0})). and_then r (λ _. all_left c levels p o fs)) (turn_led c levels p o f None s t h e))

-- a turn that opened one
pub turn_opened : (c : World) (levels : ℕ) (p : Site) (o : Output) (fs : List OpenClause) (f g : OpenClause) (s t : State) → f.next < f.count → turn_of c levels p o f f.next s ≡ remaining_turns c levels p o g t
    → and_then (remaining_turns c levels p o g t) (λ _. all_left c levels p o (fs ++ taken f ∷ [])) ≡ and_then (remaining_turns c levels p o f s) (λ _. all_left c levels p o fs)
turn_opened c levels p o fs f g s t h e =
    alike (remaining_turns c levels p o g t) (all_left c levels p o (fs ++ taken f ∷ [])) (λ u. and_then (remaining_turns c levels p o (taken f) u) (λ _. all_left c levels p o fs)) (one_inside c levels p o fs (taken f))
    ∙ sym (again (remaining_turns c levels p o g t) (remaining_turns c levels p o (taken f)) (all_left c levels p o fs))
    ∙ sym (ap (λ (r : Outcome (Unit {0})). and_then r (λ _. all_left c levels p o fs)) (turn_led c levels p o f (Some g) s t h e))

-- a turn that failed
pub turn_failed : (c : World) (levels : ℕ) (p : Site) (o : Output) (fs : List OpenClause) (f : OpenClause) (s : State) (e : Fault) (lines : List Said) → f.next < f.count → turn_of c levels p o f f.next s ≡ Failed e lines
    → and_then (remaining_turns c levels p o f s) (λ _. all_left c levels p o fs) ≡ Failed e lines
turn_failed c levels p o fs f s e lines h k =
    ap (λ (r : Outcome (Unit {0})). and_then r (λ _. all_left c levels p o fs)) (first_turn c levels p o f s h ∙ ap (λ (r : Outcome (Unit {0})). and_then r (λ _. remaining_turns c levels p o (taken f))) k)

-- if no item is left, the clause ends, and the one around it goes on
none_more : (f : ℕ → Action (Unit {0})) (n i : ℕ) (s : State) → n ≤ i → repeat f (n - i) i s ≡ Done tt s
none_more f n i s h = ap (λ k. repeat f k i s) (let e : n - i ≡ 0 = omega arith in e)

all_taken : (c : World) (levels : ℕ) (p : Site) (o : Output) (f : OpenClause) (s t : State) → f.count ≤ f.next → leave f.value s ≡ Done tt t → remaining_turns c levels p o f s ≡ Done tt t
all_taken c levels p o f s t h e = ap (λ (r : Outcome (Unit {0})). and_then r (λ _. leave f.value)) (none_more (turn_of c levels p o f) f.count f.next s h) ∙ e

pub clause_ended : (c : World) (levels : ℕ) (p : Site) (o : Output) (fs gs : List OpenClause) (f g : OpenClause) (s t : State) → f.count ≤ f.next → leave f.value s ≡ Done tt t → fs ≡ gs ++ g ∷ []
    → and_then (remaining_turns c levels p o g t) (λ _. all_left c levels p o gs) ≡ and_then (remaining_turns c levels p o f s) (λ _. all_left c levels p o fs)
clause_ended c levels p o fs gs f g s t h e k =
    sym (one_inside c levels p o gs g t)
    ∙ ap (λ xs. all_left c levels p o xs t) (sym k)
    ∙ sym (ap (λ (r : Outcome (Unit {0})). and_then r (λ _. all_left c levels p o fs)) (all_taken c levels p o f s t h e))

pub last_ended : (c : World) (levels : ℕ) (p : Site) (o : Output) (fs : List OpenClause) (f : OpenClause) (s t : State) → f.count ≤ f.next → leave f.value s ≡ Done tt t → fs ≡ []
    → and_then (remaining_turns c levels p o f s) (λ _. all_left c levels p o fs) ≡ Done tt t
last_ended c levels p o fs f s t h e k =
    ap (λ (r : Outcome (Unit {0})). and_then r (λ _. all_left c levels p o fs)) (all_taken c levels p o f s t h e)
    ∙ ap (λ xs. all_left c levels p o xs t) k

-- a clause that was just opened
pub just_opened : (c : World) (levels : ℕ) (p : Site) (o : Output) (g : Bor Target) (v : Value) (n : ℕ) (cs : Bor (List Clause)) (s t : State) → iterate c.setting p.line v s ≡ Done n t
    → over (variables c) c.setting (semantics c levels) p g.now v (after c levels p cs.now o) s ≡ remaining_turns c levels p o (record { target = g; value = v; count = n; next = 0; more = cs }) t
just_opened c levels p o g v n cs s t h =
    let f : OpenClause = record { target = g; value = v; count = n; next = 0; more = cs } in
    ap (λ (r : Outcome ℕ). and_then r (λ k u. and_then (repeat (turn_of c levels p o f) k 0 u) (λ _. leave v))) h
    ∙ ap (λ k. and_then (repeat (turn_of c levels p o f) k 0 t) (λ _. leave v)) (let e : n ≡ n - 0 = omega arith in e)

-- nothing is around the first clause
pub none_around : (c : World) (levels : ℕ) (p : Site) (o : Output) (fs : List OpenClause) (f : OpenClause) (s : State) → fs ≡ [] → and_then (remaining_turns c levels p o f s) (λ _. all_left c levels p o fs) ≡ remaining_turns c levels p o f s
none_around c levels p o fs f s e = ap (λ (gs : List OpenClause). and_then (remaining_turns c levels p o f s) (λ _. all_left c levels p o gs)) e ∙ nothing_more (remaining_turns c levels p o f s)

pub none_there : (fs : List OpenClause) → length fs ≡ 0 → fs ≡ []
none_there [] e = refl
none_there (f ∷ fs) e = absurd (omega arith)

-- the first of the clauses that are left, and those after it
pub first_of : (ks : List Clause) (k : Clause) → 1 ≤ length ks → k ≡ get_or ks 0 k → ks ≡ k ∷ take (length ks - 1) (drop 1 ks)
first_of [] k h e = absurd (omega arith)
first_of (x ∷ xs) k h e = let same : k ≡ x = e in rw (take_rest (x ∷ xs) 1) (ap (λ y. y ∷ xs) (sym same))

for_opened : (k : Clause) (g : Target) (e : Expression) → k ≡ variant.For g e → out-Clause k ≡ tree.For g e
for_opened k g e is = ap out-Clause (is ∙ sym (variant.rolls-For g e)) ∙ out-roll-Clause (tree.For g e)

if_opened : (k : Clause) (e : Expression) → k ≡ variant.If e → out-Clause k ≡ tree.If e
if_opened k e is = ap out-Clause (is ∙ sym (variant.rolls-If e)) ∙ out-roll-Clause (tree.If e)

for_first : (c : World) (levels : ℕ) (p : Site) (o : Output) (ks : List Clause) (k : Clause) (more : List Clause) (g : Target) (e : Expression) (s : State) → ks ≡ k ∷ more → k ≡ variant.For g e
    → after c levels p ks o s ≡ and_then ((semantics c levels).expr p e s) (λ v. over (variables c) c.setting (semantics c levels) p g v (after c levels p more o))
for_first c levels p o ks k more g e s split is =
    ap (λ xs. after c levels p xs o s) split
    ∙ ap (λ f. clause_node (variables c) c.setting (semantics c levels) p f (after c levels p more o) s) (for_opened k g e is)

if_first : (c : World) (levels : ℕ) (p : Site) (o : Output) (ks : List Clause) (k : Clause) (more : List Clause) (e : Expression) (s : State) → ks ≡ k ∷ more → k ≡ variant.If e
    → after c levels p ks o s ≡ and_then (and_then ((semantics c levels).expr p e s) (is_true c.setting)) (λ b. if b then after c levels p more o else give tt)
if_first c levels p o ks k more e s split is =
    ap (λ xs. after c levels p xs o s) split
    ∙ ap (λ f. clause_node (variables c) c.setting (semantics c levels) p f (after c levels p more o) s) (if_opened k e is)

-- the next clause is a `for`, which is opened
pub for_leads : (c : World) (levels : ℕ) (p : Site) (o : Output) (ks : List Clause) (k : Clause) (more : Bor (List Clause)) (g : Bor Target) (e : Expression) (v : Value) (n : ℕ) (s u t : State) → ks ≡ k ∷ more.now → k ≡ variant.For g.now e
    → (semantics c levels).expr p e s ≡ Done v u → iterate c.setting p.line v u ≡ Done n t
    → after c levels p ks o s ≡ remaining_turns c levels p o (record { target = g; value = v; count = n; next = 0; more = more }) t
for_leads c levels p o ks k more g e v n s u t split is run opens =
    for_first c levels p o ks k more.now g.now e s split is
    ∙ ap (λ (r : Outcome Value). and_then r (λ x. over (variables c) c.setting (semantics c levels) p g.now x (after c levels p more.now o))) run
    ∙ just_opened c levels p o g v n more u t opens

-- it is a condition
if_leads : (c : World) (levels : ℕ) (p : Site) (o : Output) (ks : List Clause) (k : Clause) (more : List Clause) (e : Expression) (v : Value) (b : Bool) (s u : State) → ks ≡ k ∷ more → k ≡ variant.If e
    → (semantics c levels).expr p e s ≡ Done v u → is_true c.setting v u ≡ Done b u
    → after c levels p ks o s ≡ (if b then after c levels p more o else give tt) u
if_leads c levels p o ks k more e v b s u split is run test =
    if_first c levels p o ks k more e s split is
    ∙ ap (λ (r : Outcome Value). and_then (and_then r (is_true c.setting)) (λ x. if x then after c levels p more o else give tt)) run
    ∙ ap (λ (r : Outcome Bool). and_then r (λ x. if x then after c levels p more o else give tt)) test

pub if_holds : (c : World) (levels : ℕ) (p : Site) (o : Output) (ks : List Clause) (k : Clause) (more : List Clause) (e : Expression) (v : Value) (s u : State) → ks ≡ k ∷ more → k ≡ variant.If e
    → (semantics c levels).expr p e s ≡ Done v u → is_true c.setting v u ≡ Done true u → after c levels p ks o s ≡ after c levels p more o u
if_holds c levels p o ks k more e v s u split is run test = if_leads c levels p o ks k more e v true s u split is run test

pub if_fails : (c : World) (levels : ℕ) (p : Site) (o : Output) (ks : List Clause) (k : Clause) (more : List Clause) (e : Expression) (v : Value) (s u : State) → ks ≡ k ∷ more → k ≡ variant.If e
    → (semantics c levels).expr p e s ≡ Done v u → is_true c.setting v u ≡ Done false u → after c levels p ks o s ≡ Done tt u
if_fails c levels p o ks k more e v s u split is run test = if_leads c levels p o ks k more e v false s u split is run test

-- all turns of a clause that goes over a value with this number of items
abbrev all_turns : World → ℕ → Site → Output → Target → Value → List Clause → ℕ → Action (Unit {0})
all_turns c levels p o g v more n = λ s. and_then (repeat (clause_turn (variables c) c.setting (semantics c levels) p g v (after c levels p more o)) n 0 s) (λ _. leave v)

filled_is : (c : World) (levels : ℕ) (p : Site) (o : Output) (cs : Clauses) (v : Value) (n : ℕ) (more : List Clause) (w : Setting) (s t : State) → w ≡ c.setting → more ≡ (out-Clauses cs).more → iterate w p.line v s ≡ Done n t
    → filled c levels p cs v o s ≡ and_then (all_turns c levels p o (out-Clauses cs).target v more (n - 0) t) (λ _. give (container o))
filled_is c levels p o cs v n more w s t same all opens =
    let h : iterate c.setting p.line v s ≡ Done n t = subst (λ (y : Setting). iterate y p.line v s ≡ Done n t) same opens in
    let e : n ≡ n - 0 = omega arith in
    ap (λ (ks : List Clause). and_then (and_then (iterate c.setting p.line v s) (all_turns c levels p o (out-Clauses cs).target v ks)) (λ _. give (container o))) (sym all)
    ∙ ap (λ (r : Outcome ℕ). and_then (and_then r (all_turns c levels p o (out-Clauses cs).target v more)) (λ _. give (container o))) h
    ∙ ap (λ k. and_then (all_turns c levels p o (out-Clauses cs).target v more k t) (λ _. give (container o))) e

pub filled_well : (c : World) (levels : ℕ) (p : Site) (o : Output) (cs : Clauses) (v : Value) (n : ℕ) (more : List Clause) (w : Setting) (x : Value) (s t u : State) → w ≡ c.setting → more ≡ (out-Clauses cs).more → iterate w p.line v s ≡ Done n t
    → all_turns c levels p o (out-Clauses cs).target v more (n - 0) t ≡ Done tt u → x ≡ container o → filled c levels p cs v o s ≡ Done x u
filled_well c levels p o cs v n more w x s t u same all opens run shown =
    filled_is c levels p o cs v n more w s t same all opens
    ∙ ap (λ (r : Outcome (Unit {0})). and_then r (λ _. give (container o))) run
    ∙ ap (λ (y : Value). Done y u) (sym shown)

ends_then : {A B : Type 0} (o : Outcome A) (f : A → Action B) (e : EvalError) (u : State) → Ends o e u → Ends (and_then o f) e u
ends_then o f Memory u h = tt
ends_then {A = A} o f (Faulted x n) u h = ap (λ (r : Outcome A). and_then r f) h

pub filled_ends : (c : World) (levels : ℕ) (p : Site) (o : Output) (cs : Clauses) (v : Value) (n : ℕ) (more : List Clause) (w : Setting) (e : EvalError) (s t u : State) → w ≡ c.setting → more ≡ (out-Clauses cs).more → iterate w p.line v s ≡ Done n t
    → Ends (all_turns c levels p o (out-Clauses cs).target v more (n - 0) t) e u → Ends (filled c levels p cs v o s) e u
filled_ends c levels p o cs v n more w e s t u same all opens run =
    subst (λ (r : Outcome Value). Ends r e u) (sym (filled_is c levels p o cs v n more w s t same all opens)) (ends_then (all_turns c levels p o (out-Clauses cs).target v more (n - 0) t) (λ _. give (container o)) e u run)
