-- Open iterations: the counter of a cell counts the loops that are open over it.
use Rattle.std.proofs.Common.{◌≡◌, ℕ, zero, suc, ◌+◌, nat_eq, Bool, true, false, ◌&&◌, List, ◌∷◌, Option, Some, None, slice_get, if◌then◌else◌, refl, ap, sym, ◌∙◌, subst, arith}
use Rattle.star_store.specs.declared.values.Value.{Value}
use Rattle.star_store.specs.declared.values.Value.TheVariants as value
use Rattle.star_store.specs.declared.values.Cell.{Cell}
use Rattle.star_store.specs.declared.values.HeapCell.{HeapCell}
use Rattle.star_store.specs.Store.{Store, changed, closed, closed_in, is_container, iterations_in, opened, opened_in}
use Rattle.star_meaning.specs.declared.fault.FaultCode.TheVariants as code
use Rattle.star_meaning.specs.Laws.{Kept}
use Rattle.star_meaning.specs.Run.{State, Done, and_then, ◌>>=◌, found, give, storing}
use Rattle.star_meaning.specs.Program.{Setting}
use Rattle.star_meaning.specs.Values.{content, count_in, count_of, iterate, leave}
use Rattle.star_meaning.proofs.Kept.{runs_keep}
use Rattle.star_meaning.proofs.Stays.{changed_home, get_in_changed, is_at, kind_container, none_in_changed, one_place, same_place}
use Rattle.std.proofs.lemmas.Bool.{eq-eqb, eqb-true, ne_eqb}
use Rattle.star_laws.specs.Iterations.{AreCounted, FilesBeginWithNoLoop, LoopsAreCounted, OpenIterationsAreOpenLoops, RunsEndTheirLoops, leads_to, loops_over}

pub files_begin_with_no_loop : FilesBeginWithNoLoop
files_begin_with_no_loop w steps = record { counted = λ at a h. cc; there = λ at h. refl }

-- a number if a cell is a list, a dictionary or a set, else 0
abbrev of_container : Cell → ℕ → ℕ
of_container c n = if is_container c then n else 0

none_is : (b : Bool) (n : ℕ) → n ≡ 0 → 0 ≡ (if b then n else 0)
none_is true n h = sym h
none_is false n h = refl

-- runs

there_before : (s t : State) → Kept s t → (at : ℕ) (o : Option HeapCell) → slice_get s.store.cells at ≡ o → slice_get t.store.cells at ≡ None → slice_get s.store.cells at ≡ None
there_before s t k at None e h = e
there_before s t k at (Some a) e h = let b = k.cells at a e in let no : Some b.0 ≡ None = sym b.1 ∙ h in cc

kept_at : (s t : State) (loops : List Value) → Kept s t → AreCounted s.store loops → (at : ℕ) (b : HeapCell) (o : Option HeapCell) → slice_get s.store.cells at ≡ o → slice_get t.store.cells at ≡ Some b → b.iterations ≡ of_container b.cell (loops_over s.store.home at loops)
kept_at s t loops k c at b None e h = k.fresh at b e h ∙ none_is (is_container b.cell) (loops_over s.store.home at loops) (c.there at e)
kept_at s t loops k c at b (Some a) e h =
    let d = k.cells at a e in
    let same : Some d.0 ≡ Some b = sym d.1 ∙ h in
    let one : d.0 ≡ b = cc in
    subst (λ z. z.iterations ≡ of_container z.cell (loops_over s.store.home at loops)) one
    (d.2.iterations ∙ c.counted at a e ∙ ap (λ x. if x then loops_over s.store.home at loops else 0) (sym (kind_container a.cell d.0.cell d.2.kind)))

kept_counted : (s t : State) (loops : List Value) → Kept s t → AreCounted s.store loops → AreCounted t.store loops
kept_counted s t loops k c = record {
  counted = λ at b h. subst (λ home. b.iterations ≡ of_container b.cell (loops_over home at loops)) (sym k.home) (kept_at s t loops k c at b (slice_get s.store.cells at) refl h);
  there = λ at h. subst (λ home. loops_over home at loops ≡ 0) (sym k.home) (c.there at (there_before s t k at (slice_get s.store.cells at) refl h));
}

pub runs_end_their_loops : RunsEndTheirLoops
runs_end_their_loops w levels p s t loops c = (
  (λ e v h. kept_counted s t loops ((runs_keep w levels p s t).0 e v h) c),
  (λ x f h. kept_counted s t loops ((runs_keep w levels p s t).1 x f h) c),
)

-- the cell that a value leads to

self_place : (n : ℕ) → one_place n n ≡ true
self_place zero = refl
self_place (suc n) = self_place n

other_place : (m n : ℕ) → one_place m n ≡ false → m ≡ n → ⊥
other_place m n h e = let one : true ≡ false = sym (self_place m) ∙ ap (one_place m) e ∙ h in cc

place_is : (m n : ℕ) → one_place m n ≡ nat_eq m n
place_is m n = positional (one_place m n) refl
  where
    positional : (b : Bool) → one_place m n ≡ b → one_place m n ≡ nat_eq m n
    positional true h = h ∙ sym (eq-eqb m n (same_place m n h))
    positional false h = h ∙ sym (ne_eqb m n (other_place m n h))

at_is : (v : Value) (home at : ℕ) → is_at v home at ≡ leads_to v home at
at_is (value.Ref h i) home at = ap (λ b. nat_eq h home && b) (place_is i at)
at_is _ home at = refl

-- a store with one cell changed

was_there : (f : HeapCell → HeapCell) (v : Value) (s : Store) (at : ℕ) (o : Option HeapCell) → slice_get s.cells at ≡ o → slice_get (changed f v s).cells at ≡ None → slice_get s.cells at ≡ None
was_there f v s at None e h = e
was_there f v s at (Some a) e h = let no : Some (if is_at v s.home at then f a else a) ≡ None = sym (get_in_changed f v s at a e) ∙ h in cc

-- a loop that begins

opened_right : (b x : Bool) (a : HeapCell) (n : ℕ) → is_container a.cell ≡ x → a.iterations ≡ (if x then n else 0) → (if b then opened_in a else a).iterations ≡ of_container (if b then opened_in a else a).cell ((if b then 1 else 0) + n)
opened_right true true a n e h = rw e (rw e (omega (arith, h)))
opened_right true false a n e h = rw e (rw e h)
opened_right false true a n e h = rw e (omega (arith, h))
opened_right false false a n e h = rw e h

opened_at : (v : Value) (s : Store) (loops : List Value) (at : ℕ) (b : HeapCell) (o : Option HeapCell) → AreCounted s loops → slice_get s.cells at ≡ o → slice_get (opened v s).cells at ≡ Some b → b.iterations ≡ of_container b.cell (loops_over s.home at (v ∷ loops))
opened_at v s loops at b None c e h = let no : None ≡ Some b = sym (none_in_changed opened_in v s at e) ∙ h in cc
opened_at v s loops at b (Some a) c e h =
    let same : Some (if is_at v s.home at then opened_in a else a) ≡ Some b = sym (get_in_changed opened_in v s at a e) ∙ h in
    let one : (if is_at v s.home at then opened_in a else a) ≡ b = cc in
    let right : (if is_at v s.home at then opened_in a else a).iterations ≡ of_container (if is_at v s.home at then opened_in a else a).cell ((if is_at v s.home at then 1 else 0) + loops_over s.home at loops) = opened_right (is_at v s.home at) (is_container a.cell) a (loops_over s.home at loops) refl (c.counted at a e) in
    subst (λ z. z.iterations ≡ of_container z.cell (loops_over s.home at (v ∷ loops))) one
    (subst (λ x. (if is_at v s.home at then opened_in a else a).iterations ≡ of_container (if is_at v s.home at then opened_in a else a).cell ((if x then 1 else 0) + loops_over s.home at loops)) (at_is v s.home at) right)

-- whether a value can be looped over
abbrev Loops : Setting → State → Value → Type 0
Loops w s v = (n : ℕ) × (count_in (content w s v) ≡ Some n)

is_there : (w : Setting) (s : State) (v : Value) (at : ℕ) → Loops w s v → slice_get s.store.cells at ≡ None → leads_to v s.store.home at ≡ false
is_there w s (value.Ref home i) at l h = not_both (nat_eq home s.store.home) (nat_eq i at) refl refl
  where
    not_both : (a b : Bool) → nat_eq home s.store.home ≡ a → nat_eq i at ≡ b → (a && b) ≡ false
    not_both true true e k = let one : i ≡ at = eqb-true i at k in let no : count_in (content w s (value.Ref home i)) ≡ None = rw e (rw one (rw h refl)) in let never : Some l.0 ≡ None = sym l.1 ∙ no in cc
    not_both true false e k = refl
    not_both false b e k = refl
is_there w s _ at l h = refl

none_more : (b : Bool) (n : ℕ) → b ≡ false → n ≡ 0 → (if b then 1 else 0) + n ≡ 0
none_more true n e h = cc
none_more false n e h = omega (arith, h)

opened_counted : (w : Setting) (v : Value) (s : State) (loops : List Value) → Loops w s v → AreCounted s.store loops → AreCounted (opened v s.store) (v ∷ loops)
opened_counted w v s loops l c = record {
  counted = λ at b h. subst (λ home. b.iterations ≡ of_container b.cell (loops_over home at (v ∷ loops))) (sym (changed_home opened_in v s.store)) (opened_at v s.store loops at b (slice_get s.store.cells at) c refl h);
  there = λ at h.
      let before : slice_get s.store.cells at ≡ None = was_there opened_in v s.store at (slice_get s.store.cells at) refl h in
      subst (λ home. loops_over home at (v ∷ loops) ≡ 0) (sym (changed_home opened_in v s.store))
      (none_more (leads_to v s.store.home at) (loops_over s.store.home at loops) (is_there w s v at l before) (c.there at before));
}

begun : (w : Setting) (line n : ℕ) (v : Value) (s t : State) (loops : List Value) (o : Option ℕ) → count_in (content w s v) ≡ o → AreCounted s.store loops
    → and_then (found code.BadType line o s) (λ m. storing (opened v) >>= λ _. give m) ≡ Done n t → AreCounted t.store (v ∷ loops)
begun w line n v s t loops None e c h = cc
begun w line n v s t loops (Some m) e c h =
    let same : record s { store = opened v s.store } ≡ t = cc in
    subst (λ z. AreCounted z.store (v ∷ loops)) same (opened_counted w v s loops (m, e) c)

iterated : (w : Setting) (line n : ℕ) (v : Value) (s t : State) (loops : List Value) → AreCounted s.store loops → iterate w line v s ≡ Done n t → AreCounted t.store (v ∷ loops)
unfolding iterate count_of
iterated w line n v s t loops c h = begun w line n v s t loops (count_in (content w s v)) refl c h

-- a loop that ends

closed_right : (b x : Bool) (a : HeapCell) (n : ℕ) → is_container a.cell ≡ x → a.iterations ≡ (if x then (if b then 1 else 0) + n else 0) → (if b then closed_in a else a).iterations ≡ of_container (if b then closed_in a else a).cell n
closed_right true true a n e h = rw e (rw e (omega (arith, h)))
closed_right true false a n e h = rw e (rw e h)
closed_right false true a n e h = rw e (omega (arith, h))
closed_right false false a n e h = rw e h

closed_at : (v : Value) (s : Store) (loops : List Value) (at : ℕ) (b : HeapCell) (o : Option HeapCell) → AreCounted s (v ∷ loops) → slice_get s.cells at ≡ o → slice_get (closed v s).cells at ≡ Some b → b.iterations ≡ of_container b.cell (loops_over s.home at loops)
closed_at v s loops at b None c e h = let no : None ≡ Some b = sym (none_in_changed closed_in v s at e) ∙ h in cc
closed_at v s loops at b (Some a) c e h =
    let same : Some (if is_at v s.home at then closed_in a else a) ≡ Some b = sym (get_in_changed closed_in v s at a e) ∙ h in
    let one : (if is_at v s.home at then closed_in a else a) ≡ b = cc in
    let counted : a.iterations ≡ (if is_container a.cell then (if is_at v s.home at then 1 else 0) + loops_over s.home at loops else 0) = subst (λ x. a.iterations ≡ (if is_container a.cell then (if x then 1 else 0) + loops_over s.home at loops else 0)) (sym (at_is v s.home at)) (c.counted at a e) in
    subst (λ z. z.iterations ≡ of_container z.cell (loops_over s.home at loops)) one (closed_right (is_at v s.home at) (is_container a.cell) a (loops_over s.home at loops) refl counted)

no_more : (m n : ℕ) → m + n ≡ 0 → n ≡ 0
no_more m n h = omega (arith, h)

closed_counted : (v : Value) (s : Store) (loops : List Value) → AreCounted s (v ∷ loops) → AreCounted (closed v s) loops
closed_counted v s loops c = record {
  counted = λ at b h. subst (λ home. b.iterations ≡ of_container b.cell (loops_over home at loops)) (sym (changed_home closed_in v s)) (closed_at v s loops at b (slice_get s.cells at) c refl h);
  there = λ at h. subst (λ home. loops_over home at loops ≡ 0) (sym (changed_home closed_in v s)) (no_more _ (loops_over s.home at loops) (c.there at (was_there closed_in v s at (slice_get s.cells at) refl h)));
}

left : (v : Value) (s t : State) (loops : List Value) → AreCounted s.store (v ∷ loops) → leave v s ≡ Done tt t → AreCounted t.store loops
unfolding leave
left v s t loops c h = let same : record s { store = closed v s.store } ≡ t = cc in subst (λ z. AreCounted z.store loops) same (closed_counted v s.store loops c)

pub loops_are_counted : LoopsAreCounted
loops_are_counted w line n v s t loops = (iterated w line n v s t loops, left v s t loops)

-- the open iterations that the rules of writing ask for

own : (b x : Bool) (a : HeapCell) (n : ℕ) → b ≡ true → is_container a.cell ≡ x → x ≡ true → a.iterations ≡ (if x then n else 0) → (if b then iterations_in (Some a) else 0) ≡ n
own true true a n e k l h = rw k h
own true false a n e k l h = cc
own false x a n e k l h = cc

pub open_iterations_are_open_loops : OpenIterationsAreOpenLoops
open_iterations_are_open_loops s loops at a c h k = rw h (own (nat_eq s.home s.home) (is_container a.cell) a (loops_over s.home at loops) (eq-eqb s.home s.home refl) refl k (c.counted at a h))
