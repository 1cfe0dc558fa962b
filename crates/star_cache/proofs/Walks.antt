-- Walks along a relation: joined, cut, and with one more step.
use Rattle.std.proofs.Common.{◌≡◌, ◌⊎◌, ℕ, zero, suc, refl, sym, subst, inl, inr}
use Rattle.star_cache.specs.Walk.{Walk, LeadsTo, EndsBefore, IsAcyclic}

-- a walk, and a walk from its end
pub LeadsTo-join : (R : ℕ → ℕ → Type 0) (k : ℕ) (s t u : ℕ) → Walk R k s t → LeadsTo R t u → LeadsTo R s u
LeadsTo-join R zero s t u e w = subst (λ x. LeadsTo R x u) (sym e) w
LeadsTo-join R (suc k) s t u w rest =
    let whole : LeadsTo R w.0 u = LeadsTo-join R k w.0 t u w.2 rest in
    (suc whole.0, (w.0, w.1, whole.1))

-- a walk without its last step
pub Walk-shorter : (R : ℕ → ℕ → Type 0) (k : ℕ) (s t : ℕ) → Walk R (suc k) s t → (v : ℕ) × Walk R k s v
Walk-shorter R zero s t w = (s, refl)
Walk-shorter R (suc k) s t w =
    let rest : (v : ℕ) × Walk R k w.0 v = Walk-shorter R k w.0 t w.2 in
    (rest.0, (w.0, w.1, rest.1))

pub EndsBefore-more : (R : ℕ → ℕ → Type 0) (k : ℕ) (s : ℕ) → EndsBefore R k s → EndsBefore R (suc k) s
EndsBefore-more R k s ends = λ t w. let short : (v : ℕ) × Walk R k s v = Walk-shorter R k s t w in ends short.0 short.1

-- k more than m, by a recursion that walks follow
abbrev pub plus : ℕ → ℕ → ℕ
plus zero m = m
plus (suc k) m = suc (plus k m)

pub EndsBefore-plus : (R : ℕ → ℕ → Type 0) (k m : ℕ) (s : ℕ) → EndsBefore R m s → EndsBefore R (plus k m) s
EndsBefore-plus R zero m s ends = ends
EndsBefore-plus R (suc k) m s ends = EndsBefore-more R (plus k m) s (EndsBefore-plus R k m s ends)

-- every step of S is one of R, or leads from s to t
abbrev pub AddsStep : (R S : ℕ → ℕ → Type 0) → ℕ → ℕ → Type 0
AddsStep R S s t = (x y : ℕ) → S x y → R x y ⊎ ((x ≡ s) × (y ≡ t))

-- a walk that never meets s takes no new step
pub Walk-avoids : (R S : ℕ → ℕ → Type 0) (s t : ℕ) → AddsStep R S s t → (k : ℕ) (x y : ℕ) → (LeadsTo R x s → ⊥) → Walk S k x y → Walk R k x y
Walk-avoids R S s t adds zero x y away w = w
Walk-avoids R S s t adds (suc k) x y away w =
    elim (adds x w.0 w.1) [
      | inl old ↦ (w.0, old, Walk-avoids R S s t adds k w.0 y (λ r. away (suc r.0, (w.0, old, r.1))) w.2)
      | inr new ↦ absurd (away (0, new.0))
    ]

module _ (R S : ℕ → ℕ → Type 0) (s t : ℕ) (adds : AddsStep R S s t) (away : LeadsTo R t s → ⊥) where
  -- every walk of S that starts at x ends, if t's walks of R end before m steps
  pub EndsBefore-adds : (m : ℕ) → EndsBefore R m t → (k : ℕ) (x : ℕ) → EndsBefore R k x → EndsBefore S (plus k m) x
  EndsBefore-adds m ends_t zero x ends = absurd (ends x refl)
  EndsBefore-adds m ends_t (suc k) x ends = λ y w.
      elim (adds x w.0 w.1) [
        | inl old ↦ EndsBefore-adds m ends_t k w.0 (λ z v. ends z (w.0, old, v)) y w.2
        | inr new ↦
            let from_t : EndsBefore S m t = λ z v. ends_t z (Walk-avoids R S s t adds m t z away v) in
            EndsBefore-plus S k m w.0 (subst (λ u. EndsBefore S m u) (sym new.1) from_t) y w.2
      ]

  -- one more step keeps a relation acyclic, if its end doesn't lead back to its start
  pub IsAcyclic-adds : IsAcyclic R → IsAcyclic S
  IsAcyclic-adds acyclic x =
      (plus (acyclic x).0 (acyclic t).0, EndsBefore-adds (acyclic t).0 (acyclic t).1 (acyclic x).0 x (acyclic x).1)

-- fewer steps keep it too
pub Walk-fewer : (R S : ℕ → ℕ → Type 0) → ((x y : ℕ) → S x y → R x y) → (k : ℕ) (x y : ℕ) → Walk S k x y → Walk R k x y
Walk-fewer R S sub zero x y w = w
Walk-fewer R S sub (suc k) x y w = (w.0, sub x w.0 w.1, Walk-fewer R S sub k w.0 y w.2)

pub IsAcyclic-fewer : (R S : ℕ → ℕ → Type 0) → ((x y : ℕ) → S x y → R x y) → IsAcyclic R → IsAcyclic S
IsAcyclic-fewer R S sub acyclic x = ((acyclic x).0, λ y w. (acyclic x).1 y (Walk-fewer R S sub (acyclic x).0 x y w))

-- no walk of an acyclic relation returns to its start
pub Walk-returns : (R : ℕ → ℕ → Type 0) (k : ℕ) (x y : ℕ) → R x y → LeadsTo R y x → EndsBefore R k x → ⊥
Walk-returns R zero x y step back ends = ends x refl
Walk-returns R (suc k) x y step back ends =
    let next : EndsBefore R k y = λ z v. ends z (y, step, v) in
    let turn : (z : ℕ) × (R y z × LeadsTo R z y) = first_step R back.0 y x back.1 step in
    Walk-returns R k y turn.0 turn.1.0 turn.1.1 next
  where
    -- the first step of the way back, and the way from there round to y
    first_step : (R : ℕ → ℕ → Type 0) (j : ℕ) (y x : ℕ) → Walk R j y x → R x y → (z : ℕ) × (R y z × LeadsTo R z y)
    first_step R zero y x e step = (y, (subst (λ v. R v y) (sym e) step, (0, refl)))
    first_step R (suc j) y x w step = (w.0, (w.1, LeadsTo-join R j w.0 x y w.2 (1, (y, step, refl))))

-- a step on a cycle has a next one that is on it too
pub next_on_cycle : (R : ℕ → ℕ → Type 0) (x y : ℕ) → R x y → LeadsTo R y x → (z : ℕ) × (R y z × LeadsTo R z y)
next_on_cycle R x y step back = turn back.0 y back.1 step
  where
    turn : (j : ℕ) (u : ℕ) → Walk R j u x → R x u → (z : ℕ) × (R u z × LeadsTo R z u)
    turn zero u e st = (u, (subst (λ v. R v u) (sym e) st, (0, refl)))
    turn (suc j) u w st = (w.0, (w.1, LeadsTo-join R j w.0 x u w.2 (1, (u, st, refl))))

-- on a cycle nothing is good at any depth, if it needs every next one to be good at a smaller depth
pub cycle-not_good : (R : ℕ → ℕ → Type 0) (good : ℕ → ℕ → Type 0) → ((n : ℕ) → good zero n → ⊥) → ((d n m : ℕ) → good (suc d) n → R n m → good d m) → (d n m : ℕ) → R n m → LeadsTo R m n → good d n → ⊥
cycle-not_good R good never next zero n m step back g = never n g
cycle-not_good R good never next (suc d) n m step back g =
    let turn : (z : ℕ) × (R m z × LeadsTo R z m) = next_on_cycle R n m step back in
    cycle-not_good R good never next d m turn.0 turn.1.0 turn.1.1 (next d n m g step)

-- one more step at the end of a walk
pub Walk-push : (R : ℕ → ℕ → Type 0) (k s t u : ℕ) → Walk R k s t → R t u → Walk R (suc k) s u
Walk-push R zero s t u e step = (u, subst (λ v. R v u) (sym e) step, refl)
Walk-push R (suc k) s t u w step = (w.0, w.1, Walk-push R k w.0 t u w.2 step)
