-- One cause for a file.
use Rattle.std.proofs.Common.{arith, ◌≡◌, ℕ, suc, List, [], ◌∷◌, ◌++◌, Some, refl, ap, sym, subst, ◌∙◌, inl, inr}
use Rattle.std.specs.Prelude.{slice_get}
use Rattle.std.specs.List.{Contains}
use Rattle.std.proofs.lemmas.List.Elements.{Contains-append_left, Contains-append_right}
use Rattle.star_meaning.specs.Module.{Stopped}
use Rattle.star_outline.specs.Definitions.{AllDiffer}
use Rattle.star_plan.specs.Plan.{Plan, loaded}
use Rattle.star_plan.specs.Causes.{Cause, Culprit, Cycle, FailsBy, HasFault, IsCause, IsCauseBy, LeadBy}
use Rattle.star_plan.proofs.Outcomes.{no_bad, no_loads, one_place}

pub here : (x : ℕ) (xs : List ℕ) → Contains (x ∷ xs) x
here x xs = (0, omega arith, refl)

pub there : (x y : ℕ) (xs : List ℕ) → Contains xs y → Contains (x ∷ xs) y
there x y xs h = (suc h.0, (let less = h.1 in omega arith), h.2)

pub one_next : (plan : Plan) (n m k : ℕ) → FailsBy plan n m → FailsBy plan n k → m ≡ k
one_next plan n m k (i, first, a) (j, second, b) =
    let same : i ≡ j = one_place plan (loaded plan n) i j first second in
    let at : slice_get (loaded plan n) j ≡ Some m = subst (λ x. slice_get (loaded plan n) x ≡ Some m) same a in
    let both : Some m ≡ Some k = sym at ∙ b in
    cc

-- a fault of its own ends the way
pub stops : (plan : Plan) (n k : ℕ) → HasFault plan n → FailsBy plan n k → ⊥
stops plan n k (inl (f, is)) (i, first, at) = no_loads plan n f i is first
stops plan n k (inr (f, lines, (d, is))) (i, first, at) = no_bad plan d n (Stopped f lines) i is first

-- a property that each file hands on to the next is handed on to the end of a way
pub lead_end : (On : ℕ → ℕ → Type 0) (P : ℕ → Type 0) → ((n k : ℕ) → On n k → P n → P k) → (n m : ℕ) (xs : List ℕ) → LeadBy On n xs m → P n → P m
lead_end On P hand n m [] lead h = subst P lead h
lead_end On P hand n m (x ∷ xs) lead h = lead_end On P hand lead.1.0 m xs lead.1.2 (hand n lead.1.0 lead.1.1 h)

-- each file leads to one at the most
module _ (On : ℕ → ℕ → Type 0) (one : (n m k : ℕ) → On n m → On n k → m ≡ k) where
  -- two ways to a file that meet it only at their ends are one
  pub one_way : (c k : ℕ) (xs ys : List ℕ) → LeadBy On k xs c → LeadBy On k ys c → (Contains xs c → ⊥) → (Contains ys c → ⊥) → xs ≡ ys
  one_way c k [] [] a b p q = refl
  one_way c k [] (y ∷ ys) a b p q = absurd (q (subst (λ z. Contains (y ∷ ys) z) (sym b.0 ∙ a) (here y ys)))
  one_way c k (x ∷ xs) [] a b p q = absurd (p (subst (λ z. Contains (x ∷ xs) z) (sym a.0 ∙ b) (here x xs)))
  one_way c k (x ∷ xs) (y ∷ ys) a b p q =
      let same : b.1.0 ≡ a.1.0 = one k b.1.0 a.1.0 b.1.1 a.1.1 in
      let rest : xs ≡ ys = one_way c a.1.0 xs ys a.1.2 (subst (λ z. LeadBy On z ys c) same b.1.2) (λ h. p (there x c xs h)) (λ h. q (there y c ys h)) in
      ap (λ zs. x ∷ zs) rest ∙ ap (λ z. z ∷ ys) (sym a.0 ∙ b.0)

  -- a file that leads to a cycle without meeting another does not lead to that other one
  no_return : (n d : ℕ) (ds : List ℕ) → LeadBy On d (d ∷ ds) d → (Contains (d ∷ ds) n → ⊥) → (k : ℕ) (zs : List ℕ) → LeadBy On k zs n → (us : List ℕ) → LeadBy On k us d → (Contains us n → ⊥) → ⊥
  no_return n d ds ring out k [] a [] b off = out (subst (λ z. Contains (d ∷ ds) z) (sym b ∙ a) (here d ds))
  no_return n d ds ring out k [] a (u ∷ us) b off = off (subst (λ z. Contains (u ∷ us) z) (sym b.0 ∙ a) (here u us))
  no_return n d ds ring out k (z ∷ zs) a [] b off =
      let same : ring.1.0 ≡ a.1.0 = one d ring.1.0 a.1.0 ring.1.1 (subst (λ x. On x a.1.0) b a.1.1) in
      no_return n d ds ring out a.1.0 zs a.1.2 ds (subst (λ x. LeadBy On x ds d) same ring.1.2) (λ h. out (there d n ds h))
  no_return n d ds ring out k (z ∷ zs) a (u ∷ us) b off =
      let same : b.1.0 ≡ a.1.0 = one k b.1.0 a.1.0 b.1.1 a.1.1 in
      no_return n d ds ring out a.1.0 zs a.1.2 us (subst (λ x. LeadBy On x us d) same b.1.2) (λ h. off (there u n us h))

  -- a file on a cycle does not lead to a cycle without it
  no_lasso : (n c : ℕ) (cs : List ℕ) (y : ℕ) (ys : List ℕ) (d : ℕ) (ds : List ℕ) → n ≡ c → LeadBy On c (c ∷ cs) c → LeadBy On n (y ∷ ys) d → LeadBy On d (d ∷ ds) d → (Contains (ys ++ d ∷ ds) y → ⊥) → ⊥
  no_lasso n c cs y ys d ds e ring way turn off =
      let own : LeadBy On n (n ∷ cs) n = subst (λ z. LeadBy On z (z ∷ cs) z) (sym e) ring in
      let same : own.1.0 ≡ way.1.0 = one n own.1.0 way.1.0 own.1.1 way.1.1 in
      let apart : Contains (ys ++ d ∷ ds) n → ⊥ = subst (λ z. Contains (ys ++ d ∷ ds) z → ⊥) (sym way.0) off in
      no_return n d ds turn (λ h. apart (Contains-append_right ys (d ∷ ds) n h)) way.1.0 cs (subst (λ z. LeadBy On z cs n) same own.1.2) ys way.1.2 (λ h. apart (Contains-append_left ys (d ∷ ds) n h))

  one_cycle : (n : ℕ) (xs : List ℕ) (c : ℕ) (cs : List ℕ) → LeadBy On n xs c → LeadBy On c (c ∷ cs) c → AllDiffer (xs ++ c ∷ cs)
      → (ys : List ℕ) (d : ℕ) (ds : List ℕ) → LeadBy On n ys d → LeadBy On d (d ∷ ds) d → AllDiffer (ys ++ d ∷ ds) → (c ∷ cs) ≡ (d ∷ ds)
  one_cycle n [] c cs a r p [] d ds b s q =
      let same : d ≡ c = sym b ∙ a in
      let turn : LeadBy On c (c ∷ ds) c = subst (λ z. LeadBy On z (z ∷ ds) z) same s in
      let off : Contains ds c → ⊥ = subst (λ z. Contains ds z → ⊥) same q.0 in
      let next : turn.1.0 ≡ r.1.0 = one c turn.1.0 r.1.0 turn.1.1 r.1.1 in
      ap (λ zs. c ∷ zs) (one_way c r.1.0 cs ds r.1.2 (subst (λ z. LeadBy On z ds c) next turn.1.2) p.0 off) ∙ ap (λ z. z ∷ ds) (sym same)
  one_cycle n [] c cs a r p (y ∷ ys) d ds b s q = absurd (no_lasso n c cs y ys d ds a r b s q.0)
  one_cycle n (x ∷ xs) c cs a r p [] d ds b s q = absurd (no_lasso n d ds x xs c cs b s a r p.0)
  one_cycle n (x ∷ xs) c cs a r p (y ∷ ys) d ds b s q =
      let same : b.1.0 ≡ a.1.0 = one n b.1.0 a.1.0 b.1.1 a.1.1 in
      one_cycle a.1.0 xs c cs a.1.2 r p.1 ys d ds (subst (λ z. LeadBy On z ys d) same b.1.2) s q.1

-- .. and none from a file at which ways end
module _ (On : ℕ → ℕ → Type 0) (one : (n m k : ℕ) → On n m → On n k → m ≡ k) (Ends : ℕ → Type 0) (stop : (n k : ℕ) → Ends n → On n k → ⊥) where
  one_culprit : (n : ℕ) (xs : List ℕ) (m : ℕ) → LeadBy On n xs m → Ends m → (ys : List ℕ) (k : ℕ) → LeadBy On n ys k → Ends k → m ≡ k
  one_culprit n [] m a f [] k b g = sym a ∙ b
  one_culprit n [] m a f (y ∷ ys) k b g = absurd (stop n b.1.0 (subst Ends (sym a) f) b.1.1)
  one_culprit n (x ∷ xs) m a f [] k b g = absurd (stop n a.1.0 (subst Ends (sym b) g) a.1.1)
  one_culprit n (x ∷ xs) m a f (y ∷ ys) k b g =
      let same : b.1.0 ≡ a.1.0 = one n b.1.0 a.1.0 b.1.1 a.1.1 in
      one_culprit a.1.0 xs m a.1.2 f ys k (subst (λ z. LeadBy On z ys k) same b.1.2) g

  -- a file that leads to a cycle has a next file that does too
  onward : (c : ℕ) (cs : List ℕ) → LeadBy On c (c ∷ cs) c → (n : ℕ) (us : List ℕ) → LeadBy On n us c → (k : ℕ) × On n k × ((vs : List ℕ) × LeadBy On k vs c)
  onward c cs ring n [] e = subst (λ x. (k : ℕ) × On x k × ((vs : List ℕ) × LeadBy On k vs c)) (sym e) (ring.1.0, ring.1.1, (cs, ring.1.2))
  onward c cs ring n (u ∷ us) way = (way.1.0, way.1.1, (us, way.1.2))

  -- so it leads to no file at which ways end
  no_end : (c : ℕ) (cs : List ℕ) → LeadBy On c (c ∷ cs) c → (n : ℕ) (xs : List ℕ) (m : ℕ) → LeadBy On n xs m → Ends m → (us : List ℕ) → LeadBy On n us c → ⊥
  no_end c cs ring n [] m e f us way =
      let on = onward c cs ring n us way in
      stop n on.0 (subst Ends (sym e) f) on.1
  no_end c cs ring n (x ∷ xs) m a f us way =
      let on = onward c cs ring n us way in
      let same : on.0 ≡ a.1.0 = one n on.0 a.1.0 on.1 a.1.1 in
      no_end c cs ring a.1.0 xs m a.1.2 f on.2.0 (subst (λ k. LeadBy On k on.2.0 c) same on.2.1)

  pub one_cause_by : (n : ℕ) (a b : Cause) → IsCauseBy On Ends n a → IsCauseBy On Ends n b → a ≡ b
  one_cause_by n (Culprit m) (Culprit k) x y = ap Culprit (one_culprit n x.0 m x.1 x.2 y.0 k y.1 y.2)
  one_cause_by n (Culprit m) (Cycle []) x y = absurd y
  one_cause_by n (Culprit m) (Cycle (d ∷ ds)) x y = absurd (no_end d ds y.2 n x.0 m x.1 x.2 y.0 y.1)
  one_cause_by n (Cycle []) b x y = absurd x
  one_cause_by n (Cycle (c ∷ cs)) (Culprit k) x y = absurd (no_end c cs x.2 n y.0 k y.1 y.2 x.0 x.1)
  one_cause_by n (Cycle (c ∷ cs)) (Cycle []) x y = absurd y
  one_cause_by n (Cycle (c ∷ cs)) (Cycle (d ∷ ds)) x y = ap Cycle (one_cycle On one n x.0 c cs x.1 x.2 x.3 y.0 d ds y.1 y.2 y.3)

pub one-cause : (plan : Plan) (n : ℕ) (a b : Cause) → IsCause plan n a → IsCause plan n b → a ≡ b
one-cause plan = one_cause_by (FailsBy plan) (one_next plan) (HasFault plan) (stops plan)
