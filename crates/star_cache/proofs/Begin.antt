-- An entry that is begun keeps the book lawful.
use Rattle.std.proofs.Common.{◌≡◌, ◌≢◌, ◌⊎◌, ◌+◌, ◌<◌, ℕ, List, [], ◌∷◌, Some, None, length, sum_by, refl, sym, subst, ap, ◌∙◌, inl, inr, arith}
use Rattle.std.proofs.lemmas.List.{get_or-set_same, get_or-set_other}
use Rattle.std.proofs.lemmas.List.Sums.{sum_by-set}
use Rattle.star_cache.specs.declared.entry.Entry.TheVariants.{Fresh, Running, Done}
use Rattle.star_cache.specs.State.{BookState, LoaderState, IsLawful, Links, Loads, IsLoadPath, IsIn, IsSet, top_of, idle, entry_at, loader_at, stack_of, awaited_by, is_begun, begun_count}
use Rattle.star_cache.specs.Step.{after_begin}
use Rattle.star_cache.proofs.Walks.{IsAcyclic-fewer}
use Rattle.star_cache.proofs.Lists.{same_or_apart, count_by-set_more}

module _ {P : Type 0} (loads : ℕ → List ℕ) (Reached : ℕ → Type 0) (Right : ℕ → P → Type 0) (b : BookState P) (s n : ℕ) (lawful : IsLawful loads Reached Right b) (there : s < length b.loaders) (free : awaited_by b s ≡ None) (fresh : entry_at b n ≡ Fresh) (known : n < length b.entries) where
  entry_new : entry_at (after_begin b s n) n ≡ Running
  entry_new = get_or-set_same b.entries n Running Fresh known

  entry_old : (e : ℕ) → e ≢ n → entry_at (after_begin b s n) e ≡ entry_at b e
  entry_old e apart = get_or-set_other b.entries n e Running Fresh apart

  pub loader_new : loader_at (after_begin b s n) s ≡ record { stack = n ∷ (stack_of b s); awaited = awaited_by b s; count = (loader_at b s).count + 1 }
  loader_new = get_or-set_same b.loaders s _ idle there

  pub loader_old : (t : ℕ) → t ≢ s → loader_at (after_begin b s n) t ≡ loader_at b t
  loader_old t apart = get_or-set_other b.loaders s t _ idle apart

  pub stack_new : stack_of (after_begin b s n) s ≡ n ∷ (stack_of b s)
  stack_new = ap (λ (l : LoaderState). l.stack) loader_new

  pub stack_old : (t : ℕ) → t ≢ s → stack_of (after_begin b s n) t ≡ stack_of b t
  stack_old t apart = ap (λ (l : LoaderState). l.stack) (loader_old t apart)

  pub awaited_old : (t : ℕ) → awaited_by (after_begin b s n) t ≡ awaited_by b t
  awaited_old t =
      elim (same_or_apart t s) [
        | inl e ↦ subst (λ v. awaited_by (after_begin b s n) v ≡ awaited_by b v) (sym e) (ap (λ (l : LoaderState). l.awaited) loader_new)
        | inr apart ↦ ap (λ (l : LoaderState). l.awaited) (loader_old t apart)
      ]

  -- a fresh entry is in no stack
  pub not_in : (t : ℕ) → IsIn n (stack_of b t) → ⊥
  not_in t h = let runs = lawful.runs t n h in let clash = sym fresh ∙ runs in cc

  member_old : (t e : ℕ) → IsIn e (stack_of b t) → IsIn e (stack_of (after_begin b s n) t)
  member_old t e h =
      elim (same_or_apart t s) [
        | inl same ↦ subst (λ v. IsIn e (stack_of (after_begin b s n) v)) (sym same) (subst (λ st. IsIn e st) (sym stack_new) (inr (subst (λ v. IsIn e (stack_of b v)) same h)))
        | inr apart ↦ subst (λ st. IsIn e st) (sym (stack_old t apart)) h
      ]

  pub member_cases : (t e : ℕ) → IsIn e (stack_of (after_begin b s n) t) → ((e ≡ n) × (t ≡ s)) ⊎ IsIn e (stack_of b t)
  member_cases t e h =
      elim (same_or_apart t s) [
        | inl same ↦ split same (subst (λ st. IsIn e st) stack_new (subst (λ v. IsIn e (stack_of (after_begin b s n) v)) same h))
        | inr apart ↦ inr (subst (λ st. IsIn e st) (stack_old t apart) h)
      ]
    where
      split : t ≡ s → IsIn e (n ∷ (stack_of b s)) → ((e ≡ n) × (t ≡ s)) ⊎ IsIn e (stack_of b t)
      split same (inl i) = inl (i, same)
      split same (inr i) = inr (subst (λ v. IsIn e (stack_of b v)) (sym same) i)

  -- an entry that was not fresh is as it was
  entry_kept : (e : ℕ) → entry_at b e ≢ Fresh → entry_at (after_begin b s n) e ≡ entry_at b e
  entry_kept e begun = entry_old e (λ same. begun (subst (λ v. entry_at b v ≡ Fresh) (sym same) fresh))

  fewer : (x y : ℕ) → Links (after_begin b s n) x y → Links b x y
  fewer x y link =
      let waits : awaited_by b x ≡ Some link.0 = sym (awaited_old x) ∙ link.1 in
      let begun = lawful.awaits_begun x link.0 waits in
      let runs : entry_at b link.0 ≡ Running = sym (entry_kept link.0 begun) ∙ link.2 in
      elim (member_cases y link.0 link.3) [
        | inl new ↦ absurd (begun (subst (λ v. entry_at b v ≡ Fresh) (sym new.0) fresh))
        | inr old ↦ (link.0, waits, runs, old)
      ]

  stacked : (e : ℕ) → entry_at (after_begin b s n) e ≡ Running → (t : ℕ) × IsIn e (stack_of (after_begin b s n) t)
  stacked e runs =
      elim (same_or_apart e n) [
        | inl same ↦ (s, subst (λ st. IsIn e st) (sym stack_new) (inl same))
        | inr apart ↦ let old = lawful.stacked e (sym (entry_old e apart) ∙ runs) in (old.0, member_old old.0 e old.1)
      ]

  runs : (t e : ℕ) → IsIn e (stack_of (after_begin b s n) t) → entry_at (after_begin b s n) e ≡ Running
  runs t e h =
      elim (member_cases t e h) [
        | inl new ↦ subst (λ v. entry_at (after_begin b s n) v ≡ Running) (sym new.0) entry_new
        | inr old ↦ entry_old e (λ same. not_in t (subst (λ v. IsIn v (stack_of b t)) same old)) ∙ lawful.runs t e old
      ]

  once : (t : ℕ) → IsSet (stack_of (after_begin b s n) t)
  once t =
      elim (same_or_apart t s) [
        | inl same ↦ subst (λ v. IsSet (stack_of (after_begin b s n) v)) (sym same) (subst (λ st. IsSet st) (sym stack_new) (not_in s, lawful.once s))
        | inr apart ↦ subst (λ st. IsSet st) (sym (stack_old t apart)) (lawful.once t)
      ]

  one_loader : (t u e : ℕ) → IsIn e (stack_of (after_begin b s n) t) → IsIn e (stack_of (after_begin b s n) u) → t ≡ u
  one_loader t u e h k =
      elim (member_cases t e h) [
        | inl new ↦ elim (member_cases u e k) [ inl other ↦ new.1 ∙ sym other.1 | inr old ↦ absurd (not_in u (subst (λ v. IsIn v (stack_of b u)) new.0 old)) ]
        | inr old ↦ elim (member_cases u e k) [ inl new ↦ absurd (not_in t (subst (λ v. IsIn v (stack_of b t)) new.0 old)) | inr other ↦ lawful.one_loader t u e old other ]
      ]

  awaits_begun : (t e : ℕ) → awaited_by (after_begin b s n) t ≡ Some e → entry_at (after_begin b s n) e ≢ Fresh
  awaits_begun t e waits is_fresh =
      let begun = lawful.awaits_begun t e (sym (awaited_old t) ∙ waits) in
      begun (sym (entry_kept e begun) ∙ is_fresh)

  awaits_load : (t e x : ℕ) → awaited_by (after_begin b s n) t ≡ Some e → top_of (stack_of (after_begin b s n) t) ≡ Some x → Loads loads x e
  awaits_load t e x waits top =
      elim (same_or_apart t s) [
        | inl same ↦ let clash : None ≡ Some e = sym free ∙ subst (λ v. awaited_by b v ≡ Some e) same (sym (awaited_old t) ∙ waits) in absurd (cc)
        | inr apart ↦ lawful.awaits_load t e x (sym (awaited_old t) ∙ waits) (subst (λ st. top_of st ≡ Some x) (stack_old t apart) top)
      ]

  right : (e : ℕ) (p : P) → entry_at (after_begin b s n) e ≡ Done p → Right e p
  right e p done =
      elim (same_or_apart e n) [
        | inl same ↦ let clash : Running ≡ Done p = sym entry_new ∙ subst (λ v. entry_at (after_begin b s n) v ≡ Done p) same done in absurd (cc)
        | inr apart ↦ lawful.right e p (sym (entry_old e apart) ∙ done)
      ]

  counted : sum_by (λ (l : LoaderState). l.count) (after_begin b s n).loaders ≡ begun_count (after_begin b s n)
  counted =
      let loaders = sum_by-set (λ (l : LoaderState). l.count) b.loaders s (record { stack = n ∷ (stack_of b s); awaited = awaited_by b s; count = (loader_at b s).count + 1 }) idle there in
      let entries = count_by-set_more is_begun b.entries n Running Fresh known (ap is_begun fresh) refl in
      let before = lawful.counted in
      omega (arith, loaders, entries, before)

  pub IsLawful-begin : Reached n → ((x : ℕ) → top_of (stack_of b s) ≡ Some x → Loads loads x n) → IsLawful loads Reached Right (after_begin b s n)
  IsLawful-begin reached loaded = record {
    acyclic = IsAcyclic-fewer (Links b) (Links (after_begin b s n)) fewer lawful.acyclic;
    stacked = stacked;
    runs = runs;
    once = once;
    one_loader = one_loader;
    path = path;
    awaits_begun = awaits_begun;
    awaits_load = awaits_load;
    right = right;
    reached = is_reached;
    counted = counted;
  }
    where
      grows : (st : List ℕ) → ((x : ℕ) → top_of st ≡ Some x → Loads loads x n) → IsLoadPath loads st → IsLoadPath loads (n ∷ st)
      grows [] on old = tt
      grows (x ∷ below) on old = (on x refl, old)

      path : (t : ℕ) → IsLoadPath loads (stack_of (after_begin b s n) t)
      path t =
          elim (same_or_apart t s) [
            | inl same ↦ subst (λ v. IsLoadPath loads (stack_of (after_begin b s n) v)) (sym same) (subst (λ st. IsLoadPath loads st) (sym stack_new) (grows (stack_of b s) loaded (lawful.path s)))
            | inr apart ↦ subst (λ st. IsLoadPath loads st) (sym (stack_old t apart)) (lawful.path t)
          ]

      is_reached : (e : ℕ) → entry_at (after_begin b s n) e ≢ Fresh → Reached e
      is_reached e begun =
          elim (same_or_apart e n) [
            | inl same ↦ subst (λ v. Reached v) (sym same) reached
            | inr apart ↦ lawful.reached e (λ f. begun (entry_old e apart ∙ f))
          ]
