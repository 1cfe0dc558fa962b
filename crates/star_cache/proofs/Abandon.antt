-- A stack that is given up from the top down.
use Rattle.std.proofs.Common.{◌≡◌, ◌<◌, ℕ, zero, suc, List, [], ◌∷◌, Option, Some, None, length, get_or, set, refl, sym, ap, ◌∙◌, arith}
use Rattle.std.proofs.lemmas.List.{length-set, get_or-set_same, set-get_or}
use Rattle.star_cache.specs.declared.entry.Entry.{Entry}
use Rattle.star_cache.specs.declared.entry.Entry.TheVariants.{Spoiled}
use Rattle.star_cache.specs.State.{BookState, LoaderState, top_of, idle, loader_at, stack_of, awaited_by}
use Rattle.star_cache.specs.Step.{after_wake, after_end, after_abandon, spoiled, below_top}
use Rattle.star_cache.proofs.Settle.{stack_shape}

set-set : {X : Type 0} (xs : List X) (i : ℕ) (x y : X) → set (set xs i x) i y ≡ set xs i y
set-set [] i x y = refl
set-set (z ∷ xs) zero x y = refl
set-set (z ∷ xs) (suc i) x y = ap (λ v. z ∷ v) (set-set xs i x y)

no_top : (stack : List ℕ) → top_of stack ≡ None → stack ≡ []
no_top [] t = refl
no_top (x ∷ below) t = absurd (cc)

module _ {P : Type 0} (b : BookState P) (s : ℕ) (there : s < length b.loaders) where
  -- another loader and other entries, of the same count, after giving up
  pub after_abandon-moved : (entries : List (Entry P)) (l : LoaderState) → l.count ≡ (loader_at b s).count → spoiled l.stack entries ≡ spoiled (stack_of b s) b.entries → after_abandon (record { entries = entries; loaders = set b.loaders s l }) s ≡ after_abandon b s
  after_abandon-moved entries l same_count same_entries =
      let at : get_or (set b.loaders s l) s idle ≡ l = get_or-set_same b.loaders s l idle there in
      let Make : LoaderState → BookState P = λ v. record { entries = spoiled v.stack entries; loaders = set (set b.loaders s l) s (record { stack = []; awaited = None; count = v.count }) } in
      let MakeCount : ℕ → BookState P = λ k. record { entries = spoiled l.stack entries; loaders = set (set b.loaders s l) s (record { stack = []; awaited = None; count = k }) } in
      let MakeEntries : List (Entry P) → BookState P = λ es. record { entries = es; loaders = set (set b.loaders s l) s (record { stack = []; awaited = None; count = (loader_at b s).count }) } in
      let MakeLoaders : List LoaderState → BookState P = λ ls. record { entries = spoiled (stack_of b s) b.entries; loaders = ls } in
      ap Make at ∙ (ap MakeCount same_count ∙ (ap MakeEntries same_entries ∙ ap MakeLoaders (set-set b.loaders s l (record { stack = []; awaited = None; count = (loader_at b s).count }))))

  -- stopping the wait first changes nothing of it
  pub after_abandon-wake : after_abandon (after_wake b s) s ≡ after_abandon b s
  after_abandon-wake = after_abandon-moved b.entries (record { stack = stack_of b s; awaited = None; count = (loader_at b s).count }) refl refl

  -- nor does spoiling the top first
  pub after_abandon-end : (n : ℕ) → top_of (stack_of b s) ≡ Some n → after_abandon (after_end b s n Spoiled) s ≡ after_abandon b s
  after_abandon-end n top =
      after_abandon-moved (set b.entries n Spoiled) (record { stack = below_top (stack_of b s); awaited = awaited_by b s; count = (loader_at b s).count }) refl
      (ap (λ st. spoiled st b.entries) (sym (stack_shape n (stack_of b s) top)))

  -- if the stack is empty and nothing is awaited, it is done
  pub after_abandon-done : top_of (stack_of b s) ≡ None → awaited_by b s ≡ None → after_abandon b s ≡ b
  after_abandon-done top free =
      let empty : stack_of b s ≡ [] = no_top (stack_of b s) top in
      let Make : List ℕ → BookState P = λ st. record { entries = spoiled st b.entries; loaders = set b.loaders s (record { stack = []; awaited = None; count = (loader_at b s).count }) } in
      let MakeStack : List ℕ → BookState P = λ st. record { entries = b.entries; loaders = set b.loaders s (record { stack = st; awaited = None; count = (loader_at b s).count }) } in
      let MakeAwaited : Option ℕ → BookState P = λ a. record { entries = b.entries; loaders = set b.loaders s (record { stack = stack_of b s; awaited = a; count = (loader_at b s).count }) } in
      let MakeLoaders : List LoaderState → BookState P = λ ls. record { entries = b.entries; loaders = ls } in
      ap Make empty ∙ (ap MakeStack (sym empty) ∙ (ap MakeAwaited (sym free) ∙ ap MakeLoaders (set-get_or b.loaders s idle)))

  pub stack_falls : (n : ℕ) → top_of (stack_of b s) ≡ Some n → length (stack_of (after_end b s n Spoiled) s) < length (stack_of b s)
  stack_falls n top =
      let new = ap (λ (l : LoaderState). length l.stack) (get_or-set_same b.loaders s (record { stack = below_top (stack_of b s); awaited = awaited_by b s; count = (loader_at b s).count }) idle there) in
      let size = ap length (stack_shape n (stack_of b s) top) in
      omega (arith, new, size)

  pub free_wake : awaited_by (after_wake b s) s ≡ None
  free_wake = ap (λ (l : LoaderState). l.awaited) (get_or-set_same b.loaders s (record { stack = stack_of b s; awaited = None; count = (loader_at b s).count }) idle there)

  pub free_end : (n : ℕ) → awaited_by b s ≡ None → awaited_by (after_end b s n Spoiled) s ≡ None
  free_end n free = ap (λ (l : LoaderState). l.awaited) (get_or-set_same b.loaders s (record { stack = below_top (stack_of b s); awaited = awaited_by b s; count = (loader_at b s).count }) idle there) ∙ free

-- the invariant while a stack is given up
pub record IsGivingUp {P : Type 0} (start now : BookState P) (s : ℕ) : Type 0 where
  pub there : s < length now.loaders
  pub free : awaited_by now s ≡ None
  pub goal : after_abandon now s ≡ after_abandon start s

module _ {P : Type 0} (start : BookState P) (s : ℕ) where
  pub IsGivingUp-start : s < length start.loaders → IsGivingUp start (after_wake start s) s
  IsGivingUp-start there = record { there = omega (arith, there, length-set start.loaders s (record { stack = stack_of start s; awaited = None; count = (loader_at start s).count })); free = free_wake start s there; goal = after_abandon-wake start s there }

  pub IsGivingUp-step : (now : BookState P) (n : ℕ) → IsGivingUp start now s → top_of (stack_of now s) ≡ Some n → IsGivingUp start (after_end now s n Spoiled) s
  IsGivingUp-step now n f top = record {
    there = let h = f.there in omega (arith, h, length-set now.loaders s (record { stack = below_top (stack_of now s); awaited = awaited_by now s; count = (loader_at now s).count }));
    free = free_end now s f.there n f.free;
    goal = after_abandon-end now s f.there n top ∙ f.goal;
  }

  pub IsGivingUp-done : (now : BookState P) → IsGivingUp start now s → top_of (stack_of now s) ≡ None → now ≡ after_abandon start s
  IsGivingUp-done now f top = sym (after_abandon-done now s f.there top f.free) ∙ f.goal
