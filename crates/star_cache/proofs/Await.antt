-- A seat that begins or stops to await keeps the book lawful.
use Rattle.std.proofs.Common.{◌≡◌, ◌≢◌, ◌⊎◌, ◌<◌, ◌≤◌, ℕ, List, Option, Some, None, length, get_or, set, sum_by, refl, sym, subst, ap, ◌∙◌, inl, inr, arith}
use Rattle.std.proofs.lemmas.List.{length-map, length-set, get_or-set_same, get_or-set_other, get_or_read}
use Rattle.std.proofs.lemmas.List.Sums.{sum_by-set}
use Rattle.star_cache.specs.declared.entry.Entry.{Entry}
use Rattle.star_cache.specs.declared.entry.Entry.TheVariants.{Fresh, Running}
use Rattle.star_cache.specs.declared.book.Loader.{Loader}
use Rattle.star_cache.specs.State.{BookState, LoaderState, IsLawful, Links, Loads, IsLoadPath, IsIn, IsSet, top_of, idle, entry_at, loader_at, stack_of, awaited_by, begun_count}
use Rattle.star_cache.specs.Rows.{book_state, loader_state, IsKept}
use Rattle.star_cache.specs.Step.{after_wait, after_wake, awaits, MeetsSeat}
use Rattle.star_cache.proofs.Walks.{IsAcyclic-adds, IsAcyclic-fewer, AddsStep}
use Rattle.star_cache.proofs.Lists.{same_or_apart}
use Rattle.star_cache.proofs.RowsLemmas.{Represents, Represents-kept, StandsFor, row_at, no_row}

-- the entry that the seat awaits has changed
module _ {P : Type 0} (b : BookState P) (s : ℕ) (o : Option ℕ) (there : s < length b.loaders) where
  loader_new : loader_at (awaits b s o) s ≡ record { stack = stack_of b s; awaited = o; count = (loader_at b s).count }
  loader_new = get_or-set_same b.loaders s _ idle there

  loader_old : (t : ℕ) → t ≢ s → loader_at (awaits b s o) t ≡ loader_at b t
  loader_old t apart = get_or-set_other b.loaders s t _ idle apart

  stack_same : (t : ℕ) → stack_of (awaits b s o) t ≡ stack_of b t
  stack_same t =
      elim (same_or_apart t s) [
        | inl e ↦ subst (λ v. stack_of (awaits b s o) v ≡ stack_of b v) (sym e) (ap (λ (l : LoaderState). l.stack) loader_new)
        | inr apart ↦ ap (λ (l : LoaderState). l.stack) (loader_old t apart)
      ]

  still_counted : sum_by (λ (l : LoaderState). l.count) b.loaders ≡ begun_count b → sum_by (λ (l : LoaderState). l.count) (awaits b s o).loaders ≡ begun_count b
  still_counted before =
      let loaders = sum_by-set (λ (l : LoaderState). l.count) b.loaders s (record { stack = stack_of b s; awaited = o; count = (loader_at b s).count }) idle there in
      omega (arith, loaders, before)

module _ {P : Type 0} (loads : ℕ → List ℕ) (Reached : ℕ → Type 0) (Right : ℕ → P → Type 0) (b : BookState P) (s n : ℕ) (lawful : IsLawful loads Reached Right b) (there : s < length b.loaders) (runs : entry_at b n ≡ Running) where
  stacks : (t : ℕ) → stack_of (after_wait b s n) t ≡ stack_of b t
  stacks = stack_same b s (Some n) there

  awaited_cases : (t e : ℕ) → awaited_by (after_wait b s n) t ≡ Some e → ((t ≡ s) × (e ≡ n)) ⊎ (awaited_by b t ≡ Some e)
  awaited_cases t e waits =
      elim (same_or_apart t s) [
        | inl same ↦
            let new : awaited_by (after_wait b s n) s ≡ Some n = ap (λ (l : LoaderState). l.awaited) (loader_new b s (Some n) there) in
            let both : Some n ≡ Some e = sym new ∙ subst (λ v. awaited_by (after_wait b s n) v ≡ Some e) same waits in
            inl (same, cc)
        | inr apart ↦ inr (sym (ap (λ (l : LoaderState). l.awaited) (loader_old b s (Some n) there t apart)) ∙ waits)
      ]

  adds : AddsStep (Links b) (Links (after_wait b s n)) s (lawful.stacked n runs).0
  adds x y link =
      let member : IsIn link.0 (stack_of b y) = subst (λ st. IsIn link.0 st) (stacks y) link.3 in
      elim (awaited_cases x link.0 link.1) [
        | inl new ↦ inr (new.0, lawful.one_loader y (lawful.stacked n runs).0 n (subst (λ v. IsIn v (stack_of b y)) new.1 member) (lawful.stacked n runs).1)
        | inr old ↦ inl (link.0, old, link.2, member)
      ]

  IsLawful-wait : (MeetsSeat b n s → ⊥) → ((x : ℕ) → top_of (stack_of b s) ≡ Some x → Loads loads x n) → IsLawful loads Reached Right (after_wait b s n)
  IsLawful-wait away loaded = record {
    acyclic = IsAcyclic-adds (Links b) (Links (after_wait b s n)) s (lawful.stacked n runs).0 adds (λ lead. away ((lawful.stacked n runs).0, (lawful.stacked n runs).1, lead)) lawful.acyclic;
    stacked = λ e r. ((lawful.stacked e r).0, subst (λ st. IsIn e st) (sym (stacks (lawful.stacked e r).0)) (lawful.stacked e r).1);
    runs = λ t e h. lawful.runs t e (subst (λ st. IsIn e st) (stacks t) h);
    once = λ t. subst (λ st. IsSet st) (sym (stacks t)) (lawful.once t);
    one_loader = λ t u e h k. lawful.one_loader t u e (subst (λ st. IsIn e st) (stacks t) h) (subst (λ st. IsIn e st) (stacks u) k);
    path = λ t. subst (λ st. IsLoadPath loads st) (sym (stacks t)) (lawful.path t);
    awaits_begun = λ t e waits fresh. elim (awaited_cases t e waits) [
      | inl new ↦ let clash = sym runs ∙ subst (λ v. entry_at b v ≡ Fresh) new.1 fresh in cc
      | inr old ↦ lawful.awaits_begun t e old fresh
    ];
    awaits_load = λ t e x waits top. elim (awaited_cases t e waits) [
      | inl new ↦ subst (λ v. Loads loads x v) (sym new.1) (loaded x (subst (λ v. top_of (stack_of b v) ≡ Some x) new.0 (subst (λ st. top_of st ≡ Some x) (stacks t) top)))
      | inr old ↦ lawful.awaits_load t e x old (subst (λ st. top_of st ≡ Some x) (stacks t) top)
    ];
    right = lawful.right;
    reached = lawful.reached;
    counted = still_counted b s (Some n) there lawful.counted;
  }

module _ {P : Type 0} (loads : ℕ → List ℕ) (Reached : ℕ → Type 0) (Right : ℕ → P → Type 0) (b : BookState P) (s : ℕ) (lawful : IsLawful loads Reached Right b) (there : s < length b.loaders) where
  wake_stacks : (t : ℕ) → stack_of (after_wake b s) t ≡ stack_of b t
  wake_stacks = stack_same b s None there

  wake_awaited : (t e : ℕ) → awaited_by (after_wake b s) t ≡ Some e → awaited_by b t ≡ Some e
  wake_awaited t e waits =
      elim (same_or_apart t s) [
        | inl same ↦
            let none : awaited_by (after_wake b s) s ≡ None = ap (λ (l : LoaderState). l.awaited) (loader_new b s None there) in
            let clash = sym none ∙ subst (λ v. awaited_by (after_wake b s) v ≡ Some e) same waits in
            absurd (cc)
        | inr apart ↦ sym (ap (λ (l : LoaderState). l.awaited) (loader_old b s None there t apart)) ∙ waits
      ]

  IsLawful-wake : IsLawful loads Reached Right (after_wake b s)
  IsLawful-wake = record {
    acyclic = IsAcyclic-fewer (Links b) (Links (after_wake b s)) (λ x y link. (link.0, wake_awaited x link.0 link.1, link.2, subst (λ st. IsIn link.0 st) (wake_stacks y) link.3)) lawful.acyclic;
    stacked = λ e r. ((lawful.stacked e r).0, subst (λ st. IsIn e st) (sym (wake_stacks (lawful.stacked e r).0)) (lawful.stacked e r).1);
    runs = λ t e h. lawful.runs t e (subst (λ st. IsIn e st) (wake_stacks t) h);
    once = λ t. subst (λ st. IsSet st) (sym (wake_stacks t)) (lawful.once t);
    one_loader = λ t u e h k. lawful.one_loader t u e (subst (λ st. IsIn e st) (wake_stacks t) h) (subst (λ st. IsIn e st) (wake_stacks u) k);
    path = λ t. subst (λ st. IsLoadPath loads st) (sym (wake_stacks t)) (lawful.path t);
    awaits_begun = λ t e waits fresh. lawful.awaits_begun t e (wake_awaited t e waits) fresh;
    awaits_load = λ t e x waits top. lawful.awaits_load t e x (wake_awaited t e waits) (subst (λ st. top_of st ≡ Some x) (wake_stacks t) top);
    right = lawful.right;
    reached = lawful.reached;
    counted = still_counted b s None there lawful.counted;
  }

-- the seat's row while it awaits this, or nothing
abbrev pub awaiting_row : Loader → Option ℕ → Loader
awaiting_row row o = record { top = row.top; awaited = o; count = row.count }

module _ {P : Type 0} (loads : ℕ → List ℕ) (Reached : ℕ → Type 0) (Right : ℕ → P → Type 0) (files : ℕ) (entries : List (Entry P)) (parents : List (Option ℕ)) (owners : List ℕ) (loaders : List Loader) (kept : IsKept loads Reached Right files entries parents owners loaders) (s : ℕ) (o : Option ℕ) (row : Loader) (there_in : s < length (book_state entries parents loaders).loaders) (read : row ≡ get_or loaders s row) where
  there : s < length loaders
  there = omega (arith, there_in, length-map loaders (loader_state parents))

  old_row : Represents parents row (loader_at (book_state entries parents loaders) s)
  old_row = subst (λ r. Represents parents r (loader_at (book_state entries parents loaders) s)) (sym (get_or_read loaders s row there read no_row)) (Represents-kept loads Reached Right files entries parents owners loaders kept s there)

  represents : (t : ℕ) → t < length (set loaders s (awaiting_row row o)) → Represents parents (row_at (set loaders s (awaiting_row row o)) t) (loader_at (awaits (book_state entries parents loaders) s o) t)
  represents t h =
      elim (same_or_apart t s) [
        | inl same ↦
            let now : Represents parents (awaiting_row row o) (record { stack = stack_of (book_state entries parents loaders) s; awaited = o; count = (loader_at (book_state entries parents loaders) s).count }) = record { stack = old_row.stack; awaited = refl; count = old_row.count } in
            subst (λ v. Represents parents (row_at (set loaders s (awaiting_row row o)) v) (loader_at (awaits (book_state entries parents loaders) s o) v)) (sym same)
            (subst (λ r. Represents parents r (loader_at (awaits (book_state entries parents loaders) s o) s)) (sym (get_or-set_same loaders s (awaiting_row row o) no_row there))
            (subst (λ v. Represents parents (awaiting_row row o) v) (sym (loader_new (book_state entries parents loaders) s o there_in)) now))
        | inr apart ↦
            let low : t < length loaders = omega (arith, h, length-set loaders s (awaiting_row row o)) in
            let old = Represents-kept loads Reached Right files entries parents owners loaders kept t low in
            subst (λ v. Represents parents (row_at (set loaders s (awaiting_row row o)) t) v) (sym (loader_old (book_state entries parents loaders) s o there_in t apart))
            (subst (λ r. Represents parents r (loader_at (book_state entries parents loaders) t)) (sym (get_or-set_other loaders s t (awaiting_row row o) no_row apart)) old)
      ]

  StandsFor-awaits : IsLawful loads Reached Right (awaits (book_state entries parents loaders) s o) → StandsFor loads Reached Right files entries parents owners (set loaders s (awaiting_row row o)) (awaits (book_state entries parents loaders) s o)
  StandsFor-awaits lawful =
      let l = length-set loaders s (awaiting_row row o) in
      record {
        size = kept.size;
        few = kept.few;
        parents_fit = kept.parents_fit;
        owners_fit = kept.owners_fit;
        seats_few = let old = kept.seats_few in omega (arith, l, old);
        same_entries = refl;
        same_length = l ∙ (sym (length-map loaders (loader_state parents)) ∙ sym (length-set (book_state entries parents loaders).loaders s _));
        represents = represents;
        short = λ t. subst (λ st. length st ≤ begun_count (book_state entries parents loaders)) (sym (stack_same (book_state entries parents loaders) s o there_in t)) (kept.short t);
        owned = λ t e h. kept.owned t e (subst (λ st. IsIn e st) (stack_same (book_state entries parents loaders) s o there_in t) h);
        lawful = lawful;
      }

-- the seat awaits n
pub StandsFor-wait : {P : Type 0} (loads : ℕ → List ℕ) (Reached : ℕ → Type 0) (Right : ℕ → P → Type 0) (files : ℕ) (entries : List (Entry P)) (parents : List (Option ℕ)) (owners : List ℕ) (loaders : List Loader) (kept : IsKept loads Reached Right files entries parents owners loaders) (s n : ℕ) (row : Loader) (b : BookState P) → book_state entries parents loaders ≡ b → s < length b.loaders → row ≡ get_or loaders s row → entry_at b n ≡ Running → (MeetsSeat b n s → ⊥) → ((x : ℕ) → top_of (stack_of b s) ≡ Some x → Loads loads x n) → StandsFor loads Reached Right files entries parents owners (set loaders s (awaiting_row row (Some n))) (after_wait b s n)
StandsFor-wait loads Reached Right files entries parents owners loaders kept s n row b is there read =
    subst (λ v. s < length v.loaders → entry_at v n ≡ Running → (MeetsSeat v n s → ⊥) → ((x : ℕ) → top_of (stack_of v s) ≡ Some x → Loads loads x n) → StandsFor loads Reached Right files entries parents owners (set loaders s (awaiting_row row (Some n))) (after_wait v s n)) is
    (λ here runs away loaded. StandsFor-awaits loads Reached Right files entries parents owners loaders kept s (Some n) row here read (IsLawful-wait loads Reached Right (book_state entries parents loaders) s n kept.lawful here runs away loaded)) there

-- the seat awaits nothing any more
pub StandsFor-wake : {P : Type 0} (loads : ℕ → List ℕ) (Reached : ℕ → Type 0) (Right : ℕ → P → Type 0) (files : ℕ) (entries : List (Entry P)) (parents : List (Option ℕ)) (owners : List ℕ) (loaders : List Loader) (kept : IsKept loads Reached Right files entries parents owners loaders) (s : ℕ) (row : Loader) (b : BookState P) → book_state entries parents loaders ≡ b → s < length b.loaders → row ≡ get_or loaders s row → StandsFor loads Reached Right files entries parents owners (set loaders s (awaiting_row row None)) (after_wake b s)
StandsFor-wake loads Reached Right files entries parents owners loaders kept s row b is there read =
    subst (λ v. s < length v.loaders → StandsFor loads Reached Right files entries parents owners (set loaders s (awaiting_row row None)) (after_wake v s)) is
    (λ here. StandsFor-awaits loads Reached Right files entries parents owners loaders kept s None row here read (IsLawful-wake loads Reached Right (book_state entries parents loaders) s kept.lawful here)) there
