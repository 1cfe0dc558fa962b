-- The entry on top of a stack that ends keeps the book lawful.
use Rattle.std.proofs.Common.{◌≡◌, ◌≢◌, ◌<◌, ◌≤◌, ℕ, List, [], ◌∷◌, Option, Some, None, true, length, get_or, set, sum_by, refl, sym, subst, ap, ◌∙◌, inl, inr, arith}
use Rattle.std.proofs.lemmas.List.{length-map, length-set, get_or-set_same, get_or-set_other, get_or_read}
use Rattle.std.proofs.lemmas.List.Sums.{sum_by-set}
use Rattle.star_cache.specs.declared.entry.Entry.{Entry}
use Rattle.star_cache.specs.declared.entry.Entry.TheVariants.{Fresh, Running, Done, Spoiled}
use Rattle.star_cache.specs.declared.book.Loader.{Loader}
use Rattle.star_cache.specs.State.{BookState, LoaderState, IsLawful, Links, IsLoadPath, IsIn, IsSet, top_of, idle, entry_at, loader_at, stack_of, awaited_by, is_begun, begun_count}
use Rattle.star_cache.specs.Rows.{book_state, loader_state, parent_of, IsChain, IsKept}
use Rattle.star_cache.specs.Step.{after_end, below_top}
use Rattle.star_cache.proofs.Walks.{IsAcyclic-fewer}
use Rattle.star_cache.proofs.Lists.{same_or_apart, count_by-set_same}
use Rattle.star_cache.proofs.Meets.{below_running, running_not_fresh}
use Rattle.star_cache.proofs.RowsLemmas.{Represents, Represents-kept, StandsFor, row_at, no_row}

pub stack_shape : (n : ℕ) (stack : List ℕ) → top_of stack ≡ Some n → stack ≡ n ∷ (below_top stack)
stack_shape n [] t = absurd (cc)
stack_shape n (x ∷ below) t = let same : x ≡ n = cc in ap (λ v. v ∷ below) same

IsLoadPath-below : (loads : ℕ → List ℕ) (stack : List ℕ) → IsLoadPath loads stack → IsLoadPath loads (below_top stack)
IsLoadPath-below loads [] p = tt
IsLoadPath-below loads (x ∷ []) p = tt
IsLoadPath-below loads (x ∷ y ∷ below) p = p.1

begun_if_not_fresh : {P : Type 0} (entry : Entry P) → entry ≢ Fresh → is_begun entry ≡ true
begun_if_not_fresh Fresh h = absurd (h refl)
begun_if_not_fresh Running h = refl
begun_if_not_fresh (Done p) h = refl
begun_if_not_fresh Spoiled h = refl

module _ {P : Type 0} (loads : ℕ → List ℕ) (Reached : ℕ → Type 0) (Right : ℕ → P → Type 0) (b : BookState P) (s n : ℕ) (v : Entry P) (lawful : IsLawful loads Reached Right b) (there : s < length b.loaders) (free : awaited_by b s ≡ None) (on_top : top_of (stack_of b s) ≡ Some n) (not_fresh : v ≢ Fresh) (not_running : v ≢ Running) where
  shape : stack_of b s ≡ n ∷ (below_top (stack_of b s))
  shape = stack_shape n (stack_of b s) on_top

  in_stack : IsIn n (stack_of b s)
  in_stack = subst (λ st. IsIn n st) (sym shape) (inl refl)

  was_running : entry_at b n ≡ Running
  was_running = lawful.runs s n in_stack

  pub known : n < length b.entries
  known = below_running b n (running_not_fresh (entry_at b n) was_running)

  entry_new : entry_at (after_end b s n v) n ≡ v
  entry_new = get_or-set_same b.entries n v Fresh known

  entry_old : (e : ℕ) → e ≢ n → entry_at (after_end b s n v) e ≡ entry_at b e
  entry_old e apart = get_or-set_other b.entries n e v Fresh apart

  pub loader_new : loader_at (after_end b s n v) s ≡ record { stack = below_top (stack_of b s); awaited = awaited_by b s; count = (loader_at b s).count }
  loader_new = get_or-set_same b.loaders s _ idle there

  pub loader_old : (t : ℕ) → t ≢ s → loader_at (after_end b s n v) t ≡ loader_at b t
  loader_old t apart = get_or-set_other b.loaders s t _ idle apart

  pub stack_new : stack_of (after_end b s n v) s ≡ below_top (stack_of b s)
  stack_new = ap (λ (l : LoaderState). l.stack) loader_new

  pub stack_old : (t : ℕ) → t ≢ s → stack_of (after_end b s n v) t ≡ stack_of b t
  stack_old t apart = ap (λ (l : LoaderState). l.stack) (loader_old t apart)

  awaited_old : (t : ℕ) → awaited_by (after_end b s n v) t ≡ awaited_by b t
  awaited_old t =
      elim (same_or_apart t s) [
        | inl e ↦ subst (λ u. awaited_by (after_end b s n v) u ≡ awaited_by b u) (sym e) (ap (λ (l : LoaderState). l.awaited) loader_new)
        | inr apart ↦ ap (λ (l : LoaderState). l.awaited) (loader_old t apart)
      ]

  -- the rest of the stack doesn't hold the old top
  not_below : IsIn n (below_top (stack_of b s)) → ⊥
  not_below = (subst (λ st. IsSet st) shape (lawful.once s)).0

  pub member_old : (t e : ℕ) → IsIn e (stack_of (after_end b s n v) t) → IsIn e (stack_of b t)
  member_old t e h =
      elim (same_or_apart t s) [
        | inl same ↦
            let rest : IsIn e (below_top (stack_of b s)) = subst (λ st. IsIn e st) stack_new (subst (λ u. IsIn e (stack_of (after_end b s n v) u)) same h) in
            subst (λ u. IsIn e (stack_of b u)) (sym same) (subst (λ st. IsIn e st) (sym shape) (inr rest))
        | inr apart ↦ subst (λ st. IsIn e st) (stack_old t apart) h
      ]

  member_apart : (t e : ℕ) → IsIn e (stack_of (after_end b s n v) t) → e ≢ n
  member_apart t e h is_n =
      elim (same_or_apart t s) [
        | inl same ↦ not_below (subst (λ w. IsIn w (below_top (stack_of b s))) is_n (subst (λ st. IsIn e st) stack_new (subst (λ u. IsIn e (stack_of (after_end b s n v) u)) same h)))
        | inr apart ↦ apart (lawful.one_loader t s n (subst (λ w. IsIn w (stack_of b t)) is_n (member_old t e h)) in_stack)
      ]

  member_kept : (t e : ℕ) → e ≢ n → IsIn e (stack_of b t) → IsIn e (stack_of (after_end b s n v) t)
  member_kept t e apart h =
      elim (same_or_apart t s) [
        | inl same ↦ subst (λ u. IsIn e (stack_of (after_end b s n v) u)) (sym same) (subst (λ st. IsIn e st) (sym stack_new) (drop_top (subst (λ st. IsIn e st) shape (subst (λ u. IsIn e (stack_of b u)) same h))))
        | inr other ↦ subst (λ st. IsIn e st) (sym (stack_old t other)) h
      ]
    where
      drop_top : IsIn e (n ∷ (below_top (stack_of b s))) → IsIn e (below_top (stack_of b s))
      drop_top (inl i) = absurd (apart i)
      drop_top (inr i) = i

  -- an entry that runs now ran, and is another one
  ran : (e : ℕ) → entry_at (after_end b s n v) e ≡ Running → (e ≢ n) × (entry_at b e ≡ Running)
  ran e runs =
      let apart : e ≢ n = λ same. not_running (sym entry_new ∙ subst (λ w. entry_at (after_end b s n v) w ≡ Running) same runs) in
      (apart, sym (entry_old e apart) ∙ runs)

  fewer : (x y : ℕ) → Links (after_end b s n v) x y → Links b x y
  fewer x y link = (link.0, sym (awaited_old x) ∙ link.1, (ran link.0 link.2).1, member_old y link.0 link.3)

  -- an entry that is fresh now was fresh
  was_fresh : (e : ℕ) → entry_at (after_end b s n v) e ≡ Fresh → entry_at b e ≡ Fresh
  was_fresh e fresh =
      elim (same_or_apart e n) [
        | inl same ↦ absurd (not_fresh (sym entry_new ∙ subst (λ w. entry_at (after_end b s n v) w ≡ Fresh) same fresh))
        | inr apart ↦ sym (entry_old e apart) ∙ fresh
      ]

  counted : sum_by (λ (l : LoaderState). l.count) (after_end b s n v).loaders ≡ begun_count (after_end b s n v)
  counted =
      let loaders = sum_by-set (λ (l : LoaderState). l.count) b.loaders s (record { stack = below_top (stack_of b s); awaited = awaited_by b s; count = (loader_at b s).count }) idle there in
      let entries = count_by-set_same is_begun b.entries n v Fresh known (ap is_begun was_running) (begun_if_not_fresh v not_fresh) in
      let before = lawful.counted in
      omega (arith, loaders, entries, before)

  pub begun_same : begun_count (after_end b s n v) ≡ begun_count b
  begun_same = count_by-set_same is_begun b.entries n v Fresh known (ap is_begun was_running) (begun_if_not_fresh v not_fresh)

  pub IsLawful-end : ((p : P) → v ≡ Done p → Right n p) → IsLawful loads Reached Right (after_end b s n v)
  IsLawful-end is_right = record {
    acyclic = IsAcyclic-fewer (Links b) (Links (after_end b s n v)) fewer lawful.acyclic;
    stacked = λ e r. let old = lawful.stacked e (ran e r).1 in (old.0, member_kept old.0 e (ran e r).0 old.1);
    runs = λ t e h. entry_old e (member_apart t e h) ∙ lawful.runs t e (member_old t e h);
    once = λ t. elim (same_or_apart t s) [
      | inl same ↦ subst (λ u. IsSet (stack_of (after_end b s n v) u)) (sym same) (subst (λ st. IsSet st) (sym stack_new) (subst (λ st. IsSet st) shape (lawful.once s)).1)
      | inr apart ↦ subst (λ st. IsSet st) (sym (stack_old t apart)) (lawful.once t)
    ];
    one_loader = λ t u e h k. lawful.one_loader t u e (member_old t e h) (member_old u e k);
    path = λ t. elim (same_or_apart t s) [
      | inl same ↦ subst (λ u. IsLoadPath loads (stack_of (after_end b s n v) u)) (sym same) (subst (λ st. IsLoadPath loads st) (sym stack_new) (IsLoadPath-below loads (stack_of b s) (lawful.path s)))
      | inr apart ↦ subst (λ st. IsLoadPath loads st) (sym (stack_old t apart)) (lawful.path t)
    ];
    awaits_begun = λ t e waits fresh. lawful.awaits_begun t e (sym (awaited_old t) ∙ waits) (was_fresh e fresh);
    awaits_load = λ t e x waits top. elim (same_or_apart t s) [
      | inl same ↦ let clash = sym free ∙ subst (λ u. awaited_by b u ≡ Some e) same (sym (awaited_old t) ∙ waits) in absurd (cc)
      | inr apart ↦ lawful.awaits_load t e x (sym (awaited_old t) ∙ waits) (subst (λ st. top_of st ≡ Some x) (stack_old t apart) top)
    ];
    right = λ e p done. elim (same_or_apart e n) [
      | inl same ↦ subst (λ u. Right u p) (sym same) (is_right p (sym entry_new ∙ subst (λ u. entry_at (after_end b s n v) u ≡ Done p) same done))
      | inr apart ↦ lawful.right e p (sym (entry_old e apart) ∙ done)
    ];
    reached = λ e begun. elim (same_or_apart e n) [
      | inl same ↦ subst (λ u. Reached u) (sym same) (lawful.reached n (running_not_fresh (entry_at b n) was_running))
      | inr apart ↦ lawful.reached e (λ f. begun (entry_old e apart ∙ f))
    ];
    counted = counted;
  }

-- the seat's row after its top has ended
abbrev pub ended_row : Loader → Option ℕ → Loader
ended_row row below = record { top = below; awaited = row.awaited; count = row.count }

module _ {P : Type 0} (loads : ℕ → List ℕ) (Reached : ℕ → Type 0) (Right : ℕ → P → Type 0) (files : ℕ) (entries : List (Entry P)) (parents : List (Option ℕ)) (owners : List ℕ) (loaders : List Loader) (kept : IsKept loads Reached Right files entries parents owners loaders) (s n : ℕ) (v : Entry P) (row : Loader) (below : Option ℕ) (there : s < length loaders) (read : row ≡ get_or loaders s row) (read_below : below ≡ get_or parents n below) (free : awaited_by (book_state entries parents loaders) s ≡ None) (on_top : top_of (stack_of (book_state entries parents loaders) s) ≡ Some n) (not_fresh : v ≢ Fresh) (not_running : v ≢ Running) where
  there_in : s < length (book_state entries parents loaders).loaders
  there_in = omega (arith, there, length-map loaders (loader_state parents))

  -- the entry is one of the parents' row
  pub known_parent : n < length parents
  known_parent =
      let low = known loads Reached Right (book_state entries parents loaders) s n v kept.lawful there_in free on_top not_fresh not_running in
      let fit = kept.parents_fit in
      omega arith

  old_row : Represents parents row (loader_at (book_state entries parents loaders) s)
  old_row = subst (λ r. Represents parents r (loader_at (book_state entries parents loaders) s)) (sym (get_or_read loaders s row there read no_row)) (Represents-kept loads Reached Right files entries parents owners loaders kept s there)

  new_row : Represents parents (ended_row row below) (loader_at (after_end (book_state entries parents loaders) s n v) s)
  new_row =
      let whole : IsChain parents row.top (n ∷ (below_top (stack_of (book_state entries parents loaders) s))) = subst (λ st. IsChain parents row.top st) (stack_shape n (stack_of (book_state entries parents loaders) s) on_top) old_row.stack in
      let same : parent_of parents n ≡ below = sym (get_or_read parents n below known_parent read_below None) in
      subst (λ l. Represents parents (ended_row row below) l) (sym (loader_new loads Reached Right (book_state entries parents loaders) s n v kept.lawful there_in free on_top not_fresh not_running))
      record { stack = subst (λ top. IsChain parents top (below_top (stack_of (book_state entries parents loaders) s))) same whole.1; awaited = old_row.awaited; count = old_row.count }

  represents : (t : ℕ) → t < length (set loaders s (ended_row row below)) → Represents parents (row_at (set loaders s (ended_row row below)) t) (loader_at (after_end (book_state entries parents loaders) s n v) t)
  represents t h =
      elim (same_or_apart t s) [
        | inl same ↦
            subst (λ u. Represents parents (row_at (set loaders s (ended_row row below)) u) (loader_at (after_end (book_state entries parents loaders) s n v) u)) (sym same)
            (subst (λ r. Represents parents r (loader_at (after_end (book_state entries parents loaders) s n v) s)) (sym (get_or-set_same loaders s (ended_row row below) no_row there)) new_row)
        | inr apart ↦
            let low : t < length loaders = omega (arith, h, length-set loaders s (ended_row row below)) in
            let old = Represents-kept loads Reached Right files entries parents owners loaders kept t low in
            subst (λ l. Represents parents (row_at (set loaders s (ended_row row below)) t) l) (sym (loader_old loads Reached Right (book_state entries parents loaders) s n v kept.lawful there_in free on_top not_fresh not_running t apart))
            (subst (λ r. Represents parents r (loader_at (book_state entries parents loaders) t)) (sym (get_or-set_other loaders s t (ended_row row below) no_row apart)) old)
      ]

  short : (t : ℕ) → length (stack_of (after_end (book_state entries parents loaders) s n v) t) ≤ begun_count (after_end (book_state entries parents loaders) s n v)
  short t =
      let same_count = begun_same loads Reached Right (book_state entries parents loaders) s n v kept.lawful there_in free on_top not_fresh not_running in
      elim (same_or_apart t s) [
        | inl same ↦
            let old = kept.short s in
            let size = ap length (stack_shape n (stack_of (book_state entries parents loaders) s) on_top) in
            let new = ap length (stack_new loads Reached Right (book_state entries parents loaders) s n v kept.lawful there_in free on_top not_fresh not_running) in
            let at_seat : length (stack_of (after_end (book_state entries parents loaders) s n v) s) ≤ begun_count (after_end (book_state entries parents loaders) s n v) = omega (arith, old, size, new, same_count) in
            subst (λ u. length (stack_of (after_end (book_state entries parents loaders) s n v) u) ≤ begun_count (after_end (book_state entries parents loaders) s n v)) (sym same) at_seat
        | inr apart ↦
            let old = kept.short t in
            let new = ap length (stack_old loads Reached Right (book_state entries parents loaders) s n v kept.lawful there_in free on_top not_fresh not_running t apart) in
            omega (arith, old, new, same_count)
      ]

  stands : ((p : P) → v ≡ Done p → Right n p) → StandsFor loads Reached Right files (set entries n v) parents owners (set loaders s (ended_row row below)) (after_end (book_state entries parents loaders) s n v)
  stands is_right =
      let e = length-set entries n v in
      let l = length-set loaders s (ended_row row below) in
      record {
        size = e ∙ kept.size;
        few = kept.few;
        parents_fit = kept.parents_fit ∙ sym e;
        owners_fit = kept.owners_fit ∙ sym e;
        seats_few = let old = kept.seats_few in omega (arith, l, old);
        same_entries = refl;
        same_length = l ∙ (sym (length-map loaders (loader_state parents)) ∙ sym (length-set (book_state entries parents loaders).loaders s _));
        represents = represents;
        short = short;
        owned = λ t u h. kept.owned t u (member_old loads Reached Right (book_state entries parents loaders) s n v kept.lawful there_in free on_top not_fresh not_running t u h);
        lawful = IsLawful-end loads Reached Right (book_state entries parents loaders) s n v kept.lawful there_in free on_top not_fresh not_running is_right;
      }

-- the top of the seat's stack ends
pub StandsFor-end : {P : Type 0} (loads : ℕ → List ℕ) (Reached : ℕ → Type 0) (Right : ℕ → P → Type 0) (files : ℕ) (entries : List (Entry P)) (parents : List (Option ℕ)) (owners : List ℕ) (loaders : List Loader) (kept : IsKept loads Reached Right files entries parents owners loaders) (s n : ℕ) (v : Entry P) (row : Loader) (below : Option ℕ) (b : BookState P) → book_state entries parents loaders ≡ b → s < length b.loaders → row ≡ get_or loaders s row → below ≡ get_or parents n below → awaited_by b s ≡ None → top_of (stack_of b s) ≡ Some n → v ≢ Fresh → v ≢ Running → ((p : P) → v ≡ Done p → Right n p) → StandsFor loads Reached Right files (set entries n v) parents owners (set loaders s (ended_row row below)) (after_end b s n v)
StandsFor-end {P} loads Reached Right files entries parents owners loaders kept s n v row below b is there read read_below =
    subst (λ w. s < length w.loaders → awaited_by w s ≡ None → top_of (stack_of w s) ≡ Some n → v ≢ Fresh → v ≢ Running → ((p : P) → v ≡ Done p → Right n p) → StandsFor loads Reached Right files (set entries n v) parents owners (set loaders s (ended_row row below)) (after_end w s n v)) is
    (λ here free on_top not_fresh not_running. stands loads Reached Right files entries parents owners loaders kept s n v row below (omega (arith, here, length-map loaders (loader_state parents))) read read_below free on_top not_fresh not_running) there
