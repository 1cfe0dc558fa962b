-- The walk of the links by the rows.
use Rattle.std.proofs.Common.{◌≡◌, ◌≢◌, ◌<◌, ℕ, zero, suc, List, Option, Some, None, length, slice_index, get_or, refl, sym, subst, ap, ◌∙◌, arith}
use Rattle.std.proofs.lemmas.List.{get_or-map, get_or_past, length-map, get_or_read}
use native.Mathlib.Decide.{dec_lt}
use Rattle.star_cache.specs.declared.entry.Entry.{Entry}
use Rattle.star_cache.specs.declared.entry.Entry.TheVariants.{Fresh, Running}
use Rattle.star_cache.specs.declared.book.Loader.{Loader}
use Rattle.star_cache.specs.Walk.{Walk, LeadsTo}
use Rattle.star_cache.specs.State.{BookState, LoaderState, Links, IsIn, idle, entry_at, stack_of, awaited_by}
use Rattle.star_cache.specs.Rows.{book_state, loader_state, IsKept}
use Rattle.star_cache.specs.Step.{MeetsSeat}
use Rattle.star_cache.proofs.Walks.{Walk-push}
use Rattle.star_cache.proofs.Bounded.{Walk-bounded}

-- an entry that runs is an entry
pub below_running : {P : Type 0} (b : BookState P) (e : ℕ) → (entry_at b e ≢ Fresh) → e < length b.entries
below_running b e not_fresh =
    elim (dec_lt e (length b.entries)) [ yes h ↦ h | no h ↦ absurd (not_fresh (get_or_past b.entries e Fresh (omega arith))) ]

pub running_not_fresh : {P : Type 0} (entry : Entry P) → entry ≡ Running → entry ≢ Fresh
running_not_fresh entry runs fresh = cc

-- a seat with something in its stack is a seat
pub below_member : {P : Type 0} (b : BookState P) (s e : ℕ) → IsIn e (stack_of b s) → s < length b.loaders
below_member b s e h =
    elim (dec_lt s (length b.loaders)) [
      | yes l ↦ l
      | no l ↦ absurd (subst (λ (v : LoaderState). IsIn e v.stack) (get_or_past b.loaders s idle (omega arith)) h)
    ]

-- a seat that awaits something is a seat
pub below_awaited : {P : Type 0} (b : BookState P) (s e : ℕ) → awaited_by b s ≡ Some e → s < length b.loaders
below_awaited b s e h =
    elim (dec_lt s (length b.loaders)) [
      | yes l ↦ l
      | no l ↦ absurd (let past = get_or_past b.loaders s idle (omega arith) in let none : awaited_by b s ≡ None = ap (λ (v : LoaderState). v.awaited) past in cc)
    ]

-- the row and the book agree on the entry that a loader awaits
pub awaited_row : {P : Type 0} (entries : List (Entry P)) (parents : List (Option ℕ)) (loaders : List Loader) (s : ℕ) (d : Loader) → s < length loaders → awaited_by (book_state entries parents loaders) s ≡ (get_or loaders s d).awaited
awaited_row entries parents loaders s d h = ap (λ (v : LoaderState). v.awaited) (get_or-map (loader_state parents) loaders s d idle h)

-- after k links from the target's loader the walk is at the loader of `at`
pub record IsAt {P : Type 0} (b : BookState P) (owners : List ℕ) (target seat at k : ℕ) : Type 0 where
  pub running : entry_at b at ≡ Running
  pub walked : Walk (Links b) k (slice_index owners target) (slice_index owners at)
  pub back : LeadsTo (Links b) (slice_index owners target) seat → LeadsTo (Links b) (slice_index owners at) seat

module _ {P : Type 0} (loads : ℕ → List ℕ) (Reached : ℕ → Type 0) (Right : ℕ → P → Type 0) (files : ℕ) (entries : List (Entry P)) (parents : List (Option ℕ)) (owners : List ℕ) (loaders : List Loader) (kept : IsKept loads Reached Right files entries parents owners loaders) where
  -- a running entry is in its owner's stack
  pub in_owner : (e : ℕ) → entry_at (book_state entries parents loaders) e ≡ Running → IsIn e (stack_of (book_state entries parents loaders) (slice_index owners e))
  in_owner e runs =
      let at = kept.lawful.stacked e runs in
      let own : slice_index owners e ≡ at.0 = kept.owned at.0 e at.1 in
      subst (λ s. IsIn e (stack_of (book_state entries parents loaders) s)) (sym own) at.1

  pub below_owner : (e : ℕ) → entry_at (book_state entries parents loaders) e ≡ Running → slice_index owners e < length (book_state entries parents loaders).loaders
  below_owner e runs = below_member (book_state entries parents loaders) (slice_index owners e) e (in_owner e runs)

  pub below_owners : (e : ℕ) → entry_at (book_state entries parents loaders) e ≡ Running → e < length owners
  below_owners e runs =
      let low = below_running (book_state entries parents loaders) e (running_not_fresh (entry_at (book_state entries parents loaders) e) runs) in
      let fit = kept.owners_fit in
      omega arith

  pub below_loaders : (e : ℕ) → entry_at (book_state entries parents loaders) e ≡ Running → slice_index owners e < length loaders
  below_loaders e runs = let low = below_owner e runs in omega (arith, low, length-map loaders (loader_state parents))

  pub IsAt-start : (target seat : ℕ) → entry_at (book_state entries parents loaders) target ≡ Running → IsAt (book_state entries parents loaders) owners target seat target 0
  IsAt-start target seat runs = record { running = runs; walked = refl; back = λ w. w }

  pub IsAt-step : (target seat at k next : ℕ) → IsAt (book_state entries parents loaders) owners target seat at k → slice_index owners at ≢ seat → awaited_by (book_state entries parents loaders) (slice_index owners at) ≡ Some next → entry_at (book_state entries parents loaders) next ≡ Running → IsAt (book_state entries parents loaders) owners target seat next (suc k)
  IsAt-step target seat at k next here apart waits runs = record {
    running = runs;
    walked = Walk-push (Links (book_state entries parents loaders)) k (slice_index owners target) (slice_index owners at) (slice_index owners next) here.walked (next, waits, runs, in_owner next runs);
    back = λ w. on (here.back w);
  }
    where
      on : LeadsTo (Links (book_state entries parents loaders)) (slice_index owners at) seat → LeadsTo (Links (book_state entries parents loaders)) (slice_index owners next) seat
      on (zero, e) = absurd (apart e)
      on (suc j, w) =
          let link = w.1 in
          let same : link.0 ≡ next = cc in
          let member : IsIn next (stack_of (book_state entries parents loaders) w.0) = subst (λ v. IsIn v (stack_of (book_state entries parents loaders) w.0)) same link.3 in
          let own : slice_index owners next ≡ w.0 = kept.owned w.0 next member in
          (j, subst (λ v. Walk (Links (book_state entries parents loaders)) j v seat) (sym own) w.2)

  -- the seat is met
  pub MeetsSeat-found : (target seat at k : ℕ) → entry_at (book_state entries parents loaders) target ≡ Running → IsAt (book_state entries parents loaders) owners target seat at k → slice_index owners at ≡ seat → MeetsSeat (book_state entries parents loaders) target seat
  MeetsSeat-found target seat at k runs here found =
      (slice_index owners target, in_owner target runs, (k, subst (λ v. Walk (Links (book_state entries parents loaders)) k (slice_index owners target) v) found here.walked))

  -- no link leads on, and the seat isn't met
  pub MeetsSeat-missed : (target seat at k : ℕ) → IsAt (book_state entries parents loaders) owners target seat at k → slice_index owners at ≢ seat → ((next : ℕ) → awaited_by (book_state entries parents loaders) (slice_index owners at) ≡ Some next → entry_at (book_state entries parents loaders) next ≡ Running → ⊥) → MeetsSeat (book_state entries parents loaders) target seat → ⊥
  MeetsSeat-missed target seat at k here apart stops meets =
      let own : slice_index owners target ≡ meets.0 = kept.owned meets.0 target meets.1 in
      let from : LeadsTo (Links (book_state entries parents loaders)) (slice_index owners target) seat = subst (λ v. LeadsTo (Links (book_state entries parents loaders)) v seat) (sym own) meets.2 in
      stop (here.back from).0 (here.back from).1
    where
      stop : (j : ℕ) → Walk (Links (book_state entries parents loaders)) j (slice_index owners at) seat → ⊥
      stop zero e = apart e
      stop (suc j) w = stops w.1.0 w.1.1 w.1.2

  -- as many links as there are loaders can't be walked
  pub IsAt-bounded : (target seat at k : ℕ) → IsAt (book_state entries parents loaders) owners target seat at k → k ≡ length loaders → ⊥
  IsAt-bounded target seat at k here full =
      let same : k ≡ length (book_state entries parents loaders).loaders = full ∙ sym (length-map loaders (loader_state parents)) in
      Walk-bounded (Links (book_state entries parents loaders)) (length (book_state entries parents loaders).loaders) kept.lawful.acyclic (λ x y l. below_awaited (book_state entries parents loaders) x l.0 l.1) (slice_index owners target) (slice_index owners at) (subst (λ v. Walk (Links (book_state entries parents loaders)) v (slice_index owners target) (slice_index owners at)) same here.walked) (below_owner at here.running)

  -- the owner that the row has
  pub owner_read : (e r : ℕ) → entry_at (book_state entries parents loaders) e ≡ Running → r ≡ get_or owners e r → slice_index owners e ≡ r
  owner_read e r runs read = sym (get_or_read owners e r (below_owners e runs) read 0)

  -- the entry that the row has, which is not fresh
  pub entry_read : (e : ℕ) (r : Entry P) → entry_at (book_state entries parents loaders) e ≢ Fresh → r ≡ get_or entries e r → entry_at (book_state entries parents loaders) e ≡ r
  entry_read e r begun read = sym (get_or_read entries e r (below_running (book_state entries parents loaders) e begun) read Fresh)

  -- the part of the loader's row that tells an entry's owner
  pub waits_read : (e r : ℕ) (row : Loader) → entry_at (book_state entries parents loaders) e ≡ Running → slice_index owners e ≡ r → row ≡ get_or loaders r row → awaited_by (book_state entries parents loaders) (slice_index owners e) ≡ row.awaited
  waits_read e r row runs own read =
      let low : slice_index owners e < length loaders = below_loaders e runs in
      let found : row ≡ get_or loaders (slice_index owners e) row = subst (λ v. row ≡ get_or loaders v row) (sym own) read in
      awaited_row entries parents loaders (slice_index owners e) row low ∙ ap (λ (l : Loader). l.awaited) (sym found)
