-- The headline: the promise on a cache's book, which holds whenever its lock is free.
use Rattle.std.specs.Prelude.{◌≡◌, ◌≢◌, ◌<◌, ℕ, length, sum_by}
use Rattle.star_cache.specs.declared.entry.Entry.TheVariants.{Fresh, Running, Done}
use Rattle.star_cache.specs.Walk.{IsOnCycle}
use Rattle.star_cache.specs.State.{BookState, LoaderState, Links, IsIn, begun_count, entry_at, stack_of}

module _ {P : Type 0} where
  -- loader s runs the entry
  abbrev pub Runs : BookState P → ℕ → ℕ → Type 0
  Runs b s e = (s < length b.loaders) × IsIn e (stack_of b s)

-- parameters: which files are reached, and which products are right for a file
pub record Headline {P : Type 0} (Reached : ℕ → Type 0) (Right : ℕ → P → Type 0) (b : BookState P) : Type 0 where
  -- loaders that wait for one another form no ring
  pub no_ring : (s t : ℕ) → IsOnCycle (Links b) s t → ⊥
  -- each running entry has a loader, and no other
  pub one_loader : (e : ℕ) → entry_at b e ≡ Running → (s : ℕ) × Runs b s e × ((t : ℕ) → Runs b t e → t ≡ s)
  -- each done entry is right for its file
  pub right : (e : ℕ) (p : P) → entry_at b e ≡ Done p → Right e p
  -- only reached files are begun
  pub reached : (e : ℕ) → entry_at b e ≢ Fresh → Reached e
  -- the loaders' counts sum to the entries begun
  pub counted : sum_by (λ (l : LoaderState). l.count) b.loaders ≡ begun_count b
