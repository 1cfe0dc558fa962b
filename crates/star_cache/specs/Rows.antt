-- The rows of the code, which are the stacks and counts of the book.
use Rattle.std.specs.Prelude.{◌≡◌, ◌<◌, ◌≤◌, ℕ, List, [], ◌∷◌, Option, None, Some, length, slice_index, map}
use Rattle.std.specs.List.{slice_index_or}
use Rattle.std.proofs.Common.{zero, suc}
use Rattle.star_cache.specs.declared.entry.Entry.{Entry}
use Rattle.star_cache.specs.declared.book.Loader.{Loader}
use Rattle.star_cache.specs.State.{LoaderState, BookState, IsLawful, IsIn, stack_of, begun_count}

-- the entry below e
abbrev pub parent_of : List (Option ℕ) → ℕ → Option ℕ
parent_of parents e = slice_index_or parents e None

-- the first k entries from the top down
abbrev pub chain : ℕ → List (Option ℕ) → Option ℕ → List ℕ
chain zero parents top = []
chain (suc k) parents None = []
chain (suc k) parents (Some e) = e ∷ chain k parents (parent_of parents e)

-- the stack is the whole chain of parents from the top down
abbrev pub IsChain : List (Option ℕ) → Option ℕ → List ℕ → Type 0
IsChain parents top [] = top ≡ None
IsChain parents top (e ∷ below) = (top ≡ Some e) × IsChain parents (parent_of parents e) below

-- the loader that a row represents. Its stack is at most as deep as there are entries
abbrev pub loader_state : List (Option ℕ) → Loader → LoaderState
loader_state parents l = record { stack = chain (length parents) parents l.top; awaited = l.awaited; count = l.count }

module _ {P : Type 0} where
  -- the book that the rows represent
  abbrev pub book_state : List (Entry P) → List (Option ℕ) → List Loader → BookState P
  book_state entries parents loaders = record { entries = entries; loaders = map (loader_state parents) loaders }

-- the rows fit each other, and represent a lawful book
pub record IsKept {P : Type 0} (loads : ℕ → List ℕ) (Reached : ℕ → Type 0) (Right : ℕ → P → Type 0) (files : ℕ)
    (entries : List (Entry P)) (parents : List (Option ℕ)) (owners : List ℕ) (loaders : List Loader) : Type 0 where
  pub size : length entries ≡ files
  pub few : files ≤ 10000
  pub parents_fit : length parents ≡ length entries
  pub owners_fit : length owners ≡ length entries
  pub seats_few : length loaders ≤ 64
  -- no chain of parents is cut by the number of entries
  pub whole : (s : ℕ) → s < length loaders → IsChain parents
      (slice_index_or loaders s (record { top = None; awaited = None; count = 0 })).top
      (stack_of (book_state entries parents loaders) s)
  pub short : (s : ℕ) → length (stack_of (book_state entries parents loaders) s)
      ≤ begun_count (book_state entries parents loaders)
  -- the owner of an entry in a stack is the seat of that stack
  pub owned : (s e : ℕ) → IsIn e (stack_of (book_state entries parents loaders) s) → slice_index owners e ≡ s
  pub lawful : IsLawful loads Reached Right (book_state entries parents loaders)
