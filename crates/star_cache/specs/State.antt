-- The book as its callers see it, and when it is lawful.
use Rattle.std.specs.Prelude.{◌≡◌, ◌≢◌, ◌⊎◌, ℕ, Bool, true, false, List, [], ◌∷◌, Option, None, Some, sum_by, count_by, Contains}
use Rattle.std.specs.List.{slice_index_or}
use Rattle.star_cache.specs.declared.entry.Entry.{Entry}
use Rattle.star_cache.specs.declared.entry.Entry.TheVariants.{Fresh, Running, Done, Spoiled}
use Rattle.star_cache.specs.Walk.{IsAcyclic}

-- one loader: its stack of running entries, the top first; the entry that it awaits; how many it has begun
pub record LoaderState : Type 0 where
  pub stack : List ℕ
  pub awaited : Option ℕ
  pub count : ℕ

-- the whole book
pub record BookState (P : Type 0) : Type 0 where
  pub entries : List (Entry P)
  pub loaders : List LoaderState

-- a loader that has done nothing
abbrev pub idle : LoaderState
idle = record { stack = []; awaited = None; count = 0 }

-- x is an element of the list
abbrev pub IsIn : ℕ → List ℕ → Type 0
IsIn x [] = ⊥
IsIn x (y ∷ ys) = (x ≡ y) ⊎ IsIn x ys

-- no element occurs twice
abbrev pub IsSet : List ℕ → Type 0
IsSet [] = Unit {0}
IsSet (x ∷ xs) = (IsIn x xs → ⊥) × IsSet xs

-- file n loads file m
abbrev pub Loads : (ℕ → List ℕ) → ℕ → ℕ → Type 0
Loads loads n m = Contains (loads n) m

-- each member of a stack, the top first, is loaded by the one directly below it
abbrev pub IsLoadPath : (ℕ → List ℕ) → List ℕ → Type 0
IsLoadPath loads [] = Unit {0}
IsLoadPath loads (x ∷ []) = Unit {0}
IsLoadPath loads (x ∷ y ∷ below) = Loads loads y x × IsLoadPath loads (y ∷ below)

-- the member on top, if there is one
abbrev pub top_of : List ℕ → Option ℕ
top_of [] = None
top_of (x ∷ below) = Some x

module _ {P : Type 0} where
  -- an entry that is not fresh
  abbrev pub is_begun : Entry P → Bool
  is_begun Fresh = false
  is_begun Running = true
  is_begun (Done p) = true
  is_begun Spoiled = true

  -- how many entries are not fresh
  abbrev pub begun_count : BookState P → ℕ
  begun_count b = count_by is_begun b.entries

  -- the entry of file n; out of range a fresh one
  abbrev pub entry_at : BookState P → ℕ → Entry P
  entry_at b n = slice_index_or b.entries n Fresh

  -- the file n has ended with a product
  abbrev pub HasEnded : BookState P → ℕ → Type 0
  HasEnded b n = (p : P) × (entry_at b n ≡ Done p)

  -- the loader with the number of a seat; out of range an idle one
  abbrev pub loader_at : BookState P → ℕ → LoaderState
  loader_at b s = slice_index_or b.loaders s idle

  -- the entries that the loader runs, the top first
  abbrev pub stack_of : BookState P → ℕ → List ℕ
  stack_of b s = (loader_at b s).stack

  -- the entry that the loader awaits
  abbrev pub awaited_by : BookState P → ℕ → Option ℕ
  awaited_by b s = (loader_at b s).awaited

  -- loader s awaits a running entry in t's stack
  abbrev pub Links : BookState P → ℕ → ℕ → Type 0
  Links b s t = (e : ℕ) × (awaited_by b s ≡ Some e) × (entry_at b e ≡ Running) × IsIn e (stack_of b t)

-- the lawful book, over the loads of each file, which files are reached and which products are right for a file
pub record IsLawful {P : Type 0} (loads : ℕ → List ℕ) (Reached : ℕ → Type 0) (Right : ℕ → P → Type 0)
    (b : BookState P) : Type 0 where
  -- no loader waits, over any number of others, for itself
  pub acyclic : IsAcyclic (Links b)
  -- an entry runs exactly if it is in a stack. It is there once, in one stack
  pub stacked : (e : ℕ) → entry_at b e ≡ Running → (s : ℕ) × IsIn e (stack_of b s)
  pub runs : (s e : ℕ) → IsIn e (stack_of b s) → entry_at b e ≡ Running
  pub once : (s : ℕ) → IsSet (stack_of b s)
  pub one_loader : (s t e : ℕ) → IsIn e (stack_of b s) → IsIn e (stack_of b t) → s ≡ t
  -- a stack goes along loads
  pub path : (s : ℕ) → IsLoadPath loads (stack_of b s)
  -- an awaited entry has been begun, and the waiter's top loads it
  pub awaits_begun : (s e : ℕ) → awaited_by b s ≡ Some e → entry_at b e ≢ Fresh
  pub awaits_load : (s e x : ℕ) → awaited_by b s ≡ Some e → top_of (stack_of b s) ≡ Some x → Loads loads x e
  -- a product is right for its file
  pub right : (e : ℕ) (p : P) → entry_at b e ≡ Done p → Right e p
  -- only reached files are begun
  pub reached : (e : ℕ) → entry_at b e ≢ Fresh → Reached e
  -- the loaders' counts sum to the entries begun
  pub counted : sum_by (λ (l : LoaderState). l.count) b.loaders ≡ begun_count b
