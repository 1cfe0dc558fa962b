-- A table of the book's calls: the answer of each, and the book that it leaves.
use Rattle.std.specs.Prelude.{◌≡◌, ◌≢◌, ◌<◌, ◌≤◌, ℕ, ◌+◌, Bool, true, false, List, [], ◌∷◌, MatchResult, Option, None, Some, Result, length, slice_set, replicate}
use Rattle.star_cache.specs.declared.entry.Entry.{Entry}
use Rattle.star_cache.specs.declared.entry.Entry.TheVariants.{Fresh, Running, Done, Spoiled as SpoiledEntry}
use Rattle.star_cache.specs.declared.reply.Reply.{Reply}
use Rattle.star_cache.specs.declared.reply.Reply.TheVariants.{Begun, Ready, Failed, Spoiled, Cycle, Wait}
use Rattle.star_cache.specs.declared.reply.BookError.{BookError}
use Rattle.star_cache.specs.declared.reply.BookError.TheVariants.{NotTop, Waiting, NoSuch, NotWaiting, Memory}
use Rattle.star_cache.specs.declared.entry.EntryState.{EntryState}
use Rattle.star_cache.specs.declared.entry.EntryState.TheVariants.{Fresh as StandsFresh, Running as StandsRunning, Ended}
use Rattle.star_cache.specs.Walk.{LeadsTo}
use Rattle.star_cache.specs.State.{BookState, LoaderState, IsLawful, Links, IsIn, top_of, idle, entry_at, loader_at, stack_of, awaited_by}

-- true of every book: its size and limits, and that it is lawful
pub record IsBook {P : Type 0} (loads : ℕ → List ℕ) (Reached : ℕ → Type 0) (Right : ℕ → P → Type 0) (files : ℕ)
    (b : BookState P) : Type 0 where
  pub size : length b.entries ≡ files
  pub seats : length b.loaders ≤ 64
  pub lawful : IsLawful loads Reached Right b

-- a stack without its top
abbrev pub below_top : List ℕ → List ℕ
below_top [] = []
below_top (x ∷ below) = below

module _ {P : Type 0} where
  -- the book with another loader at the seat
  abbrev pub with_loader : BookState P → ℕ → LoaderState → BookState P
  with_loader b s l = record { entries = b.entries; loaders = slice_set b.loaders s l }

  -- the target runs, on top of the seat's stack, and is counted
  abbrev pub after_begin : BookState P → ℕ → ℕ → BookState P
  after_begin b s n = record {
    entries = slice_set b.entries n Running;
    loaders =
        slice_set b.loaders s (record {
          stack = n ∷ (stack_of b s);
          awaited = awaited_by b s;
          count = (loader_at b s).count + 1;
        });
  }

  -- the seat awaits this, or nothing
  abbrev pub awaits : BookState P → ℕ → Option ℕ → BookState P
  awaits b s e = with_loader b s (record { stack = stack_of b s; awaited = e; count = (loader_at b s).count })

  -- the seat awaits the target
  abbrev pub after_wait : BookState P → ℕ → ℕ → BookState P
  after_wait b s n = awaits b s (Some n)

  -- the seat awaits nothing
  abbrev pub after_wake : BookState P → ℕ → BookState P
  after_wake b s = awaits b s None

  -- the entry on top of the seat's stack has become this, and has left the stack
  abbrev pub after_end : BookState P → ℕ → ℕ → Entry P → BookState P
  after_end b s n entry = record {
    entries = slice_set b.entries n entry;
    loaders =
        slice_set b.loaders s (record {
          stack = below_top (stack_of b s);
          awaited = awaited_by b s;
          count = (loader_at b s).count;
        });
  }

  -- the entries with each of these spoiled
  abbrev pub spoiled : List ℕ → List (Entry P) → List (Entry P)
  spoiled [] entries = entries
  spoiled (n ∷ below) entries = spoiled below (slice_set entries n SpoiledEntry)

  -- the new book
  abbrev pub fresh_book : ℕ → ℕ → BookState P
  fresh_book files seats = record { entries = replicate files Fresh; loaders = replicate seats idle }

  -- the seat's stack is spoiled and empty, and it awaits nothing
  abbrev pub after_abandon : BookState P → ℕ → BookState P
  after_abandon b s = record {
    entries = spoiled (stack_of b s) b.entries;
    loaders = slice_set b.loaders s (record { stack = []; awaited = None; count = (loader_at b s).count });
  }

  -- the target is in the stack of a loader that is the seat or walks to it
  abbrev pub MeetsSeat : BookState P → ℕ → ℕ → Type 0
  MeetsSeat b n s = (t : ℕ) × IsIn n (stack_of b t) × LeadsTo (Links b) t s

  -- the seat is there, awaits nothing and has the parent on top
  pub record MayAsk (b : BookState P) (s : ℕ) (parent : Option ℕ) : Type 0 where
    pub there : s < length b.loaders
    pub free : awaited_by b s ≡ None
    pub on_top : top_of (stack_of b s) ≡ parent

  -- a refusal by order: the first that applies
  abbrev pub IsTurnRefused : BookState P → ℕ → Option ℕ → BookError → Type 0
  IsTurnRefused b s parent NoSuch = length b.loaders ≤ s
  IsTurnRefused b s parent Waiting = (s < length b.loaders) × (awaited_by b s ≢ None)
  IsTurnRefused b s parent NotTop = (s < length b.loaders) × (awaited_by b s ≡ None) × (top_of (stack_of b s) ≢ parent)
  IsTurnRefused b s parent NotWaiting = ⊥
  IsTurnRefused b s parent Memory = ⊥

  -- the reply to an entry that has ended
  abbrev pub IsEndReply : (P → Bool) → Entry P → Reply P → Type 0
  IsEndReply good entry (Ready p) = (entry ≡ Done p) × (good p ≡ true)
  IsEndReply good entry (Failed p) = (entry ≡ Done p) × (good p ≡ false)
  IsEndReply good entry Spoiled = entry ≡ SpoiledEntry
  IsEndReply good entry Begun = ⊥
  IsEndReply good entry Cycle = ⊥
  IsEndReply good entry Wait = ⊥

  -- the state of an entry for the seat that asks
  abbrev pub IsStanding : (P → Bool) → Entry P → EntryState P → Type 0
  IsStanding good entry StandsFresh = entry ≡ Fresh
  IsStanding good entry StandsRunning = entry ≡ Running
  IsStanding good entry (Ended reply) = IsEndReply good entry reply

  -- why the state of an entry is refused: a share of its product was refused memory
  abbrev pub IsUnshared : Bool → Entry P → BookError → Type 0
  IsUnshared always entry e = (e ≡ Memory) × ((p : P) × (entry ≡ Done p)) × (always ≢ true)

  -- the answer of `ask` and the book that it leaves, if it is not refused
  abbrev pub IsAsked : (P → Bool) → BookState P → ℕ → ℕ → Reply P → BookState P → Type 0
  IsAsked good b s n Begun after = (entry_at b n ≡ Fresh) × (after ≡ after_begin b s n)
  IsAsked good b s n (Ready p) after = IsEndReply good (entry_at b n) (Ready p) × (after ≡ b)
  IsAsked good b s n (Failed p) after = IsEndReply good (entry_at b n) (Failed p) × (after ≡ b)
  IsAsked good b s n Spoiled after = IsEndReply good (entry_at b n) Spoiled × (after ≡ b)
  IsAsked good b s n Cycle after = (entry_at b n ≡ Running) × MeetsSeat b n s × (after ≡ b)
  IsAsked good b s n Wait after = (entry_at b n ≡ Running) × (MeetsSeat b n s → ⊥) × (after ≡ after_wait b s n)

  -- why `ask` is refused: the first of its refusals that applies, or a share that was refused memory
  abbrev pub IsAskRefused : Bool → BookState P → ℕ → Option ℕ → ℕ → BookError → Type 0
  IsAskRefused always b s parent n Memory = MayAsk b s parent × ((p : P) × (entry_at b n ≡ Done p)) × (always ≢ true)
  IsAskRefused always b s parent n NoSuch = IsTurnRefused b s parent NoSuch
  IsAskRefused always b s parent n Waiting = IsTurnRefused b s parent Waiting
  IsAskRefused always b s parent n NotTop = IsTurnRefused b s parent NotTop
  IsAskRefused always b s parent n NotWaiting = ⊥

  -- the answer of `wake` and the book that it leaves, if it is not refused
  abbrev pub IsWoken : (P → Bool) → BookState P → ℕ → Reply P → BookState P → Type 0
  IsWoken good b s Wait after = (e : ℕ) × (awaited_by b s ≡ Some e) × (entry_at b e ≡ Running) × (after ≡ b)
  IsWoken good b s (Ready p) after =
      (e : ℕ) × (awaited_by b s ≡ Some e) × IsEndReply good (entry_at b e) (Ready p) × (after ≡ after_wake b s)
  IsWoken good b s (Failed p) after =
      (e : ℕ) × (awaited_by b s ≡ Some e) × IsEndReply good (entry_at b e) (Failed p) × (after ≡ after_wake b s)
  IsWoken good b s Spoiled after =
      (e : ℕ) × (awaited_by b s ≡ Some e) × IsEndReply good (entry_at b e) Spoiled × (after ≡ after_wake b s)
  IsWoken good b s Begun after = ⊥
  IsWoken good b s Cycle after = ⊥

  -- why `wake` is refused: the first of its refusals that applies, or a share that was refused memory
  abbrev pub IsWakeRefused : Bool → BookState P → ℕ → BookError → Type 0
  IsWakeRefused always b s NoSuch = length b.loaders ≤ s
  IsWakeRefused always b s NotWaiting = (s < length b.loaders) × (awaited_by b s ≡ None)
  IsWakeRefused always b s Memory =
      ((e : ℕ) × (awaited_by b s ≡ Some e) × ((p : P) × (entry_at b e ≡ Done p))) × (always ≢ true)
  IsWakeRefused always b s Waiting = ⊥
  IsWakeRefused always b s NotTop = ⊥

  -- the seat is there, and awaits this entry, which was begun
  abbrev pub IsAwaited : BookState P → ℕ → ℕ → Type 0
  IsAwaited b s e = (s < length b.loaders) × (awaited_by b s ≡ Some e) × (entry_at b e ≢ Fresh) × (e < length b.entries)

  -- ---- a whole call: its result, and the book that it leaves, which is the old one if it is refused

  abbrev pub Asks : (P → Bool) → Bool → BookState P → ℕ → Option ℕ → ℕ → Result (Reply P) BookError → BookState P
      → Type 0
  Asks good always b s parent n result after =
      MatchResult result (λ reply. MayAsk b s parent × IsAsked good b s n reply after)
      (λ e. IsAskRefused always b s parent n e × (after ≡ b))

  abbrev pub Wakes : (P → Bool) → Bool → BookState P → ℕ → Result (Reply P) BookError → BookState P → Type 0
  Wakes good always b s result after =
      MatchResult result (λ reply. (s < length b.loaders) × IsWoken good b s reply after)
      (λ e. IsWakeRefused always b s e × (after ≡ b))

  -- `wake` of a seat that should await this target
  abbrev pub WakesFor : (P → Bool) → Bool → BookState P → ℕ → ℕ → Result (Reply P) BookError → BookState P → Type 0
  WakesFor good always b s n result after =
      MatchResult result (λ reply. (awaited_by b s ≡ Some n) × IsWoken good b s reply after)
      (λ e. (always ≡ true → e ≢ Memory) × (after ≡ b))

  -- the product comes back if `finish` is refused
  abbrev pub Finishes : {T : Type 0} → BookState P → ℕ → ℕ → P → Result T (BookError × P) → BookState P → Type 0
  Finishes b s n product result after =
      MatchResult result (λ _. MayAsk b s (Some n) × (after ≡ after_end b s n (Done product)))
      (λ back. IsTurnRefused b s (Some n) back.0 × (back.1 ≡ product) × (after ≡ b))

  abbrev pub Abandons : {T : Type 0} → BookState P → ℕ → Result T BookError → BookState P → Type 0
  Abandons b s result after =
      MatchResult result (λ _. (s < length b.loaders) × (after ≡ after_abandon b s))
      (λ e. (e ≡ NoSuch) × (length b.loaders ≤ s) × (after ≡ b))
