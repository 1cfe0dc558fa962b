-- The seats of a cache, and the closing of a cache.
use Rattle.std.specs.Prelude.{◌≡◌, ◌<◌, ◌-◌, ◌++◌, ℕ, Bool, List, MatchResult, Option, Result, length, map, replicate, sum, sum_by, slice_index_or}
use Rattle.std.specs.List.{Any}
use Rattle.star_cache.specs.declared.reply.Reply.{Reply}
use Rattle.star_cache.specs.declared.reply.BookError.{BookError}
use Rattle.star_cache.specs.State.{BookState, LoaderState, begun_count}
use Rattle.star_cache.specs.Step.{IsAskRefused, IsAsked, MayAsk}

-- a seat as its callers see it: its number, and how many entries it has begun
pub record SeatState : Type 0 where
  pub number : ℕ
  pub begun : ℕ

-- n seats, numbered in order, that have begun nothing
abbrev pub AreNew : ℕ → List SeatState → Type 0
AreNew n xs =
    (length xs ≡ n) × ((i : ℕ) (d : SeatState) → i < n → ((slice_index_or xs i d).number ≡ i)
    × ((slice_index_or xs i d).begun ≡ 0))

-- n seats, and each number below n is one's
abbrev pub AreAll : ℕ → List SeatState → Type 0
AreAll n xs = (length xs ≡ n) × ((k : ℕ) → k < n → Any (λ s. s.number ≡ k) xs)

module _ {P : Type 0} where
  -- the loaders' counts in the order of their seats, and 0 after the last
  abbrev pub counts_of : BookState P → List ℕ
  counts_of b = map (λ (l : LoaderState). l.count) b.loaders ++ replicate (64 - length b.loaders) 0

  -- `ask` of a seat: its result, and the book and the seat after it, which are the old ones if it is refused
  abbrev pub SeatAsks : (P → Bool) → Bool → BookState P → SeatState → Option ℕ → ℕ → Result (Reply P) BookError
      → BookState P → SeatState → Type 0
  SeatAsks good always b seat parent n result after seat_after =
      MatchResult result (λ reply. MayAsk b seat.number parent × IsAsked good b seat.number n reply after)
      (λ e. IsAskRefused always b seat.number parent n e × (after ≡ b) × (seat_after ≡ seat))

-- a closed cache has a loader for each seat, and the counts, which sum to the entries begun, as do the seats' shares
pub record IsClosing {P : Type 0} (seats : List SeatState) (b : BookState P) (counts : List ℕ) : Type 0 where
  pub loaders_are : length b.loaders ≡ length seats
  pub counts_are : counts ≡ counts_of b
  pub counts_sum : sum counts ≡ begun_count b
  pub shares_sum : sum_by (λ (s : SeatState). s.begun) seats ≡ begun_count b

-- these are all seats, and the cache is closed with these counts
abbrev pub ClosesAll : {P : Type 0} → ℕ → List SeatState → BookState P → List ℕ → Type 0
ClosesAll n seats b counts = AreAll n seats × IsClosing seats b counts
