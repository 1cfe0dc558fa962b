-- The numbers of files that the loaders have begun.
use Rattle.std.specs.Prelude.{◌≡◌, ◌-◌, ◌++◌, ℕ, List, length, replicate, sum}

-- one count for each loader, in the order of their seats, and 0 after the last. Together they count the files begun
pub record AreCounts (loaders begun : ℕ) (counts : List ℕ) : Type 0 where
  pub each : List ℕ
  pub one_each : length each ≡ loaders
  pub then_none : counts ≡ each ++ replicate (64 - loaders) 0
  pub all_begun : sum each ≡ begun
