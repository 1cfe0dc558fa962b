-- The loads that a search keeps of files that were read ahead.
use Rattle.std.specs.Prelude.{ℕ, Vec, vec_len, Option, Some, None}
use Rattle.star_flow.specs.declared.search.State.{State}
use Rattle.star_flow.specs.declared.search.State.TheVariants.{Unknown, Ahead, Found}

-- how many loads there are, if there is a list of them
abbrev pub loads_in : {A : Type 0} → Option (Vec ℕ A) → ℕ
loads_in None = 0
loads_in (Some loads) = vec_len loads

-- how many loads are kept of a file, until it is reached
abbrev pub kept : State → ℕ
kept Unknown = 0
kept (Ahead loads) = loads_in loads
kept Found = 0
