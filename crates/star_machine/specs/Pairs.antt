-- Pairs that are gathered to be put into a dictionary.
use Rattle.std.specs.Prelude.{ℕ}
use Rattle.star_store.specs.declared.values.Value.{Value}
use Rattle.star_meaning.specs.Run.{Action, ◌>>=◌, give, pay}
use Rattle.star_meaning.specs.Pairs.{Pairs}
use Rattle.star_machine.specs.declared.pairs.Pairs.{Pairs as HeldPairs}

abbrev pub as_pairs : HeldPairs → Pairs
as_pairs p = record { are_keys = p.are_keys; pairs = p.pairs }

-- an entry of a dictionary, with 1 paid before it
abbrev pub taken_entry : ℕ → Value × Value → Action (Value × Value)
taken_entry line e = pay line 1 >>= λ _. give e
