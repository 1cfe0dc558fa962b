use Rattle.std.proofs.Common.{◌≡◌, ℕ, List, map, take}
use Rattle.star_shards.specs.Joined.{is_among}
use Rattle.star_shards.specs.Read.{has}
use Rattle.star_shards.proofs.joined.labels_of.Given as goal

abbrev pub invariant-loop-entry : goal.invariant-loop-entry
invariant-loop-entry l = (q : List ℕ) → has l.labels q ≡ is_among (map (λ e. e.label.now) (take l.entry-index l.entries)) q
