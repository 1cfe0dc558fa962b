use Rattle.std.proofs.Common.{◌≡◌, drop, position}
use Rattle.star_store.specs.Index.{place_told}
use Rattle.star_store.specs.Store.{look}
use Rattle.star_store.specs.Table.{earlier, is_from_any}
use Rattle.star_store.proofs.arena.Arena.place_told.Given as goal

abbrev pub invariant-loop-home : goal.invariant-loop-home
invariant-loop-home l = earlier l.place (position (is_from_any (look l.self l.homes) l.content (drop l.home-index l.home-items)) l.keys) ≡ place_told (look l.self l.homes) l.content l.index
