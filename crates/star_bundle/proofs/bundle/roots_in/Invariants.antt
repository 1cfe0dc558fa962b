use Rattle.std.proofs.Common.{◌≡◌, ◌<◌, drop, length, map, string_bytes}
use Rattle.std.specs.Prelude.{All}
use Rattle.star_bundle.specs.Bundle.{roots_of}
use Rattle.star_bundle.proofs.Passed.{after}
use Rattle.star_bundle.proofs.bundle.roots_in.Given as goal

abbrev pub invariant-loop-root : goal.invariant-loop-root
invariant-loop-root l =
    (roots_of l.files (map string_bytes l.roots) ≡ after l.numbers.items (roots_of l.files (map string_bytes (drop l.root-index l.roots))))
    × All (λ n. n < length l.files) l.numbers.items
