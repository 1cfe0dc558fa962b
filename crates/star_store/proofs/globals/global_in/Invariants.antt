use Rattle.std.proofs.Common.{◌≡◌, drop, map, string_bytes}
use Rattle.star_store.specs.Store.{global_of}
use Rattle.star_store.proofs.globals.global_in.Given as goal

abbrev pub invariant-loop-global : goal.invariant-loop-global
invariant-loop-global l = global_of l.name (map (λ g. (string_bytes g.0, g.1)) (drop l.global-index l.globals)) ≡ global_of l.name (map (λ g. (string_bytes g.0, g.1)) l.globals)
