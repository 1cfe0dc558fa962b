use Rattle.std.proofs.Common.{◌≡◌, ◌&&◌, drop, nat_eq}
use Rattle.std.specs.List.{list_any}
use Rattle.star_machine.proofs.machine.is_among.Given as goal

abbrev pub invariant-loop-one : goal.invariant-loop-one
invariant-loop-one l = list_any (λ a. nat_eq a.0 l.file && nat_eq a.1 l.definition) (drop l.one-index l.active) ≡ list_any (λ a. nat_eq a.0 l.file && nat_eq a.1 l.definition) l.active
