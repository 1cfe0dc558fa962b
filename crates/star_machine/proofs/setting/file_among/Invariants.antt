use Rattle.std.proofs.Common.{◌≡◌, drop, nat_eq}
use Rattle.std.specs.List.{find}
use Rattle.star_meaning.specs.Programs.{load_files}
use Rattle.star_machine.proofs.setting.file_among.Given as goal

abbrev pub invariant-loop-load : goal.invariant-loop-load
invariant-loop-load l = find (λ x. nat_eq x.0 l.token) (load_files (drop l.load-index l.loads)) ≡ find (λ x. nat_eq x.0 l.token) (load_files l.loads)
