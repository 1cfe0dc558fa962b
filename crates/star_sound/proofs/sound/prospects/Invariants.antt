use Rattle.std.proofs.Common.{◌≡◌, Some, ℕ, length}
use Rattle.std.specs.Prelude.{slice_get}
use Rattle.star_sound.specs.Sound.{IsProspect, rows_of}
use Rattle.star_sound.specs.declared.sound.Prospect.{Prospect}
use Rattle.star_sound.proofs.sound.prospects.Given as goal

abbrev pub invariant-loop-n : goal.invariant-loop-n
invariant-loop-n l = record {
  size : length l.all.items ≡ l.n;
  each : (k : ℕ) (p : Prospect) → slice_get l.all.items k ≡ Some p → IsProspect (rows_of l.needs) k p;
}
