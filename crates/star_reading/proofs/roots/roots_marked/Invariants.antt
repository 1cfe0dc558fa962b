use Rattle.std.proofs.Common.{◌≡◌, ◌<◌, ℕ, false, length, nat_eq, take, vec_len}
use Rattle.std.specs.Prelude.{slice_index_or}
use Rattle.std.specs.List.{list_any}
use Rattle.star_reading.proofs.roots.roots_marked.Given as goal

abbrev pub invariant-loop-root : goal.invariant-loop-root
invariant-loop-root l = record {
  size : vec_len l.marks ≡ l.files;
  marks : (n : ℕ) → n < length l.marks.items → slice_index_or l.marks.items n false ≡ list_any (nat_eq n) (take l.root-index l.roots);
}
