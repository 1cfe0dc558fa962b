use Rattle.std.proofs.Common.{◌≡◌, ◌<◌, ℕ, length}
use Rattle.std.specs.Prelude.{slice_index_or}
use Rattle.star_reading.specs.Found.{Grew, IsMarked}
use Rattle.star_reading.proofs.reading.Found.mark_each.Given as goal

abbrev pub invariant-loop-n : goal.invariant-loop-n
invariant-loop-n l = record {
  reads : l.self.reads ≡ l.initial.self.reads;
  grew : Grew l.numbers l.initial.self.marks.items l.initial.self.todo.items l.self.marks.items l.self.todo.items;
  there : (k d : ℕ) → k < l.n-index → slice_index_or l.numbers k d < length l.initial.self.marks.items → IsMarked l.self.marks.items (slice_index_or l.numbers k d);
}
