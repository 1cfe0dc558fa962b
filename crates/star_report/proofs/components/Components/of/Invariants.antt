use Rattle.std.proofs.Common.{◌≡◌, ◌<◌, ℕ, [], length}
use Rattle.star_report.specs.declared.components.Mark.TheVariants.{New}
use Rattle.star_report.specs.Components.{mark_at}
use Rattle.star_report.specs.Search.{IsSearch}
use Rattle.star_report.proofs.components.Components.of.Given as goal

abbrev pub invariant-loop-n : goal.invariant-loop-n
invariant-loop-n l = record {
  search : IsSearch l.reads.all.items l.search.marks.items [] [] l.search.count;
  stack : l.search.stack.items ≡ [];
  path : l.search.path.items ≡ [];
  found : (k : ℕ) → k < l.n → mark_at l.search.marks.items k ≡ New → ⊥;
}
