use Rattle.std.proofs.Common.{◌≡◌}
use Rattle.star_report.specs.declared.components.Mark.TheVariants.{New}
use Rattle.star_report.specs.Components.{mark_at}
use Rattle.star_report.specs.Search.{IsSearching, StayFound, left_in}
use Rattle.star_report.proofs.components.Search.search_from.Given as goal

abbrev pub invariant-loop-frame : goal.invariant-loop-frame
invariant-loop-frame l = record {
  search : IsSearching l.reads.all.items l.self;
  stay : StayFound l.fn.self.marks.items l.self.marks.items;
  found : mark_at l.self.marks.items l.n ≡ New → ⊥;
}

abbrev pub decreases-loop-frame : goal.decreases-loop-frame
decreases-loop-frame l = left_in l.reads.all.items l.self
