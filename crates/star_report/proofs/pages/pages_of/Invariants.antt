use Rattle.std.proofs.Common.{◌≡◌, ◌<◌, ℕ, List, length, map, take}
use Rattle.std.specs.Prelude.{All}
use Rattle.star_reading.specs.Found.{AreMarked}
use Rattle.star_report.specs.Pages.{HasItsLoads, SaysShown, known_of}
use Rattle.star_report.proofs.pages.pages_of.Given as goal

abbrev pub invariant-loop-i : goal.invariant-loop-i
invariant-loop-i l = record {
  same : l.kept ≡ l.initial.kept;
  known : map known_of l.pages.items ≡ map (λ k. k.known) (take l.i l.run.kept);
  shown : (roots : List ℕ) → AreMarked roots l.marks → All (SaysShown l.wanted roots) l.pages.items;
  files : All (λ p. p.about.now.number < length l.run.cells) l.pages.items;
  loads : All (HasItsLoads l.reads.all.items) l.pages.items;
  lead : All (λ p. All (λ x. x.file < length l.run.cells) p.loads.now) l.pages.items;
}
