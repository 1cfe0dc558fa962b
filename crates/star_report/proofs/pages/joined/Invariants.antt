use Rattle.std.proofs.Common.{take}
use Rattle.std.specs.Prelude.{All, IsSome}
use Rattle.star_report.specs.Pages.{shown_texts_of}
use Rattle.star_report.proofs.Sheets.{SoFar}
use Rattle.star_report.proofs.pages.joined.Given as goal

abbrev pub invariant-loop-i : goal.invariant-loop-i
invariant-loop-i l = record {
  written : All (λ p. IsSome p.text) (take l.i l.pages);
  so_far : SoFar l.initial.all.items (shown_texts_of (take l.i l.pages)) l.later l.all.items;
}
