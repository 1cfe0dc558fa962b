use Rattle.std.proofs.Common.{◌≡◌, ◌++◌, List, ℕ, length, map}
use Rattle.std.specs.Prelude.{◌↔◌}
use Rattle.star_label.specs.Files.{file_of}
use Rattle.star_repo.specs.Parsed.{AreParsed}
use Rattle.star_words.specs.Rows.{IsIn}
use Rattle.star_repo.specs.Views.{AllRead, answers_in, labels_of}
use Rattle.star_repo.specs.Way.{IsLoadedBy}
use Rattle.star_repo.proofs.Settled.{Once, Same}
use Rattle.star_repo.proofs.Steps.{Fresh}
use Rattle.star_repo.proofs.round.settled.Given as goal

abbrev pub invariant-loop-file : goal.invariant-loop-file
invariant-loop-file l = record {
  moved : (moved : List Fresh) × (l.initial.fresh.items ≡ l.fresh.items ++ moved)
      × ((m : List ℕ) → IsIn m (labels_of l.waiting.keys) ↔ IsLoadedBy (map file_of moved) m);
  same : Once (answers_in l.initial.fresh.items l.initial.looked.entries)
      → Same (answers_in l.initial.fresh.items l.initial.looked.entries) (answers_in l.fresh.items l.looked.entries);
  parsed : AreParsed l.fresh.items l.parses.items;
  all_read : AllRead l.initial.looked → AllRead l.looked;
}

abbrev pub decreases-loop-file : goal.decreases-loop-file
decreases-loop-file l = length l.fresh.items
