use Rattle.std.proofs.Common.{◌≡◌, ℕ, List, map, take}
use Rattle.serde_json.specs.View.{view}
use Rattle.star_reading.specs.Found.{AreMarked}
use Rattle.star_check.specs.Judged.{shown_of}
use Rattle.star_check.proofs.text.modules_of.Given as goal

abbrev pub invariant-loop-it : goal.invariant-loop-it
invariant-loop-it l = (roots : List ℕ) → AreMarked roots l.marks → map view l.modules.items ≡ shown_of l.files l.only_roots l.calls roots (take l.it-index l.judged)
