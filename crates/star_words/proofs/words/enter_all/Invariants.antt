use Rattle.std.proofs.Common.{◌≡◌, length}
use denote.Shadow.{shadow}
use denote.Text.{Utf8}
use Rattle.star_label.specs.Label.{parts}
use Rattle.star_words.specs.Words.{folders_of, led_by}
use Rattle.star_words.proofs.words.enter_all.Given as goal

abbrev pub invariant-loop-first : goal.invariant-loop-first
invariant-loop-first l = (led_by (folders_of l.folders.items) (parts l.rest) ≡ led_by (folders_of l.initial.folders.items) (parts l.fn.path)) × shadow (Utf8 l.rest)

abbrev pub decreases-loop-first : goal.decreases-loop-first
decreases-loop-first l = length l.rest
