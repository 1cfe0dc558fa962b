use Rattle.std.proofs.Common.{◌≡◌, drop}
use Rattle.star_lsp.specs.Overlay.{open_at}
use Rattle.star_lsp.proofs.overlay.open_text.Given as goal

abbrev pub invariant-loop-open : goal.invariant-loop-open
invariant-loop-open l = open_at l.label (drop l.open-index l.texts) ≡ open_at l.label l.texts
