use Rattle.std.proofs.Common.{length}
use Rattle.star_lsp.proofs.diagnostics.files_for.Given as goal

abbrev pub decreases-loop-label : goal.decreases-loop-label
decreases-loop-label g l = length l.labels.keys
