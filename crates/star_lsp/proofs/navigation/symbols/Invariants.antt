use Rattle.std.proofs.Common.{length}
use Rattle.star_lsp.proofs.navigation.symbols.Given as goal

abbrev pub decreases-loop-value : goal.decreases-loop-value
decreases-loop-value l = length l.waiting.items
