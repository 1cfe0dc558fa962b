use Rattle.std.proofs.Common.{length}
use Rattle.star_lsp.proofs.navigation.children_of.Given as goal

abbrev pub decreases-loop-its : goal.decreases-loop-its
decreases-loop-its l = length l.waiting.items
