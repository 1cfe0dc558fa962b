use Rattle.std.proofs.Common.{◌+◌, length}
use Rattle.star_words.proofs.glob.+tried.Given as goal

abbrev pub decreases-tried : goal.decreases-tried
decreases-tried l = length l.pattern.now + length l.name.now
