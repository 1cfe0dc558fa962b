use Rattle.std.proofs.Common.{take}
use Rattle.star_repo.specs.Parsed.{AreParsed}
use Rattle.star_repo.proofs.parse.parsed_again.Given as goal

abbrev pub invariant-loop-file : goal.invariant-loop-file
invariant-loop-file g l = AreParsed (take l.file-index l.files) l.parses.items
