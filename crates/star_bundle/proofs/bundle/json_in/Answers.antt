use Rattle.std.proofs.Common.{rules, sym}
use Rattle.star_bundle.proofs.OneFile.{json_of-read, json_of-none}
use Rattle.star_bundle.proofs.bundle.json_in.Goals as goal

pub returns-in-Ok : goal.returns-in-Ok
returns-in-Ok c = sym (json_of-read _ _ c.in-Ok.ensures.ok.0 c.in-Ok.ensures.ok.1)

pub returns-else-is_memory : goal.returns-else-is_memory
returns-else-is_memory c = sym (json_of-none _ (λ u. c.in-Err.ensures.err (search rules) u))
