use Rattle.std.proofs.Common.{◌∙◌}
use Rattle.star_scope.proofs.Bindings.{contains_texts}
use Rattle.star_scope.proofs.conflicts.has.Goals as goal

pub returns : goal.returns
returns c = c.contains.ensures ∙ contains_texts c.args.names.now.keys c.args.name.now
