use Rattle.std.proofs.Common.{map, ap, ◌∙◌}
use Rattle.star_scope.proofs.Bindings.{insert_texts}
use Rattle.star_scope.proofs.conflicts.insert.Goals as goal

pub returns : goal.returns
returns c = ap (λ ks. map (λ x. x.now) ks) c.in_ok-insert.ensures.keys ∙ insert_texts c.args.names.now.keys c.args.name
