use Rattle.std.proofs.Common.{rules}
use Rattle.star_outline.specs.Definitions.{body_of}
use Rattle.star_outline.proofs.OutlineFound.{add_definition}
use Rattle.star_outline.proofs.outline.add_definition.Goals as goal

pub returns : goal.returns
returns c =
    add_definition c.args.found.now c.args.token c.args.parameters.now (body_of c.args.body) c.add_parameters.new.names c.add_body.new.names
    c.push.new.self c.push_at.new.self
    (search rules) (search rules) (search rules) (search rules)
