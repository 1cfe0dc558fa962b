use Rattle.std.proofs.Common.{rules}
use Rattle.star_outline.proofs.OutlineFound.{add_comprehension}
use Rattle.star_outline.proofs.outline.add_comprehension.Goals as goal

pub returns : goal.returns
returns c =
    add_comprehension c.args.found.now c.args.token c.args.clauses.now c.add_clauses.new.names c.push_at.new.self
    (search rules) (search rules)
