use Rattle.std.proofs.Common.{ap, ◌∙◌, [], ◌∷◌, ◌++◌}
use Rattle.star_outline.specs.Outlines.{and, in_statements}
use Rattle.star_scope.proofs.program.outline_of.Goals as goal

pub returns-clause-definitions : goal.returns-clause-definitions
unfolding and
returns-clause-definitions c =
    ap (λ f. f.definitions) c.in_ok-find_in_statements.ensures ∙ ap (λ ds. ds ++ (in_statements c.args.statements.now).definitions) c.new.ensures

pub returns-clause-blocks : goal.returns-clause-blocks
unfolding and
returns-clause-blocks c =
    ap (λ f. f.blocks) c.in_ok-find_in_statements.ensures
    ∙ ap (λ bs. bs ++ (in_statements c.args.statements.now).blocks)
    (c.in_ok-push.ensures ∙ ap (λ bs. bs ++ record { number = 0; names = c.in_ok-names.names } ∷ []) c.new-2.ensures ∙ ap (λ ns. record { number = 0; names = ns } ∷ []) c.in_ok-names.ensures)
