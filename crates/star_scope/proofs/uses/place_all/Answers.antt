use Rattle.std.proofs.Common.{◌∷◌, [], None, sym, ◌∙◌}
use Rattle.star_scope.specs.declared.uses.ResolvedNames.{ResolvedNames}
use Rattle.star_scope.specs.Chains.{outer_shown}
use Rattle.star_scope.specs.ResolvedNames.{Places}
use Rattle.star_scope.specs.Spots.{spot_at}
use Rattle.star_scope.specs.Uses.{all_uses, in_statement, uses}
use Rattle.star_scope.proofs.Placing.{all_placed, place_as, place_part}
use Rattle.star_scope.proofs.StatementForms.{of_file}
use Rattle.star_scope.proofs.uses.place_all.Goals as goal

whole : (c : goal.In_ok-place_statements)
    → Places c.args.scope.now (uses c.args.statements.now) (record { spots = c.in_ok-new.field-0; first = None }) c.place_statements.new.placed
whole c =
    let scope = c.args.scope.now in
    let a : ResolvedNames = record { spots = c.in_ok-new.field-0; first = None } in
    let z = c.place_statements.new.placed in
    place_as scope _ _ a z (of_file c.args.statements.now)
    (place_part (λ k. all_uses in_statement c.args.statements.now k) scope c.of_file.result (0 ∷ []) a z c.of_file.ensures c.in_ok-place_statements.ensures)

pub returns-clause-first : goal.returns-clause-first
returns-clause-first c = (whole c).found

pub returns-clause-spots : goal.returns-clause-spots
returns-clause-spots c = λ none.
    all_placed (spot_at c.place_statements.new.placed.spots) c.args.scope.now.blocks.now (outer_shown c.args.scope.now.prelude c.args.scope.now.language) (uses c.args.statements.now)
    (sym (whole c).found ∙ none) (whole c).have
