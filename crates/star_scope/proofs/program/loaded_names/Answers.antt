use Rattle.std.proofs.Common.{refl, ◌∙◌}
use Rattle.std.specs.List.{flat_map}
use Rattle.star_outline.specs.Outlines.{loaded_by}
use Rattle.star_outline.specs.Syntax.{form_of}
use Rattle.star_outline.proofs.BoundNames.{names_done, names_turn}
use Rattle.star_outline.proofs.FirstPlaces.{names_once}
use Rattle.star_scope.proofs.program.loaded_names.Goals as goal

pub loop-statement-preserved : goal.loop-statement-preserved
loop-statement-preserved c =
    names_turn (λ s. loaded_by (form_of s)) (flat_map (λ s. loaded_by (form_of s))) (λ x xs. refl) c.args.statements.now c.loop-statement.statement-index c.statement-item.result
    c.loop-statement.names c.add_own_loads.new.names _ c.loop-statement-test.true c.statement-item.is c.in_ok-add_own_loads.ensures c.loop-statement.invariant

pub returns : goal.returns
returns c =
    names_done (flat_map (λ s. loaded_by (form_of s))) c.args.statements.now c.loop-statement.statement-index c.loop-statement.names _ refl c.loop-statement-test.false c.loop-statement.invariant
    ∙ names_once (flat_map (λ s. loaded_by (form_of s)) c.args.statements.now)
