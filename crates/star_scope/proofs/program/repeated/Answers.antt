use Rattle.std.proofs.Common.{refl, ap, sym, ◌∙◌, map}
use Rattle.star_scope.specs.Conflicts.{repeated_parameters}
use Rattle.star_outline.specs.Definitions.{definition_of}
use Rattle.star_scope.specs.Faults.{first, first_of}
use Rattle.star_scope.specs.Resolve.{repeated}
use Rattle.star_scope.proofs.Faults.{turn, done}
use Rattle.star_scope.proofs.FirstFaults.{first_apart}
use Rattle.star_scope.proofs.program.repeated.Goals as goal

pub loop-definition-preserved : goal.loop-definition-preserved
loop-definition-preserved c =
    let own = repeated_parameters c.definition-item.result.parameters.now in
    turn (λ d. repeated_parameters d.parameters.now) (λ ds. repeated (map definition_of ds)) (λ x xs. refl) c.as_slice-definition-items.result.now
    c.loop-definition.definition-index c.definition-item.result c.loop-definition.found c.first_of-found.result _ c.loop-definition-test.true c.definition-item.is
    (c.first_of-found.ensures ∙ ap (first_of c.loop-definition.found) c.in_ok-repeated_parameter.ensures.first ∙ sym (first_apart c.loop-definition.found own))
    c.loop-definition.invariant

pub returns-clause-first : goal.returns-clause-first
returns-clause-first c =
    done (λ ds. repeated (map definition_of ds)) c.as_slice-definition-items.result.now c.loop-definition.definition-index c.loop-definition.found _ refl
    c.loop-definition-test.false c.loop-definition.invariant
    ∙ ap first (ap repeated c.as_slice-definition-items.ensures.items)
