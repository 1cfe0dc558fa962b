use Rattle.std.proofs.Common.{ap, sym, ◌∙◌, not, ◌&&◌}
use Rattle.std.specs.Option.{is_some}
use Rattle.star_scope.specs.Chains.{names_outside}
use Rattle.star_outline.specs.Names.{has_name, same_name}
use Rattle.star_scope.specs.Places.{prelude_has}
use Rattle.star_outline.proofs.Numbers.{position_any}
use Rattle.star_scope.proofs.chain.prelude_has.Goals as goal

pub returns-then-not-is_private : goal.returns-then-not-is_private
returns-then-not-is_private c =
    let name = c.args.name.now in
    let names = c.in-Some.names.now in
    c.is_some.ensures ∙ ap is_some c.slot.ensures ∙ position_any (same_name name) names
    ∙ ap (λ b. not b && has_name names name) (sym c.if-not-is_private.true ∙ c.is_private.ensures)
    ∙ ap (λ p. prelude_has (names_outside p) name) (sym c.in-Some.is)
