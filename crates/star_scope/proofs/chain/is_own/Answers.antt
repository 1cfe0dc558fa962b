use Rattle.std.proofs.Common.{◌≡◌, sym, ap, ◌∙◌, ◌||◌, false}
use Rattle.std.proofs.lemmas.List.Folds.{list_any-append}
use Rattle.star_outline.specs.Names.{has_name, same_name}
use Rattle.star_scope.specs.Places.{core_names, further_names, own_names}
use Rattle.star_scope.proofs.chain.is_own.Goals as goal

pub returns-else-is_among : goal.returns-else-is_among
returns-else-is_among c =
    let name = c.args.name.now in
    let core : has_name core_names name ≡ false = sym c.is_among-in-Extended.ensures ∙ c.if-is_among.false in
    c.is_among-else-is_among.ensures
    ∙ sym (ap (λ d. has_name (own_names d) name) c.in-Extended.is
    ∙ list_any-append (same_name name) core_names further_names ∙ ap (λ b. b || has_name further_names name) core)
