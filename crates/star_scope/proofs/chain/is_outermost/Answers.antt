use Rattle.std.proofs.Common.{◌≡◌, ◌||◌, ap, is_some, sym, ◌∙◌}
use Rattle.star_dialect.specs.Words.{index_of}
use Rattle.star_scope.proofs.Recorded.{either_name}
use Rattle.star_scope.proofs.chain.is_outermost.Goals as goal

pub returns-else-is_own : goal.returns-else-is_own
returns-else-is_own c =
    let l = c.args.language.now in
    let name = c.args.name.now in
    c.is_some.ensures
    ∙ ap is_some c.index.ensures
    ∙ sym (either_name l name ∙ ap (λ b. b || is_some (index_of name l.recorded)) (sym c.is_own.ensures ∙ c.if-is_own.false))
