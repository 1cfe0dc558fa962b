use Rattle.std.proofs.Common.{◌≡◌, ℕ, suc, ◌-◌, ◌<◌, ap, arith}
use Rattle.star_syntax.specs.Grammar.{statement, run}
use Rattle.star_syntax.specs.Language.{rule}
use Rattle.star_parser.proofs.block.+statement.Goals as goal

pub returns-then-depth-eq0 : goal.returns-then-depth-eq0
unfolding run
returns-then-depth-eq0 t c =
    let none : c.args.depth ≡ 0 = omega arith in
    ap (λ n. run rule n statement c.args.leaves.now) none

deeper : {X : Type 0} (f : ℕ → X) (n : ℕ) → 0 < n → f n ≡ f (suc (n - 1))
deeper f n some = let e : n ≡ suc (n - 1) = omega arith in ap f e

pub returns : goal.returns
unfolding run
returns t c = rw (deeper (λ n. run rule n statement c.args.leaves.now) c.args.depth (omega arith)) c.one_statement.ensures
