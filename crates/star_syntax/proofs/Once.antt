-- Leaves have one reading.
use Rattle.std.proofs.Common.{ℕ, ◌+◌, ◌*◌, List, length, [], Some, None, ap, sym, ◌∙◌, arith}
use Rattle.star_tree.specs.declared.tree.Statement.{Statement}
use Rattle.star_syntax.specs.Grammar.{Answer}
use Rattle.star_syntax.specs.Laws.{OneReading}
use Rattle.star_syntax.proofs.Language.{file-only}

abbrev tree_or : List Statement → Answer (List Statement) → List Statement
tree_or x None = x
tree_or x (Some p) = p.0

pub one_reading : OneReading
one_reading leaves a b r t =
    let d : ℕ = length leaves * 2 + 2 in
    let i = file-only d leaves (Some (a, [])) (omega arith) r.greedy in
    let j = file-only d leaves (Some (b, [])) (omega arith) t.greedy in
    ap (tree_or a) (i ∙ sym j)
