-- Trees that are read are in order, and can be written.
use Rattle.std.proofs.Common.{ℕ, zero, suc, ◌+◌, ◌*◌, [], Some, length, sym, arith}
use Rattle.star_syntax.specs.declared.level.Level.{Level}
use Rattle.star_syntax.specs.declared.level.Level.TheVariants as levels
use Rattle.star_syntax.specs.Sorts.{Sort, Val, list}
use Rattle.star_syntax.specs.Sorts as sorts
use Rattle.star_syntax.specs.Grammar.{Rule, level, statement, sort, nonterminal, Readers, run}
use Rattle.star_syntax.specs.Language.{rule, rule_of_level}
use Rattle.star_syntax.specs.InOrder.{statement_in_order, ReadInOrder, TreeInOrder, ReadIsWritten}
use Rattle.star_syntax.proofs.Ranks.{rank}
use Rattle.star_syntax.proofs.Reading.{only_one}
use Rattle.star_syntax.proofs.Language.{sound, file-only}
use Rattle.star_syntax.proofs.Kept.{OfExpression}
use Rattle.star_syntax.proofs.Makes.{Makes, Each, nothing-found}
use Rattle.star_syntax.proofs.ExpressionsInOrder.{primary', unary', negation', disjunction', test'}
use Rattle.star_syntax.proofs.StatementsInOrder.{OfStatement, one-statement, file', every-kept}
use Rattle.star_syntax.proofs.ReadsBack.{reads_back}
use Rattle.star_syntax.proofs.Writing.{writable}

abbrev OfRule : (r : Rule) → Val (sort r) → Type 0
OfRule (level l) = OfExpression
OfRule statement = Each OfStatement

abbrev Keeps : Readers → Type 0
Keeps k = (r : Rule) → Makes k (sort r) (nonterminal r) (OfRule r)

of-level : (k : Readers) → Keeps k → (l : Level) → Makes k sorts.expression (rule_of_level l) OfExpression
of-level k keeps levels.Test = test' k (λ l. keeps (level l))
of-level k keeps levels.Or = disjunction' k (λ l. keeps (level l))
of-level k keeps levels.Negation = negation' k (λ l. keeps (level l))
of-level k keeps levels.Unary = unary' k (λ l. keeps (level l))
of-level k keeps levels.Primary = primary' k (λ l. keeps (level l))

of-rule : (k : Readers) → Keeps k → (r : Rule) → Makes k (sort r) (rule r) (OfRule r)
of-rule k keeps (level l) = of-level k keeps l
of-rule k keeps statement = one-statement k (λ l. keeps (level l)) (keeps statement)

keeps : (d : ℕ) → Keeps (run rule d)
unfolding run
keeps zero r = record { holds = λ ts x us e. absurd (nothing-found (x, us) e) }
keeps (suc d) r = record { holds = λ ts x us e. (of-rule (run rule d) (keeps d) r).holds ts x us e }

pub read_in_order : ReadInOrder
read_in_order l x ts us r =
    let d : ℕ = length ts * 2 + 2 in
    let e = only_one rule rank 2 sound d (level l) ts (Some (x, us)) (omega arith) r in
    let m = keeps d (level l) in
    m.holds ts x us (sym e)

pub tree_in_order : TreeInOrder
tree_in_order tree leaves r =
    let d : ℕ = length leaves * 2 + 2 in
    let e = file-only d leaves (Some (tree, [])) (omega arith) r.greedy in
    let m = file' (run rule d) (λ l. keeps d (level l)) (keeps d statement) in
    every-kept statement_in_order tree (m.holds leaves tree [] (sym e))

pub read_is_written : ReadIsWritten
read_is_written x ts us vs r stops =
    let w = writable x (read_in_order levels.Test x ts us r) vs in
    (w.0, w.1, reads_back x w.0 vs w.1 stops)
