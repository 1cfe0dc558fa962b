-- The grammar of a file, its reading, and the answers of the readers of its parts.
use Rattle.std.specs.Prelude.{◌≡◌, ℕ, List, [], Option, Some, None, Result, Ok, Err}
use Rattle.std.specs.Borrow.{Bor}
use Rattle.std.specs.declared.alloc.Global.{Global}
use Rattle.std.specs.declared.alloc.AllocError.{AllocError}
use Rattle.star_syntax.specs.declared.leaf.ValuedToken.{ValuedToken}
use Rattle.star_syntax.specs.declared.level.Level.{Level}
use Rattle.star_syntax.specs.declared.level.Level.TheVariants as levels
use Rattle.star_tree.specs.declared.tree.Expression.{Expression}
use Rattle.star_tree.specs.declared.tree.Statement.{Statement}
use Rattle.star_syntax.specs.Sorts.{Sort, Val, list}
use Rattle.star_syntax.specs.Sorts as sorts
use Rattle.star_syntax.specs.Grammar.{Rule, level, statement, sort, Part, Answer, run, step, Reads, Spells}
use Rattle.star_syntax.specs.Expressions.{any_test, disjunction, negation, unary, primary}
use Rattle.star_syntax.specs.Statements.{one_statement, file}

abbrev pub rule_of_level : Level → Part sorts.expression
rule_of_level levels.Test = any_test
rule_of_level levels.Or = disjunction
rule_of_level levels.Negation = negation
rule_of_level levels.Unary = unary
rule_of_level levels.Primary = primary

-- the productions of the parts that hold themselves
abbrev pub rule : (r : Rule) → Part (sort r)
rule (level l) = rule_of_level l
rule statement = one_statement

-- the tree that spells all the leaves, each repetition or option taking a further round wherever one reads there
pub record Reading (tree : List Statement) (leaves : List ValuedToken) : Type 0 where
  pub spells : Spells rule (list sorts.statement) file tree leaves
  pub greedy : Reads rule (list sorts.statement) file leaves (Some (tree, []))

-- the reading of a part, with parts that hold themselves nested no deeper than the number
abbrev pub reads : ℕ → {s : Sort} → Part s → List ValuedToken → Answer (Val s)
reads depth g ts = step (run rule depth) g ts

-- ---- the answers of the code

abbrev pub Finds : {A : Type 0} → Answer A → Option (A × Bor (List ValuedToken)) → Type 0
Finds r None = r ≡ None
Finds r (Some p) = r ≡ Some (p.0, p.1.now)

abbrev pub Gives : {A : Type 0} → Answer A → Result (Option (A × Bor (List ValuedToken))) AllocError → Type 0
Gives r (Ok found) = Finds r found
Gives r (Err e) = Unit {0}

-- a function that reads expressions to a depth
pub record Nests (depth : ℕ) (pre : Global → ℕ → Level → Bor (List ValuedToken) → Type 0)
    (post : Global → ℕ → Level → Bor (List ValuedToken) → Result (Option (Expression × Bor (List ValuedToken))) AllocError
    → Type 0) : Type 0 where
  pub callable : (alloc : Global) (l : Level) (ts : Bor (List ValuedToken)) → pre alloc depth l ts
  pub reads : (alloc : Global) (l : Level) (ts : Bor (List ValuedToken))
      (r : Result (Option (Expression × Bor (List ValuedToken))) AllocError) → post alloc depth l ts r
      → Gives (run rule depth (level l) ts.now) r

-- a function that reads statements to a depth
pub record Blocks (depth : ℕ) (pre : Global → ℕ → Bor (List ValuedToken) → Type 0)
    (post : Global → ℕ → Bor (List ValuedToken) → Result (Option (List Statement × Bor (List ValuedToken))) AllocError
    → Type 0) : Type 0 where
  pub callable : (alloc : Global) (ts : Bor (List ValuedToken)) → pre alloc depth ts
  pub reads : (alloc : Global) (ts : Bor (List ValuedToken))
      (r : Result (Option (List Statement × Bor (List ValuedToken))) AllocError) → post alloc depth ts r
      → Gives (run rule depth statement ts.now) r

-- the reading of a whole file, or nothing if there is none
abbrev pub Parsed : List ValuedToken → Result (Option (List Statement)) AllocError → Type 0
Parsed leaves (Err e) = Unit {0}
Parsed leaves (Ok (Some tree)) = Reading tree leaves
Parsed leaves (Ok None) = (tree : List Statement) → Reading tree leaves → ⊥
