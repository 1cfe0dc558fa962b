-- One level of being in order.
use Rattle.std.proofs.Common.{◌≡◌, Bool, true, false, ◌&&◌, refl}
use Rattle.star_tree.specs.declared.tree.Argument.{Argument, roll-Argument, para-roll-Argument}
use Rattle.star_tree.specs.declared.tree.Clause.{Clause, roll-Clause, para-roll-Clause}
use Rattle.star_tree.specs.declared.tree.Expression.{Expression, roll-Expression, para-roll-Expression}
use Rattle.star_tree.specs.declared.tree.Parameter.{Parameter, roll-Parameter, para-roll-Parameter}
use Rattle.star_tree.specs.declared.tree.Target.{Target, roll-Target, para-roll-Target}
use Rattle.star_tree.specs.declared.tree.Clauses.{Clauses, roll-Clauses, para-roll-Clauses}
use Rattle.star_tree.specs.declared.tree.Entry.{Entry, roll-Entry, para-roll-Entry}
use Rattle.star_tree.specs.declared.tree.Argument.TheOpen as tree
use Rattle.star_tree.specs.declared.tree.Argument.TheFolds as folds
use Rattle.star_syntax.specs.InOrder.{argument_step, clause_step, expression_step, parameter_step, target_step, clauses_step, entry_step, in_order, parameter_in_order, target_in_order}

pub both-true : (a b : Bool) → (a && b) ≡ true → (a ≡ true) × (b ≡ true)
both-true true b e = (refl, e)
both-true false b e = absurd (no-truth e)
  where
    no-truth : false ≡ true → ⊥
    no-truth e = cc

unfoldable pub argument_in_order : Argument → Bool
argument_in_order = folds.para-Argument Bool Bool Bool Bool Bool Bool Bool argument_step clause_step expression_step parameter_step target_step clauses_step entry_step

unfoldable pub clause_in_order : Clause → Bool
clause_in_order = folds.para-Clause Bool Bool Bool Bool Bool Bool Bool argument_step clause_step expression_step parameter_step target_step clauses_step entry_step

unfoldable pub clauses_in_order : Clauses → Bool
clauses_in_order = folds.para-Clauses Bool Bool Bool Bool Bool Bool Bool argument_step clause_step expression_step parameter_step target_step clauses_step entry_step

unfoldable pub entry_in_order : Entry → Bool
entry_in_order = folds.para-Entry Bool Bool Bool Bool Bool Bool Bool argument_step clause_step expression_step parameter_step target_step clauses_step entry_step

-- the function that makes a layer of its seven kinds of parts
abbrev pub Layer : Type 1
Layer = Type 0 → Type 0 → Type 0 → Type 0 → Type 0 → Type 0 → Type 0 → Type 0

-- the function that maps the parts of a layer
abbrev pub Maps : Layer → Type 1
Maps F = (A B C D E G H A' B' C' D' E' G' H' : Type 0) → (A → A') → (B → B') → (C → C') → (D → D') → (E → E') → (G → G') → (H → H') → F A B C D E G H → F A' B' C' D' E' G' H'

-- a layer of whole parts
abbrev pub Form : Layer → Type 0
Form F = F Argument Clause Expression Parameter Target Clauses Entry

-- each part beside whether it is in order
abbrev pub judged : (F : Layer) → Maps F → Form F → F (Argument × Bool) (Clause × Bool) (Expression × Bool) (Parameter × Bool) (Target × Bool) (Clauses × Bool) (Entry × Bool)
judged F maps l = maps Argument Clause Expression Parameter Target Clauses Entry (Argument × Bool) (Clause × Bool) (Expression × Bool) (Parameter × Bool) (Target × Bool) (Clauses × Bool) (Entry × Bool) (λ z. (z, argument_in_order z)) (λ z. (z, clause_in_order z)) (λ z. (z, in_order z)) (λ z. (z, parameter_in_order z)) (λ z. (z, target_in_order z)) (λ z. (z, clauses_in_order z)) (λ z. (z, entry_in_order z)) l

pub record Opened : Type 0 where
  pub argument' : (l : Form tree.Argument-F) → argument_in_order (roll-Argument l) ≡ argument_step (judged tree.Argument-F folds.map-Argument l)
  pub clause' : (l : Form tree.Clause-F) → clause_in_order (roll-Clause l) ≡ clause_step (judged tree.Clause-F folds.map-Clause l)
  pub expression' : (l : Form tree.Expression-F) → in_order (roll-Expression l) ≡ expression_step (judged tree.Expression-F folds.map-Expression l)
  pub parameter' : (l : Form tree.Parameter-F) → parameter_in_order (roll-Parameter l) ≡ parameter_step (judged tree.Parameter-F folds.map-Parameter l)
  pub target' : (l : Form tree.Target-F) → target_in_order (roll-Target l) ≡ target_step (judged tree.Target-F folds.map-Target l)
  pub clauses' : (l : Form tree.Clauses-F) → clauses_in_order (roll-Clauses l) ≡ clauses_step (judged tree.Clauses-F folds.map-Clauses l)
  pub entry' : (l : Form tree.Entry-F) → entry_in_order (roll-Entry l) ≡ entry_step (judged tree.Entry-F folds.map-Entry l)

-- whether a value is in order, by its parts
pub opened : Opened
unfolding in_order argument_in_order clause_in_order parameter_in_order target_in_order clauses_in_order entry_in_order
opened = record {
  argument' = λ l. para-roll-Argument _ _ _ _ _ _ _ _ _ _ _ _ _ _ _;
  clause' = λ l. para-roll-Clause _ _ _ _ _ _ _ _ _ _ _ _ _ _ _;
  expression' = λ l. para-roll-Expression _ _ _ _ _ _ _ _ _ _ _ _ _ _ _;
  parameter' = λ l. para-roll-Parameter _ _ _ _ _ _ _ _ _ _ _ _ _ _ _;
  target' = λ l. para-roll-Target _ _ _ _ _ _ _ _ _ _ _ _ _ _ _;
  clauses' = λ l. para-roll-Clauses _ _ _ _ _ _ _ _ _ _ _ _ _ _ _;
  entry' = λ l. para-roll-Entry _ _ _ _ _ _ _ _ _ _ _ _ _ _ _;
}
