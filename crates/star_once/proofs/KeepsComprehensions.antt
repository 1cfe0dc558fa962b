-- Keys differ after every run: comprehensions.
use Rattle.star_store.specs.declared.values.Value.{Value}
use Rattle.star_tree.specs.declared.tree.Target.{Target}
use Rattle.star_tree.specs.declared.tree.Expression.{Expression}
use Rattle.star_tree.specs.declared.tree.Clause.{Clause}
use Rattle.star_tree.specs.declared.tree.Clauses.{Clauses}
use Rattle.star_tree.specs.declared.tree.Entry.{Entry}
use Rattle.star_tree.specs.declared.tree.Argument.TheOpen as tree
use Rattle.star_meaning.specs.declared.site.Site.{Site}
use Rattle.star_outline.specs.Syntax.{ClauseForm}
use Rattle.star_meaning.specs.Program.{Setting, Variables}
use Rattle.star_meaning.specs.Semantics.{Semantics}
use Rattle.std.proofs.Common.{ℕ, List, [], ◌∷◌}
use Rattle.star_meaning.specs.Run.{Action}
use Rattle.star_meaning.specs.Comprehensions.{clause_turn, over, clause_node, clauses, all_clauses, add_element, add_entry, inner, list_comprehension, dict_comprehension}
use Rattle.star_once.proofs.Keeps.{keeps, Keeps, AllKeep, VariablesKeep, once_by}
use Rattle.star_meaning.proofs.KeepsValues.{respects-take_item, respects-is_true, respects-check_key}
use Rattle.star_meaning.proofs.KeepsSubscript.{respects-put_entry}
use Rattle.star_once.proofs.KeepsTargets.{keeps-to_target}

pub keeps-clause_turn : (vs : Variables) (w : Setting) (m : Semantics) (p : Site) (t : Target) (v : Value) (rest : Action (Unit {0})) (i : ℕ) → VariablesKeep w vs → AllKeep w m → Keeps w rest → Keeps w (clause_turn vs w m p t v rest i)
keeps-clause_turn vs w m p t v rest i k0 k1 k2 = search (keeps, once_by, respects-take_item, keeps-to_target) depth 14

pub keeps-over : (vs : Variables) (w : Setting) (m : Semantics) (p : Site) (t : Target) (v : Value) (rest : Action (Unit {0})) → VariablesKeep w vs → AllKeep w m → Keeps w rest → Keeps w (over vs w m p t v rest)
keeps-over vs w m p t v rest k0 k1 k2 = search (keeps, keeps-clause_turn) depth 14

pub keeps-clause_node : (vs : Variables) (w : Setting) (m : Semantics) (p : Site) (a4 : ClauseForm) (rest : Action (Unit {0})) → VariablesKeep w vs → AllKeep w m → Keeps w rest → Keeps w (clause_node vs w m p a4 rest)
keeps-clause_node vs w m p (tree.For t e) rest k0 k1 k2 = search (keeps, keeps-over) depth 14
keeps-clause_node vs w m p (tree.If e) rest k0 k1 k2 = search (keeps, once_by, respects-is_true) depth 14

pub keeps-clauses : (vs : Variables) (w : Setting) (m : Semantics) (p : Site) (a4 : List Clause) (last : Action (Unit {0})) → VariablesKeep w vs → AllKeep w m → Keeps w last → Keeps w (clauses vs w m p a4 last)
keeps-clauses vs w m p [] last k0 k1 k2 = search keeps depth 14
keeps-clauses vs w m p (c ∷ cs) last k0 k1 k2 = let h1 : Keeps w (clauses vs w m p cs last) = keeps-clauses vs w m p cs last k0 k1 k2 in search (keeps, keeps-clause_node, h1) depth 14

pub keeps-all_clauses : (vs : Variables) (w : Setting) (m : Semantics) (p : Site) (cs : Clauses) (v : Value) (last : Action (Unit {0})) → VariablesKeep w vs → AllKeep w m → Keeps w last → Keeps w (all_clauses vs w m p cs v last)
keeps-all_clauses vs w m p cs v last k0 k1 k2 = search (keeps, keeps-over, keeps-clauses) depth 14

pub keeps-add_element : (w : Setting) (m : Semantics) (p : Site) (e : Expression) (l : Value) → AllKeep w m → Keeps w (add_element w m p e l)
keeps-add_element w m p e l k0 = search keeps depth 14

pub keeps-add_entry : (w : Setting) (levels : ℕ) (m : Semantics) (p : Site) (e : Entry) (d : Value) → AllKeep w m → Keeps w (add_entry w levels m p e d)
keeps-add_entry w levels m p e d k0 = search (keeps, once_by, respects-check_key, respects-put_entry) depth 14

pub keeps-inner : {w : Setting} → (vs : Variables) (p : Site) (number : ℕ) → VariablesKeep w vs → Keeps w (inner vs p number)
keeps-inner vs p number k0 = search keeps depth 14

pub keeps-list_comprehension : (vs : Variables) (w : Setting) (m : Semantics) (p : Site) (number : ℕ) (e : Expression) (cs : Clauses) → VariablesKeep w vs → AllKeep w m → Keeps w (list_comprehension vs w m p number e cs)
keeps-list_comprehension vs w m p number e cs k0 k1 = search (keeps, keeps-all_clauses, keeps-add_element, keeps-inner) depth 14

pub keeps-dict_comprehension : (vs : Variables) (w : Setting) (levels : ℕ) (m : Semantics) (p : Site) (number : ℕ) (e : Entry) (cs : Clauses) → VariablesKeep w vs → AllKeep w m → Keeps w (dict_comprehension vs w levels m p number e cs)
keeps-dict_comprehension vs w levels m p number e cs k0 k1 = search (keeps, keeps-all_clauses, keeps-add_entry, keeps-inner) depth 14
