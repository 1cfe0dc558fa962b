-- The invariants of every run: expressions.
use Rattle.star_store.specs.declared.values.Value.{Value}
use Rattle.star_tree.specs.declared.tree.Expression.{Expression}
use Rattle.star_tree.specs.declared.tree.Entry.{Entry}
use Rattle.star_tree.specs.declared.tree.Parameter.{Parameter}
use Rattle.star_tree.specs.declared.tree.Argument.TheOpen as tree
use Rattle.star_meaning.specs.declared.site.Site.{Site}
use Rattle.star_outline.specs.Syntax.{ExpressionForm, ParameterForm}
use Rattle.star_meaning.specs.Program.{Setting, Variables}
use Rattle.star_meaning.specs.Semantics.{Semantics}
use Rattle.std.proofs.Common.{ℕ, List, [], ◌∷◌, Option, Some, None, false}
use Rattle.star_meaning.specs.Run.{Action}
use Rattle.star_meaning.specs.Expressions.{defaults_after, defaults, new_function, entry_of, maybe, node}
use Rattle.star_meaning.proofs.Keeps.{keeps, Keeps, AllKeep, VariablesKeep, kept_by}
use Rattle.star_meaning.proofs.KeepsValues.{respects-new_text, respects-new_tuple, respects-new_list, keeps-new_dict, respects-is_true}
use Rattle.star_meaning.proofs.KeepsOperators.{keeps-operate, respects-prefix, respects-comparison}
use Rattle.star_meaning.proofs.KeepsSubscript.{respects-index, respects-slice}
use Rattle.star_meaning.proofs.KeepsAttributes.{respects-attribute}
use Rattle.star_meaning.proofs.KeepsComprehensions.{keeps-list_comprehension, keeps-dict_comprehension}
use Rattle.star_meaning.proofs.KeepsCalls.{keeps-call_node}
use Rattle.star_meaning.proofs.KeepsEntries.{keeps-fresh_entries}

pub keeps-defaults_after : (rest : Action (List Value)) (m : Semantics) (p : Site) (a3 : ParameterForm) → Keeps false rest → AllKeep m → Keeps false (defaults_after rest m p a3)
keeps-defaults_after rest m p (tree.Default n e) k0 k1 = search keeps depth 14
keeps-defaults_after rest m p _ k0 k1 = search keeps depth 14

pub keeps-defaults : (m : Semantics) (p : Site) (a2 : List Parameter) → AllKeep m → Keeps false (defaults m p a2)
keeps-defaults m p [] k0 = search keeps depth 14
keeps-defaults m p (q ∷ qs) k0 = let h1 : (z1 : Site) → Keeps false (defaults m z1 qs) = λ z1. keeps-defaults m z1 qs k0 in search (keeps, keeps-defaults_after, h1) depth 14

pub keeps-new_function : (m : Semantics) (p : Site) (number : ℕ) (name : List ℕ) (ps : List Parameter) → AllKeep m → Keeps false (new_function m p number name ps)
keeps-new_function m p number name ps k0 = search (keeps, keeps-defaults) depth 14

pub keeps-entry_of : (m : Semantics) (p : Site) (e : Entry) → AllKeep m → Keeps false (entry_of m p e)
keeps-entry_of m p e k0 = search keeps depth 14

pub keeps-maybe : (m : Semantics) (p : Site) (a2 : Option Expression) → AllKeep m → Keeps false (maybe m p a2)
keeps-maybe m p None k0 = search keeps depth 14
keeps-maybe m p (Some e) k0 = search keeps depth 14

pub keeps-node : (vs : Variables) (w : Setting) (levels : ℕ) (m : Semantics) (p : Site) (a5 : ExpressionForm) → VariablesKeep vs → AllKeep m → Keeps false (node vs w levels m p a5)
keeps-node vs w levels m p (tree.Expression-F.Expression::Name n) k0 k1 = search keeps depth 14
keeps-node vs w levels m p (tree.Int n) k0 k1 = search keeps depth 14
keeps-node vs w levels m p (tree.Text t) k0 k1 = search (keeps, kept_by w, respects-new_text) depth 14
keeps-node vs w levels m p (tree.Expression-F.Expression::Tuple es) k0 k1 = search (keeps, kept_by w, respects-new_tuple) depth 14
keeps-node vs w levels m p (tree.Expression-F.Expression::List es) k0 k1 = search (keeps, kept_by w, respects-new_list) depth 14
keeps-node vs w levels m p (tree.Dict es) k0 k1 = search (keeps, keeps-new_dict, keeps-entry_of, keeps-fresh_entries) depth 14
keeps-node vs w levels m p (tree.ListComprehension at e cs) k0 k1 = search (keeps, keeps-list_comprehension) depth 14
keeps-node vs w levels m p (tree.DictComprehension at e cs) k0 k1 = search (keeps, keeps-dict_comprehension) depth 14
keeps-node vs w levels m p (tree.Unary op e) k0 k1 = search (keeps, kept_by w, respects-prefix) depth 14
keeps-node vs w levels m p (tree.Binary op a b) k0 k1 = search (keeps, keeps-operate) depth 14
keeps-node vs w levels m p (tree.Compare c a b) k0 k1 = search (keeps, kept_by w, respects-comparison) depth 14
keeps-node vs w levels m p (tree.And a b) k0 k1 = search (keeps, kept_by w, respects-is_true) depth 14
keeps-node vs w levels m p (tree.Or a b) k0 k1 = search (keeps, kept_by w, respects-is_true) depth 14
keeps-node vs w levels m p (tree.Conditional c a b) k0 k1 = search (keeps, kept_by w, respects-is_true) depth 14
keeps-node vs w levels m p (tree.Lambda at ps e) k0 k1 = search (keeps, keeps-new_function) depth 14
keeps-node vs w levels m p (tree.Call f es) k0 k1 = search (keeps, keeps-call_node) depth 14
keeps-node vs w levels m p (tree.Attribute e n) k0 k1 = search (keeps, kept_by w, respects-attribute) depth 14
keeps-node vs w levels m p (tree.Expression-F.Expression::Index e i) k0 k1 = search (keeps, kept_by w, respects-index) depth 14
keeps-node vs w levels m p (tree.Slice e a b c) k0 k1 = search (keeps, kept_by w, respects-slice, keeps-maybe) depth 14
