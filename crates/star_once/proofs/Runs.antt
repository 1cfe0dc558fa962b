-- Keys differ after every run, by induction on the levels that may still be opened.
use Rattle.std.proofs.Common.{ℕ, zero, suc, List, []}
use Rattle.star_store.specs.declared.values.Value.{Value}
use Rattle.star_tree.specs.declared.tree.Argument.TheOpen as tree
use Rattle.star_tree.specs.declared.tree.Entry.{Entry}
use Rattle.star_tree.specs.declared.tree.Statement.{Statement}
use Rattle.star_outline.specs.Syntax.{ExpressionForm, expression, form_of, position_of, target}
use Rattle.star_meaning.specs.declared.site.Site.{Site}
use Rattle.star_meaning.specs.Expressions.{entry_of, fresh_entries, node}
use Rattle.star_meaning.specs.Semantics.{Semantics}
use Rattle.star_meaning.specs.Module.{at_line, end, meaning, nothing_opens, one_more, run_file}
use Rattle.star_meaning.specs.Program.{Setting, Variables, seen}
use Rattle.star_meaning.specs.Run.{Action, Done, Failed, Outcome, and_then, each, ◌>>=◌}
use Rattle.star_meaning.specs.Values.{new_dict}
use Rattle.star_meaning.specs.Variables.{by_names}
use Rattle.star_once.specs.Keys.{Differ}
use Rattle.star_once.proofs.After.{held_then, new_dict_differs}
use Rattle.star_once.proofs.Calls.{keeps-call_node, run_keeps}
use Rattle.star_once.proofs.Dicts.{fresh_entries_after}
use Rattle.star_once.proofs.Keeps.{AllKeep, Keeps, VariablesKeep, keeps, keeps_each, keeps_fail, keeps_pay, keeps_then, once_by}
use Rattle.star_once.proofs.KeepsComprehensions.{keeps-dict_comprehension, keeps-list_comprehension}
use Rattle.star_once.proofs.KeepsExpressions.{keeps-entry_of, keeps-maybe, keeps-new_function}
use Rattle.star_meaning.proofs.KeepsAttributes.{respects-attribute}
use Rattle.star_once.proofs.KeepsModule.{keeps-global_text}
use Rattle.star_meaning.proofs.KeepsOperators.{respects-comparison, respects-prefix}
use Rattle.star_once.proofs.KeepsOperators.{keeps-operate}
use Rattle.star_once.proofs.KeepsStatements.{keeps-statement}
use Rattle.star_meaning.proofs.KeepsSubscript.{respects-index, respects-slice}
use Rattle.star_once.proofs.KeepsTargets.{keeps-parts_node, keeps-target_node}
use Rattle.star_meaning.proofs.KeepsValues.{respects-is_true, respects-new_list, respects-new_text, respects-new_tuple}
use Rattle.star_once.proofs.KeepsVariables.{keeps-bind_name, keeps-new_frame, keeps-read_name}
use Rattle.star_once.proofs.Writes as writes

-- a display of a dictionary
display_made : (w : Setting) (levels line : ℕ) (es : List (Value × Value)) → Keeps w (λ s. and_then (fresh_entries w levels line [] es s) (new_dict line))
display_made w levels line es = record { holds = λ s h. held_then w s (λ t fs. Differ (seen w t) fs) (fresh_entries w levels line [] es s) (new_dict line) (fresh_entries_after w levels line [] es s h tt) (λ fs t k stay d. new_dict_differs w line fs t k d) }

joined : {A B C : Type 0} (w : Setting) (o : Outcome A) (f : A → Action B) (g : B → Action C) → writes.Held w o → ((x : A) → Keeps w (λ s. and_then (f x s) g)) → writes.Held w (and_then (and_then o f) g)
joined w (Done x t) f g h k = (k x).holds t h
joined w (Failed e lines) f g h k = tt

keeps-display : (w : Setting) (levels : ℕ) (m : Semantics) (p : Site) (es : List Entry) → AllKeep w m → Keeps w (each (entry_of m p) es >>= fresh_entries w levels p.line [] >>= new_dict p.line)
keeps-display w levels m p es k = record { holds = λ s h. joined w (each (entry_of m p) es s) (fresh_entries w levels p.line []) (new_dict p.line) ((keeps_each (entry_of m p) es (λ e. keeps-entry_of m p e k)).holds s h) (λ xs. display_made w levels p.line xs) }

keeps-node : (vs : Variables) (w : Setting) (levels : ℕ) (m : Semantics) (p : Site) (a5 : ExpressionForm) → VariablesKeep w vs → AllKeep w m → Keeps w (node vs w levels m p a5)
keeps-node vs w levels m p (tree.Expression-F.Expression::Name n) k0 k1 = search keeps depth 14
keeps-node vs w levels m p (tree.Int n) k0 k1 = search keeps depth 14
keeps-node vs w levels m p (tree.Text t) k0 k1 = search (keeps, once_by, respects-new_text) depth 14
keeps-node vs w levels m p (tree.Expression-F.Expression::Tuple es) k0 k1 = search (keeps, once_by, respects-new_tuple) depth 14
keeps-node vs w levels m p (tree.Expression-F.Expression::List es) k0 k1 = search (keeps, once_by, respects-new_list) depth 14
keeps-node vs w levels m p (tree.Dict es) k0 k1 = keeps-display w levels m p es k1
keeps-node vs w levels m p (tree.ListComprehension at e cs) k0 k1 = search (keeps, keeps-list_comprehension) depth 14
keeps-node vs w levels m p (tree.DictComprehension at e cs) k0 k1 = search (keeps, keeps-dict_comprehension) depth 14
keeps-node vs w levels m p (tree.Unary op e) k0 k1 = search (keeps, once_by, respects-prefix) depth 14
keeps-node vs w levels m p (tree.Binary op a b) k0 k1 = search (keeps, keeps-operate) depth 14
keeps-node vs w levels m p (tree.Compare c a b) k0 k1 = search (keeps, once_by, respects-comparison) depth 14
keeps-node vs w levels m p (tree.And a b) k0 k1 = search (keeps, once_by, respects-is_true) depth 14
keeps-node vs w levels m p (tree.Or a b) k0 k1 = search (keeps, once_by, respects-is_true) depth 14
keeps-node vs w levels m p (tree.Conditional c a b) k0 k1 = search (keeps, once_by, respects-is_true) depth 14
keeps-node vs w levels m p (tree.Lambda at ps e) k0 k1 = search (keeps, keeps-new_function) depth 14
keeps-node vs w levels m p (tree.Call f es) k0 k1 = search (keeps, keeps-call_node) depth 14
keeps-node vs w levels m p (tree.Attribute e n) k0 k1 = search (keeps, once_by, respects-attribute) depth 14
keeps-node vs w levels m p (tree.Expression-F.Expression::Index e i) k0 k1 = search (keeps, once_by, respects-index) depth 14
keeps-node vs w levels m p (tree.Slice e a b c) k0 k1 = search (keeps, once_by, respects-slice, keeps-maybe) depth 14

pub names_keep : (w : Setting) → VariablesKeep w (by_names w)
names_keep w = record { read = keeps-read_name w; bind = keeps-bind_name w; frame = keeps-new_frame w }

none_keep : (w : Setting) → AllKeep w (nothing_opens w)
none_keep w = record {
  expr = λ p e. keeps_fail _ _ _;
  stmt = λ p x. keeps_fail _ _ _;
  assign = λ p t v. keeps_fail _ _ _;
  parts = λ p e i. keeps_fail _ _ _;
  call = λ p f d shares. record { holds = λ s h o. tt };
}

more_keep : (vs : Variables) (w : Setting) (n : ℕ) (m : Semantics) → VariablesKeep w vs → AllKeep w m → AllKeep w (one_more vs w n m)
more_keep vs w n m k h = record {
  expr = λ p e. keeps_then _ _ (keeps_pay p.line 1) (λ _. keeps-node vs w n m p (expression e) k h);
  stmt = λ p x. keeps_then _ _ (keeps_pay (at_line w p x).line 1) (λ _. keeps-statement vs w n m (at_line w p x) (position_of x) (form_of x) k h);
  assign = λ p t v. keeps_then _ _ (keeps_pay p.line 1) (λ _. keeps-target_node vs w n m p (target t) v k h);
  parts = λ p e i. keeps_then _ _ (keeps_pay p.line 1) (λ _. keeps-parts_node w n m p e i h);
  call = λ p f d shares. run_keeps w vs m p f d shares k h;
}

pub meaning_keeps : (vs : Variables) (w : Setting) (n : ℕ) → VariablesKeep w vs → AllKeep w (meaning vs w n)
unfolding meaning
meaning_keeps vs w zero k = none_keep w
meaning_keeps vs w (suc n) k = more_keep vs w n (meaning vs w n) k (meaning_keeps vs w n k)

keeps-end : (w : Setting) (levels line : ℕ) (frame : Value) → Keeps w (end w levels line frame)
keeps-end w levels line frame = search (keeps, keeps-global_text) depth 14

keeps-run_file : (vs : Variables) (w : Setting) (levels : ℕ) (ss : List Statement) → VariablesKeep w vs → AllKeep w (meaning vs w levels) → Keeps w (run_file vs w levels ss)
keeps-run_file vs w levels ss k h = search (keeps, keeps-end) depth 14

pub file_keeps : (w : Setting) (levels : ℕ) (ss : List Statement) → Keeps w (run_file (by_names w) w levels ss)
file_keeps w levels ss = keeps-run_file (by_names w) w levels ss (names_keep w) (meaning_keeps (by_names w) w levels (names_keep w))
