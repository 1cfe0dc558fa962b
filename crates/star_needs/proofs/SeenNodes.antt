-- Expressions and statements, by places with other outlines, and by names: one equation for each form.
use Rattle.std.proofs.Common.{ℕ, List, [], ◌∷◌, ◌++◌, Option, Some, None, ap, codes}
use Rattle.std.specs.List.{Contains}
use Rattle.std.specs.Option.{option_and_then, option_map}
use Rattle.star_store.specs.declared.values.Value.{Value}
use Rattle.star_store.specs.declared.values.Value.TheVariants as value
use Rattle.star_store.specs.Store.{Published, global_of}
use Rattle.star_tree.specs.declared.tree.Arm.{Arm, out-Arm}
use Rattle.star_tree.specs.declared.tree.BinaryOperator.{BinaryOperator}
use Rattle.star_tree.specs.declared.tree.Expression.{Expression}
use Rattle.star_tree.specs.declared.tree.LoadedName.{LoadedName}
use Rattle.star_tree.specs.declared.tree.Position.{Position}
use Rattle.star_tree.specs.declared.tree.Statement.{Statement}
use Rattle.star_tree.specs.declared.tree.Target.{Target}
use Rattle.star_tree.specs.declared.tree.Argument.TheOpen as tree
use Rattle.star_tree.specs.declared.tree.Form.TheOpen as form
use Rattle.star_outline.specs.Syntax.{ExpressionForm, StatementForm, TargetForm, target}
use Rattle.star_scope.specs.Uses.{Named, all_uses, in_arm, in_entry, in_expression, in_returned, in_statement, in_target, maybe_use, outer_of, uses}
use Rattle.star_scope.proofs.UseForms.{expression_level}
use Rattle.star_scope.proofs.StatementForms.{form_level, arm_opened}
use Rattle.star_meaning.specs.declared.fault.FaultCode.TheVariants as code
use Rattle.star_meaning.specs.declared.site.Site.{Site}
use Rattle.star_meaning.specs.declared.site.Flow.{Flow}
use Rattle.star_meaning.specs.declared.site.Flow.TheVariants as flow
use Rattle.star_meaning.specs.Run.{Action}
use Rattle.star_meaning.specs.Program.{Setting}
use Rattle.star_meaning.specs.Variables.{by_names}
use Rattle.star_meaning.specs.Semantics.{Semantics}
use Rattle.star_meaning.specs.Expressions.{node}
use Rattle.star_meaning.specs.Statements.{augment, arms, loop, load_name, module_of, returned, statement}
use Rattle.star_meaning.specs.Local.{Trees}
use Rattle.star_meaning.specs.Places.{Tables, by_places}
use Rattle.star_meaning.proofs.Agree.{Agree, agree_all_of, agree_bind, agree_block, agree_each, agree_fail, agree_give, agree_if, agree_kept, agree_quiet, agree_then, agree_turns}
use Rattle.star_meaning.proofs.AgreeParts.{Scene}
use Rattle.star_needs.proofs.SeenParts.{agree-dict_comprehension, agree-entry_of, agree-list_comprehension, agree-maybe, agree-new_function, agree-to_target}
use Rattle.star_needs.proofs.SeenCalls.{agree-call_node}
use Rattle.star_meaning.proofs.UsesOf.{Sub, by, every, first, left, of_target, parameters_are, rest, right, target_level}
use Rattle.star_meaning.proofs.Quiet as quiet
use Rattle.star_meaning.proofs.Keeps.{kept_by}
use Rattle.star_meaning.proofs.KeepsValues.{respects-is_true, keeps-new_dict, respects-new_list, respects-new_text, respects-new_tuple, respects-take_item}
use Rattle.star_meaning.proofs.KeepsOperators.{respects-comparison, keeps-operate, respects-prefix}
use Rattle.star_meaning.proofs.KeepsSubscript.{respects-index, respects-set_index, respects-slice}
use Rattle.star_meaning.proofs.KeepsAttributes.{respects-attribute}
use Rattle.star_meaning.proofs.KeepsEntries.{keeps-augmented, keeps-fresh_entries}
use Rattle.star_meaning.proofs.AgreeNodes.{loaded_each}
use Rattle.star_needs.proofs.Outlines.{with_outlines}
use Rattle.star_needs.proofs.Sight.{Sight, alike, alike_quiet, see_read}
use Rattle.star_needs.proofs.Same.{same-attribute, same-augmented, same-comparison, same-fresh_entries, same-index, same-is_true, same-iterate, same-operate, same-prefix, same-set_index, same-slice, same-take_item}

pub agree-node : (tables : Tables) (trees : Trees) (w : Setting) (sight : Sight trees w) (m n : Semantics) (p : Site) (ss : List Statement) (chain : List ℕ) → Scene tables trees w m n p ss chain → (levels : ℕ) (x : ExpressionForm) → Sub (expression_level x chain) (uses ss) → Agree trees w p.file chain (Some p.frame) (node (by_places tables (with_outlines sight.outlines w)) (with_outlines sight.outlines w) levels m p x) (node (by_names w) w levels n p x)
agree-node tables trees w sight m n p ss chain h levels (tree.Expression-F.Expression::Name x) k = see_read tables trees w sight h.known.resolved p x ss chain h.stands (first _ _ (uses ss) k)
agree-node tables trees w sight m n p ss chain h levels (tree.Int i) k = agree_give trees w p.file chain (Some p.frame) (value.Int i)
agree-node tables trees w sight m n p ss chain h levels (tree.Text t) k = agree_kept trees w p.file chain (Some p.frame) _ (kept_by w (respects-new_text p.line t))
agree-node tables trees w sight m n p ss chain h levels (tree.Expression-F.Expression::Tuple es) k = agree_then trees w p.file chain (Some p.frame) _ _ _ _ (agree_each trees w p.file chain (Some p.frame) (λ e. Sub (in_expression e chain) (uses ss)) _ _ (λ e j. h.parts.expr p e ss chain h.stands (j)) es (every in_expression es chain (uses ss) (k))) (λ xs. agree_kept trees w p.file chain (Some p.frame) _ (kept_by w (respects-new_tuple p.line xs)))
agree-node tables trees w sight m n p ss chain h levels (tree.Expression-F.Expression::List es) k = agree_then trees w p.file chain (Some p.frame) _ _ _ _ (agree_each trees w p.file chain (Some p.frame) (λ e. Sub (in_expression e chain) (uses ss)) _ _ (λ e j. h.parts.expr p e ss chain h.stands (j)) es (every in_expression es chain (uses ss) (k))) (λ xs. agree_kept trees w p.file chain (Some p.frame) _ (kept_by w (respects-new_list p.line xs)))
agree-node tables trees w sight m n p ss chain h levels (tree.Dict es) k = agree_then trees w p.file chain (Some p.frame) _ _ _ _ (agree_then trees w p.file chain (Some p.frame) _ _ _ _ (agree_each trees w p.file chain (Some p.frame) (λ e. Sub (in_entry e chain) (uses ss)) _ _ (λ e j. agree-entry_of tables trees w sight m n p ss chain h e j) es (every in_entry es chain (uses ss) k)) (λ xs. alike trees w p.file chain (Some p.frame) _ _ (same-fresh_entries sight.outlines w levels p.line [] xs) (keeps-fresh_entries w levels p.line [] xs))) (λ es'. agree_kept trees w p.file chain (Some p.frame) _ (keeps-new_dict p.line es'))
agree-node tables trees w sight m n p ss chain h levels (tree.ListComprehension at e cs) k = agree-list_comprehension tables trees w sight m n p ss chain h at.token e cs (left _ _ (uses ss) (k)) (left _ _ (uses ss) (right _ _ (uses ss) (k))) (right _ _ (uses ss) (right _ _ (uses ss) (k)))
agree-node tables trees w sight m n p ss chain h levels (tree.DictComprehension at e cs) k = agree-dict_comprehension tables trees w sight m n p ss chain h levels at.token e cs (left _ _ (uses ss) (k)) (left _ _ (uses ss) (right _ _ (uses ss) (k))) (right _ _ (uses ss) (right _ _ (uses ss) (k)))
agree-node tables trees w sight m n p ss chain h levels (tree.Unary op e) k = agree_then trees w p.file chain (Some p.frame) _ _ _ _ (h.parts.expr p e ss chain h.stands (k)) (λ x. alike trees w p.file chain (Some p.frame) _ _ (same-prefix sight.outlines w p.line op x) (kept_by w (respects-prefix w p.line op x)))
agree-node tables trees w sight m n p ss chain h levels (tree.Binary op a b) k = agree_then trees w p.file chain (Some p.frame) _ _ _ _ (h.parts.expr p a ss chain h.stands (left _ _ (uses ss) (k))) (λ x. agree_then trees w p.file chain (Some p.frame) _ _ _ _ (h.parts.expr p b ss chain h.stands (right _ _ (uses ss) (k))) (λ y. alike trees w p.file chain (Some p.frame) _ _ (same-operate sight.outlines w levels p.line op x y) (keeps-operate w levels p.line op x y)))
agree-node tables trees w sight m n p ss chain h levels (tree.Compare c a b) k = agree_then trees w p.file chain (Some p.frame) _ _ _ _ (h.parts.expr p a ss chain h.stands (left _ _ (uses ss) (k))) (λ x. agree_then trees w p.file chain (Some p.frame) _ _ _ _ (h.parts.expr p b ss chain h.stands (right _ _ (uses ss) (k))) (λ y. alike trees w p.file chain (Some p.frame) _ _ (same-comparison sight.outlines w levels p.line c x y) (kept_by w (respects-comparison w levels p.line c x y))))
agree-node tables trees w sight m n p ss chain h levels (tree.And a b) k = agree_then trees w p.file chain (Some p.frame) _ _ _ _ (h.parts.expr p a ss chain h.stands (left _ _ (uses ss) (k))) (λ x. agree_then trees w p.file chain (Some p.frame) _ _ _ _ (alike trees w p.file chain (Some p.frame) _ _ (same-is_true sight.outlines w x) (kept_by w (respects-is_true w x))) (λ t. agree_if trees w p.file chain (Some p.frame) t _ _ _ _ (h.parts.expr p b ss chain h.stands (right _ _ (uses ss) (k))) (agree_give trees w p.file chain (Some p.frame) x)))
agree-node tables trees w sight m n p ss chain h levels (tree.Or a b) k = agree_then trees w p.file chain (Some p.frame) _ _ _ _ (h.parts.expr p a ss chain h.stands (left _ _ (uses ss) (k))) (λ x. agree_then trees w p.file chain (Some p.frame) _ _ _ _ (alike trees w p.file chain (Some p.frame) _ _ (same-is_true sight.outlines w x) (kept_by w (respects-is_true w x))) (λ t. agree_if trees w p.file chain (Some p.frame) t _ _ _ _ (agree_give trees w p.file chain (Some p.frame) x) (h.parts.expr p b ss chain h.stands (right _ _ (uses ss) (k)))))
agree-node tables trees w sight m n p ss chain h levels (tree.Conditional c a b) k = agree_then trees w p.file chain (Some p.frame) _ _ _ _ (h.parts.expr p c ss chain h.stands (left _ _ (uses ss) (k))) (λ x. agree_then trees w p.file chain (Some p.frame) _ _ _ _ (alike trees w p.file chain (Some p.frame) _ _ (same-is_true sight.outlines w x) (kept_by w (respects-is_true w x))) (λ t. agree_if trees w p.file chain (Some p.frame) t _ _ _ _ (h.parts.expr p a ss chain h.stands (left _ _ (uses ss) (right _ _ (uses ss) (k)))) (h.parts.expr p b ss chain h.stands (right _ _ (uses ss) (right _ _ (uses ss) (k))))))
agree-node tables trees w sight m n p ss chain h levels (tree.Lambda at ps e) k = agree-new_function tables trees w sight m n p ss chain h at.token (codes "lambda") ps (first _ _ (uses ss) k) (by _ _ (uses ss) (ap (λ us. outer_of us chain) (parameters_are ps)) (left _ _ (uses ss) (rest _ _ (uses ss) k)))
agree-node tables trees w sight m n p ss chain h levels (tree.Call f es) k = agree-call_node tables trees w sight m n p ss chain h levels f es (left _ _ (uses ss) (k)) (right _ _ (uses ss) (k))
agree-node tables trees w sight m n p ss chain h levels (tree.Attribute e x) k = agree_then trees w p.file chain (Some p.frame) _ _ _ _ (h.parts.expr p e ss chain h.stands (k)) (λ v. alike trees w p.file chain (Some p.frame) _ _ (same-attribute sight.outlines w p.line v x.text) (kept_by w (respects-attribute w p.line v x.text)))
agree-node tables trees w sight m n p ss chain h levels (tree.Expression-F.Expression::Index e i) k = agree_then trees w p.file chain (Some p.frame) _ _ _ _ (h.parts.expr p e ss chain h.stands (left _ _ (uses ss) (k))) (λ x. agree_then trees w p.file chain (Some p.frame) _ _ _ _ (h.parts.expr p i ss chain h.stands (right _ _ (uses ss) (k))) (λ j. alike trees w p.file chain (Some p.frame) _ _ (same-index sight.outlines w levels p.line x j) (kept_by w (respects-index w levels p.line x j))))
agree-node tables trees w sight m n p ss chain h levels (tree.Slice e a b c) k = let r1 : Sub ((maybe_use (option_map in_expression a) chain) ++ ((maybe_use (option_map in_expression b) chain) ++ (maybe_use (option_map in_expression c) chain))) (uses ss) = right (in_expression e chain) ((maybe_use (option_map in_expression a) chain) ++ ((maybe_use (option_map in_expression b) chain) ++ (maybe_use (option_map in_expression c) chain))) (uses ss) k in let r2 : Sub ((maybe_use (option_map in_expression b) chain) ++ (maybe_use (option_map in_expression c) chain)) (uses ss) = right (maybe_use (option_map in_expression a) chain) ((maybe_use (option_map in_expression b) chain) ++ (maybe_use (option_map in_expression c) chain)) (uses ss) r1 in agree_then trees w p.file chain (Some p.frame) _ _ _ _ (h.parts.expr p e ss chain h.stands (left (in_expression e chain) ((maybe_use (option_map in_expression a) chain) ++ ((maybe_use (option_map in_expression b) chain) ++ (maybe_use (option_map in_expression c) chain))) (uses ss) k)) (λ x. agree_then trees w p.file chain (Some p.frame) _ _ _ _ (agree-maybe tables trees w sight m n p ss chain h a (left (maybe_use (option_map in_expression a) chain) ((maybe_use (option_map in_expression b) chain) ++ (maybe_use (option_map in_expression c) chain)) (uses ss) r1)) (λ i. agree_then trees w p.file chain (Some p.frame) _ _ _ _ (agree-maybe tables trees w sight m n p ss chain h b (left (maybe_use (option_map in_expression b) chain) (maybe_use (option_map in_expression c) chain) (uses ss) r2)) (λ j. agree_then trees w p.file chain (Some p.frame) _ _ _ _ (agree-maybe tables trees w sight m n p ss chain h c (right (maybe_use (option_map in_expression b) chain) (maybe_use (option_map in_expression c) chain) (uses ss) r2)) (λ l. alike trees w p.file chain (Some p.frame) _ _ (same-slice sight.outlines w p.line x i j l) (kept_by w (respects-slice w p.line x i j l))))))

-- ---- statements

pub agree-augment : (tables : Tables) (trees : Trees) (w : Setting) (sight : Sight trees w) (m n : Semantics) (p : Site) (ss : List Statement) (chain : List ℕ) → Scene tables trees w m n p ss chain → (levels : ℕ) (op : BinaryOperator) (e : Expression) (x : TargetForm) → Sub (target_level x chain) (uses ss) → Sub (in_expression e chain) (uses ss) → Agree trees w p.file chain (Some p.frame) (augment (by_places tables (with_outlines sight.outlines w)) (with_outlines sight.outlines w) levels m p op e x) (augment (by_names w) w levels n p op e x)
agree-augment tables trees w sight m n p ss chain h levels op e (tree.Target-F.Target::Name x) k l = agree_then trees w p.file chain (Some p.frame) _ _ _ _ (see_read tables trees w sight h.known.resolved p x ss chain h.stands (first _ _ (uses ss) k)) (λ u. agree_then trees w p.file chain (Some p.frame) _ _ _ _ (h.parts.expr p e ss chain h.stands (l)) (λ v. agree_then trees w p.file chain (Some p.frame) _ _ _ _ (alike trees w p.file chain (Some p.frame) _ _ (same-augmented sight.outlines w levels p.line op u v) (keeps-augmented w levels p.line op u v)) (λ z. agree_bind tables trees w h.known.resolved p x z ss chain h.stands (first _ _ (uses ss) k))))
agree-augment tables trees w sight m n p ss chain h levels op e (tree.Target-F.Target::Index b i) k l = agree_then trees w p.file chain (Some p.frame) _ _ _ _ (h.parts.parts p b i ss chain h.stands (left _ _ (uses ss) (k)) (right _ _ (uses ss) (k))) (λ r. agree_then trees w p.file chain (Some p.frame) _ _ _ _ (h.parts.expr p e ss chain h.stands (l)) (λ v. agree_then trees w p.file chain (Some p.frame) _ _ _ _ (alike trees w p.file chain (Some p.frame) _ _ (same-augmented sight.outlines w levels p.line op r.old v) (keeps-augmented w levels p.line op r.old v)) (λ z. alike trees w p.file chain (Some p.frame) _ _ (same-set_index sight.outlines w levels p.line r.base r.index z) (kept_by w (respects-set_index w levels p.line r.base r.index z)))))
agree-augment tables trees w sight m n p ss chain h levels op e (tree.Target-F.Target::Tuple ts) k l = agree_fail (Unit {0}) trees w p.file chain (Some p.frame) code.BadType p.line
agree-augment tables trees w sight m n p ss chain h levels op e (tree.Target-F.Target::List ts) k l = agree_fail (Unit {0}) trees w p.file chain (Some p.frame) code.BadType p.line

pub agree-arms : (tables : Tables) (trees : Trees) (w : Setting) (sight : Sight trees w) (m n : Semantics) (p : Site) (ss : List Statement) (chain : List ℕ) → Scene tables trees w m n p ss chain → (cases : List Arm) (a b : Action Flow) → Sub (all_uses in_arm cases chain) (uses ss) → Agree trees w p.file chain (Some p.frame) (a) (b) → Agree trees w p.file chain (Some p.frame) (arms (with_outlines sight.outlines w) m p cases a) (arms w n p cases b)
agree-arms tables trees w sight m n p ss chain h [] a b k r = r
agree-arms tables trees w sight m n p ss chain h (x ∷ more) a b k r =
    let l : Sub (in_expression (out-Arm x).condition chain ++ all_uses in_statement (out-Arm x).body chain) (uses ss) = by _ _ (uses ss) (arm_opened x chain) (left _ _ (uses ss) (k)) in
    agree_then trees w p.file chain (Some p.frame) _ _ _ _ (agree_then trees w p.file chain (Some p.frame) _ _ _ _ (h.parts.expr p (out-Arm x).condition ss chain h.stands (left _ _ (uses ss) (l))) (λ v. alike trees w p.file chain (Some p.frame) _ _ (same-is_true sight.outlines w v) (kept_by w (respects-is_true w v)))) (λ t. agree_if trees w p.file chain (Some p.frame) t _ _ _ _ (agree_block trees w p.file chain (Some p.frame) (λ x. Sub (in_statement x chain) (uses ss)) _ _ (λ x j. h.parts.stmt p x ss chain h.stands j) (out-Arm x).body (every in_statement (out-Arm x).body chain (uses ss) (right _ _ (uses ss) (l)))) (agree-arms tables trees w sight m n p ss chain h more a b (right _ _ (uses ss) (k)) r))

pub agree-loop : (tables : Tables) (trees : Trees) (w : Setting) (sight : Sight trees w) (m n : Semantics) (p : Site) (ss : List Statement) (chain : List ℕ) → Scene tables trees w m n p ss chain → (t : Target) (body : List Statement) (v : Value) → Sub (in_target t chain) (uses ss) → Sub (all_uses in_statement body chain) (uses ss) → Agree trees w p.file chain (Some p.frame) (loop (by_places tables (with_outlines sight.outlines w)) (with_outlines sight.outlines w) m p t body v) (loop (by_names w) w n p t body v)
agree-loop tables trees w sight m n p ss chain h t body v k l =
    agree_then trees w p.file chain (Some p.frame) _ _ _ _ (alike_quiet trees w p.file chain (Some p.frame) _ _ (same-iterate sight.outlines w p.line v) (quiet.keeps_iterate w p.line v)) (λ c. agree_then trees w p.file chain (Some p.frame) _ _ _ _ (agree_turns trees w p.file chain (Some p.frame) _ _ c 0 (λ i. agree_then trees w p.file chain (Some p.frame) _ _ _ _ (alike trees w p.file chain (Some p.frame) _ _ (same-take_item sight.outlines w p.line v i) (kept_by w (respects-take_item w p.line v i))) (λ x. agree_then trees w p.file chain (Some p.frame) _ _ _ _ (agree-to_target tables trees w sight m n p ss chain h t x k) (λ _. agree_block trees w p.file chain (Some p.frame) (λ x. Sub (in_statement x chain) (uses ss)) _ _ (λ x j. h.parts.stmt p x ss chain h.stands j) body (every in_statement body chain (uses ss) (l)))))) (λ f. agree_then trees w p.file chain (Some p.frame) _ _ _ _ (agree_quiet trees w p.file chain (Some p.frame) _ (quiet.keeps_leave v)) (λ _. agree_give trees w p.file chain (Some p.frame) f)))

pub agree-load_name : (tables : Tables) (trees : Trees) (w : Setting) (sight : Sight trees w) (m n : Semantics) (p : Site) (ss : List Statement) (chain : List ℕ) → Scene tables trees w m n p ss chain → (o : Option Published) (x : LoadedName) → Contains (uses ss) (Named x.local chain) → Agree trees w p.file chain (Some p.frame) (load_name (by_places tables (with_outlines sight.outlines w)) p o x) (load_name (by_names w) p o x)
agree-load_name tables trees w sight m n p ss chain h o x k = agree_then trees w p.file chain (Some p.frame) _ _ _ _ (agree_quiet trees w p.file chain (Some p.frame) _ (quiet.keeps_found code.NoName p.line (option_and_then (λ q. global_of x.loaded.text q.globals) o))) (λ v. agree_bind tables trees w h.known.resolved p x.local v ss chain h.stands k)

pub agree-returned : (tables : Tables) (trees : Trees) (w : Setting) (sight : Sight trees w) (m n : Semantics) (p : Site) (ss : List Statement) (chain : List ℕ) → Scene tables trees w m n p ss chain → (o : Option Expression) → Sub (in_returned o chain) (uses ss) → Agree trees w p.file chain (Some p.frame) (returned m p o) (returned n p o)
agree-returned tables trees w sight m n p ss chain h None k = agree_give trees w p.file chain (Some p.frame) (flow.Return value.NoneValue)
agree-returned tables trees w sight m n p ss chain h (Some e) k = agree_then trees w p.file chain (Some p.frame) _ _ _ _ (h.parts.expr p e ss chain h.stands (k)) (λ v. agree_give trees w p.file chain (Some p.frame) (flow.Return v))

pub agree-statement : (tables : Tables) (trees : Trees) (w : Setting) (sight : Sight trees w) (m n : Semantics) (p : Site) (ss : List Statement) (chain : List ℕ) → Scene tables trees w m n p ss chain → (levels : ℕ) (at : Position) (x : StatementForm) → Sub (form_level x at.token chain) (uses ss) → Agree trees w p.file chain (Some p.frame) (statement (by_places tables (with_outlines sight.outlines w)) (with_outlines sight.outlines w) levels m p at x) (statement (by_names w) w levels n p at x)
agree-statement tables trees w sight m n p ss chain h levels at (form.Expression e) k = agree_then trees w p.file chain (Some p.frame) _ _ _ _ (h.parts.expr p e ss chain h.stands (k)) (λ _. agree_give trees w p.file chain (Some p.frame) flow.Next)
agree-statement tables trees w sight m n p ss chain h levels at (form.Assign t e) k = agree_then trees w p.file chain (Some p.frame) _ _ _ _ (h.parts.expr p e ss chain h.stands (left _ _ (uses ss) (k))) (λ v. agree_then trees w p.file chain (Some p.frame) _ _ _ _ (agree-to_target tables trees w sight m n p ss chain h t v (right _ _ (uses ss) (k))) (λ _. agree_give trees w p.file chain (Some p.frame) flow.Next))
agree-statement tables trees w sight m n p ss chain h levels at (form.Augment t op e) k = agree_then trees w p.file chain (Some p.frame) _ _ _ _ (agree-augment tables trees w sight m n p ss chain h levels op e (target t) (by _ _ (uses ss) (of_target t chain) (left _ _ (uses ss) (k))) (right _ _ (uses ss) (k))) (λ _. agree_give trees w p.file chain (Some p.frame) flow.Next)
agree-statement tables trees w sight m n p ss chain h levels at form.Pass k = agree_give trees w p.file chain (Some p.frame) flow.Next
agree-statement tables trees w sight m n p ss chain h levels at form.Break k = agree_give trees w p.file chain (Some p.frame) flow.Break
agree-statement tables trees w sight m n p ss chain h levels at form.Continue k = agree_give trees w p.file chain (Some p.frame) flow.Continue
agree-statement tables trees w sight m n p ss chain h levels at (form.Return e) k = agree-returned tables trees w sight m n p ss chain h e k
agree-statement tables trees w sight m n p ss chain h levels at (form.Load l xs) k = agree_then trees w p.file chain (Some p.frame) _ _ _ _ (agree_all_of trees w p.file chain (Some p.frame) (λ x. Contains (uses ss) (Named x.local chain)) _ _ (λ x j. agree-load_name tables trees w sight m n p ss chain h (module_of w at) x j) xs (loaded_each xs chain (uses ss) k)) (λ _. agree_give trees w p.file chain (Some p.frame) flow.Next)
agree-statement tables trees w sight m n p ss chain h levels at (form.If cases otherwise) k = agree-arms tables trees w sight m n p ss chain h cases _ _ (left _ _ (uses ss) (k)) (agree_block trees w p.file chain (Some p.frame) (λ x. Sub (in_statement x chain) (uses ss)) _ _ (λ x j. h.parts.stmt p x ss chain h.stands j) otherwise (every in_statement otherwise chain (uses ss) (right _ _ (uses ss) (k))))
agree-statement tables trees w sight m n p ss chain h levels at (form.For t e body) k = agree_then trees w p.file chain (Some p.frame) _ _ _ _ (h.parts.expr p e ss chain h.stands (left _ _ (uses ss) (k))) (λ v. agree-loop tables trees w sight m n p ss chain h t body v (left _ _ (uses ss) (right _ _ (uses ss) (k))) (right _ _ (uses ss) (right _ _ (uses ss) (k))))
agree-statement tables trees w sight m n p ss chain h levels at (form.Def x ps body) k = agree_then trees w p.file chain (Some p.frame) _ _ _ _ (agree-new_function tables trees w sight m n p ss chain h at.token x.text ps (first _ _ (uses ss) k) (left _ _ (uses ss) (rest _ _ (uses ss) (rest _ _ (uses ss) k)))) (λ v. agree_then trees w p.file chain (Some p.frame) _ _ _ _ (agree_bind tables trees w h.known.resolved p x v ss chain h.stands (first _ _ (uses ss) (rest _ _ (uses ss) k))) (λ _. agree_give trees w p.file chain (Some p.frame) flow.Next))
