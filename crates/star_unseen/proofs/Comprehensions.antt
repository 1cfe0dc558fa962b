-- Comprehensions over both shelves.
use Rattle.std.proofs.Common.{ℕ, List, [], ◌∷◌, Some}
use Rattle.star_store.specs.declared.arena.write.Change.TheVariants as change_to
use Rattle.star_store.specs.declared.values.Cell.TheVariants as cell
use Rattle.star_store.specs.declared.values.Value.{Value}
use Rattle.star_tree.specs.declared.tree.Clause.{Clause}
use Rattle.star_tree.specs.declared.tree.Clauses.{Clauses, out-Clauses}
use Rattle.star_tree.specs.declared.tree.Entry.{Entry, out-Entry}
use Rattle.star_tree.specs.declared.tree.Expression.{Expression}
use Rattle.star_tree.specs.declared.tree.Target.{Target}
use Rattle.star_tree.specs.declared.tree.Argument.TheOpen as tree
use Rattle.star_outline.specs.Syntax.{ClauseForm, clause}
use Rattle.star_meaning.specs.declared.site.Site.{Site}
use Rattle.star_meaning.specs.Comprehensions.{add_element, add_entry, all_clauses, clause_node, clause_turn, clauses, dict_comprehension, inner, list_comprehension, over}
use Rattle.star_meaning.specs.Program.{Setting, Variables}
use Rattle.star_meaning.specs.Run.{Action}
use Rattle.star_meaning.specs.Semantics.{Semantics}
use Rattle.star_unseen.specs.Veil.{IsVisible}
use Rattle.star_unseen.specs.Shelves.{Veil, with_other}
use Rattle.star_unseen.proofs.Alike.{Alike, Any, alike_build, alike_give, alike_if, alike_leave, alike_pay, alike_repeat, alike_then}
use Rattle.star_unseen.proofs.Visible.{SiteIsVisible}
use Rattle.star_unseen.proofs.Parts.{AllAlike, VariablesAlike}
use Rattle.star_unseen.proofs.Subscript.{alike-put_entry}
use Rattle.star_unseen.proofs.Targets.{alike-to_target}
use Rattle.star_unseen.proofs.Values.{alike-check_key, alike-is_true, alike-iterate, alike-take_item}
use Rattle.star_unseen.proofs.Writes.{alike-change}

pub alike-clause_turn : {w : Setting} (k : Veil w) (vs us : Variables) (m n : Semantics) (p : Site) (t : Target) (v : Value) (rest other : Action (Unit {0})) (i : ℕ) → VariablesAlike k vs us → AllAlike k m n → SiteIsVisible k.hides p → IsVisible k.hides v → Alike k Any rest other
    → Alike k Any (clause_turn vs w m p t v rest i) (clause_turn us (with_other k.other w) n p t v other i)
alike-clause_turn k vs us m n p t v rest other i a b c h r =
    alike_then (alike-take_item k p.line v i h) (λ x hx. alike_then (alike-to_target k vs us m n p t x a b c hx) (λ _ _. r))

pub alike-over : {w : Setting} (k : Veil w) (vs us : Variables) (m n : Semantics) (p : Site) (t : Target) (v : Value) (rest other : Action (Unit {0})) → VariablesAlike k vs us → AllAlike k m n → SiteIsVisible k.hides p → IsVisible k.hides v → Alike k Any rest other
    → Alike k Any (over vs w m p t v rest) (over us (with_other k.other w) n p t v other)
alike-over k vs us m n p t v rest other a b c h r =
    alike_then (alike-iterate k p.line v h) (λ count _.
    alike_then (alike_repeat _ _ count 0 (λ i. alike-clause_turn k vs us m n p t v rest other i a b c h r)) (λ _ _.
    alike_leave v))

pub alike-clause_node : {w : Setting} (k : Veil w) (vs us : Variables) (m n : Semantics) (p : Site) (x : ClauseForm) (rest other : Action (Unit {0})) → VariablesAlike k vs us → AllAlike k m n → SiteIsVisible k.hides p → Alike k Any rest other
    → Alike k Any (clause_node vs w m p x rest) (clause_node us (with_other k.other w) n p x other)
alike-clause_node k vs us m n p (tree.For t e) rest other a b c r = alike_then (b.expr p e c) (λ v h. alike-over k vs us m n p t v rest other a b c h r)
alike-clause_node k vs us m n p (tree.If e) rest other a b c r =
    alike_then (alike_then (b.expr p e c) (λ v h. alike-is_true k v h)) (λ t _. alike_if Any t _ _ _ _ r (alike_give {A = Unit {0}} Any tt tt))

pub alike-clauses : {w : Setting} (k : Veil w) (vs us : Variables) (m n : Semantics) (p : Site) (cs : List Clause) (last other : Action (Unit {0})) → VariablesAlike k vs us → AllAlike k m n → SiteIsVisible k.hides p → Alike k Any last other
    → Alike k Any (clauses vs w m p cs last) (clauses us (with_other k.other w) n p cs other)
alike-clauses k vs us m n p [] last other a b c r = r
alike-clauses {w = w} k vs us m n p (x ∷ cs) last other a b c r =
    alike-clause_node k vs us m n p (clause x) (clauses vs w m p cs last) (clauses us (with_other k.other w) n p cs other) a b c (alike-clauses k vs us m n p cs last other a b c r)

pub alike-all_clauses : {w : Setting} (k : Veil w) (vs us : Variables) (m n : Semantics) (p : Site) (cs : Clauses) (v : Value) (last other : Action (Unit {0})) → VariablesAlike k vs us → AllAlike k m n → SiteIsVisible k.hides p → IsVisible k.hides v → Alike k Any last other
    → Alike k Any (all_clauses vs w m p cs v last) (all_clauses us (with_other k.other w) n p cs v other)
alike-all_clauses {w = w} k vs us m n p cs v last other a b c h r =
    alike-over k vs us m n p (out-Clauses cs).target v (clauses vs w m p (out-Clauses cs).more last) (clauses us (with_other k.other w) n p (out-Clauses cs).more other) a b c h
    (alike-clauses k vs us m n p (out-Clauses cs).more last other a b c r)

pub alike-add_element : {w : Setting} (k : Veil w) (m n : Semantics) (p : Site) (e : Expression) (l : Value) → AllAlike k m n → SiteIsVisible k.hides p → IsVisible k.hides l → Alike k Any (add_element w m p e l) (add_element (with_other k.other w) n p e l)
alike-add_element k m n p e l b c h =
    alike_then (b.expr p e c) (λ x hx.
    alike_then (alike_pay p.line 1) (λ _ _.
    alike_then (alike-change k p.line l (change_to.Append x) h hx) (λ _ _.
    alike_give {A = Unit {0}} Any tt tt)))

pub alike-add_entry : {w : Setting} (k : Veil w) (levels : ℕ) (m n : Semantics) (p : Site) (e : Entry) (d : Value) → AllAlike k m n → SiteIsVisible k.hides p → IsVisible k.hides d → Alike k Any (add_entry w levels m p e d) (add_entry (with_other k.other w) levels n p e d)
alike-add_entry k levels m n p e d b c h =
    alike_then (b.expr p (out-Entry e).key c) (λ x hx.
    alike_then (b.expr p (out-Entry e).value c) (λ v hv.
    alike_then (alike-check_key k levels p.line x hx) (λ _ _.
    alike-put_entry k p.line d x v h hx hv)))

pub alike-inner : {w : Setting} (k : Veil w) (vs us : Variables) (p : Site) (number : ℕ) → VariablesAlike k vs us → SiteIsVisible k.hides p → Alike k (SiteIsVisible k.hides) (inner vs p number) (inner us p number)
alike-inner k vs us p number a c =
    alike_then (alike_pay p.line 1) (λ _ _.
    alike_then (a.frame p.file number (Some p.frame) c.1 c.0) (λ f hf.
    alike_give (SiteIsVisible k.hides) (record p { frame = f }) (hf, c.1)))

pub alike-list_comprehension : {w : Setting} (k : Veil w) (vs us : Variables) (m n : Semantics) (p : Site) (number : ℕ) (e : Expression) (cs : Clauses) → VariablesAlike k vs us → AllAlike k m n → SiteIsVisible k.hides p
    → Alike k (IsVisible k.hides) (list_comprehension vs w m p number e cs) (list_comprehension us (with_other k.other w) n p number e cs)
alike-list_comprehension {w = w} k vs us m n p number e cs a b c =
    alike_then (b.expr p (out-Clauses cs).iterable c) (λ v hv.
    alike_then (alike-inner k vs us p number a c) (λ q hq.
    alike_then (alike_build p.line 1 (cell.List []) tt) (λ l hl.
    alike_then (alike-all_clauses k vs us m n q cs v (add_element w m q e l) (add_element (with_other k.other w) n q e l) a b hq hv (alike-add_element k m n q e l b hq hl)) (λ _ _.
    alike_give (IsVisible k.hides) l hl))))

pub alike-dict_comprehension : {w : Setting} (k : Veil w) (vs us : Variables) (levels : ℕ) (m n : Semantics) (p : Site) (number : ℕ) (e : Entry) (cs : Clauses) → VariablesAlike k vs us → AllAlike k m n → SiteIsVisible k.hides p
    → Alike k (IsVisible k.hides) (dict_comprehension vs w levels m p number e cs) (dict_comprehension us (with_other k.other w) levels n p number e cs)
alike-dict_comprehension {w = w} k vs us levels m n p number e cs a b c =
    alike_then (b.expr p (out-Clauses cs).iterable c) (λ v hv.
    alike_then (alike-inner k vs us p number a c) (λ q hq.
    alike_then (alike_build p.line 1 (cell.Dict []) tt) (λ d hd.
    alike_then (alike-all_clauses k vs us m n q cs v (add_entry w levels m q e d) (add_entry (with_other k.other w) levels n q e d) a b hq hv (alike-add_entry k levels m n q e d b hq hd)) (λ _ _.
    alike_give (IsVisible k.hides) d hd))))
