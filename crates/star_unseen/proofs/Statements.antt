-- Statements over both shelves: a load is only among the statements of the file itself, where the names that it loads are
-- read.
use Rattle.std.proofs.Common.{◌≡◌, ℕ, Bool, true, false, List, [], ◌∷◌, ◌++◌, Option, Some, None, refl, sym, ◌∙◌}
use Rattle.star_store.specs.declared.values.Cell.TheVariants as cell
use Rattle.star_store.specs.declared.values.Value.{Value}
use Rattle.star_store.specs.declared.values.Value.TheVariants as value
use Rattle.star_tree.specs.declared.tree.Arm.{Arm, out-Arm}
use Rattle.star_tree.specs.declared.tree.BinaryOperator.{BinaryOperator}
use Rattle.star_tree.specs.declared.tree.BinaryOperator.TheVariants as binary
use Rattle.star_tree.specs.declared.tree.Expression.{Expression}
use Rattle.star_tree.specs.declared.tree.LoadedName.{LoadedName}
use Rattle.star_tree.specs.declared.tree.Position.{Position}
use Rattle.star_tree.specs.declared.tree.Statement.{Statement}
use Rattle.star_tree.specs.declared.tree.Target.{Target}
use Rattle.star_tree.specs.declared.tree.Argument.TheOpen as tree
use Rattle.star_tree.specs.declared.tree.Form.TheOpen as form
use Rattle.star_scope.specs.declared.placement.StatementContext.{StatementContext}
use Rattle.star_scope.specs.Placement.{in_arms, in_statements, of_if, of_loop, only}
use Rattle.star_scope.proofs.Placements.{arms_next}
use Rattle.star_outline.specs.Syntax.{StatementForm, TargetForm, target}
use Rattle.star_meaning.specs.declared.merge.Merge.TheVariants as merge
use Rattle.star_meaning.specs.declared.fault.FaultCode.TheVariants as code
use Rattle.star_meaning.specs.declared.site.Flow.{Flow}
use Rattle.star_meaning.specs.declared.site.Flow.TheVariants as flow
use Rattle.star_meaning.specs.declared.site.Site.{Site}
use Rattle.star_meaning.specs.Program.{Setting, Variables, file_of}
use Rattle.star_meaning.specs.Run.{Action}
use Rattle.star_meaning.specs.Semantics.{Semantics, block}
use Rattle.star_meaning.specs.Statements.{arms, augment, augment_content, augmented, load_name, loop, loop_turn, module_of, returned, statement}
use Rattle.star_meaning.specs.Values.{Content, Held, guard}
use Rattle.star_unseen.specs.Veil.{IsVisible}
use Rattle.star_unseen.specs.Shelves.{IsShared, Veil, with_other}
use Rattle.star_unseen.proofs.Alike.{Alike, Any, FlowIsVisible, alike_all_of, alike_block, alike_content, alike_fail, alike_finds, alike_give, alike_if, alike_leave, alike_then, alike_turns}
use Rattle.star_unseen.proofs.Visible.{SiteIsVisible}
use Rattle.star_unseen.proofs.Expressions.{alike-new_function}
use Rattle.star_unseen.proofs.ListMethods.{alike-extend}
use Rattle.star_unseen.proofs.Looks.{ContentIsVisible}
use Rattle.star_unseen.proofs.Operators.{alike-operate}
use Rattle.star_unseen.proofs.Pairs.{alike-update_with}
use Rattle.star_unseen.proofs.Parts.{AllAlike, FormIsPlaced, IsPlaced, VariablesAlike, left_none, placed_inside, right_none}
use Rattle.star_unseen.proofs.Sets.{alike-augment_set}
use Rattle.star_unseen.proofs.Subscript.{alike-set_index}
use Rattle.star_unseen.proofs.Targets.{alike-to_target}
use Rattle.star_unseen.proofs.Values.{alike-is_true, alike-iterate, alike-take_item}
use Rattle.star_unseen.proofs.Writes.{alike-guard}

-- ---- augmented assignments

pub alike-augment_content : {w : Setting} (k : Veil w) (levels line : ℕ) (op : BinaryOperator) (x y : Value) (c : Content) → IsVisible k.hides x → IsVisible k.hides y → ContentIsVisible k.hides c
    → Alike k (IsVisible k.hides) (augment_content w levels line op x y c) (augment_content (with_other k.other w) levels line op x y c)
alike-augment_content k levels line binary.Add x y (Held (cell.List xs)) h i c = alike_then (alike-extend k line x y h i) (λ _ _. alike_give (IsVisible k.hides) x h)
alike-augment_content {w = w} k levels line binary.BitOr x y (Held (cell.Dict es)) h i c =
    alike_then (alike-update_with k levels line x (Some y) [] (guard w line x) (guard (with_other k.other w) line x) h i tt (alike-guard k line x h)) (λ _ _. alike_give (IsVisible k.hides) x h)
alike-augment_content k levels line binary.BitOr x y (Held (cell.Set es)) h i c = alike-augment_set k levels line merge.Union x y h i
alike-augment_content k levels line binary.BitAnd x y (Held (cell.Set es)) h i c = alike-augment_set k levels line merge.Intersection x y h i
alike-augment_content k levels line binary.Subtract x y (Held (cell.Set es)) h i c = alike-augment_set k levels line merge.Difference x y h i
alike-augment_content k levels line binary.BitXor x y (Held (cell.Set es)) h i c = alike-augment_set k levels line merge.SymmetricDifference x y h i
alike-augment_content k levels line op x y d h i c = alike-operate k levels line op x y h i

pub alike-augmented : {w : Setting} (k : Veil w) (levels line : ℕ) (op : BinaryOperator) (x y : Value) → IsVisible k.hides x → IsVisible k.hides y → Alike k (IsVisible k.hides) (augmented w levels line op x y) (augmented (with_other k.other w) levels line op x y)
alike-augmented k levels line op x y h i = alike_content (IsVisible k.hides) x _ _ h (λ c hc. alike-augment_content k levels line op x y c h i hc)

pub alike-augment : {w : Setting} (k : Veil w) (vs us : Variables) (levels : ℕ) (m n : Semantics) (p : Site) (op : BinaryOperator) (e : Expression) (t : TargetForm) → VariablesAlike k vs us → AllAlike k m n → SiteIsVisible k.hides p
    → Alike k Any (augment vs w levels m p op e t) (augment us (with_other k.other w) levels n p op e t)
alike-augment k vs us levels m n p op e (tree.Target-F.Target::Name x) a b c =
    alike_then (a.read p x c) (λ v hv.
    alike_then (b.expr p e c) (λ y hy.
    alike_then (alike-augmented k levels p.line op v y hv hy) (λ z hz.
    a.bind p x z c hz)))
alike-augment k vs us levels m n p op e (tree.Target-F.Target::Index f i) a b c =
    alike_then (b.parts p f i c) (λ r hr.
    alike_then (b.expr p e c) (λ y hy.
    alike_then (alike-augmented k levels p.line op r.old y hr.2 hy) (λ z hz.
    alike-set_index k levels p.line r.base r.index z hr.0 hr.1 hz)))
alike-augment k vs us levels m n p op e (tree.Target-F.Target::Tuple ts) a b c = alike_fail (Unit {0}) Any code.BadType p.line
alike-augment k vs us levels m n p op e (tree.Target-F.Target::List ts) a b c = alike_fail (Unit {0}) Any code.BadType p.line

-- ---- statements inside others

inside : {w : Setting} (k : Veil w) (m n : Semantics) (p : Site) (here : StatementContext) (ss : List Statement) → AllAlike k m n → SiteIsVisible k.hides p → here.in_file ≡ false → in_statements ss here ≡ []
    → Alike k (FlowIsVisible k.hides) (block (m.stmt p) ss) (block (n.stmt p) ss)
inside k m n p here ss b c out h = alike_block (IsPlaced k here) _ _ ss (placed_inside k here ss out h) (λ x hx. b.stmt p x here c hx)

pub alike-arms : {w : Setting} (k : Veil w) (m n : Semantics) (p : Site) (cases : List Arm) (otherwise other : Action Flow) (here : StatementContext) → AllAlike k m n → SiteIsVisible k.hides p → Alike k (FlowIsVisible k.hides) otherwise other → here.in_file ≡ false → in_arms cases here ≡ []
    → Alike k (FlowIsVisible k.hides) (arms w m p cases otherwise) (arms (with_other k.other w) n p cases other)
alike-arms k m n p [] otherwise other here b c r out h = r
alike-arms k m n p (x ∷ more) otherwise other here b c r out h =
    let e : in_statements (out-Arm x).body here ++ in_arms more here ≡ [] = sym (arms_next x more here) ∙ h in
    alike_then (alike_then (b.expr p (out-Arm x).condition c) (λ v hv. alike-is_true k v hv)) (λ t _.
    alike_if (FlowIsVisible k.hides) t _ _ _ _ (inside k m n p here (out-Arm x).body b c out (left_none (in_statements (out-Arm x).body here) (in_arms more here) e))
    (alike-arms k m n p more otherwise other here b c r out (right_none (in_statements (out-Arm x).body here) (in_arms more here) e)))

pub alike-loop_turn : {w : Setting} (k : Veil w) (vs us : Variables) (m n : Semantics) (p : Site) (t : Target) (body : List Statement) (v : Value) (i : ℕ) (here : StatementContext) → VariablesAlike k vs us → AllAlike k m n → SiteIsVisible k.hides p → IsVisible k.hides v → here.in_file ≡ false → in_statements body here ≡ []
    → Alike k (FlowIsVisible k.hides) (loop_turn vs w m p t body v i) (loop_turn us (with_other k.other w) n p t body v i)
alike-loop_turn k vs us m n p t body v i here a b c hv out h =
    alike_then (alike-take_item k p.line v i hv) (λ x hx.
    alike_then (alike-to_target k vs us m n p t x a b c hx) (λ _ _.
    inside k m n p here body b c out h))

pub alike-loop : {w : Setting} (k : Veil w) (vs us : Variables) (m n : Semantics) (p : Site) (t : Target) (body : List Statement) (v : Value) (here : StatementContext) → VariablesAlike k vs us → AllAlike k m n → SiteIsVisible k.hides p → IsVisible k.hides v → here.in_file ≡ false → in_statements body here ≡ []
    → Alike k (FlowIsVisible k.hides) (loop vs w m p t body v) (loop us (with_other k.other w) n p t body v)
alike-loop k vs us m n p t body v here a b c hv out h =
    alike_then (alike-iterate k p.line v hv) (λ count _.
    alike_then (alike_turns _ _ count 0 (λ i. alike-loop_turn k vs us m n p t body v i here a b c hv out h)) (λ f hf.
    alike_then (alike_leave v) (λ _ _.
    alike_give (FlowIsVisible k.hides) f hf)))

-- ---- loads and returns

pub alike-load_name : {w : Setting} (k : Veil w) (vs us : Variables) (p : Site) (at : Position) (x : LoadedName) → VariablesAlike k vs us → SiteIsVisible k.hides p → IsShared k (file_of w at.token) x.loaded.text
    → Alike k Any (load_name vs p (module_of w at) x) (load_name us p (module_of (with_other k.other w) at) x)
alike-load_name k vs us p at x a c h = alike_then (alike_finds (IsVisible k.hides) code.NoName p.line _ _ h.0 h.1) (λ v hv. a.bind p x.local v c hv)

pub alike-returned : {w : Setting} (k : Veil w) (m n : Semantics) (p : Site) (o : Option Expression) → AllAlike k m n → SiteIsVisible k.hides p → Alike k (FlowIsVisible k.hides) (returned m p o) (returned n p o)
alike-returned k m n p None b c = alike_give (FlowIsVisible k.hides) (flow.Return value.NoneValue) tt
alike-returned k m n p (Some e) b c = alike_then (b.expr p e c) (λ v h. alike_give (FlowIsVisible k.hides) (flow.Return v) h)

placed_by : (b : Bool) (at : Position) → only b at ≡ [] → b ≡ true
placed_by true at h = refl
placed_by false at h = absurd (let no : ⊥ = cc in no)

-- ---- all forms

pub alike-statement : {w : Setting} (k : Veil w) (vs us : Variables) (levels : ℕ) (m n : Semantics) (p : Site) (at : Position) (x : StatementForm) (here : StatementContext) → VariablesAlike k vs us → AllAlike k m n → SiteIsVisible k.hides p → FormIsPlaced k here at x
    → Alike k (FlowIsVisible k.hides) (statement vs w levels m p at x) (statement us (with_other k.other w) levels n p at x)
alike-statement k vs us levels m n p at (form.Expression e) here a b c h = alike_then (b.expr p e c) (λ _ _. alike_give (FlowIsVisible k.hides) flow.Next tt)
alike-statement k vs us levels m n p at (form.Assign t e) here a b c h =
    alike_then (b.expr p e c) (λ v hv. alike_then (alike-to_target k vs us m n p t v a b c hv) (λ _ _. alike_give (FlowIsVisible k.hides) flow.Next tt))
alike-statement k vs us levels m n p at (form.Augment t op e) here a b c h = alike_then (alike-augment k vs us levels m n p op e (target t) a b c) (λ _ _. alike_give (FlowIsVisible k.hides) flow.Next tt)
alike-statement k vs us levels m n p at form.Pass here a b c h = alike_give (FlowIsVisible k.hides) flow.Next tt
alike-statement k vs us levels m n p at form.Break here a b c h = alike_give (FlowIsVisible k.hides) flow.Break tt
alike-statement k vs us levels m n p at form.Continue here a b c h = alike_give (FlowIsVisible k.hides) flow.Continue tt
alike-statement k vs us levels m n p at (form.Return e) here a b c h = alike-returned k m n p e b c
alike-statement {w = w} k vs us levels m n p at (form.Load l names) here a b c h =
    alike_then (alike_all_of (λ y. IsShared k (file_of w at.token) y.loaded.text) _ _ names (h.1 (placed_by here.in_file at h.0)) (λ y hy. alike-load_name k vs us p at y a c hy)) (λ _ _.
    alike_give (FlowIsVisible k.hides) flow.Next tt)
alike-statement k vs us levels m n p at (form.If cases otherwise) here a b c h =
    alike-arms k m n p cases (block (m.stmt p) otherwise) (block (n.stmt p) otherwise) (of_if here) b c
    (inside k m n p (of_if here) otherwise b c refl (right_none (in_arms cases (of_if here)) (in_statements otherwise (of_if here)) h.0))
    refl (left_none (in_arms cases (of_if here)) (in_statements otherwise (of_if here)) h.0)
alike-statement k vs us levels m n p at (form.For t e body) here a b c h = alike_then (b.expr p e c) (λ v hv. alike-loop k vs us m n p t body v (of_loop here) a b c hv refl h.0)
alike-statement k vs us levels m n p at (form.Def x ps body) here a b c h =
    alike_then (alike-new_function k m n p at.token x.text ps b c) (λ v hv. alike_then (a.bind p x v c hv) (λ _ _. alike_give (FlowIsVisible k.hides) flow.Next tt))
