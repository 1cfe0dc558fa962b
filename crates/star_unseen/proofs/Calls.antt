-- Calls over both shelves: the callee, and the run of a function, whose body loads nothing.
use Rattle.std.proofs.Common.{◌≡◌, ℕ, ◌+◌, not, List, Some, refl, ap, Bool, true, false, None, Option, map}
use Rattle.std.specs.Option.{option_and_then}
use Rattle.star_store.specs.declared.values.Cell.TheVariants as cell
use Rattle.star_store.specs.declared.values.Function.{Function}
use Rattle.star_store.specs.declared.values.Value.{Value}
use Rattle.star_tree.specs.declared.tree.Argument.{Argument}
use Rattle.star_tree.specs.declared.tree.Expression.{Expression}
use Rattle.star_tree.specs.declared.tree.Name.{Name}
use Rattle.star_tree.specs.declared.tree.Argument.TheOpen as tree
use Rattle.star_scope.specs.Placement.{of_function}
use Rattle.star_outline.specs.Definitions.{Answer, Body, Definition, Statements, definition_in}
use Rattle.star_outline.specs.Syntax.{ArgumentForm, argument}
use Rattle.star_meaning.specs.declared.fault.FaultCode.TheVariants as code
use Rattle.star_meaning.specs.declared.given.Arguments.{Arguments}
use Rattle.star_meaning.specs.declared.site.Flow.{Flow}
use Rattle.star_meaning.specs.declared.site.Flow.TheVariants as flow
use Rattle.star_meaning.specs.declared.site.Site.{Site}
use Rattle.star_meaning.specs.Arguments.{Named, Plain, Star, StarStar}
use Rattle.star_meaning.specs.Binding.{BoundArgument, bound_to}
use Rattle.star_meaning.specs.Calls.{ABuiltIn, AFunction, AMethod, Callee, answer_of, best_by_key, call_node, called, called_built_in, called_by_key, called_plainly, callee, callee_of, key_of, keyed, only, sorted_by_key, takes_key, with_keys, function_callee, is_active, pass, pass_form, run, run_body}
use Rattle.star_meaning.specs.Program.{Setting, Variables, definition_of}
use Rattle.star_meaning.specs.Semantics.{Semantics}
use Rattle.star_meaning.specs.Values.{BuiltInFunction, Content, Held}
use Rattle.star_unseen.specs.Veil.{AreVisible, Every, FileIsVisible, Hides, IsVisible, VisibleIfThere}
use Rattle.star_unseen.specs.Shelves.{BodyIsPlaced, Veil, with_other}
use Rattle.star_unseen.proofs.Alike.{Alike, Any, FlowIsVisible, alike_activate, alike_all_of, alike_block, alike_check, alike_content, alike_deactivate, alike_each, alike_fail, alike_finds, alike_found, alike_give, alike_pay, alike_seeing, alike_then}
use Rattle.star_unseen.proofs.Arguments.{alike-given}
use Rattle.star_unseen.proofs.Binding.{alike-build_arguments, visible-bound_to}
use Rattle.star_unseen.proofs.BuiltIns.{alike-call_built_in}
use Rattle.star_unseen.proofs.Orders.{PairIsVisible, alike-asked_for_best, alike-asked_to_sort, alike-best_by, alike-sort_by, visible-by_itself}
use Rattle.std.specs.Ordering.{is_gt, is_lt}
use Rattle.std.specs.declared.cmp.Ordering.{Ordering}
use Rattle.star_store.specs.declared.names.BuiltIn.{BuiltIn}
use Rattle.star_store.specs.declared.names.BuiltIn.TheVariants as built_in
use Rattle.star_store.specs.Names.{is_function}
use Rattle.star_meaning.specs.Orders.{by_itself}
use Rattle.star_unseen.proofs.Visible.{ArgumentIsVisible, ArgumentsAreVisible, CalleeIsVisible, FunctionIsVisible, ShareIsVisible, SiteIsVisible}
use Rattle.star_unseen.proofs.Looks.{ContentIsVisible}
use Rattle.star_unseen.proofs.Methods.{alike-call_method}
use Rattle.star_unseen.proofs.Parts.{AllAlike, IsPlaced, VariablesAlike, alike_every, placed_inside}
use Rattle.star_unseen.proofs.Variables.{if_there}

pub alike-pass_form : {w : Setting} (k : Veil w) (m n : Semantics) (p : Site) (x : ArgumentForm) → AllAlike k m n → SiteIsVisible k.hides p → Alike k (ArgumentIsVisible k.hides) (pass_form m p x) (pass_form n p x)
alike-pass_form k m n p (tree.Positional e) b c = alike_then (b.expr p e c) (λ v h. alike_give (ArgumentIsVisible k.hides) (Plain v) h)
alike-pass_form k m n p (tree.Named x e) b c = alike_then (b.expr p e c) (λ v h. alike_give (ArgumentIsVisible k.hides) (Named x.text v) h)
alike-pass_form k m n p (tree.Argument-F.Argument::Star e) b c = alike_then (b.expr p e c) (λ v h. alike_give (ArgumentIsVisible k.hides) (Star v) h)
alike-pass_form k m n p (tree.Argument-F.Argument::StarStar e) b c = alike_then (b.expr p e c) (λ v h. alike_give (ArgumentIsVisible k.hides) (StarStar v) h)

pub alike-pass : {w : Setting} (k : Veil w) (m n : Semantics) (p : Site) (x : Argument) → AllAlike k m n → SiteIsVisible k.hides p → Alike k (ArgumentIsVisible k.hides) (pass m p x) (pass n p x)
alike-pass k m n p x b c = alike-pass_form k m n p (argument x) b c

-- ---- the callee

-- a definition of a file that is not hidden; where it is found, it loads nothing
pub same-definition_of : {w : Setting} (k : Veil w) (file number : ℕ) → FileIsVisible k.hides file → definition_of w file number ≡ definition_of (with_other k.other w) file number
same-definition_of k file number h = ap (λ o. option_and_then (λ x. definition_in x.definitions number) o) (k.outline file h)

pub alike-function_callee : {w : Setting} (k : Veil w) (line : ℕ) (f : Function) → FunctionIsVisible k.hides f → Alike k (CalleeIsVisible k.hides) (function_callee w line f) (function_callee (with_other k.other w) line f)
alike-function_callee {w = w} k line f h =
    alike_then (alike_seeing Any _ _ (λ s _. alike_check code.Recursion line (not (is_active s f)))) (λ _ _.
    alike_then (alike_finds (λ d. BodyIsPlaced d.body) code.BadType line (definition_of w f.file f.definition) (definition_of (with_other k.other w) f.file f.definition) (same-definition_of k f.file f.definition h.2)
    (if_there (λ d. BodyIsPlaced d.body) (definition_of w f.file f.definition) (λ d is. k.bodies f.file f.definition d h.2 is))) (λ d hd.
    alike_give (CalleeIsVisible k.hides) (AFunction f d) (h, hd)))

pub alike-callee_of : {w : Setting} (k : Veil w) (line : ℕ) (c : Content) → ContentIsVisible k.hides c → Alike k (CalleeIsVisible k.hides) (callee_of w line c) (callee_of (with_other k.other w) line c)
alike-callee_of k line (Held (cell.Func f)) h = alike-function_callee k line f h
alike-callee_of k line (BuiltInFunction b) h = alike_then (alike_check code.BadType line (is_function b)) (λ _ _. alike_give (CalleeIsVisible k.hides) (ABuiltIn b) tt)
alike-callee_of k line (Held (cell.Bound m x)) h = alike_give (CalleeIsVisible k.hides) (AMethod m x) h
alike-callee_of k line _ h = alike_fail Callee (CalleeIsVisible k.hides) code.BadType line

pub alike-callee : {w : Setting} (k : Veil w) (line : ℕ) (v : Value) → IsVisible k.hides v → Alike k (CalleeIsVisible k.hides) (callee w line v) (callee (with_other k.other w) line v)
unfolding callee
alike-callee k line v h = alike_content (CalleeIsVisible k.hides) v _ _ h (λ c hc. alike-callee_of k line c hc)

-- ---- the call

alike-called_plainly : {w : Setting} (k : Veil w) (levels : ℕ) (m n : Semantics) (p : Site) (x : Callee) (g : Arguments) → AllAlike k m n → SiteIsVisible k.hides p → CalleeIsVisible k.hides x → ArgumentsAreVisible k.hides g
    → Alike k (IsVisible k.hides) (called_plainly w levels m p x g) (called_plainly (with_other k.other w) levels n p x g)
alike-called_plainly k levels m n p (AFunction f d) g b c h i =
    alike_then (alike_found (Every (ShareIsVisible k.hides)) code.Args p.line (bound_to d.parameters f.defaults g) (visible-bound_to k d.parameters f.defaults g h.0.0 i)) (λ shares hs.
    b.call p f d shares c h.0 h.1 hs)
alike-called_plainly k levels m n p (ABuiltIn x) g b c h i = alike-call_built_in k levels p.line x g i
alike-called_plainly k levels m n p (AMethod x v) g b c h i = alike-call_method k levels p.line x v g h i

visible-only : (hides : Hides) (x : Value) → IsVisible hides x → ArgumentsAreVisible hides (only x)
visible-only hides x h = ((h, tt), tt)

alike-key_of : {w : Setting} (k : Veil w) (levels : ℕ) (m n : Semantics) (p : Site) (f x : Value) → AllAlike k m n → SiteIsVisible k.hides p → IsVisible k.hides f → IsVisible k.hides x → Alike k (IsVisible k.hides) (key_of w levels m p f x) (key_of (with_other k.other w) levels n p f x)
alike-key_of k levels m n p f x b c hf hx = alike_then (alike-callee k p.line f hf) (λ y hy. alike-called_plainly k levels m n p y (only x) b c hy (visible-only k.hides x hx))

alike-keyed : {w : Setting} (k : Veil w) (levels : ℕ) (m n : Semantics) (p : Site) (f x : Value) → AllAlike k m n → SiteIsVisible k.hides p → IsVisible k.hides f → IsVisible k.hides x → Alike k (PairIsVisible k.hides) (keyed w levels m p f x) (keyed (with_other k.other w) levels n p f x)
alike-keyed k levels m n p f x b c hf hx = alike_then (alike-key_of k levels m n p f x b c hf hx) (λ y hy. alike_give (PairIsVisible k.hides) (y, x) (hy, hx))

alike-with_keys : {w : Setting} (k : Veil w) (levels : ℕ) (m n : Semantics) (p : Site) (o : Option Value) (xs : List Value) → AllAlike k m n → SiteIsVisible k.hides p → VisibleIfThere k.hides o → AreVisible k.hides xs → Alike k (Every (PairIsVisible k.hides)) (with_keys w levels m p o xs) (with_keys (with_other k.other w) levels n p o xs)
alike-with_keys k levels m n p None xs b c ho hs = alike_give (Every (PairIsVisible k.hides)) (map by_itself xs) (visible-by_itself k.hides xs hs)
alike-with_keys k levels m n p (Some f) xs b c ho hs = alike_each (IsVisible k.hides) (PairIsVisible k.hides) _ _ xs hs (λ x hx. alike-keyed k levels m n p f x b c ho hx)

alike-sorted_by_key : {w : Setting} (k : Veil w) (levels : ℕ) (m n : Semantics) (p : Site) (g : Arguments) → AllAlike k m n → SiteIsVisible k.hides p → ArgumentsAreVisible k.hides g → Alike k (IsVisible k.hides) (sorted_by_key w levels m p g) (sorted_by_key (with_other k.other w) levels n p g)
alike-sorted_by_key k levels m n p g b c h = alike_then (alike-asked_to_sort k p.line g h) (λ a ha. alike_then (alike-with_keys k levels m n p a.1 a.0 b c ha.1 ha.0) (λ ps hps. alike-sort_by k levels p.line a.2 ps hps))

alike-best_by_key : {w : Setting} (k : Veil w) (levels : ℕ) (m n : Semantics) (p : Site) (better : Ordering → Bool) (g : Arguments) → AllAlike k m n → SiteIsVisible k.hides p → ArgumentsAreVisible k.hides g → Alike k (IsVisible k.hides) (best_by_key w levels m p better g) (best_by_key (with_other k.other w) levels n p better g)
alike-best_by_key k levels m n p better g b c h = alike_then (alike-asked_for_best k p.line g h) (λ a ha. alike_then (alike-with_keys k levels m n p a.1 a.0 b c ha.1 ha.0) (λ ps hps. alike-best_by k levels p.line better ps hps))

alike-called_by_key : {w : Setting} (k : Veil w) (levels : ℕ) (m n : Semantics) (p : Site) (x : BuiltIn) (g : Arguments) → AllAlike k m n → SiteIsVisible k.hides p → ArgumentsAreVisible k.hides g → Alike k (IsVisible k.hides) (called_by_key w levels m p x g) (called_by_key (with_other k.other w) levels n p x g)
alike-called_by_key k levels m n p built_in.Sorted g b c h = alike-sorted_by_key k levels m n p g b c h
alike-called_by_key k levels m n p built_in.Max g b c h = alike-best_by_key k levels m n p is_gt g b c h
alike-called_by_key k levels m n p built_in.Min g b c h = alike-best_by_key k levels m n p is_lt g b c h
alike-called_by_key k levels m n p x g b c h = alike-call_built_in k levels p.line x g h

alike-called_built_in : {w : Setting} (k : Veil w) (levels : ℕ) (m n : Semantics) (p : Site) (x : BuiltIn) (g : Arguments) (d : Bool) → AllAlike k m n → SiteIsVisible k.hides p → ArgumentsAreVisible k.hides g → Alike k (IsVisible k.hides) (called_built_in w levels m p x g d) (called_built_in (with_other k.other w) levels n p x g d)
alike-called_built_in k levels m n p x g true b c h = alike-called_by_key k levels m n p x g b c h
alike-called_built_in k levels m n p x g false b c h = alike-call_built_in k levels p.line x g h

pub alike-called : {w : Setting} (k : Veil w) (levels : ℕ) (m n : Semantics) (p : Site) (x : Callee) (g : Arguments) → AllAlike k m n → SiteIsVisible k.hides p → CalleeIsVisible k.hides x → ArgumentsAreVisible k.hides g
    → Alike k (IsVisible k.hides) (called w levels m p x g) (called (with_other k.other w) levels n p x g)
alike-called k levels m n p (AFunction f d) g b c h i = alike-called_plainly k levels m n p (AFunction f d) g b c h i
alike-called {w = w} k levels m n p (ABuiltIn x) g b c h i = alike-called_built_in k levels m n p x g (takes_key w.language.dialect g) b c i
alike-called k levels m n p (AMethod x v) g b c h i = alike-called_plainly k levels m n p (AMethod x v) g b c h i

pub alike-call_node : {w : Setting} (k : Veil w) (levels : ℕ) (m n : Semantics) (p : Site) (f : Expression) (es : List Argument) → AllAlike k m n → SiteIsVisible k.hides p
    → Alike k (IsVisible k.hides) (call_node w levels m p f es) (call_node (with_other k.other w) levels n p f es)
alike-call_node k levels m n p f es b c =
    alike_then (b.expr p f c) (λ v hv.
    alike_then (alike_every (ArgumentIsVisible k.hides) (pass m p) (pass n p) es (λ x. alike-pass k m n p x b c)) (λ ps hps.
    alike_then (alike-callee k p.line v hv) (λ x hx.
    alike_then (alike-given k p.line ps hps) (λ g hg.
    alike-called k levels m n p x g b c hx hg))))

-- ---- the run of a function

pub visible-answer_of : {w : Setting} (k : Veil w) (f : Flow) → FlowIsVisible k.hides f → IsVisible k.hides (answer_of f)
visible-answer_of k (flow.Return v) h = h
visible-answer_of k flow.Next h = tt
visible-answer_of k flow.Break h = tt
visible-answer_of k flow.Continue h = tt

pub alike-run_body : {w : Setting} (k : Veil w) (m n : Semantics) (p : Site) (body : Body) → AllAlike k m n → SiteIsVisible k.hides p → BodyIsPlaced body → Alike k (IsVisible k.hides) (run_body m p body) (run_body n p body)
alike-run_body k m n p (Statements ss) b c h =
    alike_then (alike_block (IsPlaced k of_function) _ _ ss (placed_inside k of_function ss refl h) (λ x hx. b.stmt p x of_function c hx)) (λ f hf.
    alike_give (IsVisible k.hides) (answer_of f) (visible-answer_of k f hf))
alike-run_body k m n p (Answer e) b c h = b.expr p e c

pub alike-run : {w : Setting} (k : Veil w) (vs us : Variables) (m n : Semantics) (p : Site) (f : Function) (d : Definition) (shares : List (Name × BoundArgument)) → VariablesAlike k vs us → AllAlike k m n → SiteIsVisible k.hides p → FunctionIsVisible k.hides f → BodyIsPlaced d.body → Every (ShareIsVisible k.hides) shares
    → Alike k (IsVisible k.hides) (run vs m p f d shares) (run us n p f d shares)
alike-run k vs us m n p f d shares a b c hf hd hs =
    alike_then (alike-build_arguments k p.line shares hs) (λ values hvs.
    alike_then (alike_pay p.line 1) (λ _ _.
    alike_then (a.frame f.file (1 + f.definition) (Some f.frame) hf.2 hf.1) (λ frame hframe.
    let q : Site = record { file = f.file; frame = frame; line = p.line } in
    let hq : SiteIsVisible k.hides q = (hframe, hf.2) in
    alike_then (alike_all_of (λ x. IsVisible k.hides x.1) (λ x. vs.bind q x.0 x.1) (λ x. us.bind q x.0 x.1) values hvs (λ x hx. a.bind q x.0 x.1 hq hx)) (λ _ _.
    alike_then (alike_activate f) (λ _ _.
    alike_then (alike-run_body k m n q d.body b hq hd) (λ v hv.
    alike_then alike_deactivate (λ _ _.
    alike_give (IsVisible k.hides) v hv)))))))
