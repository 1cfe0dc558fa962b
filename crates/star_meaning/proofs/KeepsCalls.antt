-- The invariants of every run: calls.
use Rattle.star_store.specs.declared.values.Function.{Function}
use Rattle.star_tree.specs.declared.tree.Argument.{Argument}
use Rattle.star_tree.specs.declared.tree.Expression.{Expression}
use Rattle.star_tree.specs.declared.tree.Name.{Name}
use Rattle.star_tree.specs.declared.tree.Argument.TheOpen as tree
use Rattle.star_meaning.specs.declared.site.Site.{Site}
use Rattle.star_outline.specs.Syntax.{ArgumentForm}
use Rattle.star_outline.specs.Definitions.{Definition, Body, Statements, Answer}
use Rattle.star_meaning.specs.Program.{Setting, Variables}
use Rattle.star_meaning.specs.declared.given.Arguments.{Arguments}
use Rattle.star_meaning.specs.Binding.{BoundArgument}
use Rattle.star_meaning.specs.Semantics.{Semantics}
use Rattle.std.proofs.Common.{ℕ, List, false, Bool, true, Option, Some, None}
use Rattle.star_store.specs.declared.names.BuiltIn.{BuiltIn}
use Rattle.star_store.specs.declared.names.BuiltIn.TheVariants as built_in
use Rattle.star_store.specs.declared.values.Value.{Value}
use Rattle.std.specs.Ordering.{is_gt, is_lt}
use Rattle.std.specs.declared.cmp.Ordering.{Ordering}
use Rattle.star_meaning.specs.Calls.{pass_form, pass, best_by_key, called, called_built_in, called_by_key, called_plainly, key_of, keyed, sorted_by_key, takes_key, with_keys, call_node, run_body, run, Callee, AFunction, ABuiltIn, AMethod}
use Rattle.star_meaning.proofs.Keeps.{keeps, Keeps, AllKeep, VariablesKeep, kept_by}
use Rattle.star_meaning.proofs.KeepsArguments.{keeps-given}
use Rattle.star_meaning.proofs.KeepsBuiltIns.{keeps-call_built_in}
use Rattle.star_meaning.proofs.KeepsMethods.{respects-call_method}
use Rattle.star_meaning.proofs.KeepsBinding.{keeps-build_arguments}
use Rattle.star_meaning.proofs.KeepsCallee.{respects-callee}
use Rattle.star_meaning.proofs.KeepsOrders.{respects-asked_for_best, respects-asked_to_sort, respects-best_by, respects-sort_by}

pub keeps-pass_form : (m : Semantics) (p : Site) (a2 : ArgumentForm) → AllKeep m → Keeps false (pass_form m p a2)
keeps-pass_form m p (tree.Positional e) k0 = search keeps depth 14
keeps-pass_form m p (tree.Named n e) k0 = search keeps depth 14
keeps-pass_form m p (tree.Argument-F.Argument::Star e) k0 = search keeps depth 14
keeps-pass_form m p (tree.Argument-F.Argument::StarStar e) k0 = search keeps depth 14

pub keeps-pass : (m : Semantics) (p : Site) (a : Argument) → AllKeep m → Keeps false (pass m p a)
keeps-pass m p a k0 = search (keeps, keeps-pass_form) depth 14

pub keeps-called_plainly : (w : Setting) (levels : ℕ) (m : Semantics) (p : Site) (a4 : Callee) (g : Arguments) → AllKeep m → Keeps false (called_plainly w levels m p a4 g)
keeps-called_plainly w levels m p (AFunction f d) g k0 = search keeps depth 14
keeps-called_plainly w levels m p (ABuiltIn b) g k0 = search (keeps, keeps-call_built_in) depth 14
keeps-called_plainly w levels m p (AMethod b x) g k0 = search (keeps, kept_by w, respects-call_method) depth 14

pub keeps-key_of : (w : Setting) (levels : ℕ) (m : Semantics) (p : Site) (f x : Value) → AllKeep m → Keeps false (key_of w levels m p f x)
keeps-key_of w levels m p f x k0 = search (keeps, kept_by w, respects-callee, keeps-called_plainly) depth 14

pub keeps-keyed : (w : Setting) (levels : ℕ) (m : Semantics) (p : Site) (f x : Value) → AllKeep m → Keeps false (keyed w levels m p f x)
keeps-keyed w levels m p f x k0 = search (keeps, keeps-key_of) depth 14

pub keeps-with_keys : (w : Setting) (levels : ℕ) (m : Semantics) (p : Site) (a4 : Option Value) (xs : List Value) → AllKeep m → Keeps false (with_keys w levels m p a4 xs)
keeps-with_keys w levels m p None xs k0 = search keeps depth 14
keeps-with_keys w levels m p (Some f) xs k0 = search (keeps, keeps-keyed) depth 14

pub keeps-sorted_by_key : (w : Setting) (levels : ℕ) (m : Semantics) (p : Site) (g : Arguments) → AllKeep m → Keeps false (sorted_by_key w levels m p g)
keeps-sorted_by_key w levels m p g k0 = search (keeps, kept_by w, respects-asked_to_sort, respects-sort_by, keeps-with_keys) depth 14

pub keeps-best_by_key : (w : Setting) (levels : ℕ) (m : Semantics) (p : Site) (better : Ordering → Bool) (g : Arguments) → AllKeep m → Keeps false (best_by_key w levels m p better g)
keeps-best_by_key w levels m p better g k0 = search (keeps, kept_by w, respects-asked_for_best, respects-best_by, keeps-with_keys) depth 14

pub keeps-called_by_key : (w : Setting) (levels : ℕ) (m : Semantics) (p : Site) (b : BuiltIn) (g : Arguments) → AllKeep m → Keeps false (called_by_key w levels m p b g)
keeps-called_by_key w levels m p built_in.Sorted g k0 = keeps-sorted_by_key w levels m p g k0
keeps-called_by_key w levels m p built_in.Max g k0 = keeps-best_by_key w levels m p is_gt g k0
keeps-called_by_key w levels m p built_in.Min g k0 = keeps-best_by_key w levels m p is_lt g k0
keeps-called_by_key w levels m p b g k0 = keeps-call_built_in w levels p.line b g

pub keeps-called_built_in : (w : Setting) (levels : ℕ) (m : Semantics) (p : Site) (b : BuiltIn) (g : Arguments) (c : Bool) → AllKeep m → Keeps false (called_built_in w levels m p b g c)
keeps-called_built_in w levels m p b g true k0 = keeps-called_by_key w levels m p b g k0
keeps-called_built_in w levels m p b g false k0 = keeps-call_built_in w levels p.line b g

pub keeps-called : (w : Setting) (levels : ℕ) (m : Semantics) (p : Site) (a4 : Callee) (g : Arguments) → AllKeep m → Keeps false (called w levels m p a4 g)
keeps-called w levels m p (AFunction f d) g k0 = keeps-called_plainly w levels m p (AFunction f d) g k0
keeps-called w levels m p (ABuiltIn b) g k0 = keeps-called_built_in w levels m p b g (takes_key w.language.dialect g) k0
keeps-called w levels m p (AMethod b x) g k0 = keeps-called_plainly w levels m p (AMethod b x) g k0

pub keeps-call_node : (w : Setting) (levels : ℕ) (m : Semantics) (p : Site) (f : Expression) (es : List Argument) → AllKeep m → Keeps false (call_node w levels m p f es)
keeps-call_node w levels m p f es k0 = search (keeps, kept_by w, keeps-given, keeps-pass, respects-callee, keeps-called) depth 14

pub keeps-run_body : (m : Semantics) (p : Site) (a2 : Body) → AllKeep m → Keeps false (run_body m p a2)
keeps-run_body m p (Statements body) k0 = search keeps depth 14
keeps-run_body m p (Answer e) k0 = search keeps depth 14

pub keeps-run : (vs : Variables) (m : Semantics) (p : Site) (f : Function) (d : Definition) (shares : List (Name × BoundArgument)) → VariablesKeep vs → AllKeep m → Keeps false (run vs m p f d shares)
keeps-run vs m p f d shares k0 k1 = search (keeps, keeps-build_arguments, keeps-run_body) depth 14
