-- The meaning at a number of levels, by the number below it.
use Rattle.std.proofs.Common.{◌≡◌, ℕ, zero, suc, ◌-◌, ◌<◌, List, refl, ap, arith}
use Rattle.star_store.specs.declared.values.Value.{Value}
use Rattle.star_store.specs.declared.values.Function.{Function}
use Rattle.star_tree.specs.declared.tree.Expression.{Expression}
use Rattle.star_tree.specs.declared.tree.Statement.{Statement}
use Rattle.star_tree.specs.declared.tree.Target.{Target}
use Rattle.star_tree.specs.declared.tree.Name.{Name}
use Rattle.star_meaning.specs.declared.fault.FaultCode.TheVariants.{Deep}
use Rattle.star_meaning.specs.declared.site.Site.{Site}
use Rattle.star_outline.specs.Syntax.{expression, target, position_of, form_of}
use Rattle.star_meaning.specs.Run.{State, and_then, fail, pay}
use Rattle.star_outline.specs.Definitions.{Definition}
use Rattle.star_meaning.specs.Program.{Setting, Variables}
use Rattle.star_meaning.specs.Binding.{BoundArgument}
use Rattle.star_meaning.specs.Targets.{target_node, parts_node}
use Rattle.star_meaning.specs.Expressions.{node}
use Rattle.star_meaning.specs.Statements.{statement}
use Rattle.star_meaning.specs.Calls.{run}
use Rattle.star_meaning.specs.Module.{meaning, one_more, at_line}

pub meaning_at : (vs : Variables) (w : Setting) (n : ℕ) → 0 < n → meaning vs w n ≡ one_more vs w (n - 1) (meaning vs w (n - 1))
unfolding meaning
meaning_at vs w zero h = absurd (omega arith)
meaning_at vs w (suc n) h = ap (λ k. one_more vs w k (meaning vs w k)) (let e : n ≡ suc n - 1 = omega arith in e)

pub expr_at : (vs : Variables) (w : Setting) (n : ℕ) (p : Site) (e : Expression) (s : State) → 0 < n → (meaning vs w n).expr p e s ≡ and_then (pay p.line 1 s) (λ _. node vs w (n - 1) (meaning vs w (n - 1)) p (expression e))
expr_at vs w n p e s h = ap (λ m. m.expr p e s) (meaning_at vs w n h)

pub expr_at_none : (vs : Variables) (w : Setting) (p : Site) (e : Expression) → (meaning vs w 0).expr p e ≡ fail Deep p.line
unfolding meaning
expr_at_none vs w p e = refl

pub stmt_at : (vs : Variables) (w : Setting) (n : ℕ) (p : Site) (x : Statement) (s : State) → 0 < n → (meaning vs w n).stmt p x s ≡ and_then (pay (at_line w p x).line 1 s) (λ _. statement vs w (n - 1) (meaning vs w (n - 1)) (at_line w p x) (position_of x) (form_of x))
stmt_at vs w n p x s h = ap (λ m. m.stmt p x s) (meaning_at vs w n h)

pub stmt_at_none : (vs : Variables) (w : Setting) (p : Site) (x : Statement) → (meaning vs w 0).stmt p x ≡ fail Deep (at_line w p x).line
unfolding meaning
stmt_at_none vs w p x = refl

pub assign_at : (vs : Variables) (w : Setting) (n : ℕ) (p : Site) (t : Target) (v : Value) (s : State) → 0 < n → (meaning vs w n).assign p t v s ≡ and_then (pay p.line 1 s) (λ _. target_node vs w (n - 1) (meaning vs w (n - 1)) p (target t) v)
assign_at vs w n p t v s h = ap (λ m. m.assign p t v s) (meaning_at vs w n h)

pub assign_at_none : (vs : Variables) (w : Setting) (p : Site) (t : Target) (v : Value) → (meaning vs w 0).assign p t v ≡ fail Deep p.line
unfolding meaning
assign_at_none vs w p t v = refl

pub parts_at : (vs : Variables) (w : Setting) (n : ℕ) (p : Site) (e i : Expression) (s : State) → 0 < n → (meaning vs w n).parts p e i s ≡ and_then (pay p.line 1 s) (λ _. parts_node w (n - 1) (meaning vs w (n - 1)) p e i)
parts_at vs w n p e i s h = ap (λ m. m.parts p e i s) (meaning_at vs w n h)

pub parts_at_none : (vs : Variables) (w : Setting) (p : Site) (e i : Expression) → (meaning vs w 0).parts p e i ≡ fail Deep p.line
unfolding meaning
parts_at_none vs w p e i = refl

pub call_at : (vs : Variables) (w : Setting) (n : ℕ) (p : Site) (f : Function) (d : Definition) (shares : List (Name × BoundArgument)) (s : State) → 0 < n → (meaning vs w n).call p f d shares s ≡ run vs (meaning vs w (n - 1)) p f d shares s
call_at vs w n p f d shares s h = ap (λ m. m.call p f d shares s) (meaning_at vs w n h)

pub call_at_none : (vs : Variables) (w : Setting) (p : Site) (f : Function) (d : Definition) (shares : List (Name × BoundArgument)) → (meaning vs w 0).call p f d shares ≡ fail Deep p.line
unfolding meaning
call_at_none vs w p f d shares = refl
