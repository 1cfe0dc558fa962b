-- A value leads to the same cell in states with one store.
use Rattle.std.proofs.Common.{◌≡◌, ap, refl}
use Rattle.star_store.specs.declared.values.Value.{Value}
use Rattle.star_store.specs.declared.values.Value.TheVariants as value
use Rattle.star_meaning.specs.Program.{Setting}
use Rattle.star_meaning.specs.Run.{State}
use Rattle.star_meaning.specs.Values.{content, held}
use Rattle.star_store.specs.Store.{look}
use Rattle.star_call.specs.declared.callee.Callee.{Callee as HeldCallee}
use Rattle.star_call.specs.declared.callee.Callee.TheVariants as callable
use Rattle.star_call.specs.Callees.{shown, function_of}
use Rattle.star_meaning.specs.Calls.{AFunction}
use Rattle.star_outline.specs.Definitions.{definition_of}

pub content_kept : (w : Setting) (s t : State) (v : Value) → t.store ≡ s.store → content w t v ≡ content w s v
content_kept w s t value.NoneValue h = refl
content_kept w s t (value.Bool b) h = refl
content_kept w s t (value.Int n) h = refl
content_kept w s t (value.Builtin b) h = refl
content_kept w s t (value.Ref home at) h = ap (λ x. held (look x w.shelf (value.Ref home at))) h

pub callee_kept : (w : Setting) (s t : State) (c : HeldCallee) → t.store ≡ s.store → shown (content w t) c ≡ shown (content w s) c
callee_kept w s t (callable.AFunction f) h = ap (λ x. AFunction (function_of x f) (definition_of f.definition)) (content_kept w s t f.value h)
callee_kept w s t (callable.ABuiltIn b) h = refl
callee_kept w s t (callable.AMethod m v) h = refl
