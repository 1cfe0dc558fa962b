-- A function that is called has the definition of its number.
use Rattle.std.proofs.Common.{◌≡◌, Option, Result, Ok, Err, ap, sym, ◌∙◌}
use Rattle.std.specs.Prelude.{IfOk}
use Rattle.star_store.specs.declared.values.Function.{Function}
use Rattle.star_outline.specs.Definitions.{Definition}
use Rattle.star_machine.specs.declared.fault.EvalError.{EvalError}
use Rattle.star_meaning.specs.Program.{Setting, definition_of as in_setting}
use Rattle.star_call.specs.declared.callee.Callee.{Callee as HeldCallee}
use Rattle.star_call.specs.declared.callee.Callee.TheVariants as held
use Rattle.star_call.specs.Callees.{HasDefinition, IsFound}

pub is_found : (w : Setting) (f : Function) (d : Option Definition) (r : Result HeldCallee EvalError) → d ≡ in_setting w f.file f.definition → IfOk r (HasDefinition f d) → IfOk r (IsFound w)
is_found w f d (Ok (held.AFunction c)) e h = ap (λ file. in_setting w file c.number) h.0 ∙ ap (λ number. in_setting w f.file number) h.1 ∙ sym e ∙ h.2
is_found w f d (Ok (held.ABuiltIn b)) e h = tt
is_found w f d (Ok (held.AMethod m v)) e h = tt
is_found w f d (Err e) k h = tt
