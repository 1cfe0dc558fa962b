-- The method `format`: how reading its string goes on after a brace.
use denote.Ref.{Bor}
use Rattle.std.specs.Prelude.{◌≡◌, ℕ, List, Result, Ok, Err}
use Rattle.star_meaning.specs.Run.{State, Action, Outcome}
use Rattle.star_meaning.specs.Format.{Outside, Reading, formatted}
use Rattle.star_machine.specs.declared.fault.EvalError.{EvalError}
use Rattle.star_machine.specs.Refines.{Ends}
use Rattle.star_attribute.specs.declared.fields.Numbering.{Numbering}
use Rattle.star_machine.specs.declared.call.Call.{Call}
use Rattle.star_attribute.specs.Fields.{as_numbering}

-- the text that a call makes of the bytes of its format, from a position on, and of the text so far
abbrev pub formatting : Call → List ℕ → Reading → Numbering → List ℕ → Action (List ℕ)
formatting c t r k out = formatted c.setting.now c.levels c.line c.given.now t r (as_numbering k) out

-- The text is the one that reading on makes, outside of braces; or the fault is the one of its definition.
abbrev pub ReadsOn : Call → Outcome (List ℕ) → Result (Bor (List ℕ) × Numbering) EvalError → List ℕ → State → Type 0
ReadsOn c read (Ok r) made new = read ≡ formatting c r.0.now Outside r.1 made new
ReadsOn c read (Err e) made new = Ends read e new
