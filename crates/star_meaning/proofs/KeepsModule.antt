-- The invariants of every run: the end of a file.
use Rattle.star_store.specs.declared.values.Value.{Value}
use Rattle.star_meaning.specs.Program.{Setting}
use Rattle.std.proofs.Common.{ℕ, List, Bool}
use Rattle.star_meaning.specs.Module.{global_text}
use Rattle.star_meaning.proofs.Keeps.{keeps, Keeps, kept_by}
use Rattle.star_meaning.proofs.KeepsValues.{respects-repr}

pub keeps-global_text : {q : Bool} → (w : Setting) (levels : ℕ) (line : ℕ) (g : List ℕ × Value) → Keeps q (global_text w levels line g)
keeps-global_text w levels line g = search (keeps, kept_by w, respects-repr) depth 14
