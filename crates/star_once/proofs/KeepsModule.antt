-- Keys differ after every run: the end of a file.
use Rattle.star_store.specs.declared.values.Value.{Value}
use Rattle.star_meaning.specs.Program.{Setting}
use Rattle.std.proofs.Common.{ℕ, List}
use Rattle.star_meaning.specs.Module.{global_text}
use Rattle.star_once.proofs.Keeps.{keeps, Keeps, once_by}
use Rattle.star_meaning.proofs.KeepsValues.{respects-repr}

pub keeps-global_text : (w : Setting) (levels : ℕ) (line : ℕ) (g : List ℕ × Value) → Keeps w (global_text w levels line g)
keeps-global_text w levels line g = search (keeps, once_by, respects-repr) depth 14
