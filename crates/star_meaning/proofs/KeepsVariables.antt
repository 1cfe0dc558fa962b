-- The invariants of every run: variables.
use Rattle.star_store.specs.declared.values.Value.{Value}
use Rattle.star_dialect.specs.declared.Language.{Language}
use Rattle.star_tree.specs.declared.tree.Name.{Name}
use Rattle.star_meaning.specs.declared.site.Site.{Site}
use Rattle.star_meaning.specs.Program.{Setting}
use Rattle.std.proofs.Common.{ℕ, List, Option, Some, None, Bool}
use Rattle.star_meaning.specs.Variables.{outside_prelude, outside, read_found, read_name, bind_at, bind_name, new_frame}
use Rattle.star_meaning.proofs.Keeps.{keeps, Keeps}

pub keeps-outside_prelude : {q : Bool} → (d : Language) (line : ℕ) (name : List ℕ) → Keeps q (outside_prelude d line name)
keeps-outside_prelude d line name = search keeps depth 14

pub keeps-outside : {q : Bool} → (w : Setting) (a1 : Option ℕ) (file : ℕ) (line : ℕ) (name : List ℕ) → Keeps q (outside w a1 file line name)
keeps-outside w None file line name = search (keeps, keeps-outside_prelude) depth 14
keeps-outside w (Some prelude) file line name = search (keeps, keeps-outside_prelude) depth 14

pub keeps-read_found : {q : Bool} → (w : Setting) (p : Site) (name : List ℕ) (a3 : Option (Option Value)) → Keeps q (read_found w p name a3)
keeps-read_found w p name (Some v) = search keeps depth 14
keeps-read_found w p name None = search (keeps, keeps-outside) depth 14

pub keeps-read_name : {q : Bool} → (w : Setting) (p : Site) (n : Name) → Keeps q (read_name w p n)
unfolding read_name
keeps-read_name w p n = search (keeps, keeps-read_found) depth 14

pub keeps-bind_at : {q : Bool} → (frame : Value) (v : Value) (a2 : Option ℕ) → Keeps q (bind_at frame v a2)
keeps-bind_at frame v None = search keeps depth 14
keeps-bind_at frame v (Some i) = search keeps depth 14

pub keeps-bind_name : {q : Bool} → (w : Setting) (p : Site) (n : Name) (v : Value) → Keeps q (bind_name w p n v)
unfolding bind_name
keeps-bind_name w p n v = search (keeps, keeps-bind_at) depth 14

pub keeps-new_frame : {q : Bool} → (w : Setting) (file : ℕ) (number : ℕ) (parent : Option Value) → Keeps q (new_frame w file number parent)
unfolding new_frame
keeps-new_frame w file number parent = search keeps depth 14
