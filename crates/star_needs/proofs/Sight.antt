-- Other outlines for a run: the same for all files whose functions are seen.
use Rattle.std.proofs.Common.{◌≡◌, ℕ, true, List, Option, Some, refl, ap, ◌∙◌}
use Rattle.std.specs.List.{Contains}
use Rattle.star_tree.specs.declared.tree.Name.{Name}
use Rattle.star_tree.specs.declared.tree.Statement.{Statement}
use Rattle.star_store.specs.declared.values.Value.{Value}
use Rattle.star_outline.specs.Outlines.{Outline}
use Rattle.star_scope.specs.Uses.{Named, uses}
use Rattle.star_meaning.specs.declared.site.Site.{Site}
use Rattle.star_meaning.specs.Run.{Action}
use Rattle.star_meaning.specs.Program.{Setting, outline_of}
use Rattle.star_meaning.specs.Variables.{read_name}
use Rattle.star_meaning.specs.Local.{Trees}
use Rattle.star_meaning.specs.Places.{Stands, Tables, read_spot}
use Rattle.star_meaning.proofs.Agree.{Agree, Resolved, agree_kept, agree_quiet, agree_read}
use Rattle.star_meaning.proofs.Keeps.{Keeps}
use Rattle.star_meaning.proofs.Quiet as quiet
use Rattle.star_needs.proofs.Outlines.{with_outlines}

-- other outlines, the same for each file that has statements here
pub record Sight (trees : Trees) (w : Setting) : Type 0 where
  pub outlines : List (Option Outline)
  pub same : (file : ℕ) (ss : List Statement) → Stands trees file ss → outline_of (with_outlines outlines w) file ≡ outline_of w file

-- an action that is equal to another
pub turned : {A : Type 0} (trees : Trees) (w : Setting) (file : ℕ) (chain : List ℕ) (frame : Option Value) (a b c : Action A) → a ≡ b → Agree trees w file chain frame b c → Agree trees w file chain frame a c
turned trees w file chain frame a b c e h = record { holds = λ s fit fits. (let r = h.holds s fit fits in (ap (λ m. m s) e ∙ r.0, r.1)) }

pub alike : {A : Type 0} (trees : Trees) (w : Setting) (file : ℕ) (chain : List ℕ) (frame : Option Value) (a b : Action A) → a ≡ b → Keeps true b → Agree trees w file chain frame a b
alike trees w file chain frame a b e k = turned trees w file chain frame a b b e (agree_kept trees w file chain frame b k)

pub alike_quiet : {A : Type 0} (trees : Trees) (w : Setting) (file : ℕ) (chain : List ℕ) (frame : Option Value) (a b : Action A) → a ≡ b → quiet.Keeps b → Agree trees w file chain frame a b
alike_quiet trees w file chain frame a b e k = turned trees w file chain frame a b b e (agree_quiet trees w file chain frame b k)

same-read_spot : (os : List (Option Outline)) (tables : Tables) (w : Setting) (p : Site) (n : Name) → read_spot tables (with_outlines os w) p n ≡ read_spot tables w p n
unfolding read_spot
same-read_spot os tables w p n = refl

pub see_read : (tables : Tables) (trees : Trees) (w : Setting) (sight : Sight trees w) → Resolved tables trees w → (p : Site) (n : Name) (ss : List Statement) (chain : List ℕ)
    → Stands trees p.file ss → Contains (uses ss) (Named n chain) → Agree trees w p.file chain (Some p.frame) (read_spot tables (with_outlines sight.outlines w) p n) (read_name w p n)
see_read tables trees w sight r p n ss chain stands h = turned trees w p.file chain (Some p.frame) _ _ _ (same-read_spot sight.outlines tables w p n) (agree_read tables trees w r p n ss chain stands h)
