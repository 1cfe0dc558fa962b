-- Keys differ after every run: calls.
use Rattle.star_tree.specs.declared.tree.Argument.{Argument}
use Rattle.star_tree.specs.declared.tree.Argument.TheOpen as tree
use Rattle.star_meaning.specs.declared.site.Site.{Site}
use Rattle.star_outline.specs.Syntax.{ArgumentForm}
use Rattle.star_outline.specs.Definitions.{Body, Statements, Answer}
use Rattle.star_meaning.specs.Program.{Setting}
use Rattle.star_meaning.specs.Semantics.{Semantics}
use Rattle.star_meaning.specs.Calls.{pass_form, pass, run_body}
use Rattle.star_once.proofs.Keeps.{keeps, Keeps, AllKeep}

pub keeps-pass_form : {w : Setting} → (m : Semantics) (p : Site) (a2 : ArgumentForm) → AllKeep w m → Keeps w (pass_form m p a2)
keeps-pass_form m p (tree.Positional e) k0 = search keeps depth 14
keeps-pass_form m p (tree.Named n e) k0 = search keeps depth 14
keeps-pass_form m p (tree.Argument-F.Argument::Star e) k0 = search keeps depth 14
keeps-pass_form m p (tree.Argument-F.Argument::StarStar e) k0 = search keeps depth 14

pub keeps-pass : {w : Setting} → (m : Semantics) (p : Site) (a : Argument) → AllKeep w m → Keeps w (pass m p a)
keeps-pass m p a k0 = search (keeps, keeps-pass_form) depth 14

pub keeps-run_body : {w : Setting} → (m : Semantics) (p : Site) (a2 : Body) → AllKeep w m → Keeps w (run_body m p a2)
keeps-run_body m p (Statements body) k0 = search keeps depth 14
keeps-run_body m p (Answer e) k0 = search keeps depth 14
