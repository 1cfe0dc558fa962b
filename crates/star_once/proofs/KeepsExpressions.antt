-- Keys differ after every run: expressions.
use Rattle.star_store.specs.declared.values.Value.{Value}
use Rattle.star_tree.specs.declared.tree.Expression.{Expression}
use Rattle.star_tree.specs.declared.tree.Entry.{Entry}
use Rattle.star_tree.specs.declared.tree.Parameter.{Parameter}
use Rattle.star_tree.specs.declared.tree.Argument.TheOpen as tree
use Rattle.star_meaning.specs.declared.site.Site.{Site}
use Rattle.star_outline.specs.Syntax.{ParameterForm}
use Rattle.star_meaning.specs.Program.{Setting}
use Rattle.star_meaning.specs.Semantics.{Semantics}
use Rattle.std.proofs.Common.{ℕ, List, [], ◌∷◌, Option, Some, None}
use Rattle.star_meaning.specs.Run.{Action}
use Rattle.star_meaning.specs.Expressions.{defaults_after, defaults, new_function, entry_of, maybe}
use Rattle.star_once.proofs.Keeps.{keeps, Keeps, AllKeep}

pub keeps-defaults_after : {w : Setting} → (rest : Action (List Value)) (m : Semantics) (p : Site) (a3 : ParameterForm) → Keeps w rest → AllKeep w m → Keeps w (defaults_after rest m p a3)
keeps-defaults_after rest m p (tree.Default n e) k0 k1 = search keeps depth 14
keeps-defaults_after rest m p _ k0 k1 = search keeps depth 14

pub keeps-defaults : {w : Setting} → (m : Semantics) (p : Site) (a2 : List Parameter) → AllKeep w m → Keeps w (defaults m p a2)
keeps-defaults m p [] k0 = search keeps depth 14
keeps-defaults {w = w} m p (q ∷ qs) k0 = let h1 : (z1 : Site) → Keeps w (defaults m z1 qs) = λ z1. keeps-defaults m z1 qs k0 in search (keeps, keeps-defaults_after, h1) depth 14

pub keeps-new_function : {w : Setting} → (m : Semantics) (p : Site) (number : ℕ) (name : List ℕ) (ps : List Parameter) → AllKeep w m → Keeps w (new_function m p number name ps)
keeps-new_function m p number name ps k0 = search (keeps, keeps-defaults) depth 14

pub keeps-entry_of : {w : Setting} → (m : Semantics) (p : Site) (e : Entry) → AllKeep w m → Keeps w (entry_of m p e)
keeps-entry_of m p e k0 = search keeps depth 14

pub keeps-maybe : {w : Setting} → (m : Semantics) (p : Site) (a2 : Option Expression) → AllKeep w m → Keeps w (maybe m p a2)
keeps-maybe m p None k0 = search keeps depth 14
keeps-maybe m p (Some e) k0 = search keeps depth 14
