-- The invariants of every run: targets.
use Rattle.star_store.specs.declared.values.Value.{Value}
use Rattle.star_tree.specs.declared.tree.Target.{Target}
use Rattle.star_tree.specs.declared.tree.Expression.{Expression}
use Rattle.star_tree.specs.declared.tree.Argument.TheOpen as tree
use Rattle.star_meaning.specs.declared.site.Site.{Site}
use Rattle.star_outline.specs.Syntax.{TargetForm}
use Rattle.star_meaning.specs.Program.{Setting, Variables}
use Rattle.star_meaning.specs.Semantics.{Semantics}
use Rattle.std.proofs.Common.{ℕ, List, [], ◌∷◌, false}
use Rattle.star_meaning.specs.Targets.{to_form, to_target, to_each, unpack, target_node, parts_node}
use Rattle.star_meaning.proofs.Keeps.{keeps, Keeps, AllKeep, VariablesKeep, kept_by}
use Rattle.star_meaning.proofs.KeepsValues.{respects-take_all}
use Rattle.star_meaning.proofs.KeepsSubscript.{respects-index, respects-set_index}

pub keeps-to_form : (vs : Variables) (m : Semantics) (p : Site) (t : Target) (v : Value) (a5 : TargetForm) → VariablesKeep vs → AllKeep m → Keeps false (to_form vs m p t v a5)
keeps-to_form vs m p t v (tree.Target-F.Target::Name n) k0 k1 = search keeps depth 14
keeps-to_form vs m p t v _ k0 k1 = search keeps depth 14

pub keeps-to_target : (vs : Variables) (m : Semantics) (p : Site) (t : Target) (v : Value) → VariablesKeep vs → AllKeep m → Keeps false (to_target vs m p t v)
keeps-to_target vs m p t v k0 k1 = search (keeps, keeps-to_form) depth 14

pub keeps-to_each : (vs : Variables) (m : Semantics) (p : Site) (a3 : List Target) (a4 : List Value) → VariablesKeep vs → AllKeep m → Keeps false (to_each vs m p a3 a4)
keeps-to_each vs m p [] [] k0 k1 = search keeps depth 14
keeps-to_each vs m p (t ∷ ts) (v ∷ xs) k0 k1 = let h1 : (z2 : Site) → Keeps false (to_each vs m z2 ts xs) = λ z2. keeps-to_each vs m z2 ts xs k0 k1 in search (keeps, keeps-to_target, h1) depth 14
keeps-to_each vs m p _ _ k0 k1 = search keeps depth 14

pub keeps-unpack : (vs : Variables) (w : Setting) (m : Semantics) (p : Site) (ts : List Target) (v : Value) → VariablesKeep vs → AllKeep m → Keeps false (unpack vs w m p ts v)
keeps-unpack vs w m p ts v k0 k1 = search (keeps, kept_by w, respects-take_all, keeps-to_each) depth 14

pub keeps-target_node : (vs : Variables) (w : Setting) (levels : ℕ) (m : Semantics) (p : Site) (a5 : TargetForm) (v : Value) → VariablesKeep vs → AllKeep m → Keeps false (target_node vs w levels m p a5 v)
keeps-target_node vs w levels m p (tree.Target-F.Target::Name n) v k0 k1 = search keeps depth 14
keeps-target_node vs w levels m p (tree.Target-F.Target::Index e i) v k0 k1 = search (keeps, kept_by w, respects-set_index) depth 14
keeps-target_node vs w levels m p (tree.Target-F.Target::Tuple ts) v k0 k1 = search (keeps, keeps-unpack) depth 14
keeps-target_node vs w levels m p (tree.Target-F.Target::List ts) v k0 k1 = search (keeps, keeps-unpack) depth 14

pub keeps-parts_node : (w : Setting) (levels : ℕ) (m : Semantics) (p : Site) (e : Expression) (i : Expression) → AllKeep m → Keeps false (parts_node w levels m p e i)
keeps-parts_node w levels m p e i k0 = search (keeps, kept_by w, respects-index) depth 14
