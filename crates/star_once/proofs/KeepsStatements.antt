-- Keys differ after every run: statements.
use Rattle.star_store.specs.declared.values.Value.{Value}
use Rattle.star_store.specs.Store.{Published}
use Rattle.star_tree.specs.declared.tree.BinaryOperator.{BinaryOperator}
use Rattle.star_tree.specs.declared.tree.Expression.{Expression}
use Rattle.star_tree.specs.declared.tree.Target.{Target}
use Rattle.star_tree.specs.declared.tree.Arm.{Arm}
use Rattle.star_tree.specs.declared.tree.Statement.{Statement}
use Rattle.star_tree.specs.declared.tree.LoadedName.{LoadedName}
use Rattle.star_tree.specs.declared.tree.Position.{Position}
use Rattle.star_tree.specs.declared.tree.Argument.TheOpen as tree
use Rattle.star_tree.specs.declared.tree.Form.TheOpen as form
use Rattle.star_meaning.specs.declared.site.Site.{Site}
use Rattle.star_meaning.specs.declared.site.Flow.{Flow}
use Rattle.star_outline.specs.Syntax.{StatementForm, TargetForm}
use Rattle.star_meaning.specs.Program.{Setting, Variables}
use Rattle.star_meaning.specs.Semantics.{Semantics}
use Rattle.std.proofs.Common.{ℕ, List, [], ◌∷◌, Option, Some, None}
use Rattle.star_meaning.specs.Run.{Action}
use Rattle.star_meaning.specs.Statements.{augment, arms, loop_turn, loop, load_name, returned, statement}
use Rattle.star_once.proofs.Keeps.{keeps, Keeps, AllKeep, VariablesKeep, once_by}
use Rattle.star_meaning.proofs.KeepsValues.{respects-take_item, respects-is_true}
use Rattle.star_meaning.proofs.KeepsSubscript.{respects-index, respects-set_index}
use Rattle.star_once.proofs.KeepsTargets.{keeps-to_target}
use Rattle.star_once.proofs.KeepsExpressions.{keeps-new_function}
use Rattle.star_once.proofs.KeepsEntries.{keeps-augmented}

pub keeps-augment : (vs : Variables) (w : Setting) (levels : ℕ) (m : Semantics) (p : Site) (op : BinaryOperator) (e : Expression) (a7 : TargetForm) → VariablesKeep w vs → AllKeep w m → Keeps w (augment vs w levels m p op e a7)
keeps-augment vs w levels m p op e (tree.Target-F.Target::Name n) k0 k1 = search (keeps, keeps-augmented) depth 14
keeps-augment vs w levels m p op e (tree.Target-F.Target::Index b i) k0 k1 = search (keeps, once_by, respects-index, respects-set_index, keeps-augmented) depth 14
keeps-augment vs w levels m p op e _ k0 k1 = search keeps depth 14

pub keeps-arms : (w : Setting) (m : Semantics) (p : Site) (a3 : List Arm) (otherwise : Action Flow) → AllKeep w m → Keeps w otherwise → Keeps w (arms w m p a3 otherwise)
keeps-arms w m p [] otherwise k0 k1 = search keeps depth 14
keeps-arms w m p (a ∷ more) otherwise k0 k1 = let h1 : (z3 : Site) → Keeps w (arms w m z3 more otherwise) = λ z3. keeps-arms w m z3 more otherwise k0 k1 in search (keeps, once_by, respects-is_true, h1) depth 14

pub keeps-loop_turn : (vs : Variables) (w : Setting) (m : Semantics) (p : Site) (t : Target) (body : List Statement) (v : Value) (i : ℕ) → VariablesKeep w vs → AllKeep w m → Keeps w (loop_turn vs w m p t body v i)
keeps-loop_turn vs w m p t body v i k0 k1 = search (keeps, once_by, respects-take_item, keeps-to_target) depth 14

pub keeps-loop : (vs : Variables) (w : Setting) (m : Semantics) (p : Site) (t : Target) (body : List Statement) (v : Value) → VariablesKeep w vs → AllKeep w m → Keeps w (loop vs w m p t body v)
keeps-loop vs w m p t body v k0 k1 = search (keeps, keeps-loop_turn) depth 14

pub keeps-load_name : {w : Setting} → (vs : Variables) (p : Site) (o : Option Published) (n : LoadedName) → VariablesKeep w vs → Keeps w (load_name vs p o n)
keeps-load_name vs p o n k0 = search keeps depth 14

pub keeps-returned : {w : Setting} → (m : Semantics) (p : Site) (a2 : Option Expression) → AllKeep w m → Keeps w (returned m p a2)
keeps-returned m p None k0 = search keeps depth 14
keeps-returned m p (Some e) k0 = search keeps depth 14

pub keeps-statement : (vs : Variables) (w : Setting) (levels : ℕ) (m : Semantics) (p : Site) (at : Position) (a6 : StatementForm) → VariablesKeep w vs → AllKeep w m → Keeps w (statement vs w levels m p at a6)
keeps-statement vs w levels m p at (form.Expression e) k0 k1 = search keeps depth 14
keeps-statement vs w levels m p at (form.Assign t e) k0 k1 = search (keeps, keeps-to_target) depth 14
keeps-statement vs w levels m p at (form.Augment t op e) k0 k1 = search (keeps, keeps-augment) depth 14
keeps-statement vs w levels m p at form.Pass k0 k1 = search keeps depth 14
keeps-statement vs w levels m p at form.Break k0 k1 = search keeps depth 14
keeps-statement vs w levels m p at form.Continue k0 k1 = search keeps depth 14
keeps-statement vs w levels m p at (form.Return e) k0 k1 = search (keeps, keeps-returned) depth 14
keeps-statement vs w levels m p at (form.Load l names) k0 k1 = search (keeps, keeps-load_name) depth 14
keeps-statement vs w levels m p at (form.If cases otherwise) k0 k1 = search (keeps, keeps-arms) depth 14
keeps-statement vs w levels m p at (form.For t e body) k0 k1 = search (keeps, keeps-loop) depth 14
keeps-statement vs w levels m p at (form.Def n ps body) k0 k1 = search (keeps, keeps-new_function) depth 14
