-- Statements within others.
use Rattle.std.proofs.Common.{◌≡◌, ℕ, zero, suc, List, [], ◌∷◌, Some, Contains, ◌++◌, ◌∙◌, ap, nat_eq, sym, subst, true}
use Rattle.std.specs.Prelude.{slice_get, unwrap_or}
use Rattle.std.proofs.lemmas.Bool.{eqb-true}
use Rattle.std.proofs.lemmas.Option.{none-some}
use Rattle.std.proofs.lemmas.List.Elements.{Contains-append_left, Contains-append_right}
use Rattle.star_tree.specs.declared.tree.Arm.{Arm, out-Arm}
use Rattle.star_tree.specs.declared.tree.Form.{Form, out-Form, out-roll-Form}
use Rattle.star_tree.specs.declared.tree.Form.TheOpen as form
use Rattle.star_tree.specs.declared.tree.Form.TheVariants as v
use Rattle.star_tree.specs.declared.tree.Position.{Position}
use Rattle.star_tree.specs.declared.tree.Statement.{Statement}
use Rattle.star_trail.specs.Trails.{bodies, within_form}

-- the statements in the body of an arm are in the bodies
pub in_bodies : (arms : List Arm) (i : ℕ) (a : Arm) (s : Statement) → slice_get arms i ≡ Some a → Contains (out-Arm a).body s → Contains (bodies arms) s
in_bodies [] i a s e h = absurd (none-some a e)
in_bodies (b ∷ arms) zero a s e h =
    Contains-append_left (out-Arm b).body (bodies arms) s (subst (λ x. Contains (out-Arm x).body s) (sym (ap (λ o. unwrap_or o b) e)) h)
in_bodies (b ∷ arms) (suc i) a s e h =
    Contains-append_right (out-Arm b).body (bodies arms) s (in_bodies arms i a s e h)

-- the statements that an `if` has directly within it
pub within_if : (f : Form) (arms : List Arm) (otherwise : List Statement) (s : Statement) → f ≡ v.If arms otherwise
    → Contains (bodies arms ++ otherwise) s → Contains (within_form (out-Form f)) s
within_if f arms otherwise s is h =
    let opened = ap out-Form (is ∙ sym (v.rolls-If arms otherwise)) ∙ out-roll-Form (form.If arms otherwise) in
    subst (λ g. Contains (within_form g) s) (sym opened) h

-- a position with this line and this token
pub at_position : (p : Position) (line token : ℕ) → nat_eq p.line line ≡ true → p.token ≡ token → p ≡ record { line = line; token = token }
at_position p line token l t =
    ap (λ n. record { line = n; token = p.token }) (eqb-true p.line line l) ∙ ap (λ m. record { line = line; token = m }) t
