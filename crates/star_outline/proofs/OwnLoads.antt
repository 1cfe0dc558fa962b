-- The names that the load statements of a file itself load.
use Rattle.std.proofs.Common.{◌≡◌, List, [], refl, ap, sym, ◌∙◌}
use Rattle.star_tree.specs.declared.tree.Form.{Form, out-Form, roll-Form, roll-out-Form}
use Rattle.star_tree.specs.declared.tree.Form.TheOpen as form
use Rattle.star_tree.specs.declared.tree.Form.TheVariants as v
use Rattle.star_tree.specs.declared.tree.Literal.{Literal}
use Rattle.star_tree.specs.declared.tree.LoadedName.{LoadedName}
use Rattle.star_outline.specs.Syntax.{StatementForm}
use Rattle.star_outline.specs.Outlines.{loaded_by}

level : (f : StatementForm) → ((l : Literal) (ns : List LoadedName) → f ≡ form.Load l ns → ⊥) → loaded_by f ≡ []
level (form.Load l ns) other = elim (other l ns refl) [ ]
level _ other = refl

-- a statement of another form loads none
pub loads_none : (f : Form) → ((l : Literal) (ns : List LoadedName) → f ≡ v.Load l ns → ⊥) → loaded_by (out-Form f) ≡ []
loads_none f other = level (out-Form f) (λ l ns e. other l ns (sym (roll-out-Form f) ∙ ap roll-Form e ∙ v.rolls-Load l ns))
