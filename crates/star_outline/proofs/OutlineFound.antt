-- An outline with one more definition or comprehension.
use Rattle.std.proofs.Common.{◌≡◌, ◌+◌, ℕ, List, [], ◌∷◌, ◌++◌, ap, sym, ◌∙◌, append-nil}
use Rattle.star_tree.specs.declared.tree.Clauses.{Clauses}
use Rattle.star_tree.specs.declared.tree.Parameter.{Parameter}
use Rattle.star_outline.specs.Names.{Names, once, with_names}
use Rattle.star_outline.specs.Outlines.{Block, Body, Definition, Found, all_parameter_names, and, body_names, clauses_names, comprehension, definition}
use Rattle.star_outline.proofs.BoundNames.{with_joined}
use Rattle.star_outline.proofs.FirstPlaces.{names_once}

pub add_comprehension : (old : Found) (token : ℕ) (cs : Clauses) (names : Names) (blocks : List Block)
    → names ≡ with_names [] (clauses_names cs)
    → blocks ≡ old.blocks ++ record { number = 1 + token; names = names } ∷ []
    → record { definitions = old.definitions; blocks = blocks } ≡ and old (comprehension token cs)
unfolding and comprehension
add_comprehension old token cs names blocks e b =
    ap (λ bs. record { definitions = old.definitions; blocks = bs }) (b
    ∙ ap (λ ns. old.blocks ++ record { number = 1 + token; names = ns } ∷ []) (e ∙ names_once (clauses_names cs)))
    ∙ ap (λ ds. record { definitions = ds; blocks = old.blocks ++ record { number = 1 + token; names = once (clauses_names cs) } ∷ [] }) (sym (append-nil old.definitions))

pub add_definition : (old : Found) (token : ℕ) (ps : List Parameter) (body : Body) (some all : Names) (definitions : List Definition) (blocks : List Block)
    → some ≡ with_names [] (all_parameter_names ps) → all ≡ with_names some (body_names body)
    → definitions ≡ old.definitions ++ record { number = token; parameters = ps; body = body } ∷ []
    → blocks ≡ old.blocks ++ record { number = 1 + token; names = all } ∷ []
    → record { definitions = definitions; blocks = blocks } ≡ and old (definition token ps body)
unfolding and definition
add_definition old token ps body some all definitions blocks e f d b =
    ap (λ bs. record { definitions = definitions; blocks = bs }) (b
    ∙ ap (λ ns. old.blocks ++ record { number = 1 + token; names = ns } ∷ [])
    (f ∙ ap (λ ns. with_names ns (body_names body)) e ∙ sym (with_joined [] (all_parameter_names ps) (body_names body)) ∙ names_once (all_parameter_names ps ++ body_names body)))
    ∙ ap (λ ds. record { definitions = ds; blocks = old.blocks ++ record { number = 1 + token; names = once (all_parameter_names ps ++ body_names body) } ∷ [] }) d
