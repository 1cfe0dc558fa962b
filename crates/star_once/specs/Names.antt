-- Names that all differ.
use Rattle.std.specs.Prelude.{◌≡◌, ℕ, List, [], ◌∷◌, Contains, map}
use Rattle.star_store.specs.declared.values.Value.{Value}
use Rattle.star_store.specs.Store.{Shelf}
use Rattle.star_meaning.specs.declared.said.Said.{Said}
use Rattle.star_meaning.specs.Module.{Good}
use Rattle.star_plan.specs.Plan.{Plan}
use Rattle.star_plan.specs.Results.{IsOutcome, Ran}

-- no two are the same name
abbrev pub NamesDiffer : List (List ℕ) → Type 0
NamesDiffer [] = Unit {0}
NamesDiffer (n ∷ ns) = (Contains ns n → ⊥) × NamesDiffer ns

-- The law: no two globals of a file of a plan have the same name, and there are as many texts, of the same names in the
-- same order.
abbrev pub GlobalsStandOnce : Type 0
GlobalsStandOnce = (plan : Plan) (n : ℕ) (shelf : Shelf) (globals : List (List ℕ × Value))
    (texts : List (List ℕ × List ℕ)) (lines : List Said) → IsOutcome plan n (Ran (Good shelf globals texts lines))
    → NamesDiffer (map (λ g. g.0) globals) × (map (λ g. g.0) texts ≡ map (λ g. g.0) globals)
