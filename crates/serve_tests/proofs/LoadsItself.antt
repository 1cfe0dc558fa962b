-- A plan of one file, which loads itself twice.
use Rattle.std.proofs.Common.{◌≡◌, ℕ, List, [], ◌∷◌, Some, None, refl, arith}
use Rattle.star_dialect.specs.declared.Dialect.TheVariants.{Core}
use Rattle.star_scope.specs.declared.loads.Load.{Load}
use Rattle.star_plan.specs.Plan.{Plan, Sound}
use Rattle.star_outcome.specs.Refusals.{IsRefusal}

abbrev pub itself : Load
itself = record { file = 0; line = 1; token = None }

abbrev pub twice : Plan
twice = record { roots = []; prelude = None; mode = record { steps = 1; language = record { dialect = Core; recorded = [] } }; reads = Some (Sound [] (itself ∷ itself ∷ [])) ∷ [] }

-- both loads lie on a cycle
pub first_refused : IsRefusal twice (record { file = 0; index = 0; loaded = 0 })
first_refused = record { there = refl; cycle = ((0, omega arith, refl), (0, refl)) }

pub second_refused : IsRefusal twice (record { file = 0; index = 1; loaded = 0 })
second_refused = record { there = refl; cycle = ((0, omega arith, refl), (0, refl)) }
