-- From one round of a reading to the next.
use Rattle.std.specs.Prelude.{◌≡◌, ◌<◌, ℕ, suc, []}
use Rattle.star_repo.specs.Held.{Said}
use Rattle.star_repo.specs.Reach.{Words}
use Rattle.star_repo.specs.Views.{AllRead, IsOnWay, labels_of}
use Rattle.star_repo.specs.declared.found.Found.{Found}
use Rattle.star_repo.specs.declared.reach.Round.{Round}
use Rattle.star_repo.specs.declared.reach.Turn.{Turn}
use Rattle.star_repo.specs.declared.reach.Turn.TheVariants as turn

-- the labels of a round were looked up, and then comes this
abbrev pub Turns : Found → Turn → Type 0
Turns found (turn.Next r) =
    ((said : Said) (words : Words) (d : ℕ) → IsOnWay said words d found []
    → IsOnWay said words (suc d) r.found (labels_of r.waiting.keys))
    × AllRead r.found.looked × (r.found.fresh.items ≡ []) × (r.found.count ≡ found.count)
    × (found.fresh.items ≡ [] → ⊥)
Turns found (turn.End f) = (f ≡ found) × (found.fresh.items ≡ [])

-- a further round begins after this one, with more files than `count`, or the reading has come to its end
abbrev pub IsTurn : Said → Words → ℕ → ℕ → Turn → Type 0
IsTurn said words d count (turn.Next r) =
    IsOnWay said words (suc d) r.found (labels_of r.waiting.keys) × AllRead r.found.looked
    × (r.found.fresh.items ≡ []) × (count < r.found.count)
IsTurn said words d count (turn.End f) =
    IsOnWay said words d f [] × AllRead f.looked × (f.fresh.items ≡ [])

-- In a folder that tells this, a reading that has come to this round goes on with this turn.
abbrev pub TurnsTo : Said → Round → Turn → Type 0
TurnsTo said round turn =
    (words : Words) (d : ℕ) → IsOnWay said words d round.found (labels_of round.waiting.keys)
    → AllRead round.found.looked → round.found.fresh.items ≡ [] → IsTurn said words d round.found.count turn
