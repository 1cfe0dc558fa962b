-- From one round of a reading to the next.
use Rattle.std.proofs.Common.{◌≡◌, ◌<◌, ℕ, List, [], ◌∷◌, length, refl, sym, subst, arith}
use Rattle.star_repo.specs.Held.{Said}
use Rattle.star_repo.specs.Reach.{Words}
use Rattle.star_repo.specs.Turn.{IsTurn, Turns, TurnsTo}
use Rattle.star_repo.specs.Views.{AllRead, IsOnWay, labels_of}
use Rattle.star_repo.specs.declared.found.Found.{Found}
use Rattle.star_repo.specs.declared.reach.Round.{Round}
use Rattle.star_repo.specs.declared.reach.Turn.{Turn}
use Rattle.star_repo.specs.declared.reach.Turn.TheVariants as turn

pub some_left : {X : Type 0} (xs : List X) → (xs ≡ [] → ⊥) → 0 < length xs
some_left [] h = absurd (h refl)
some_left (x ∷ xs) h = omega arith

pub length_none : {X : Type 0} (xs : List X) → xs ≡ [] → length xs ≡ 0
length_none xs h = subst (λ ys. length ys ≡ 0) (sym h) refl

pub is_turn : (said : Said) (words : Words) (d count : ℕ) (found : Found) (t : Turn) → IsOnWay said words d found [] → AllRead found.looked
    → ((found.fresh.items ≡ [] → ⊥) → count < found.count) → Turns found t → IsTurn said words d count t
is_turn said words d count found (turn.Next r) way all more h = (h.0 said words d way, h.1, h.2, let low = more h.4 in omega (arith, low, h.3))
is_turn said words d count found (turn.End f) way all more h =
    (subst (λ g. IsOnWay said words d g []) (sym h.0) way, subst (λ (g : Found). AllRead g.looked) (sym h.0) all, subst (λ (g : Found). g.fresh.items ≡ []) (sym h.0) h.1)

-- a reading that has come to this round goes on with this turn, in a folder that tells the same as at first
pub turned : (old says : Said) (words : Words) (d : ℕ) (round : Round) (t u : Turn) → says ≡ old → IsOnWay old words d round.found (labels_of round.waiting.keys)
    → AllRead round.found.looked → round.found.fresh.items ≡ [] → TurnsTo says round t → t ≡ u → IsTurn says words d round.found.count u
turned old says words d round t u same way all fresh turns is =
    subst (IsTurn says words d round.found.count) is (turns words d (subst (λ (s : Said). IsOnWay s words d round.found (labels_of round.waiting.keys)) (sym same) way) all fresh)
