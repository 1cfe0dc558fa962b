use Rattle.std.proofs.Common.{rules, arith, ◌≡◌, ◌++◌, inl, inr}
use Rattle.star_frames.proofs.frame.read_header.Goals as goal

pub returns-in-None : goal.returns-in-None
returns-in-None g c content rest small was =
    elim (c.loop-turn.invariant content rest small was) [
      | inl h ↦ absurd (grind (arith, c.in-None.is, (c.in_ok-next_header.ensures.length content rest small h.1).0))
      | inr h ↦ absurd (grind (arith, c.in-None.is, (c.in_ok-next_header.ensures.end (content ++ rest) h.1).0))
    ]

pub returns-in-Some : goal.returns-in-Some
returns-in-Some g c content rest small was =
    elim (c.loop-turn.invariant content rest small was) [
      | inl h ↦ absurd (grind (arith, c.in-Some-End.is, c.in-Some-End.field-0-is, (c.in_ok-next_header.ensures.length content rest small h.1).0))
      | inr h ↦ search (rules, h.2, c.in-Some.is, (c.in_ok-next_header.ensures.end (content ++ rest) h.1).1)
    ]
