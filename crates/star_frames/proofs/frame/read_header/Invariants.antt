use Rattle.std.proofs.Common.{◌≡◌, ◌≤◌, ◌++◌, ℕ, List, Some, length}
use Rattle.star_frames.specs.Frame.{frame_of}
use Rattle.star_frames.proofs.Heads.{IsInHead}
use Rattle.star_frames.proofs.frame.read_header.Given as goal

abbrev pub invariant-loop-turn : goal.invariant-loop-turn
invariant-loop-turn g l =
    (content rest : List ℕ) → length content ≤ 67108864
    → g.R.Read.remaining l.initial.reader ≡ Some (frame_of content ++ rest)
    → IsInHead (g.R.Read.remaining l.reader) l.turn l.length content rest
