-- The text of a recorded call, and how many bytes it has.
use Rattle.std.proofs.Common.{arith, ◌≡◌, ℕ, ◌+◌, List, ◌++◌, length, length-append, append_assoc, codes, ◌∙◌}
use Rattle.star_meaning.specs.Recorded.{call_text}
use Rattle.star_meaning.specs.declared.said.RecordedCall.{RecordedCall}

pub call_length : (c : RecordedCall) → 1 + length (call_text c) ≡ 1 + length c.inputs + (length c.name + 12)
call_length c = rw (length-append c.inputs (codes ",\"name\":\"" ++ (c.name ++ codes "\"}")), length-append c.name (codes "\"}")) (omega arith)

-- texts that are put one after another
pub all_after : (a b c d e : List ℕ) → (((a ++ b) ++ c) ++ d) ++ e ≡ a ++ (b ++ (c ++ (d ++ e)))
all_after a b c d e = append_assoc ((a ++ b) ++ c) d e ∙ append_assoc (a ++ b) c (d ++ e) ∙ append_assoc a b (c ++ (d ++ e))
