use Rattle.std.proofs.Common.{◌≡◌, ◌≤◌, ◌++◌, drop, length, string_bytes}
use Rattle.std.specs.List.{flat_map}
use Rattle.star_visit.specs.Drafts.{part_bytes}
use Rattle.star_visit.proofs.draft.put_parts.Given as goal

abbrev pub invariant-loop-part : goal.invariant-loop-part
invariant-loop-part l = record { rest : string_bytes l.out ++ flat_map part_bytes (drop l.part-index l.parts) ≡ string_bytes l.fn.out ++ flat_map part_bytes l.parts; within : length (string_bytes l.out) ≤ l.room }
