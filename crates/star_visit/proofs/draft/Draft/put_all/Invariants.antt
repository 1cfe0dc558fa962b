use Rattle.std.proofs.Common.{◌≡◌, ◌++◌}
use Rattle.std.specs.List.{flat_map}
use Rattle.star_visit.specs.Drafts.{part_bytes}
use Rattle.star_visit.proofs.draft.Draft.put_all.Given as goal

abbrev pub invariant-loop-part : goal.invariant-loop-part
invariant-loop-part l = l.self ≡ l.fn.self ++ flat_map part_bytes l.yielded
