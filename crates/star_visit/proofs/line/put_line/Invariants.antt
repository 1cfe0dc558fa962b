use Rattle.std.proofs.Common.{◌≡◌, ◌-◌, ◌++◌, string_bytes}
use Rattle.star_store.specs.Json.{begun, times}
use Rattle.star_visit.proofs.line.put_line.Given as goal

abbrev pub invariant-loop-i : goal.invariant-loop-i
invariant-loop-i l = string_bytes l.out ++ times (l.depth - l._i) l.indent ≡ string_bytes l.fn.out ++ begun l.prefix l.indent l.depth
