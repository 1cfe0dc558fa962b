use Rattle.std.proofs.Common.{◌≡◌, ◌-◌}
use Rattle.star_meaning.specs.Run.{until}
use Rattle.star_meaning.specs.BuiltIns.{is_decided}
use Rattle.star_builtin.proofs.truths.some_of.Given as goal

abbrev pub invariant-loop-i : goal.invariant-loop-i
invariant-loop-i l = let f = is_decided l.call.setting.now l.call.line l.wanted l.value in until f (l.count - l.i) l.i l.machine ≡ until f l.count 0 l.fn.machine
