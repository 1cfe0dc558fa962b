use Rattle.std.proofs.Common.{◌≡◌, drop}
use Rattle.star_machine.specs.Refines.{with_front}
use Rattle.star_meaning.specs.Recorded.{json_member}
use Rattle.star_meaning.specs.Run.{each}
use Rattle.star_builtin.proofs.recorded.json_members.Given as goal

abbrev pub invariant-loop-field : goal.invariant-loop-field
invariant-loop-field l = let f = json_member l.call.setting.now l.call.levels l.call.line in with_front l.members.items (each f (drop l.field-index l.fields) l.machine) ≡ each f l.fields l.fn.machine
