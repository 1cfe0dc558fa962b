use Rattle.std.proofs.Common.{◌≡◌, take}
use Rattle.star_flow.specs.Schedules.{HaveEnded, IsReadyOf}
use Rattle.star_flow.proofs.schedule.Schedule.ended.Given as goal

abbrev pub invariant-loop-n : goal.invariant-loop-n
invariant-loop-n l = record {
  missing : HaveEnded (take l.n-index l.importers) l.fn.self l.self;
  ready : IsReadyOf l.fn.self.ready l.importers l.self.ready;
  running : l.self.running ≡ l.initial.self.running;
}
