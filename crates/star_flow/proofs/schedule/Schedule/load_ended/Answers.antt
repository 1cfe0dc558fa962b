use Rattle.std.proofs.Common.{ap}
use Rattle.std.specs.Prelude.{is_ok}
use Rattle.star_flow.specs.Schedules.{ScheduleView}
use Rattle.star_flow.proofs.Rising.{ready_either}
use Rattle.star_flow.proofs.schedule.Schedule.load_ended.Goals as goal

pub returns-then-index-eq0-2-clause-ready : goal.returns-then-index-eq0-2-clause-ready
returns-then-index-eq0-2-clause-ready c = ready_either (is_ok c.push.result) c.self.inside.ready.items c.args.self.now.ready c.push.new.self.items c.args.n (ap (λ (v : ScheduleView). v.ready) c.self.view_is) c.push.ensures.items
