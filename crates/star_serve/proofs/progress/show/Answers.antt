use Rattle.std.proofs.Common.{◌≡◌, arith}
use Rattle.star_serve.proofs.Shown.{cleared_after, nothing_after}
use Rattle.star_serve.proofs.progress.show.Goals as goal
use Rattle.star_serve.proofs.progress.show.Goals.{then-show_lines, else-show_lines}

pub returns : goal.returns
returns g c = elim c.if-show_lines.branch [
  | then-show_lines w ↦ λ same.
      let ended : g.E.Sink.failed w.clear.new.errors ≡ g.E.Sink.failed c.args.errors.now = rw w.errors-is at same in
      let first : g.E.Sink.failed c.show_lines.new.errors ≡ g.E.Sink.failed c.args.errors.now = omega (arith, ended, w.clear.ensures.grows, c.show_lines.ensures.grows) in
      let second : g.E.Sink.failed w.clear.new.errors ≡ g.E.Sink.failed c.show_lines.new.errors = omega (arith, ended, first) in
      rw w.errors-is (cleared_after (g.E.Sink.taken c.args.errors.now) (g.E.Sink.taken c.show_lines.new.errors) (g.E.Sink.taken w.clear.new.errors) c.show_lines.result (c.show_lines.ensures.lines first) (w.clear.ensures.clears second))
  | else-show_lines w ↦ λ same.
      let first : g.E.Sink.failed c.show_lines.new.errors ≡ g.E.Sink.failed c.args.errors.now = rw w.errors-is at same in
      rw w.errors-is (nothing_after (g.E.Sink.taken c.args.errors.now) (g.E.Sink.taken c.show_lines.new.errors) c.show_lines.result w.if-show_lines.false (c.show_lines.ensures.lines first))
]
