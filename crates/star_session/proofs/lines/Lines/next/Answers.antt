use Rattle.std.proofs.Common.{◌++◌, ◌-◌, take, arith, subst, sym}
use Rattle.star_session.specs.Lines.{IsPiece, ahead_of}
use Rattle.star_session.proofs.Ahead.{length_ahead}
use Rattle.star_session.proofs.Takings.{ended, goes_on, taken}
use Rattle.star_session.proofs.lines.Lines.next.Goals as goal

pub returns-in-Some-end_of_line-clause-next : goal.returns-in-Some-end_of_line-clause-next
returns-in-Some-end_of_line-clause-next g c =
    let left = ahead_of c.loop.self in
    let at = c.in-Some-end_of_line.at in
    taken (g.R.Source.said c.args.reader.now) (g.R.Source.said c.loop.reader) (ahead_of c.args.self.now) left (ahead_of c.add-line.new.self) (ahead_of c.skip.new.self)
    c.loop.line c.add-line.result c.loop.self.line.items c.skip.new.self.line.items at
    c.loop.invariant.2 c.in-Some-end_of_line.ensures.1 c.in-Some-end_of_line.ensures.2
    (λ bytes piece. subst (λ v. IsPiece c.add-line.result v.items (bytes ++ take at left)) (sym c.skip.ensures.line) (c.add-line.ensures.adds bytes piece))
    c.add-line.ensures.ahead c.skip.ensures.ahead

pub returns-then-not-branch-clause-next : goal.returns-then-not-branch-clause-next
returns-then-not-branch-clause-next g c =
    let now = c.loop.self in
    let left = ahead_of now in
    let over = c.in_ok-fill.ensures.ends c.if-not-branch.true in
    let begun = goes_on (g.R.Source.said c.args.reader.now) (g.R.Source.said c.loop.reader) (g.R.Source.said c.fill.new.reader) (ahead_of c.args.self.now) left (ahead_of c.fill.new.self)
    c.loop.line c.add-line-in-loop.result now.line.items c.fill.new.self.line.items (now.end - now.start)
    c.loop.invariant.2 c.in_default.ensures (sym (length_ahead now.buffer.items now.start now.end c.loop.invariant.3.0 c.loop.invariant.3.1))
    (λ bytes piece. subst (λ v. IsPiece c.add-line-in-loop.result v.items (bytes ++ take (now.end - now.start) left)) (sym c.fill.ensures.same) (c.add-line-in-loop.ensures.adds bytes piece))
    c.in_ok-fill.ensures.gives in
    ended (g.R.Source.said c.args.reader.now) (g.R.Source.said c.fill.new.reader) (ahead_of c.args.self.now) (ahead_of c.fill.new.self) (ahead_of c.fill.new.self)
    c.add-line-in-loop.result c.fill.new.self.line.items c.last.result begun over.0 over.1 over.2 c.last.ensures

pub loop-preserved : goal.loop-preserved
loop-preserved g c =
    let now = c.loop.self in
    let left = ahead_of now in (
      tt,
      tt,
      goes_on (g.R.Source.said c.args.reader.now) (g.R.Source.said c.loop.reader) (g.R.Source.said c.fill.new.reader) (ahead_of c.args.self.now) left (ahead_of c.fill.new.self)
          c.loop.line c.add-line-in-loop.result now.line.items c.fill.new.self.line.items (now.end - now.start)
          c.loop.invariant.2 c.in_default.ensures (sym (length_ahead now.buffer.items now.start now.end c.loop.invariant.3.0 c.loop.invariant.3.1))
          (λ bytes piece. subst (λ v. IsPiece c.add-line-in-loop.result v.items (bytes ++ take (now.end - now.start) left)) (sym c.fill.ensures.same) (c.add-line-in-loop.ensures.adds bytes piece))
          c.in_ok-fill.ensures.gives,
      c.in_ok-fill.ensures.cut,
      omega (arith, c.in_ok-fill.ensures.counts, c.loop.invariant.4),
    )
