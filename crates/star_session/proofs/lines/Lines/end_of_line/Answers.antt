use Rattle.std.proofs.Common.{◌-◌, subst}
use Rattle.std.specs.List.{slice_range}
use Rattle.memchr.specs.Find.{IsFirstByte, is_byte}
use Rattle.star_session.specs.Lines.{ahead_of}
use Rattle.star_session.proofs.Ahead.{end_in, length_ahead}
use Rattle.star_session.proofs.lines.Lines.end_of_line.Goals as goal

pub returns : goal.returns
returns c =
    let lines = c.args.self.now in
    end_in (ahead_of lines) (lines.end - lines.start) c.memchr.result (length_ahead lines.buffer.items lines.start lines.end c.requires.0 c.requires.1)
    (subst (λ b. IsFirstByte (is_byte 10) (slice_range b lines.start lines.end) c.memchr.result) c.deref.ensures.value c.memchr.ensures)
