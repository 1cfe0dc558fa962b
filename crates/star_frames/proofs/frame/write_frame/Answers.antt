use Rattle.std.proofs.Common.{rules, arith, ◌≡◌, ◌++◌, ◌∷◌, [], append_assoc}
use Rattle.star_frames.proofs.Bytes.{frame_taken}
use Rattle.star_frames.proofs.frame.write_frame.Goals as goal

pub returns : goal.returns
returns g c =
    frame_taken (g.W.Write.contents c.args.writer.now) (g.W.Write.contents c.write_all.new.self) (g.W.Write.contents c.write_all-2.new.self) (g.W.Write.contents c.flush.new.self)
    c.as_bytes.result.now c.args.content.now c.flush.result
    (search (rules, c.as_bytes.ensures.value, c.in_ok-header.ensures.ok, append_assoc))
    c.in_ok-write_all.ensures.bytes c.in_ok-write_all-2.ensures.bytes c.flush.ensures.bytes
