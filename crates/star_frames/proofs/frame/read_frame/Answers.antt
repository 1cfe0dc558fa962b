use Rattle.std.proofs.Common.{rules, arith, ◌≡◌, ◌++◌, ◌∙◌, ap, take, drop, length}
use Rattle.std.proofs.Math.Seq.{take-append_seam}
use Rattle.star_frames.proofs.Heads.{content_read}
use Rattle.star_frames.proofs.frame.read_frame.Goals as goal

pub returns-in-Ok : goal.returns-in-Ok
returns-in-Ok g c content rest small was =
    let head = c.in_ok-length.ensures content rest small was in
    let buf = c.read_exact.new.buf in
    let size : c.in-Some.length ≡ length content = search (rules, head.0, c.in-Some.is) in
    let same : length buf ≡ c.in-Some.length = search (rules, c.in_ok-content.ensures.len, c.as_mut_slice.ensures.len, c.read_exact.auto.buf) in
    let whole : c.in_ok-content.content.len ≡ length buf = search (rules, c.in_ok-content.ensures.len, same) in
    let r = content_read (g.R.Read.remaining c.read_header.new.reader) (g.R.Read.remaining c.read_exact.new.self) buf content rest head.1 (same ∙ size) c.in-Ok.ensures.bytes in
    (ap (λ n. take n (buf ++ drop (length buf) c.in_ok-content.content.items)) whole ∙ take-append_seam buf (drop (length buf) c.in_ok-content.content.items) ∙ r.0, r.1)
