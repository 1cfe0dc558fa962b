use Rattle.std.proofs.Common.{add-one, ap, arith, length}
use Rattle.star_memo.specs.Parses.{Has}
use Rattle.star_memo.proofs.Kept.{bytes_less, bytes_more}
use Rattle.star_memo.proofs.parses.Parses.bytes.Goals as goal
use Rattle.star_memo.proofs.parses.Parses.bytes.Goals.{then-has, else-has}

pub loop-n-preserved : goal.loop-n-preserved
loop-n-preserved c =
    let files = c.args.files.now in
    let all = c.args.self.now.all.items in
    let n = c.loop-n.n in
    let before = c.loop-n.invariant in
    rw add-one (elim c.if-has.branch [
      | then-has w ↦
          let has : Has all n = c.has.ensures w.if-has.true in
          let more = bytes_more files all n has (omega (arith, c.loop-n-test.true, c.len-n-end.ensures.len)) in
          omega (arith, before, more, w.bytes-is, w.saturating_add-bytes.ensures, ap length w.text.ensures)
      | else-has w ↦ let less = bytes_less files all n in omega (arith, before, less, w.bytes-is)
    ])
