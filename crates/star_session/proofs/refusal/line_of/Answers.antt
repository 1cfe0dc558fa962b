use Rattle.std.proofs.Common.{◌≡◌, ◌++◌, codes}
use Rattle.star_report.proofs.Wells.{seven}
use Rattle.star_session.proofs.refusal.line_of.Goals as goal

pub returns : goal.returns
returns c =
    rw (c.in_ok-extend_from_slice-7.ensures.items, c.in_ok-extend_from_slice-6.ensures.items, c.in_ok-extend_from_slice-5.ensures.items, c.in_ok-extend_from_slice-4.ensures.items, c.in_ok-extend_from_slice-3.ensures.items, c.in_ok-extend_from_slice-2.ensures.items, c.in_ok-extend_from_slice.ensures.items, c.in_ok-line.ensures.items, c.as_bytes.ensures.value, c.as_bytes-2.ensures.value)
    (seven (codes "{\"id\":") c.args.id.now (codes ",\"") c.args.name.now (codes "\":") c.args.json.now (codes "}\n"))
