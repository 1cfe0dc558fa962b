use Rattle.std.proofs.Common.{codes}
use Rattle.star_report.proofs.Wells.{seven}
use Rattle.star_report.proofs.report.text_around.Goals as goal

pub returns : goal.returns
returns c =
    rw (c.in_ok-extend_from_slice-7.ensures.items, c.in_ok-extend_from_slice-6.ensures.items, c.in_ok-extend_from_slice-5.ensures.items, c.in_ok-extend_from_slice-4.ensures.items, c.in_ok-extend_from_slice-3.ensures.items, c.in_ok-extend_from_slice-2.ensures.items, c.in_ok-extend_from_slice.ensures.items, c.in_ok-text.ensures.items)
    (seven (codes "{\"globals\":") c.args.globals.now (codes ",\"label\":") c.args.label.now (codes ",\"lines\":") c.args.lines.now (codes ",\"status\":\"ok\"}"))
