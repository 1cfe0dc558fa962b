use Rattle.std.proofs.Common.{◌≡◌, map, subst, sym}
use Rattle.star_label.specs.View.{text_of}
use Rattle.star_repo.specs.Loading.{AreLoads}
use Rattle.star_graph.specs.Line.{line_text}
use Rattle.star_graph.proofs.walk.Walk.line.Goals as goal

pub returns : goal.returns
returns c =
    let label = text_of c.args.label in
    let text = c.args.text.now in
    let loads = subst (AreLoads label text) (sym c.in_ok-loads.ensures) c.in_ok-loads_of.ensures in
    let is = subst (λ ls. c.in_ok-line.line.items ≡ line_text label text (map text_of ls)) c.as_slice.ensures.value c.in_ok-line.ensures in
    (map text_of c.in_ok-loads.loads.items, loads, is)
