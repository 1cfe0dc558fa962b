use Rattle.std.proofs.Common.{◌++◌, ◌∙◌, ap}
use Rattle.std.specs.Prelude.{codes}
use Rattle.json.specs.Print.{quoted}
use Rattle.star_label.specs.Files.{label_at}
use Rattle.star_report.proofs.Lines.{five}
use Rattle.star_report.proofs.graph.with_edge.Goals as goal

pub returns : goal.returns
returns c =
    let files = c.args.files.now in
    let edge = c.args.edge.now in
    five c.args.text.items (codes "  ") (quoted (label_at files c.args.n)) (codes " -> ") (quoted (label_at files edge.to)) _ _ _ _ _ _
    c.in_ok-extend_from_slice.ensures.items c.in_ok-text.ensures c.in_ok-extend_from_slice-2.ensures.items c.in_ok-text-2.ensures
    (c.in_ok-extend_from_slice-3.ensures.items ∙ ap (λ e. c.in_ok-text-2.text.items ++ e) (c.as_bytes.ensures.value ∙ c.edge_end.ensures))
