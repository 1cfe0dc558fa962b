use Rattle.std.proofs.Common.{map}
use Rattle.serde_json.specs.View.{view}
use Rattle.star_label.specs.View.{text_of}
use Rattle.star_graph.proofs.Plain.{text_is}
use Rattle.star_graph.proofs.line.line_of.Goals as goal

pub returns : goal.returns
returns c =
    text_is (text_of c.args.label.now) c.args.text.now (map text_of c.args.loads.now) (view c.in_ok-value.value) c.in_ok-line.line.items c.push.new.self.items
    c.in_ok-value.ensures c.in_ok-line.ensures.text c.in_ok-push.ensures.items
