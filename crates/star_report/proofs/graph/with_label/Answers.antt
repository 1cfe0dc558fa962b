use Rattle.std.proofs.Common.{rules, ◌≡◌, ◌∷◌, [], ◌∙◌}
use Rattle.json.specs.Token.{string}
use Rattle.star_label.specs.Files.{label_at}
use Rattle.star_report.proofs.Lines.{labelled}
use Rattle.star_report.proofs.graph.with_label.Goals as goal

pub returns : goal.returns
returns c =
    let was : c.string.new.self.before ≡ c.args.text.items = search rules in
    let sent : c.string.new.self.tokens ≡ string c.text.result.now ∷ [] = search rules in
    labelled c.args.text.items c.into_inner.result.items c.string.new.self.before c.string.new.self.tokens c.text.result.now (label_at c.args.files.now c.args.n) c.into_inner.ensures.items was sent (c.text.ensures ∙ c.label.ensures)
