use Rattle.std.proofs.Common.{rules, ◌≡◌, ◌∙◌, ◌++◌, ap}
use Rattle.star_report.proofs.more.with_key.Goals as goal

pub returns : goal.returns
returns c =
    let last : c.extend_from_slice.new.self.items ≡ c.args.text.items ++ c.in_ok-named.named.items = search rules in
    last ∙ ap (λ t. c.args.text.items ++ t) c.in_ok-named.ensures
