use Rattle.std.proofs.Common.{rules, ◌≡◌, ◌∷◌, []}
use Rattle.json.specs.Token.{key}
use Rattle.star_report.proofs.Members.{keyed}
use Rattle.star_report.proofs.more.key_text.Goals as goal

pub returns : goal.returns
returns c =
    let was : c.key.new.self.before ≡ [] = search rules in
    let sent : c.key.new.self.tokens ≡ key c.args.name.now ∷ [] = search rules in
    keyed [] c.into_inner.result.items c.key.new.self.before c.key.new.self.tokens c.args.name.now c.into_inner.ensures.items was sent
