use Rattle.std.proofs.Common.{subst}
use Rattle.star_memo.specs.Parses.{IsParse}
use Rattle.star_label.specs.Files.{text_at}
use Rattle.star_reading.proofs.PlacesRead.{all_push}
use Rattle.star_memo.proofs.ahead.Parser.parse_into.Goals as goal

pub returns : goal.returns
returns c = λ all.
    let files = c.args.self.now.files.now in
    let is = subst (λ text. IsParse text c.in_ok-parse.parse) c.text.ensures c.in_ok-parse.ensures in
    rw c.in_ok-push.ensures.items (all_push (λ p. IsParse (text_at files p.0) p.1) c.args.made.now.items (c.args.n, c.in_ok-parse.parse) all is)
