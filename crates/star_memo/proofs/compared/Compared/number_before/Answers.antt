use Rattle.std.proofs.Common.{◌≡◌, ◌<◌, Some, ap, arith, length, rules, sym, ◌∙◌}
use Rattle.star_label.specs.Files.{label_at}
use Rattle.star_label.proofs.Ordered.{one_file}
use Rattle.star_memo.proofs.compared.Compared.number_before.Goals as goal

pub returns-then-eq-clause-each : goal.returns-then-eq-clause-each
returns-then-eq-clause-each c = rw (← c.self.view_is) (λ m low e.
    let before = c.self.inside.before.now in
    let n = c.args.n in
    let inside : n < length before = omega (arith, c.len.ensures.len, c.if-n-len.true) in
    let same : label_at before n ≡ label_at c.self.inside.files.now n = search rules in
    ap Some (one_file before n m c.len.ensures.ordered inside low (same ∙ sym e)))
