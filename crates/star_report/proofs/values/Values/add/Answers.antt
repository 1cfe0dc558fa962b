use Rattle.std.proofs.Common.{subst}
use Rattle.star_report.specs.Texts.{IsTextFor}
use Rattle.star_report.proofs.Members.{texts_some}
use Rattle.star_report.proofs.values.Values.add.Goals as goal

pub returns-in_ok-insert-in-Some-clause-values : goal.returns-in_ok-insert-in-Some-clause-values
returns-in_ok-insert-in-Some-clause-values c = λ d ms is are.
    texts_some c.args.name c.in-Some.json d c.args.self.now.values.entries c.insert.new.self.entries ms (subst (IsTextFor d) c.in-Some.is is) are c.in_ok-insert-in-Some.ensures.entries
