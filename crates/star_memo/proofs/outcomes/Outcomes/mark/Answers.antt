use Rattle.std.proofs.Common.{subst}
use Rattle.star_memo.specs.Outcomes.{IsStaying}
use Rattle.star_memo.proofs.Staying.{one_marked}
use Rattle.star_memo.proofs.outcomes.Outcomes.mark.Goals as goal

pub returns-then-stays : goal.returns-then-stays
returns-then-stays c =
    one_marked c.args.compared.now.before c.args.compared.now.files c.args.self.now.all.items _ c.args.n c.requires
    (subst (λ ms. IsStaying c.args.compared.now.before c.args.compared.now.files c.args.self.now.all.items ms c.args.n) c.deref.ensures.value (c.stays.ensures c.if-stays.true))
