use Rattle.std.proofs.Common.{subst}
use Rattle.star_memo.specs.Lasting.{LastsOver}
use Rattle.star_memo.proofs.EndsLast.{one_lasts}
use Rattle.star_memo.proofs.lasting.Change.mark.Goals as goal

pub returns-then-lasts : goal.returns-then-lasts
returns-then-lasts c =
    let self = c.args.self.now in
    one_lasts self.compared.now.before self.compared.now.files self.terms.now.prelude self.terms.now.mode c.args.marks.now.items c.args.n c.requires.last
    (subst (λ ms. LastsOver self ms c.args.n) c.deref.ensures.value (c.lasts.ensures c.if-lasts.true))
