use Rattle.std.proofs.Common.{◌≡◌, ◌∙◌, sym, subst}
use Rattle.star_cache.specs.State.{entry_at}
use Rattle.star_cache.specs.Step.{IsEndReply}
use Rattle.star_cache.proofs.Ask.{Tells-ended}
use Rattle.star_cache.proofs.book.Book.wake.Goals as goal

pub returns-in-Ended-clause-tells : goal.returns-in-Ended-clause-tells
returns-in-Ended-clause-tells g c = λ n waits.
    let both = sym c.in_ok-awaited.ensures.awaited.1 ∙ waits in
    let same : c.in_ok-awaited.awaited ≡ n = cc in
    Tells-ended g.P.Product.loads g.P.Product.IsGood g.P.Product.IsReached g.P.Product.IsRight g.P.Product.files c.args.self.now c.in_ok-awaited.ensures.book _ _ g.P.Product.is_good g.met.P.Product.right_good n c.in-Ended.reply
    (subst (λ v. IsEndReply g.P.Product.is_good (entry_at c.args.self.now v) c.in-Ended.reply) same (rw c.in-Ended.is at c.in_ok-reply.ensures.standing))
