use Rattle.std.proofs.Common.{sym, subst}
use Rattle.star_needs.specs.Ends.{AreLoadsUnder}
use Rattle.star_memo.proofs.EndsLast.{end_loads, lasts_by}
use Rattle.star_memo.proofs.lasting.Change.lasts.Goals as goal

pub share_all-requires-clause-loads : goal.share_all-requires-clause-loads
share_all-requires-clause-loads c =
    subst (AreLoadsUnder c.args.self.now.compared.now.files c.args.self.now.terms.now.prelude c.args.self.now.terms.now.mode c.args.n) (sym c.deref.ensures.value)
    (end_loads c.args.self.now c.requires.change c.args.n c.in-Some.end.now (c.has_text.ensures.text c.if-not-has_text.false) c.in-Some.ensures)

pub returns-in-Some : goal.returns-in-Some
returns-in-Some c = λ h.
    let text = c.has_text.ensures.text c.if-not-has_text.false in
    let loads = subst (AreLoadsUnder c.args.self.now.compared.now.files c.args.self.now.terms.now.prelude c.args.self.now.terms.now.mode c.args.n) (sym c.deref.ensures.value) (end_loads c.args.self.now c.requires.change c.args.n c.in-Some.end.now text c.in-Some.ensures) in
    lasts_by c.args.self.now c.requires.change c.args.marks.now c.args.n c.deref.result.now text loads (c.share_all.ensures h)
