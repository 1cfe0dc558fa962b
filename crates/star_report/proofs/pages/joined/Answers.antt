use Rattle.std.proofs.Common.{rules, ◌≡◌, ◌<◌, ◌+◌, ◌∙◌, ◌++◌, ◌∷◌, [], arith, ap, sym, subst, length, take, IsSome}
use Rattle.std.specs.Prelude.{slice_index_or}
use Rattle.std.proofs.lemmas.List.{take_more}
use Rattle.std.proofs.lemmas.List.Elements.{All-more}
use Rattle.star_report.specs.Pages.{page_text, shown_texts_of}
use Rattle.star_report.specs.declared.pages.Page.{Page}
use Rattle.star_report.proofs.Sheets.{SoFar, page_more, shown_push}
use Rattle.star_report.proofs.pages.joined.Goals as goal

pub loop-i-preserved : goal.loop-i-preserved
loop-i-preserved c =
    let ps = c.args.pages.now in
    let i = c.loop-i.i in
    let p : Page = c.index-pages-i.result in
    let less : i < length ps = omega (arith, c.loop-i-test.true, c.loop-i.auto.i-end) in
    let at : slice_index_or ps i p ≡ p = search rules in
    let first : take (i + 1) ps ≡ take i ps ++ p ∷ [] = take_more ps i p less ∙ ap (λ x. take i ps ++ x ∷ []) at in
    record {
      written = All-more (λ (q : Page). IsSome q.text) ps i p less c.loop-i.invariant.written (subst (λ (q : Page). IsSome q.text) (sym at) c.in_ok-later.ensures.written);
      so_far = subst (λ ts. SoFar c.reserve.new.self.items ts c.in_ok-later.later c.push_page.new.all.items) (sym (ap shown_texts_of first ∙ shown_push (take i ps) p))
          (page_more c.reserve.new.self.items (shown_texts_of (take i ps)) (page_text p) c.loop-i.all.items c.push_page.new.all.items c.loop-i.later c.in_ok-later.later p.shown c.loop-i.invariant.so_far c.in_ok-later.ensures.later c.in_ok-later.ensures.text);
    }
