use Rattle.std.proofs.Common.{◌≡◌, ◌<◌, ◌++◌, ◌∷◌, [], ◌∙◌, ℕ, Global, Ok, Err, ap, get_or, length, arith, sym, subst}
use Rattle.std.proofs.lemmas.List.{get_or_default}
use Rattle.star_report.specs.Gets.{HasJson}
use Rattle.star_report.specs.Got.{IsFirstLack}
use Rattle.star_report.proofs.Gets.{SoFar, all_lines, first_lack, line_more, root_reached}
use Rattle.star_report.proofs.got.lines_of.Goals as goal

pub returns-in-Err-clause-got : goal.returns-in-Err-clause-got
returns-in-Err-clause-got c = λ files plan planned size is roots.
    let all = c.args.roots.now in
    let i = c.loop-root.root-index in
    let n : ℕ = get_or all i 0 in
    let less : i < length all = omega (arith, c.loop-root-test.true) in
    let at : (d : ℕ) → get_or all i d ≡ n = λ d. get_or_default all i d 0 less in
    let json = c.in_ok-json.ensures files plan planned size is (root_reached plan all i n roots less at) in
    let lack : HasJson plan c.args.name.now n (Err c.in-Err.why) = subst (HasJson plan c.args.name.now n) c.in-Err.is json in
    subst (λ ns. IsFirstLack plan c.args.name.now ns n c.in-Err.why) (sym roots)
    (first_lack Global plan c.args.name.now all i n c.in-Err.why c.loop-root.lines.items less at lack (c.loop-root.invariant files plan planned size is roots))

pub loop-root-preserved : goal.loop-root-preserved
loop-root-preserved c = λ files plan planned size is roots.
    let all = c.args.roots.now in
    let i = c.loop-root.root-index in
    let less : i < length all = omega (arith, c.loop-root-test.true) in
    let n : ℕ = get_or all i 0 in
    let at : (d : ℕ) → get_or all i d ≡ n = λ d. get_or_default all i d 0 less in
    let json = c.in_ok-json.ensures files plan planned size is (root_reached plan all i n roots less at) in
    let own : HasJson plan c.args.name.now n (Ok c.in-Ok.json) = subst (HasJson plan c.args.name.now n) c.in-Ok.is json in
    let more : c.push.new.self.items ≡ (c.loop-root.lines.items ++ c.in-Ok.json.items) ++ 10 ∷ [] =
    c.in_ok-push-in-Ok.ensures.items ∙ ap (λ t. t ++ 10 ∷ []) (c.in_ok-extend_from_slice-in-Ok.ensures.items ∙ ap (λ t. c.loop-root.lines.items ++ t) c.as_slice.ensures.value) in
    line_more plan c.args.name.now all i n c.in-Ok.json c.loop-root.lines.items c.push.new.self.items less at own more (c.loop-root.invariant files plan planned size is roots)

pub returns-clause-got : goal.returns-clause-got
returns-clause-got c = λ files plan planned size is roots.
    let all = c.args.roots.now in
    let end : c.loop-root.root-index ≡ length all = omega (arith, c.loop-root-test.false, c.loop-root.auto.root-index-end) in
    subst (λ ns. SoFar plan c.args.name.now ns c.loop-root.lines.items) (sym roots)
    (all_lines plan c.args.name.now all c.loop-root.root-index c.loop-root.lines.items end (c.loop-root.invariant files plan planned size is roots))
