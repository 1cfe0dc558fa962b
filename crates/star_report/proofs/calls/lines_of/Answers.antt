use Rattle.std.proofs.Common.{rules, ◌≡◌, ◌<◌, ℕ, true, false, arith, get_or, length, refl, subst, sym}
use Rattle.std.proofs.lemmas.List.{get_or_default}
use Rattle.star_report.specs.Calls.{AddsRoot, AreCalls, IsFirstNotOk}
use Rattle.star_report.proofs.CallRows.{all_roots, first_failed, root_next}
use Rattle.star_report.proofs.Gets.{root_reached}
use Rattle.star_report.proofs.calls.lines_of.Goals as goal

pub returns-then-not-branch-clause-got : goal.returns-then-not-branch-clause-got
returns-then-not-branch-clause-got c = λ files plan planned size is roots.
    let all = c.args.roots.now in
    let i = c.loop-root.root-index in
    let n : ℕ = get_or all i 0 in
    let less : i < length all = omega (arith, c.loop-root-test.true) in
    let at : (d : ℕ) → get_or all i d ≡ n = λ d. get_or_default all i d 0 less in
    let lacks : c.in_ok-root_is_added.field-0 ≡ false = search rules in
    let added = c.in_ok-root_is_added.ensures files plan planned size is (root_reached plan all i n roots less at) in
    let failed : AddsRoot c.args.files.now plan c.args.name.now n c.loop-root.lines.items c.root_is_added.new.text.items false =
    subst (AddsRoot c.args.files.now plan c.args.name.now n c.loop-root.lines.items c.root_is_added.new.text.items) lacks added in (
      refl,
      subst (λ ns. IsFirstNotOk c.args.files.now plan c.args.name.now ns n) (sym roots)
          (first_failed c.args.files.now plan c.args.name.now all i n c.loop-root.lines.items c.root_is_added.new.text.items less at failed (c.loop-root.invariant files plan planned size is roots)),
    )

pub loop-root-preserved : goal.loop-root-preserved
loop-root-preserved c = λ files plan planned size is roots.
    let all = c.args.roots.now in
    let i = c.loop-root.root-index in
    let n : ℕ = get_or all i 0 in
    let less : i < length all = omega (arith, c.loop-root-test.true) in
    let at : (d : ℕ) → get_or all i d ≡ n = λ d. get_or_default all i d 0 less in
    let has : c.in_ok-root_is_added.field-0 ≡ true = search rules in
    let added = c.in_ok-root_is_added.ensures files plan planned size is (root_reached plan all i n roots less at) in
    let more : AddsRoot c.args.files.now plan c.args.name.now n c.loop-root.lines.items c.root_is_added.new.text.items true =
    subst (AddsRoot c.args.files.now plan c.args.name.now n c.loop-root.lines.items c.root_is_added.new.text.items) has added in
    root_next c.args.files.now plan c.args.name.now all i n c.loop-root.lines.items c.root_is_added.new.text.items less at more (c.loop-root.invariant files plan planned size is roots)

pub returns-clause-got : goal.returns-clause-got
returns-clause-got c = λ files plan planned size is roots.
    let all = c.args.roots.now in
    let end : c.loop-root.root-index ≡ length all = omega (arith, c.loop-root-test.false, c.loop-root.auto.root-index-end) in
    subst (λ ns. AreCalls c.args.files.now plan c.args.name.now ns c.loop-root.lines.items) (sym roots)
    (all_roots c.args.files.now plan c.args.name.now all c.loop-root.root-index c.loop-root.lines.items end (c.loop-root.invariant files plan planned size is roots))
