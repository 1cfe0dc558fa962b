use Rattle.std.proofs.Common.{◌≡◌, ◌∙◌, string_bytes, subst, sym}
use Rattle.star_words.specs.Excluded.{LeavesOut}
use Rattle.star_words.proofs.Members.{in_map, item_in}
use Rattle.star_words.proofs.Patterns.{none_more}
use Rattle.star_words.proofs.exclude.one_leaves_out.Goals as goal

pub returns-then-leaves_out-clause-yes : goal.returns-then-leaves_out-clause-yes
returns-then-leaves_out-clause-yes c = λ _ path e.
    let item = c.pattern-item.result in
    let same : c.as_bytes.result.now ≡ string_bytes item = c.as_bytes.ensures.value ∙ c.as_str.ensures.value in (
      string_bytes item,
      in_map string_bytes c.args.patterns.now item (item_in c.args.patterns.now c.loop-pattern.pattern-index item c.loop-pattern-test.true c.pattern-item.is),
      subst (LeavesOut c.args.kind path c.args.name.now) same (c.leaves_out.ensures.yes c.if-leaves_out.true path e),
    )

pub loop-pattern-preserved : goal.loop-pattern-preserved
loop-pattern-preserved c = λ path e.
    let item = c.pattern-item.result in
    let same : c.as_bytes.result.now ≡ string_bytes item = c.as_bytes.ensures.value ∙ c.as_str.ensures.value in
    let left = LeavesOut c.args.kind path c.args.name.now in
    none_more left c.args.patterns.now c.loop-pattern.pattern-index item c.loop-pattern-test.true c.pattern-item.is (c.loop-pattern.invariant path e)
    (λ h. c.leaves_out.ensures.no c.if-leaves_out.false path e (subst left (sym same) h))
