use Rattle.std.proofs.Common.{◌≡◌, ◌<◌, ◌∙◌, Some, ap, sym, length, arith}
use Rattle.std.specs.Prelude.{slice_index_or}
use Rattle.star_outcome.specs.Kept.{KeptView}
use Rattle.star_report.proofs.Goods.{not_all, one_more}
use Rattle.star_report.proofs.report.all_good.Goals as goal

pub returns-then-not-is_good-clause-bad : goal.returns-then-not-is_good-clause-bad
returns-then-not-is_good-clause-bad c =
    let known : (d : KeptView) → (slice_index_or c.args.run.now.kept c.loop-i.i d).known ≡ Some c.module.result.now =
    λ d. ap (λ r. (slice_index_or r.kept c.loop-i.i d).known) (sym c.loop-i.invariant.same) ∙ sym (c.note-note.ensures.note d).1 ∙ c.module.ensures.known in
    let less : c.loop-i.i < length c.args.run.now.kept = omega (arith, c.len-i-end.ensures, c.loop-i-test.true) in
    λ _ all. not_all c.args.run.now.kept c.loop-i.i c.module.result.now less known (sym c.is_good.ensures ∙ c.if-not-is_good.true) all

pub loop-i-preserved : goal.loop-i-preserved
loop-i-preserved c =
    let known : (d : KeptView) → (slice_index_or c.args.run.now.kept c.loop-i.i d).known ≡ Some c.module.result.now =
    λ d. ap (λ r. (slice_index_or r.kept c.loop-i.i d).known) (sym c.loop-i.invariant.same) ∙ sym (c.note-note.ensures.note d).1 ∙ c.module.ensures.known in
    record {
      same = c.note-note.ensures.same ∙ c.loop-i.invariant.same;
      good = one_more c.args.run.now.kept c.loop-i.i c.module.result.now c.loop-i.invariant.good known (sym c.is_good.ensures ∙ c.if-not-is_good.false);
    }
