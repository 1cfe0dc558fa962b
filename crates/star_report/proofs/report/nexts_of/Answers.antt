use Rattle.std.proofs.Common.{◌≡◌, ◌<◌, ◌∙◌, ℕ, All, Some, ap, sym, subst, length, arith}
use Rattle.std.specs.Prelude.{slice_index_or}
use Rattle.star_outcome.specs.Kept.{KeptView}
use Rattle.star_report.proofs.Fails.{below_more, fails_all, fails_more, next_below}
use Rattle.star_report.proofs.Shows.{number_at, own_module}
use Rattle.star_report.proofs.report.nexts_of.Goals as goal

pub loop-i-preserved : goal.loop-i-preserved
loop-i-preserved c =
    let ks = c.args.run.now.kept in
    let it = c.module-module.result.now in
    let nexts = c.loop-i.nexts in
    let o = c.next_of.result in
    let same = c.note-note.ensures.same ∙ c.loop-i.invariant.same in
    let cells = ap (λ r. length r.cells) same in
    let known : (d : KeptView) → (slice_index_or ks c.loop-i.i d).known ≡ Some it =
    λ d. ap (λ r. (slice_index_or r.kept c.loop-i.i d).known) (sym c.loop-i.invariant.same) ∙ sym (c.note-note.ensures.note d).1 ∙ c.module-module.ensures.known in
    let less : c.loop-i.i < length ks = omega (arith, c.len-i-end.ensures, c.loop-i-test.true) in
    let inside : it.number < length nexts.items = omega (arith, nexts.ok.0, c.module-module.ensures.file, c.requires, c.loop-i.invariant.sized, cells) in
    let loads : All (λ k. k < c.args.files) it.loads.items = subst (λ (n : ℕ). All (λ k. k < n) it.loads.items) (cells ∙ sym c.requires) c.module-module.ensures.sound.loads in
    record {
      same = same;
      sized = c.loop-i.invariant.sized;
      fit = below_more c.args.files nexts.items it.number o inside (next_below c.args.files it.loads.items o loads c.next_of.ensures.within) c.loop-i.invariant.fit;
      fails = λ plan are. fails_more plan ks c.loop-i.i it.number nexts.items o (number_at plan ks c.loop-i.i it less known are) inside (λ m. c.next_of.ensures.fails plan it.number m (own_module plan ks c.loop-i.i it less known are)) (c.loop-i.invariant.fails plan are);
    }

pub returns-clause-fails : goal.returns-clause-fails
returns-clause-fails c =
    let count = c.len-i-end.ensures in
    fails_all c.args.run.now.kept c.loop-i.i c.loop-i.nexts.items (omega (arith, count, c.loop-i-test.false, c.loop-i.auto.i-end)) c.loop-i.invariant.fails
