use Rattle.std.proofs.Common.{◌≡◌, ◌<◌, ◌∙◌, Some, refl, ap, sym, length, arith}
use Rattle.std.specs.Prelude.{slice_index_or}
use Rattle.star_outcome.specs.Kept.{KeptView}
use Rattle.star_outcome.proofs.GoodEnds.{all_more, ends_again, in_plans, own_more, own_none}
use Rattle.star_outcome.proofs.outcome.Run.good_ends.Goals as goal

pub loop-i-init : goal.loop-i-init
loop-i-init c = record {
  same = refl;
  sized = c.in_ok-ends.ensures.sized;
  own = own_none c.args.self.now.kept c.in_ok-ends.ends.items c.in_ok-ends.ensures.none;
  all = λ k d less. absurd (let no : ⊥ = omega (arith, less) in no);
}

pub loop-i-preserved : goal.loop-i-preserved
loop-i-preserved c =
    let ks = c.args.self.now.kept in
    let it = c.module.result.now in
    let ends = c.loop-i.ends in
    let after = c.put_end.new.ends in
    let same = c.note-note.ensures.same ∙ c.loop-i.invariant.same in
    let cells = ap (λ r. length r.cells) same in
    let known : (d : KeptView) → (slice_index_or ks c.loop-i.i d).known ≡ Some it =
    λ d. ap (λ r. (slice_index_or r.kept c.loop-i.i d).known) (sym c.loop-i.invariant.same) ∙ sym (c.note-note.ensures.note d).1 ∙ c.module.ensures.known in
    let less : c.loop-i.i < length ks = omega (arith, c.len-i-end.ensures, c.loop-i-test.true) in
    let inside : it.number < length ends.items = omega (arith, ends.ok.0, c.module.ensures.file, c.requires, c.loop-i.invariant.sized, cells) in
    record {
      same = same;
      sized = c.in_ok-put_end.ensures.sized ∙ c.loop-i.invariant.sized;
      own = own_more ks ends.items after.items c.loop-i.i it less known inside c.loop-i.invariant.own c.in_ok-put_end.ensures.put;
      all = all_more ks ends.items after.items c.loop-i.i it known inside c.in_ok-put_end.ensures.put c.loop-i.invariant.all;
    }

pub returns-clause-all : goal.returns-clause-all
returns-clause-all c = λ k d less. c.loop-i.invariant.all k d (omega (arith, less, c.len-i-end.ensures, c.loop-i-test.false))

pub returns-clause-plans : goal.returns-clause-plans
returns-clause-plans c = in_plans c.args.self.now.kept c.loop-i.ends.items c.loop-i.invariant.own

pub returns-clause-again : goal.returns-clause-again
returns-clause-again c = ends_again c.args.self.now.kept c.loop-i.ends.items c.loop-i.invariant.own
