use Rattle.std.proofs.Common.{◌≡◌, Some, slice_get, sym, length, subst, ◌∙◌, arith}
use Rattle.std.specs.Prelude.{IfSome}
use Rattle.star_reading.specs.Found.{IsMarked}
use Rattle.star_reading.proofs.Finds.{by_cases, same_or_not}
use Rattle.star_memo.proofs.Rows.{last_or}
use Rattle.star_memo.proofs.outcomes.Outcomes.take_others.Goals as goal

pub loop-n-preserved : goal.loop-n-preserved
loop-n-preserved c =
    let inv = c.loop-n.invariant in
    let n = c.loop-n.n in
    let old = c.loop-n.self.all.items in
    let long : length c.loop-n.taken.items ≡ n = omega (arith, c.loop-n.taken.ok.0, inv.count) in
    record {
      sized = c.take_other-end.ensures.sized ∙ inv.sized;
      terms = inv.terms;
      before = λ k e at. inv.before k e (c.take_other-end.ensures.left k e at);
      marked = λ k e at less. by_cases (same_or_not k n)
          (λ same. subst (λ i. IsMarked c.args.marks.now i) (sym same) (c.take_other-end.ensures.marked e (subst (λ i. slice_get c.take_other-end.new.ends.items i ≡ Some (Some e)) same at)))
          (λ other. inv.marked k e (c.take_other-end.ensures.left k e at) (omega (arith, less, other)));
      count = omega (arith, c.in_ok-push.ensures.len, inv.count);
      taken = λ k e at. by_cases (last_or c.loop-n.taken.items c.take_other-end.result k e (subst (λ xs. slice_get xs k ≡ Some (Some e)) c.in_ok-push.ensures.items at))
          (λ h. inv.taken k e h)
          (λ h. inv.before k e (subst (λ i. slice_get old i ≡ Some (Some e)) (sym (h.0 ∙ long)) (subst (λ o. IfSome o (λ x. slice_get old n ≡ Some (Some x))) h.1 c.take_other-end.ensures.taken)));
    }
