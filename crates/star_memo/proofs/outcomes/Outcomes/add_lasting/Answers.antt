use Rattle.std.proofs.Common.{◌≡◌, Some, slice_get, ap, subst, sym, ◌∙◌}
use Rattle.std.specs.Prelude.{vec_len}
use Rattle.star_memo.proofs.EndsLast.{all_now, more_stale}
use Rattle.star_memo.proofs.outcomes.Outcomes.add_lasting.Goals as goal
use Rattle.star_memo.proofs.outcomes.Outcomes.add_lasting.Goals.{then-is_marked, else-is_marked}

pub loop-n-preserved : goal.loop-n-preserved
loop-n-preserved c =
    let so_far = c.loop-n.invariant in
    elim c.if-is_marked.branch [
      | then-is_marked w ↦ record {
        sized = ap vec_len w.former-is ∙ (w.take_stale-end.ensures.sized ∙ so_far.sized);
        terms = ap (λ s. s.terms) w.self-is ∙ so_far.terms;
        rest = λ k e at. so_far.rest k e (w.take_stale-end.ensures.left k e (subst (λ f. slice_get f.items k ≡ Some (Some e)) w.former-is at));
        all = λ k e at. more_stale c.args.marks.now c.args.former.now.items c.loop-n.former.items c.args.self.now.all.items c.loop-n.self.all.items w.fill.new.ends.items c.loop-n.n w.take_stale-end.result (sym c.is_marked.ensures ∙ w.if-is_marked.true) so_far.rest w.take_stale-end.ensures.taken so_far.all w.fill.ensures k e
            (subst (λ s. slice_get s.all.items k ≡ Some (Some e)) w.self-is at);
      }
      | else-is_marked w ↦ record {
        sized = ap vec_len w.former-is ∙ so_far.sized;
        terms = ap (λ s. s.terms) w.self-is ∙ so_far.terms;
        rest = λ k e at. so_far.rest k e (subst (λ f. slice_get f.items k ≡ Some (Some e)) w.former-is at);
        all = λ k e at. so_far.all k e (subst (λ s. slice_get s.all.items k ≡ Some (Some e)) w.self-is at);
      }
    ]

pub returns-clause-all : goal.returns-clause-all
returns-clause-all c = λ before files alike are now last first.
    all_now c.kept_results_stay.ensures before files c.args.self.now.terms.prelude c.args.self.now.terms.mode c.args.marks.now c.args.former.now.items c.args.self.now.all.items c.loop-n.self.all.items c.loop-n.invariant.all alike are now last first
