use Rattle.std.proofs.Common.{◌≡◌, Some, slice_get, sym, subst, ◌∙◌, ap}
use Rattle.std.specs.List.{list_all}
use Rattle.star_memo.specs.Outcomes.{is_marked}
use Rattle.star_memo.proofs.Staying.{in_place}
use Rattle.star_memo.proofs.outcomes.Outcomes.stays.Goals as goal

pub returns-in-Some-Some : goal.returns-in-Some-Some
returns-in-Some-Some c = λ m.
    let look = c.in-Some-Some.ensures.lookup in
    record {
      text = c.has_text.ensures.text c.if-not-has_text.false;
      end = c.in-Some-Some.end;
      kept = subst (λ xs. slice_get xs c.args.n ≡ Some (Some c.in-Some-Some.end)) c.deref.ensures.value (in_place c.deref.result.now c.args.n _ c.in-Some-Some.end look.3.0 (sym look.1 ∙ c.in-Some-Some.field-0-is));
      loads = sym (ap (list_all (is_marked c.args.marks.now)) c.deref-in-Some-Some.ensures.value) ∙ sym c.are_marked.ensures ∙ m;
    }
