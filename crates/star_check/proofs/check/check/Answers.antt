use Rattle.std.proofs.Common.{ap, map, subst, sym, ◌∙◌}
use Rattle.star_check.specs.Check.{IsCheck}
use Rattle.star_check.specs.Judged.{judged_view}
use Rattle.star_check.specs.Text.{check_text}
use Rattle.star_check.proofs.Shown.{answer_is}
use Rattle.star_check.proofs.check.check.Goals as goal

pub returns : goal.returns
returns c = λ plan planned read of_roots.
    let files = c.args.files.now in
    let told = c.as_slice-told.result.now in
    let check : IsCheck plan (map judged_view told) = subst (λ js. IsCheck plan (map judged_view js)) (sym c.as_slice-told.ensures.value) (c.in_ok-judged.ensures.check files plan planned read) in (
      (map judged_view told, check, c.in_ok-text.ensures ∙ ap (λ rs. check_text c.args.only_roots c.args.calls files rs (map judged_view told)) (sym of_roots)),
      answer_is plan told c.are_unrun-all_ok.result check c.are_unrun-all_ok.ensures.yes c.are_unrun-all_ok.ensures.no,
    )
