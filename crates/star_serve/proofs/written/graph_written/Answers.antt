use Rattle.std.proofs.Common.{◌≡◌, ◌∙◌, sym, subst}
use Rattle.star_outcome.specs.Kept.{AllGood}
use Rattle.star_reading.specs.Found.{IsReadOf}
use Rattle.star_report.specs.Graph.{IsGraphText}
use Rattle.star_serve.proofs.WrittenTexts.{answer_of}
use Rattle.star_serve.proofs.written.graph_written.Goals as goal

pub returns-clause-text : goal.returns-clause-text
returns-clause-text c = λ roots plan of.
    let run = c.args.run.now in
    let files = c.args.files.now in
    let same = c.in_ok-text.ensures.same in
    let read = subst (λ rs. IsReadOf files rs plan.prelude plan.mode.language c.args.reads.now.all.items) (sym of.roots_are) of.read in
    let graph = c.in_ok-text.ensures.text plan of.planned read of.modules in (
      subst (IsGraphText files plan) (sym c.with_answer.ensures.text) graph,
      answer_of plan run.kept c.with_answer.result.all_ok of.modules (λ e. subst (λ r. AllGood r.kept) same (c.with_answer.ensures.good e)) (λ e all. c.with_answer.ensures.bad e (subst (λ r. AllGood r.kept) (sym same) all)),
    )
