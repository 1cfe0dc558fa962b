use Rattle.std.proofs.Common.{◌++◌, ap, sym, ◌∙◌}
use Rattle.star_builtin.proofs.Loops.{joined_end}
use Rattle.star_builtin.proofs.print.push_texts.Goals as goal

pub loop-text-preserved : goal.loop-text-preserved
loop-text-preserved c =
    c.in_ok-put_draft.ensures ∙ ap (λ t. t ++ c.in-Some.text) (c.in_ok-put.ensures ∙ ap (λ t. t ++ c.args.by.now) c.loop-text.invariant) ∙ sym (joined_end c.args.by.now c.args.line.now c.in-Some.text c.loop-text.yielded)
