use Rattle.std.proofs.Common.{◌≡◌, ◌++◌, ap, codes, ◌∙◌}
use Rattle.star_meaning.specs.Texts.{joined}
use Rattle.star_builtin.proofs.RecordedCalls.{all_after}
use Rattle.star_builtin.proofs.recorded.inputs_text.Goals as goal

pub returns : goal.returns
returns c =
    let front = codes "\"args\":[" in
    let middle = codes "],\"kwargs\":{" in
    let args = joined (codes ",") c.args.args.items in
    let given = c.in_ok-listed.listed in
    let named = c.in_ok-named.named in
    c.in_ok-say-3.ensures
    ∙ ap (λ t. t ++ codes "}") (c.in_ok-put_draft-2.ensures
    ∙ ap (λ t. t ++ named) (c.in_ok-say-2.ensures
    ∙ ap (λ t. t ++ middle) (c.in_ok-put_draft.ensures ∙ ap (λ t. t ++ given) (c.in_ok-say.ensures ∙ ap (λ t. t ++ front) c.new-made.ensures))))
    ∙ all_after front given middle named (codes "}")
    ∙ ap (λ t. front ++ (t ++ (middle ++ (named ++ codes "}")))) (c.in_ok-listed.ensures ∙ ap (λ s. joined s c.args.args.items) c.in_ok-comma.ensures)
    ∙ ap (λ t. front ++ (args ++ (middle ++ (t ++ codes "}")))) (c.in_ok-named.ensures ∙ ap (λ s. joined s c.args.kwargs.items) c.in_ok-comma.ensures)
