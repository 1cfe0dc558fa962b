use Rattle.std.proofs.Common.{◌≡◌, ◌-◌, ◌∙◌, ap, take, arith}
use Rattle.star_strings.proofs.Runs.{end_gone}
use Rattle.star_strings.proofs.words.without_end.Goals as goal

pub returns : goal.returns
returns c =
    let w = rw c.as_bytes.ensures.value at c.space_start-at.ensures.within in
    let i = rw c.as_bytes.ensures.value at c.space_start-at.ensures.inside in
    let e = rw c.as_bytes.ensures.value at c.space_start-at.ensures.end in
    let z : c.space_start-at.result - 0 ≡ c.space_start-at.result = omega arith in
    c.range.ensures.value ∙ ap (λ n. take n c.args.text.now) z ∙ end_gone c.args.text.now c.space_start-at.result w i e
