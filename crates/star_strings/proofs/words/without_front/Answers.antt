use Rattle.std.proofs.Common.{◌∙◌}
use Rattle.star_strings.proofs.Runs.{after_spaces, front_gone}
use Rattle.star_strings.proofs.words.without_front.Goals as goal

pub range_from-requires : goal.range_from-requires
range_from-requires c =
    let w = rw c.as_bytes.ensures.value at c.spaces-at.ensures.within in
    let i = rw c.as_bytes.ensures.value at c.spaces-at.ensures.inside in
    λ p. after_spaces c.args.text.now c.spaces-at.result c.utf8.text w i

pub returns : goal.returns
returns c =
    let w = rw c.as_bytes.ensures.value at c.spaces-at.ensures.within in
    let i = rw c.as_bytes.ensures.value at c.spaces-at.ensures.inside in
    let e = rw c.as_bytes.ensures.value at c.spaces-at.ensures.end in
    c.range_from.ensures.value ∙ front_gone c.args.text.now c.spaces-at.result w i e
