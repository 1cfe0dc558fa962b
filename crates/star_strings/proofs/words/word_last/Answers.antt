use Rattle.star_strings.proofs.Runs.{after_space}
use Rattle.star_strings.proofs.words.word_last.Goals as goal

pub range-requires-clause-end_boundary : goal.range-requires-clause-end_boundary
range-requires-clause-end_boundary c =
    let w = rw c.as_bytes.ensures.value at c.word_start-start.ensures.within in
    let e = rw c.as_bytes.ensures.value at c.word_start-start.ensures.end in
    after_space c.args.text.now c.word_start-start.result c.utf8.text w e

pub range_from-requires : goal.range_from-requires
range_from-requires c =
    let w = rw c.as_bytes.ensures.value at c.word_start-start.ensures.within in
    let e = rw c.as_bytes.ensures.value at c.word_start-start.ensures.end in
    λ p. after_space c.args.text.now c.word_start-start.result c.utf8.text w e
