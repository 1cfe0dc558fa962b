use Rattle.star_method.proofs.OneByOne.{last_boundary}
use Rattle.star_method.proofs.characters.last_character.Goals as goal

pub range-requires-clause-end_boundary : goal.range-requires-clause-end_boundary
range-requires-clause-end_boundary c =
    let w = rw c.as_bytes.ensures.value at c.last_start-start.ensures.within in
    let s = rw c.as_bytes.ensures.value at c.last_start-start.ensures.start in
    last_boundary c.args.text.now c.last_start-start.result c.utf8.text w s
