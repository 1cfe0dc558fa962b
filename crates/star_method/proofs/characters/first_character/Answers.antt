use Rattle.std.proofs.Common.{◌≡◌, ◌∷◌, ◌+◌, ◌-◌, ◌<◌, ap, ◌∙◌, length, take, drop, length-drop, rules, arith}
use Rattle.star_meaning.specs.Texts.{characters}
use Rattle.star_method.proofs.OneByOne.{first_is, rest_whole}
use Rattle.star_method.proofs.characters.first_character.Goals as goal

pub returns : goal.returns
returns c =
    let l : 0 < length c.args.text.now = search rules in
    let h = rw (c.as_bytes.ensures.value, rest_whole c.args.text.now) at c.inner_bytes-end.ensures.inside in
    let e = rw (c.as_bytes.ensures.value, rest_whole c.args.text.now) at c.inner_bytes-end.ensures.end in
    let q = first_is c.args.text.now c.inner_bytes-end.result l h e in
    let z : c.inner_bytes-end.result + 1 ≡ c.inner_bytes-end.result + 1 - 0 = omega arith in
    rw (c.range.ensures.value, c.range_from.ensures.value) (q ∙ ap (λ n. take n c.args.text.now ∷ characters (drop (c.inner_bytes-end.result + 1) c.args.text.now)) z, simp length-drop (omega arith))
