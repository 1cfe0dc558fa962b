use Rattle.std.proofs.Common.{◌++◌, sym, ◌∙◌, ap, append_assoc, append-nil, drop}
use Rattle.std.proofs.lemmas.List.{take_rest}
use Rattle.star_lex.specs.Values.{meant, decoded}
use Rattle.star_lex.proofs.Parts.{decoded_none, decoded_some}
use Rattle.star_lex.proofs.value.decoded.Goals as goal

pub parts-preserved : goal.parts-preserved
parts-preserved c =
    let q = c.args.quoting in
    let rest = c.parts.rest.now in
    let size = c.in-Some.size in
    let bytes = meant c.in-Some.meaning in
    let s = decoded_some q rest (size, c.in-Some.meaning) (sym c.part.ensures.value ∙ c.in-Some.is) c.in-Some.ensures.within.0 in
    let a = append_assoc c.parts.out.items bytes (decoded q (drop size rest)) in
    rw (take_rest rest size) (c.parts.invariant ∙ ap (λ t. c.parts.out.items ++ t) s ∙ sym a ∙ ap (λ t. t ++ decoded q (drop size rest)) (sym c.in_ok-push_meant-in-Some.ensures))

pub returns-in-None : goal.returns-in-None
returns-in-None c =
    let n = decoded_none c.args.quoting c.parts.rest.now (sym c.part.ensures.value ∙ c.in-None.is) in
    sym (c.parts.invariant ∙ ap (λ t. c.parts.out.items ++ t) n ∙ append-nil c.parts.out.items)
