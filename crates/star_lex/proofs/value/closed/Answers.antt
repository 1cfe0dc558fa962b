use Rattle.std.proofs.Common.{◌≡◌, ◌+◌, ◌-◌, length, sym, ◌∙◌, ap, arith, drop, length-drop}
use Rattle.std.proofs.lemmas.List.{take_rest}
use Rattle.star_lex.specs.Values.{more, closed}
use Rattle.star_lex.proofs.Parts.{closed_later, more_more}
use Rattle.star_lex.proofs.value.closed.Goals as goal

pub loop-rest-preserved : goal.loop-rest-preserved
loop-rest-preserved c =
    let q = c.args.quoting in
    let text = c.args.text.now in
    let rest = c.loop-rest.rest.now in
    let size = c.in-Some.size in
    let l = closed_later q rest (size, c.in-Some._meaning) (sym c.closes.ensures.value ∙ c.if-closes.false) (sym c.part.ensures.value ∙ c.in-Some.is) c.in-Some.ensures.within.0 in
    let n : length text - length rest + size ≡ length text - length (drop size rest) = omega (arith, length-drop size rest, c.in-Some.ensures.within.1, c.loop-rest.invariant.within) in
    rw (take_rest rest size) (record {
      whole = c.loop-rest.invariant.whole ∙ ap (more (length text - length rest)) l ∙ more_more (length text - length rest) size (closed q (drop size rest)) ∙ ap (λ n. more n (closed q (drop size rest))) n;
      within = omega (arith, length-drop size rest);
    })
