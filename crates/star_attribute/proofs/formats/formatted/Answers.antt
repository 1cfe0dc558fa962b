use Rattle.std.proofs.Common.{◌∷◌, ap, sym, ◌∙◌, rules}
use Rattle.star_meaning.specs.Format.{Outside, formatted}
use Rattle.star_attribute.specs.Fields.{as_numbering}
use Rattle.star_attribute.proofs.Braces.{outside_cut, outside_last}
use Rattle.star_attribute.proofs.formats.formatted.Goals as goal

pub returns-in_err-more : goal.returns-in_err-more
returns-in_err-more c =
    let e = c.in-Some.ensures in
    let t = outside_cut c.args.call.setting.now c.args.call.levels c.args.call.line c.args.call.given.now _ _ _ _ (as_numbering c.loop-before.numbering) c.loop-before.out e.0 e.1 in
    rw (sym c.loop-before.invariant.rest ∙ ap (λ f. f c.loop-before.machine) t) (search rules)

pub loop-before-preserved : goal.loop-before-preserved
loop-before-preserved c =
    let e = c.in-Some.ensures in
    let t = outside_cut c.args.call.setting.now c.args.call.levels c.args.call.line c.args.call.given.now _ _ _ _ (as_numbering c.loop-before.numbering) c.loop-before.out e.0 e.1 in
    let b = ap (λ u. formatted c.args.call.setting.now c.args.call.levels c.args.call.line c.args.call.given.now (c.in-Some.brace ∷ c.in-Some.after.now) Outside (as_numbering c.loop-before.numbering) u c.loop-before.machine) c.in_ok-say.ensures in
    record {
      rest = sym c.in_ok-more.ensures.reads ∙ b ∙ sym (ap (λ f. f c.loop-before.machine) t) ∙ c.loop-before.invariant.rest;
      text = search rules;
    }

pub returns : goal.returns
returns c =
    rw c.in_ok-say-2.ensures (sym c.loop-before.invariant.rest ∙ outside_last c.args.call.setting.now c.args.call.levels c.args.call.line c.args.call.given.now c.loop-before.rest.now (as_numbering c.loop-before.numbering) c.loop-before.out c.loop-before.machine c.in_default.ensures)
