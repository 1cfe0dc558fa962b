use Rattle.std.proofs.Common.{arith}
use Rattle.star_session.specs.Changes.{GivesText}
use Rattle.star_session.proofs.Items.{one_place_more}
use Rattle.star_session.proofs.changes.are_texts.Goals as goal

pub loop-change-preserved : goal.loop-change-preserved
loop-change-preserved c =
    let gives : GivesText c.args.files.now c.change-item.result = (c.gives_text.ensures.file c.if-not-gives_text.false, c.gives_text.ensures.text c.if-not-gives_text.false) in
    one_place_more (GivesText c.args.files.now) c.args.changes.now c.loop-change.change-index c.change-item.result c.loop-change-test.true c.change-item.is gives c.loop-change.invariant

pub returns : goal.returns
returns c = λ _ k d less. c.loop-change.invariant k d (omega (arith, less, c.loop-change-test.false))
