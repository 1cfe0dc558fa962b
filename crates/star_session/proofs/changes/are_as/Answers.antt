use Rattle.std.proofs.Common.{◌≤◌, ◌+◌, ap, arith, drop, length, map, ◌∙◌}
use Rattle.std.proofs.lemmas.List.{drop_all}
use Rattle.star_session.specs.Changes.{change_of, files_after}
use Rattle.star_session.proofs.FilesAfter.{after_none, after_same}
use Rattle.star_session.proofs.Items.{next_item}
use Rattle.star_session.proofs.changes.are_as.Goals as goal

pub loop-change-preserved : goal.loop-change-preserved
loop-change-preserved c =
    let files = c.args.files.now in
    let rest = drop (c.loop-change.change-index + 1) c.args.changes.now in
    let next = next_item c.args.changes.now c.loop-change.change-index c.change-item.result c.loop-change-test.true c.change-item.is in
    c.loop-change.invariant
    ∙ ap (λ cs. files_after files (map change_of cs)) next
    ∙ after_same files (change_of c.change-item.result) (map change_of rest) (c.is_as.ensures c.if-not-is_as.false)

pub returns : goal.returns
returns c = λ _.
    let files = c.args.files.now in
    let over : length c.args.changes.now ≤ c.loop-change.change-index = omega (arith, c.loop-change-test.false, c.loop-change.auto.change-index-end) in
    c.loop-change.invariant
    ∙ ap (λ cs. files_after files (map change_of cs)) (drop_all c.loop-change.change-index c.args.changes.now over)
    ∙ after_none files
