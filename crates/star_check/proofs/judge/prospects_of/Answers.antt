use Rattle.std.proofs.Common.{◌∙◌, ap, arith}
use Rattle.std.proofs.lemmas.List.{length-map}
use Rattle.std.specs.Option.{option_map}
use Rattle.star_sound.specs.Sound.{rows_of}
use Rattle.star_check.proofs.Rows.{are_prospects, rows_size, rows_within}
use Rattle.star_check.proofs.judge.prospects_of.Goals as goal

pub prospects-requires : goal.prospects-requires
prospects-requires c =
    let row = c.args.reads.now.all.items in
    rows_within row (rows_of c.as_slice.result.now) (ap rows_of c.as_slice.ensures.value ∙ c.in_ok-needs.ensures) c.requires

pub returns-clause-size : goal.returns-clause-size
returns-clause-size c =
    let row = c.args.reads.now.all.items in
    let rows = rows_size row (rows_of c.as_slice.result.now) (ap rows_of c.as_slice.ensures.value ∙ c.in_ok-needs.ensures) in
    let long = length-map c.as_slice.result.now (option_map (λ v. v.items)) in
    omega (arith, c.in_ok-told.ensures.size, rows, long)

pub returns-clause-are : goal.returns-clause-are
returns-clause-are c =
    let row = c.args.reads.now.all.items in
    are_prospects row (rows_of c.as_slice.result.now) c.in_ok-told.told.items (ap rows_of c.as_slice.ensures.value ∙ c.in_ok-needs.ensures) c.in_ok-told.ensures.each
