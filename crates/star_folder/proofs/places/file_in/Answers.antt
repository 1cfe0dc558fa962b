use Rattle.std.proofs.Common.{◌≡◌, codes, sym, ◌∙◌, refl, false}
use Rattle.std.proofs.lemmas.Str.Pattern.{ends_text}
use Rattle.star_folder.specs.Walk.{is_star}
use Rattle.star_folder.proofs.places.file_in.Goals as goal

pub returns-then-not-ends_with-clause-place : goal.returns-then-not-ends_with-clause-place
returns-then-not-ends_with-clause-place c =
    let is : is_star c.args.name.now ≡ false = sym (ends_text c.ends_with.result (codes ".star") c.args.name.now c.ends_with.ensures.cases) ∙ c.if-not-ends_with.true in
    rw is refl
