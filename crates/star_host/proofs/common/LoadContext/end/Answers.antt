use Rattle.std.proofs.Common.{◌∙◌, Some, ap, length, refl}
use Rattle.std.proofs.lemmas.Option.{slice_get_read}
use Rattle.star_host.proofs.common.LoadContext.end.Goals as goal

pub returns-in-Some-Some : goal.returns-in-Some-Some
returns-in-Some-Some c =
    let ends = c.args.self.now.ends.now in
    let found = c.in-Some-Some.ensures.lookup in
    slice_get_read ends (length ends) c.args.n c.in-Some-Some.field-0.now refl found.3.0 found.1 ∙ ap Some c.in-Some-Some.field-0-is
