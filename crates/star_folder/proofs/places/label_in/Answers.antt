use Rattle.std.proofs.Common.{ap, ◌∙◌, refl, Err, Some}
use Rattle.star_label.specs.Label.{label_text, name_of, package_of}
use Rattle.star_label.specs.View.{text_of}
use Rattle.star_folder.proofs.Paths.{no_relative, relative_label}
use Rattle.star_folder.proofs.places.label_in.Goals as goal

pub returns-in-Ok-clause-label : goal.returns-in-Ok-clause-label
returns-in-Ok-clause-label c =
    let l = text_of c.in-Ok.label in
    let is = relative_label c.as_str.result.now c.text.result.now c.args.name.now (package_of l) (name_of l) l (c.as_str.ensures.value ∙ c.in_ok-text.ensures) c.in-Ok.ensures.label c.in-Ok.ensures.normal in
    rw is.0 (ap Some (is.1 ∙ ap (λ p. label_text p c.args.name.now) c.text.ensures.text))

pub returns-in-Err-BadLabel-clause-label : goal.returns-in-Err-BadLabel-clause-label
returns-in-Err-BadLabel-clause-label c =
    let none = no_relative c.as_str.result.now c.text.result.now c.args.name.now (c.as_str.ensures.value ∙ c.in_ok-text.ensures) c.text.ensures.in_form (c.read.ensures.none (c.in-Err-BadLabel.is ∙ ap Err c.in-Err-BadLabel.field-0-is)) in
    rw none refl
