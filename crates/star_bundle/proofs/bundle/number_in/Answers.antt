use Rattle.std.proofs.Common.{◌≡◌, refl, sym, ◌∙◌}
use Rattle.std.specs.List.{position}
use Rattle.std.specs.Str.{bytes_eq}
use Rattle.star_bundle.specs.Bundle.{number_of}
use Rattle.star_bundle.proofs.Labels.{is_some_label}
use Rattle.star_bundle.proofs.Numbers.{found_first}
use Rattle.star_bundle.proofs.Passed.{fails_so}
use Rattle.star_bundle.proofs.bundle.number_in.Goals as goal

pub returns-in-Some-find-clause-number : goal.returns-in-Some-find-clause-number
unfolding number_of
returns-in-Some-find-clause-number c =
    let some = is_some_label c.args.word.now c.args.word.now c.in_ok-label.field-0 c.in-Some.label c.in_ok-label.ensures c.in-Some.is refl in
    let at : c.find.result ≡ position (λ f. bytes_eq f.0 c.args.word.now) c.args.files.now =
    found_first c.args.files.now c.args.word.now c.find.result (rw (← some.1) c.find.ensures.found) (λ n h k. c.find.ensures.each n h (k ∙ sym some.1)) in
    rw (some.0, sym at ∙ c.in-Some-find.is) refl

pub returns-clause-number : goal.returns-clause-number
unfolding number_of
returns-clause-number c =
    let some = is_some_label c.args.word.now c.args.word.now c.in_ok-label.field-0 c.in-Some.label c.in_ok-label.ensures c.in-Some.is refl in
    let at : c.find.result ≡ position (λ f. bytes_eq f.0 c.args.word.now) c.args.files.now =
    found_first c.args.files.now c.args.word.now c.find.result (rw (← some.1) c.find.ensures.found) (λ n h k. c.find.ensures.each n h (k ∙ sym some.1)) in
    fails_so c.args.none _ c.requires.none_named (rw (some.0, sym at ∙ c.in-None.is) refl)
