use Rattle.std.proofs.Common.{◌≡◌, Some, None, ap, sym, ◌∙◌, nat_eq, slice_get}
use Rattle.std.specs.Option.{option_map, option_and_then}
use Rattle.std.specs.List.{find, position}
use Rattle.std.proofs.lemmas.Option.{slice_get-get_or}
use Rattle.std.proofs.lemmas.List.Quantifiers.{position-Some}
use Rattle.star_outline.specs.Definitions.{definition_in, definition_of}
use Rattle.star_outline.proofs.Numbers.{find_mapped, find_position}
use Rattle.star_outline.proofs.outline.Definitions.get.Goals as goal

pub returns-in-None : goal.returns-in-None
returns-in-None c =
    let items = c.self.inside.definitions.items in
    let none : find (λ d. nat_eq d.number c.args.number) items ≡ None =
    find_position (λ d. nat_eq d.number c.args.number) items
    ∙ ap (option_and_then (slice_get items)) (sym (c.self.invariant.0 c.args.number) ∙ sym c.get.ensures ∙ c.in-None.is) in
    sym (ap (λ ds. definition_in ds c.args.number) (sym c.self.view_is) ∙ find_mapped definition_of (λ d. nat_eq d.number c.args.number) items ∙ ap (option_map definition_of) none)

pub returns-in-Some : goal.returns-in-Some
returns-in-Some c =
    let items = c.self.inside.definitions.items in
    let there : position (λ d. nat_eq d.number c.args.number) items ≡ Some c.in-Some.place = sym (c.self.invariant.0 c.args.number) ∙ sym c.get.ensures ∙ c.in-Some.is in
    let some : find (λ d. nat_eq d.number c.args.number) items ≡ Some c.index.result.now =
    find_position (λ d. nat_eq d.number c.args.number) items
    ∙ ap (option_and_then (slice_get items)) there
    ∙ slice_get-get_or items c.in-Some.place c.index.result.now (position-Some (λ d. nat_eq d.number c.args.number) items c.in-Some.place c.index.result.now there).0
    ∙ ap (λ d. Some d) (sym c.index.ensures) in
    sym (ap (λ ds. definition_in ds c.args.number) (sym c.self.view_is) ∙ find_mapped definition_of (λ d. nat_eq d.number c.args.number) items ∙ ap (option_map definition_of) some)
