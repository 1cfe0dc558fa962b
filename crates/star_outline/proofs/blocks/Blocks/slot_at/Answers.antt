use Rattle.std.proofs.Common.{◌≡◌, ◌+◌, Some, None, ap, sym, ◌∙◌, [], nat_eq, slice_get}
use Rattle.std.specs.Option.{option_map, option_and_then, unwrap_or}
use Rattle.std.specs.List.{find, position}
use Rattle.std.proofs.lemmas.Option.{slice_get-get_or}
use Rattle.std.proofs.lemmas.List.Quantifiers.{position-Some}
use Rattle.star_outline.specs.Names.{slot_of}
use Rattle.star_outline.proofs.Numbers.{find_position}
use Rattle.star_outline.proofs.blocks.Blocks.slot_at.Goals as goal

pub returns-in-None : goal.returns-in-None
returns-in-None c =
    let none : find (λ b. nat_eq b.number (1 + c.args.token)) c.args.self.now ≡ None =
    find_position (λ b. nat_eq b.number (1 + c.args.token)) c.args.self.now
    ∙ ap (option_and_then (slice_get c.args.self.now)) (ap (λ bs. position (λ b. nat_eq b.number (1 + c.args.token)) bs) (sym c.self.view_is) ∙ sym (c.self.invariant (1 + c.args.token)) ∙ sym c.get_after.ensures ∙ c.in-None.is) in
    sym (ap (λ o. slot_of c.args.name.now (unwrap_or (option_map (λ b. b.names) o) [])) none)

pub returns-in-Some : goal.returns-in-Some
returns-in-Some c =
    let some : find (λ b. nat_eq b.number (1 + c.args.token)) c.args.self.now ≡ Some c.index.result.now =
    find_position (λ b. nat_eq b.number (1 + c.args.token)) c.args.self.now
    ∙ ap (option_and_then (slice_get c.args.self.now)) (ap (λ bs. position (λ b. nat_eq b.number (1 + c.args.token)) bs) (sym c.self.view_is) ∙ sym (c.self.invariant (1 + c.args.token)) ∙ sym c.get_after.ensures ∙ c.in-Some.is)
    ∙ ap (λ bs. slice_get bs c.in-Some.place) (sym c.self.view_is)
    ∙ slice_get-get_or c.self.inside.blocks.items c.in-Some.place c.index.result.now (position-Some (λ b. nat_eq b.number (1 + c.args.token)) c.self.inside.blocks.items c.in-Some.place c.index.result.now (sym (c.self.invariant (1 + c.args.token)) ∙ sym c.get_after.ensures ∙ c.in-Some.is)).0
    ∙ ap (λ b. Some b) (sym c.index.ensures) in
    c.slot.ensures ∙ sym (ap (λ o. slot_of c.args.name.now (unwrap_or (option_map (λ b. b.names) o) [])) some)
