use Rattle.std.proofs.Common.{rules, ◌≡◌, ◌∷◌, [], ℕ, ap, sym, ◌∙◌, subst, nat_eq, map, Some, None, length, if◌then◌else◌}
use Rattle.std.specs.Option.{option_or}
use Rattle.std.proofs.lemmas.List.{map-append}
use Rattle.star_outline.specs.declared.outline.Definition.{Definition}
use Rattle.star_outline.specs.Definitions.{AllDiffer}
use Rattle.star_outline.specs.Index.{Finds, place_at}
use Rattle.star_outline.proofs.Differ.{differ_pushed, not_numbered}
use Rattle.star_outline.proofs.Numbers.{finds_pushed}
use Rattle.star_outline.proofs.outline.Definitions.push.Goals as goal

pub invariant_of-self-in-Ok : goal.invariant_of-self-in-Ok
invariant_of-self-in-Ok c =
    let items = c.self.inside.definitions.items in
    let own : Definition = record { number = c.args.number; parameters = c.args.parameters; body = c.args.body } in
    let place : c.len-place.result ≡ length items = search rules in
    let free : place_at c.self.inside.index c.args.number ≡ None = search rules in (
      subst (λ ds. Finds (λ d. d.number) ds c.put.new.self) (sym c.in_ok-push.ensures.items)
          (finds_pushed (λ d. d.number) items own c.self.inside.index c.put.new.self c.self.invariant.0
          (subst (λ l. (n : ℕ) → place_at c.put.new.self n ≡ option_or (place_at c.self.inside.index n) (if nat_eq c.args.number n then Some l else None)) place c.in-Ok.ensures.put)),
      subst (λ ns. AllDiffer ns) (sym (ap (map (λ d. d.number)) c.in_ok-push.ensures.items ∙ map-append (λ d. d.number) items (own ∷ [])))
          (differ_pushed (map (λ d. d.number) items) c.args.number c.self.invariant.1
          (not_numbered (λ d. d.number) items c.args.number (sym (c.self.invariant.0 c.args.number) ∙ free))),
    )
