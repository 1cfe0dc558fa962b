use Rattle.std.proofs.Common.{rules, ◌≡◌, length, sym, subst, nat_eq, Some, None, if◌then◌else◌, ℕ}
use Rattle.std.specs.Option.{option_or}
use Rattle.star_outline.specs.Index.{Finds, place_at}
use Rattle.star_outline.proofs.Numbers.{finds_pushed}
use Rattle.star_outline.proofs.blocks.Blocks.push.Goals as goal

pub invariant_of-self-in-Ok : goal.invariant_of-self-in-Ok
invariant_of-self-in-Ok c =
    let blocks = c.self.inside.blocks.items in
    let place : c.len-place.result ≡ length blocks = search rules in
    subst (λ bs. Finds (λ b. b.number) bs c.put.new.self) (sym c.in_ok-push.ensures.items)
    (finds_pushed (λ b. b.number) blocks (record { number = c.args.number; names = c.args.names }) c.self.inside.index c.put.new.self
    c.self.invariant
    (subst (λ l. (n : ℕ) → place_at c.put.new.self n ≡ option_or (place_at c.self.inside.index n) (if nat_eq c.args.number n then Some l else None)) place c.in-Ok.ensures.put))
