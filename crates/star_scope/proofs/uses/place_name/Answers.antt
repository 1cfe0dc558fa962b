use Rattle.std.proofs.Common.{ℕ, List, refl, ap, sym, ◌∙◌}
use Rattle.star_scope.specs.Chains.{outer_shown}
use Rattle.star_scope.specs.Places.{spot_of}
use Rattle.star_scope.proofs.Placing.{place_one}
use Rattle.star_scope.proofs.uses.place_name.Goals as goal

pub returns-in_ok-put-in-Some : goal.returns-in_ok-put-in-Some
returns-in_ok-put-in-Some c =
    let scope = c.args.scope.now in
    let at = λ (name : List ℕ). spot_of scope.blocks.now (outer_shown scope.prelude scope.language) name c.args.chain.now in
    place_one scope c.args.name.now c.args.chain.now c.in-Some.spot c.args.placed.now _ c.spot_of.ensures.short
    (ap at (sym c.as_str.ensures) ∙ sym c.spot_of.ensures.spot ∙ c.in-Some.is) c.in_ok-put-in-Some.ensures.keeps c.in_ok-put-in-Some.ensures.put refl
