use Rattle.std.proofs.Common.{ap, sym, ◌∙◌}
use Rattle.star_store.specs.Store.{look}
use Rattle.star_store.specs.Write.{place_in}
use Rattle.star_store.proofs.Indexes.{place_either}
use Rattle.star_store.proofs.arena.Arena.place_in.Goals as goal

pub returns-in-Some : goal.returns-in-Some
returns-in-Some c =
    let seen = look c.args.self.now c.args.homes.now in
    c.key_place.ensures ∙ sym (place_either seen c.in-Some.key (seen c.args.target)) ∙ ap (λ k. place_in seen k (seen c.args.target)) c.in-Some.ensures
