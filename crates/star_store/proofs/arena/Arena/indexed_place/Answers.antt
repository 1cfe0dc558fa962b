use Rattle.std.proofs.Common.{◌≡◌, ◌∷◌, [], List, IfSome, option_and_then, ap, subst, sym, ◌∙◌, arith}
use Rattle.star_store.specs.declared.content.Atom.{Atom}
use Rattle.star_store.specs.Content.{content}
use Rattle.star_store.specs.Index.{place_by}
use Rattle.star_store.specs.Key.{key_levels}
use Rattle.star_store.specs.Scalars.{scalar_atom}
use Rattle.star_store.specs.Store.{look}
use Rattle.star_store.proofs.Contents.{only_atom_is}
use Rattle.star_store.proofs.Far.{known_places, near_found, near_places}
use Rattle.star_store.proofs.arena.Arena.indexed_place.Goals as goal

pub returns-then-not-is_near : goal.returns-then-not-is_near
returns-then-not-is_near c =
    let seen = look c.args.self.now c.args.homes.now in
    known_places seen c.args.key (seen c.args.dict) c.in_ok-index.index.now c.far_place.result c.far_place.ensures c.in_ok-index.ensures

pub returns-in-Some : goal.returns-in-Some
returns-in-Some c = λ es e.
    let seen = look c.args.self.now c.args.homes.now in
    let atom = scalar_atom c.in-Some.scalar.scalar in
    let told = rw c.in-Some.is at c.scalar_key.ensures in
    let whole = only_atom_is seen key_levels c.args.key atom (omega arith) (sym told) in
    c.place_of_scalar.ensures ∙ ap (place_by (atom ∷ [])) c.keys.ensures ∙ near_found seen c.args.key (atom ∷ []) (seen c.args.dict) c.in_ok-index.index.now whole c.in_ok-index.ensures c.if-not-is_near.ensures es e

pub returns-in-None : goal.returns-in-None
returns-in-None c =
    let seen = look c.args.self.now c.args.homes.now in
    near_places seen c.args.key (seen c.args.dict) c.in_ok-index.index.now c.place_of_content.result
    (subst (λ (keys : List (List Atom)). IfSome c.place_of_content.result (λ place. place ≡ option_and_then (λ atoms. place_by atoms keys) (content seen key_levels c.args.key))) c.keys-in-None.ensures c.place_of_content.ensures)
    c.in_ok-index.ensures c.if-not-is_near.ensures
