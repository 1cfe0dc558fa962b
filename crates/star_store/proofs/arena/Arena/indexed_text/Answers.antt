use Rattle.std.proofs.Common.{◌∷◌, [], ap, ◌∙◌}
use Rattle.star_store.specs.declared.content.Atom.TheVariants as atom
use Rattle.star_store.specs.Index.{place_by}
use Rattle.star_store.specs.Store.{look}
use Rattle.star_store.proofs.Texts.{text_near, text_places}
use Rattle.star_store.proofs.arena.Arena.indexed_text.Goals as goal

pub returns-then-is_near : goal.returns-then-is_near
returns-then-is_near c = λ es e.
    let seen = look c.args.self.now c.args.homes.now in
    c.place_of_scalar.ensures ∙ ap (place_by (atom.Text c.args.text.now ∷ [])) c.keys.ensures ∙ text_near seen c.args.text (seen c.args.dict) c.in_ok-index.index.now c.in_ok-index.ensures c.if-is_near.ensures es e

pub returns-in-Ok : goal.returns-in-Ok
returns-in-Ok c =
    let seen = look c.args.self.now c.args.homes.now in
    text_places seen c.args.text (seen c.args.dict) c.in_ok-index.index.now c.place_told.result (rw c.in-Ok.ensures at c.place_told.ensures) c.in_ok-index.ensures
