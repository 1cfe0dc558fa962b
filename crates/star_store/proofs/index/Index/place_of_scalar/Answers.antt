use Rattle.std.proofs.Common.{[], ◌∷◌, ap, sym, ◌∙◌}
use Rattle.std.specs.Cmp.Lexicographic.{pointwise}
use Rattle.star_store.specs.Content.{same_atom}
use Rattle.star_store.specs.Index.{place_by}
use Rattle.star_store.specs.Scalars.{contents_alike, scalar_atom}
use Rattle.star_store.proofs.Fronts.{place_gone, place_later, place_none}
use Rattle.star_store.proofs.index.Index.place_of_scalar.Goals as goal

pub returns-in-None : goal.returns-in-None
returns-in-None c =
    let atoms = scalar_atom c.args.key.scalar ∷ [] in
    sym (place_none (pointwise same_atom) (pointwise same_atom atoms) (λ x y. contents_alike.congr atoms x y)
    c.self.inside.gone c.self.inside.contents.keys c.self.invariant (sym c.get_index_of.ensures.index ∙ c.in-None.is))
    ∙ ap (place_by atoms) c.self.view_is

pub returns-then-self-at : goal.returns-then-self-at
returns-then-self-at c =
    let atoms = scalar_atom c.args.key.scalar ∷ [] in
    sym (place_gone (pointwise same_atom) (pointwise same_atom atoms) (λ x y. contents_alike.congr atoms x y)
    c.self.inside.gone c.in-Some.at c.self.inside.contents.keys c.len-count.ensures.unique (sym c.get_index_of.ensures.index ∙ c.in-Some.is) c.if-self-at.true)
    ∙ ap (place_by atoms) c.self.view_is

pub returns : goal.returns
returns c =
    let atoms = scalar_atom c.args.key.scalar ∷ [] in
    sym (place_later (pointwise same_atom) (pointwise same_atom atoms) (λ x y. contents_alike.congr atoms x y)
    c.self.inside.gone c.in-Some.at c.self.inside.contents.keys (sym c.get_index_of.ensures.index ∙ c.in-Some.is) c.if-self-at.false)
    ∙ ap (place_by atoms) c.self.view_is
