use Rattle.std.proofs.Common.{ap, sym, ◌∙◌}
use Rattle.std.specs.Cmp.Lexicographic.{pointwise}
use Rattle.star_store.specs.Content.{same_atom}
use Rattle.star_store.specs.Index.{place_by}
use Rattle.star_store.specs.Scalars.{contents_alike}
use Rattle.star_store.proofs.Fronts.{place_gone, place_later, place_none}
use Rattle.star_store.proofs.index.Index.place.Goals as goal

pub returns-in-None : goal.returns-in-None
returns-in-None c =
    sym (place_none (pointwise same_atom) (pointwise same_atom c.args.content.now) (λ x y. contents_alike.congr c.args.content.now x y)
    c.self.inside.gone c.self.inside.contents.keys c.self.invariant (sym c.get_index_of.ensures.index ∙ c.in-None.is))
    ∙ ap (place_by c.args.content.now) c.self.view_is

pub returns-then-at-self : goal.returns-then-at-self
returns-then-at-self c =
    sym (place_gone (pointwise same_atom) (pointwise same_atom c.args.content.now) (λ x y. contents_alike.congr c.args.content.now x y)
    c.self.inside.gone c.in-Some.at c.self.inside.contents.keys c.len-count.ensures.unique (sym c.get_index_of.ensures.index ∙ c.in-Some.is) c.if-at-self.true)
    ∙ ap (place_by c.args.content.now) c.self.view_is

pub returns : goal.returns
returns c =
    sym (place_later (pointwise same_atom) (pointwise same_atom c.args.content.now) (λ x y. contents_alike.congr c.args.content.now x y)
    c.self.inside.gone c.in-Some.at c.self.inside.contents.keys (sym c.get_index_of.ensures.index ∙ c.in-Some.is) c.if-at-self.false)
    ∙ ap (place_by c.args.content.now) c.self.view_is
