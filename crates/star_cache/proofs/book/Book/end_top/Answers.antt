use Rattle.std.proofs.Common.{◌∙◌, sym, arith}
use Rattle.star_cache.specs.Rows.{book_state}
use Rattle.star_cache.proofs.Settle.{StandsFor-end, begun_same, known}
use Rattle.star_cache.proofs.RowsLemmas.{StandsFor-is, IsKept-from}
use Rattle.star_cache.proofs.book.Book.end_top.Goals as goal

pub index-below-requires : goal.index-below-requires
index-below-requires g c =
    let there = rw (← c.self.view_is) at c.requires.there in
    let low = known _ _ _ (book_state c.self.inside.entries.items c.self.inside.parents.items c.self.inside.loaders.items) c.args.seat c.args.n c.args.entry c.self.invariant.0.lawful there
    (rw (← c.self.view_is) at c.requires.free)
    (rw (← c.self.view_is) at c.requires.on_top)
    c.requires.ended.0 c.requires.ended.1 in
    let fit = c.self.invariant.0.parents_fit in
    omega (arith, low, fit, c.self.inside.parents.ok.0)

pub index_mut-requires : goal.index_mut-requires
index_mut-requires g c =
    let there = rw (← c.self.view_is) at c.requires.there in
    let low = known _ _ _ (book_state c.self.inside.entries.items c.self.inside.parents.items c.self.inside.loaders.items) c.args.seat c.args.n c.args.entry c.self.invariant.0.lawful there
    (rw (← c.self.view_is) at c.requires.free)
    (rw (← c.self.view_is) at c.requires.on_top)
    c.requires.ended.0 c.requires.ended.1 in
    omega (arith, low, c.self.inside.entries.ok.0)

pub invariant_of-self : goal.invariant_of-self
invariant_of-self g c =
    let there = rw (← c.self.view_is) at c.requires.there in (
      IsKept-from _ _ _ _ _ _ _ _ _
          (StandsFor-end _ _ _ _ _ _ _ _ c.self.invariant.0 c.args.seat c.args.n c.args.entry _ _ _ c.self.view_is c.requires.there c.index-loader.ensures c.index-below.ensures c.requires.free c.requires.on_top c.requires.ended.0 c.requires.ended.1 c.requires.ended.2),
      c.self.invariant.1 ∙ sym (begun_same _ _ _ (book_state c.self.inside.entries.items c.self.inside.parents.items c.self.inside.loaders.items) c.args.seat c.args.n c.args.entry c.self.invariant.0.lawful there
          (rw (← c.self.view_is) at c.requires.free)
          (rw (← c.self.view_is) at c.requires.on_top)
          c.requires.ended.0 c.requires.ended.1),
    )

pub returns : goal.returns
returns g c =
    StandsFor-is _ _ _ _ _ _ _ _ _
    (StandsFor-end _ _ _ _ _ _ _ _ c.self.invariant.0 c.args.seat c.args.n c.args.entry _ _ _ c.self.view_is c.requires.there c.index-loader.ensures c.index-below.ensures c.requires.free c.requires.on_top c.requires.ended.0 c.requires.ended.1 c.requires.ended.2)
