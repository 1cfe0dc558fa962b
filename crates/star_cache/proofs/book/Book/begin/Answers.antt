use Rattle.std.proofs.Common.{◌<◌, arith, length}
use Rattle.std.proofs.lemmas.List.{length-map}
use Rattle.star_cache.specs.Rows.{loader_state}
use Rattle.star_cache.proofs.BeginRows.{StandsFor-begin, begun_more}
use Rattle.star_cache.proofs.RowsLemmas.{StandsFor-is, IsKept-from}
use Rattle.star_cache.proofs.book.Book.begin.Goals as goal

pub invariant_of-self : goal.invariant_of-self
invariant_of-self g c =
    let there = rw (← c.self.view_is) at c.requires.there in
    let low : c.args.seat < length c.self.inside.loaders.items = omega (arith, there, length-map c.self.inside.loaders.items (loader_state c.self.inside.parents.items)) in (
      IsKept-from _ _ _ _ _ _ _ _ _
          (StandsFor-begin _ _ _ _ _ _ _ _ c.self.invariant.0 c.args.seat c.args.target _ _ c.self.view_is c.requires.there c.index-loader.ensures c.requires.free c.requires.fresh c.requires.known c.requires.reached c.requires.loaded),
      begun_more _ _ _ _ _ _ _ _ c.self.invariant.0 c.args.seat c.args.target _ low c.index-loader.ensures
          (rw (← c.self.view_is) at c.requires.free)
          (rw (← c.self.view_is) at c.requires.fresh)
          (rw (← c.self.view_is) at c.requires.known) _ c.self.invariant.1,
    )

pub returns : goal.returns
returns g c =
    StandsFor-is _ _ _ _ _ _ _ _ _
    (StandsFor-begin _ _ _ _ _ _ _ _ c.self.invariant.0 c.args.seat c.args.target _ _ c.self.view_is c.requires.there c.index-loader.ensures c.requires.free c.requires.fresh c.requires.known c.requires.reached c.requires.loaded)
