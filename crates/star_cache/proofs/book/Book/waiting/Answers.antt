use Rattle.std.proofs.Common.{◌<◌, ◌∙◌, sym, ap, arith, length}
use Rattle.std.proofs.lemmas.List.{length-map}
use Rattle.star_cache.specs.declared.book.Loader.{Loader}
use Rattle.star_cache.specs.Rows.{loader_state, book_state}
use Rattle.star_cache.proofs.Meets.{awaited_row, below_running}
use Rattle.star_cache.proofs.book.Book.waiting.Goals as goal

pub returns-in-Some-clause-awaited : goal.returns-in-Some-clause-awaited
returns-in-Some-clause-awaited g c =
    let low : c.args.seat < length c.self.inside.loaders.items = omega (arith, c.self.inside.loaders.ok.0) in
    let waits = awaited_row c.self.inside.entries.items c.self.inside.parents.items c.self.inside.loaders.items c.args.seat c.index-loader.result.now low ∙ (ap (λ (l : Loader). l.awaited) (sym c.index-loader.ensures) ∙ c.in-Some.is) in
    let begun = c.self.invariant.0.lawful.awaits_begun c.args.seat c.in-Some.e waits in
    let fit = below_running (book_state c.self.inside.entries.items c.self.inside.parents.items c.self.inside.loaders.items) c.in-Some.e begun in
    let there : c.args.seat < length (book_state c.self.inside.entries.items c.self.inside.parents.items c.self.inside.loaders.items).loaders = omega (arith, low, length-map c.self.inside.loaders.items (loader_state c.self.inside.parents.items)) in
    rw (← c.self.view_is) (there, waits, begun, fit)
