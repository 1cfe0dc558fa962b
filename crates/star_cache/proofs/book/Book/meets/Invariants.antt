use Rattle.star_cache.specs.Rows.{book_state}
use Rattle.star_cache.proofs.Meets.{IsAt}
use Rattle.star_cache.proofs.book.Book.meets.Given as goal

abbrev pub invariant-loop-walked : goal.invariant-loop-walked
invariant-loop-walked g l =
    IsAt (book_state l.self-inside.entries.items l.self-inside.parents.items l.self-inside.loaders.items) l.self-inside.owners.items l.target l.seat l.at l._walked
