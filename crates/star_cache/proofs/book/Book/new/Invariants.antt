use Rattle.std.proofs.Common.{◌≡◌, None, replicate}
use Rattle.star_cache.specs.declared.entry.Entry.TheVariants.{Fresh}
use Rattle.star_cache.proofs.RowsLemmas.{no_row}
use Rattle.star_cache.proofs.book.Book.new.Given as goal

abbrev pub invariant-loop-i : goal.invariant-loop-i
invariant-loop-i g l =
    record { entries : l.entries.items ≡ replicate l._i Fresh; parents : l.parents.items ≡ replicate l._i None; owners : l.owners.items ≡ replicate l._i 0 }

abbrev pub invariant-loop-s : goal.invariant-loop-s
invariant-loop-s g l = l.rows.items ≡ replicate l._s no_row
