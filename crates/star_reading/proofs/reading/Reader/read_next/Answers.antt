use Rattle.std.proofs.Common.{length, sym, subst}
use Rattle.star_scope.specs.Resolve.{outside_seen}
use Rattle.star_reading.specs.Found.{AreFound}
use Rattle.star_reading.proofs.Finds.{copied_fits, found_next}
use Rattle.star_reading.proofs.reading.Reader.read_next.Goals as goal

pub returns-clause-found : goal.returns-clause-found
returns-clause-found g c =
    let r = c.args.self.now in
    let f = c.args.found.now in
    let after = c.add.new.self in
    subst (λ rs. AreFound r.files.now (outside_seen r.prelude r.language) r.roots.now rs after.marks.items after.todo.items) (sym c.in_ok-add.ensures.reads)
    (found_next r.files.now (outside_seen r.prelude r.language) r.roots.now f.reads.items f.marks.items f.todo.items c.args.n c.in_ok-read.read after.marks.items after.todo.items c.requires.found
    (copied_fits r.prelude (length r.files.now) c.requires.prelude) (c.is_read.ensures.no c.if-is_read.false) c.in_ok-read.ensures.read c.in_ok-add.ensures.grew c.in_ok-add.ensures.there)
