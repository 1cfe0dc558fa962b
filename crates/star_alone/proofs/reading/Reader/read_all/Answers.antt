use Rattle.std.proofs.Common.{sym, subst}
use Rattle.star_scope.specs.Resolve.{outside_seen}
use Rattle.star_reading.specs.Found.{IsRowOf}
use Rattle.star_reading.proofs.Finds.{all_found, waits_within}
use Rattle.star_alone.proofs.reading.Reader.read_all.Goals as goal

pub loop-n-init : goal.loop-n-init
loop-n-init c = c.in_ok-found.ensures (outside_seen c.args.self.now.prelude c.args.self.now.language)

pub returns : goal.returns
returns c =
    let r = c.args.self.now in
    let f = c.loop-n.found in
    subst (λ rs. IsRowOf r.files.now (outside_seen r.prelude r.language) r.roots.now rs.items) (sym c.in_default.ensures.reads)
    (all_found r.files.now (outside_seen r.prelude r.language) r.roots.now f.reads.items f.marks.items f.todo.items c.in_default.ensures.todo c.loop-n.invariant)

pub read_next-requires-clause-file : goal.read_next-requires-clause-file
read_next-requires-clause-file c =
    let r = c.args.self.now in
    let f = c.loop-n.found in
    waits_within r.files.now (outside_seen r.prelude r.language) r.roots.now f.reads.items f.marks.items f.todo.items c.next.new.self.todo.items c.in-Some.n c.loop-n.invariant c.in-Some.ensures.todo
