use Rattle.std.proofs.Common.{◌≡◌, false, length, replicate, rules, ap, sym, ◌∙◌, subst}
use Rattle.star_reading.specs.Found.{AreFound}
use Rattle.star_reading.proofs.Finds.{found_roots}
use Rattle.star_reading.proofs.reading.Found.from_roots.Goals as goal

pub returns : goal.returns
returns c = λ outside.
    let files = c.args.files.now in
    let roots = c.args.roots.now in
    let f = c.in_ok-found.found in
    let size : length f.reads.items ≡ length files = search rules in
    let clear : f.marks.items ≡ replicate (length files) false = c.in_ok-found.ensures.marks ∙ ap (λ k. replicate k false) c.len.ensures.len in
    let after = c.mark_each.new.self in
    subst (λ rs. AreFound files outside roots rs.items after.marks.items after.todo.items) (sym c.mark_each.ensures.reads)
    (found_roots files outside roots f.reads.items f.marks.items after.marks.items f.todo.items after.todo.items c.in_ok-found.ensures.none size clear c.in_ok-found.ensures.todo c.requires c.in_ok-mark_each.ensures.grew c.in_ok-mark_each.ensures.there)
