use Rattle.std.proofs.Common.{subst, length}
use Rattle.star_cause.specs.Ends.{AreSettled, IsWalked}
use Rattle.star_cause.proofs.Settles.{learned, start_known}
use Rattle.star_cause.proofs.ends.learn.Goals as goal

pub returns-clause-ends : goal.returns-clause-ends
returns-clause-ends c =
    let before = c.args.ends.now.items in
    let files = c.in_ok-files.field-0.files.items in
    let stop = c.in_ok-files.field-0.stop in
    let walked : IsWalked c.args.nexts.now before c.args.n files stop = subst (λ es. IsWalked c.args.nexts.now es c.args.n files stop) c.as_slice.ensures.value c.in_ok-files.ensures.walked in
    let settled : AreSettled before files stop (length files) c.settle.new.ends.items = subst (λ fs. AreSettled before fs stop (length fs) c.settle.new.ends.items) c.deref.ensures.value c.settle.ensures in
    learned c.args.nexts.now before c.settle.new.ends.items c.args.n files stop c.requires.ends walked settled

pub returns-clause-known : goal.returns-clause-known
returns-clause-known c =
    let files = c.in_ok-files.field-0.files.items in
    let stop = c.in_ok-files.field-0.stop in
    start_known c.args.ends.now.items c.settle.new.ends.items c.args.nexts.now c.args.n files stop
    (subst (λ es. IsWalked c.args.nexts.now es c.args.n files stop) c.as_slice.ensures.value c.in_ok-files.ensures.walked)
    (subst (λ fs. AreSettled c.args.ends.now.items fs stop (length fs) c.settle.new.ends.items) c.deref.ensures.value c.settle.ensures)
