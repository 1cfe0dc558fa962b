use Rattle.std.proofs.Common.{[], None, ap, sym, ◌∙◌, subst, take}
use Rattle.star_label.specs.Files.{label_at}
use Rattle.star_label.specs.Label.{package_of}
use Rattle.star_scope.specs.Loads.{Adds, prelude_loads, written, written_in}
use Rattle.star_scope.proofs.LoadStatements.{add_none, add_both, written_more}
use Rattle.star_scope.proofs.loads.find_loads.Goals as goal

pub loop-statement-init : goal.loop-statement-init
loop-statement-init c =
    let here = package_of (label_at c.args.files.now c.args.n) in
    let before = prelude_loads c.args.prelude in
    subst (λ ls. Adds c.args.files.now here [] before ls None None) (sym c.in_ok-prelude_loads.ensures) (add_none c.args.files.now here before None)

pub loop-statement-preserved : goal.loop-statement-preserved
loop-statement-preserved c =
    let files = c.args.files.now in
    let here = package_of (label_at files c.args.n) in
    let before = written (take c.loop-statement.statement-index c.args.statements.now) in
    let own = written_in c.statement-item.result in
    let more = c.add_statement.new.loads in
    subst (λ ws. Adds files here ws (prelude_loads c.args.prelude) more.loads.items None more.first)
    (sym (written_more c.args.statements.now c.loop-statement.statement-index c.statement-item.result c.loop-statement-test.true c.statement-item.is))
    (add_both files here before own (prelude_loads c.args.prelude) c.loop-statement.loads.loads.items more.loads.items None c.loop-statement.loads.first more.first
    c.loop-statement.invariant
    (subst (λ h. Adds files h own c.loop-statement.loads.loads.items more.loads.items c.loop-statement.loads.first more.first)
    (c.package-package.ensures.value ∙ ap package_of c.label.ensures) c.in_ok-add_statement.ensures.adds))
