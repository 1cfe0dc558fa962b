use Rattle.std.proofs.Common.{◌≡◌, List, Some, length, ap, sym, subst, ◌∙◌, arith}
use Rattle.std.specs.Prelude.{slice_get}
use Rattle.std.proofs.lemmas.Option.{get_or_from_slice_get, slice_get_within}
use Rattle.star_scope.specs.declared.loads.Load.{Load}
use Rattle.star_tree.specs.declared.tree.Statement.{Statement}
use Rattle.star_reading.proofs.Finds.{by_cases, same_or_not}
use Rattle.star_memo.specs.Lasting.{LoadsIt}
use Rattle.star_memo.proofs.lasting.shares_loads.Goals as goal

pub loop-statement-preserved : goal.loop-statement-preserved
loop-statement-preserved c = λ k x name less at loads_it.
    let i = c.loop-statement.statement-index in
    let xs = c.body-statement-items.result.now in
    let own = c.args.program.now.statements.now in
    by_cases (same_or_not k i)
    (λ same.
    let here : slice_get xs i ≡ Some x = subst (λ (ys : List Statement). slice_get ys i ≡ Some x) (sym c.body-statement-items.ensures) (subst (λ j. slice_get own j ≡ Some x) same at) in
    let one : c.statement-item.result ≡ x = c.statement-item.is ∙ get_or_from_slice_get xs i x c.statement-item.result here in
    c.shares_names.ensures c.if-not-shares_names.false name
    (subst (λ (ls : List Load). LoadsIt ls c.args.stores.now.file c.statement-item.result name) (sym c.loads-loads.ensures)
    (subst (λ (y : Statement). LoadsIt c.args.program.now.loads.items c.args.stores.now.file y name) (sym one) loads_it)))
    (λ other. c.loop-statement.invariant k x name (omega (arith, less, other)) at loads_it)

pub returns : goal.returns
returns c = λ e at x name there loads_it.
    let within = slice_get_within c.args.program.now.statements.now at x there in
    let long : length c.body-statement-items.result.now ≡ length c.args.program.now.statements.now = ap length c.body-statement-items.ensures in
    c.loop-statement.invariant at x name (omega (arith, within, long, c.loop-statement-test.false)) there loads_it
