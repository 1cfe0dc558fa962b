use Rattle.std.proofs.Common.{rules, ◌≡◌, ◌<◌, ◌∙◌, length, get_or, arith, ap, sym, Some}
use Rattle.std.proofs.lemmas.List.{get_or_default}
use Rattle.star_outcome.proofs.KeptNotes.{set_same}
use Rattle.std.specs.Prelude.{slice_index_or}
use Rattle.star_outcome.specs.Kept.{KeptView}
use Rattle.star_report.proofs.Shows.{number_at, own_module, own_reached}
use Rattle.star_report.proofs.Tables.{table_all, table_more, within_more}
use Rattle.star_report.proofs.modules.modules_by_number.Goals as goal

pub loop-i-preserved : goal.loop-i-preserved
loop-i-preserved c =
    let ks = c.args.run.now.kept in
    let i = c.loop-i.i in
    let it = c.module-it.result in
    let table = c.loop-i.table in
    let r : KeptView = c.index-kept-i.result in
    let whole : c.loop-i.kept ≡ ks = c.loop-i.invariant.same ∙ c.requires.kept in
    let less : i < length ks = search rules in
    let known : (d : KeptView) → (slice_index_or ks i d).known ≡ Some it.now = λ d. ap (λ (k : KeptView). k.known) (get_or_default ks i d r less ∙ ap (λ xs. get_or xs i r) (sym whole)) ∙ (sym c.note.ensures.note.1 ∙ c.module-it.ensures.known) in
    let inside : it.now.number < length table.items = omega (arith, table.ok.0, c.module-it.ensures.file, c.requires.files, c.loop-i.invariant.sized) in
    let few : it.now.number < c.args.files = omega (arith, c.module-it.ensures.file, c.requires.files) in
    record {
      same = set_same c.loop-i.kept i c.note.new.self (c.note.ensures.same ∙ ap (λ x. get_or c.loop-i.kept i x) (c.index-kept-i.is ∙ sym c.note.ensures.same)) ∙ c.loop-i.invariant.same;
      sized = c.loop-i.invariant.sized;
      within = within_more c.args.files table.items it.now.number it few c.loop-i.invariant.within;
      modules = λ plan are. table_more plan ks i it.now.number table.items it (number_at plan ks i it.now less known are) inside (own_reached plan ks i it.now less known are) (own_module plan ks i it.now less known are) (c.loop-i.invariant.modules plan are);
    }

pub returns-clause-modules : goal.returns-clause-modules
returns-clause-modules c = λ plan are.
    let count = c.len-i-end.ensures in
    table_all plan c.args.run.now.kept c.loop-i.i c.loop-i.table.items (omega (arith, count, c.loop-i-test.false, c.loop-i.auto.i-end)) are (c.loop-i.invariant.modules plan are)
