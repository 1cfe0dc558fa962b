use Rattle.std.proofs.Common.{◌≡◌, ◌∙◌, List, arith, sym, subst, length}
use Rattle.star_reading.specs.Found.{AreMarked}
use Rattle.star_report.specs.declared.pages.Page.{Page}
use Rattle.star_report.proofs.Reported.{run_reported}
use Rattle.star_report.proofs.report.report.Goals as goal

pub returns-clause-text : goal.returns-clause-text
returns-clause-text g c =
    let wrote : List Page = c.write_pages.new.pages in
    let whole : length wrote ≡ length c.as_mut_slice-2.result.now = omega (arith, c.write_pages.auto.pages) in
    let long : length wrote ≡ c.in_ok-pages.pages.len = omega (arith, c.write_pages.auto.pages, c.as_mut_slice-2.ensures.len) in
    run_reported c.args.options.wanted c.args.files.now c.args.reads.now.all.items c.args.roots.now c.args.run.now c.kept.new.self c.in_ok-causes.causes _ c.deref.result.now c.in_ok-pages.pages.items _ wrote _ c.as_slice.result.now c.in_ok-pages.pages.len c.begun.result c.joined.result
    c.len.ensures.ordered (c.in_ok-kept.ensures.same ∙ c.in_ok-nexts.ensures.same) c.in_ok-nexts.ensures.fails c.in_ok-causes.ensures (subst (AreMarked c.args.roots.now) (sym c.deref.ensures.value) c.in_ok-marks.ensures.marks) c.in_ok-pages.ensures.known c.in_ok-pages.ensures.shown c.in_ok-pages.ensures.loads
    c.as_mut_slice-2.ensures.value c.write_pages.ensures whole long c.as_slice.ensures.value c.begun.ensures c.joined.ensures.written c.joined.ensures.text
