use Rattle.std.proofs.Common.{◌≡◌, ◌∙◌, ◌<◌, ◌+◌, ℕ, List, length, get_or, take, ap, sym, subst, arith}
use Rattle.std.specs.Prelude.{cond}
use Rattle.std.specs.List.{count_by}
use Rattle.std.proofs.lemmas.List.{get_or_default}
use Rattle.star_cache.specs.State.{entry_at, is_begun}
use Rattle.star_cache.specs.declared.entry.Entry.{Entry}
use Rattle.star_cache.specs.declared.entry.Entry.TheVariants.{Fresh}
use Rattle.star_outcome.specs.Views.{ToldView}
use Rattle.star_outcome.proofs.KeptNotes.{set_same}
use Rattle.star_host.proofs.Settled.{all_kept, begun_more}
use Rattle.star_host.proofs.settle.kept_of.Goals as goal

pub keep-requires-clause-told : goal.keep-requires-clause-told
keep-requires-clause-told g c = λ t e.
    let same : length c.loop-n.entries.items ≡ length c.into_entries-entries.result.items = ap length c.loop-n.invariant.same in
    let count = c.len-n-end.ensures in
    let test = c.loop-n-test.true in
    let inside : c.loop-n.n < length c.loop-n.entries.items = omega (arith, same, count, test) in
    let whole : c.loop-n.entries.items ≡ c.args.book.entries = c.loop-n.invariant.same ∙ c.into_entries-entries.ensures.entries in
    let here : entry_at c.args.book c.loop-n.n ≡ c.index_mut.result.now =
    ap (λ (es : List (Entry ToldView)). get_or es c.loop-n.n Fresh) (sym whole) ∙ (get_or_default c.loop-n.entries.items c.loop-n.n Fresh c.index_mut.result.now inside ∙ sym c.index_mut.ensures.value) in
    c.into_entries-entries.ensures.right c.loop-n.n t (here ∙ e)

pub loop-n-preserved : goal.loop-n-preserved
loop-n-preserved g c =
    let same : length c.loop-n.entries.items ≡ length c.into_entries-entries.result.items = ap length c.loop-n.invariant.same in
    let count = c.len-n-end.ensures in
    let test = c.loop-n-test.true in
    let inside : c.loop-n.n < length c.into_entries-entries.result.items = omega (arith, same, count, test) in
    let more = begun_more c.into_entries-entries.result.items c.loop-n.n c.index_mut.result.now inside in
    let at : get_or c.into_entries-entries.result.items c.loop-n.n c.index_mut.result.now ≡ c.index_mut.result.now = ap (λ (es : List (Entry ToldView)). get_or es c.loop-n.n c.index_mut.result.now) (sym c.loop-n.invariant.same) ∙ sym c.index_mut.ensures.value in
    record {
      same = set_same c.loop-n.entries.items c.loop-n.n c.keep.new.entry (rw c.in_ok-keep.ensures.same c.index_mut.ensures.value) ∙ c.loop-n.invariant.same;
      cells = c.in_ok-keep.ensures.cells c.loop-n.invariant.cells;
      modules = c.in_ok-keep.ensures.modules c.loop-n.invariant.modules;
      begun =
          let one = c.in_ok-keep.ensures.begun in
          let before = c.loop-n.invariant.begun in
          let f : Entry ToldView → ℕ = λ x. cond (is_begun x) 1 0 in
          let here : f (get_or c.into_entries-entries.result.items c.loop-n.n c.index_mut.result.now) ≡ f c.index_mut.result.now = ap f at in
          omega (arith, one, before, here, more);
    }

pub returns-clause-modules : goal.returns-clause-modules
returns-clause-modules g c =
    let size = c.into_entries-entries.ensures.size in
    let same : length c.loop-n.entries.items ≡ length c.into_entries-entries.result.items = ap length c.loop-n.invariant.same in
    let count = c.len-n-end.ensures in
    let end : c.loop-n.n ≡ length g.J.RunId.files = omega (arith, size, same, count) in
    all_kept g.J.RunId.files g.J.RunId.plan c.loop-n.n c.loop-n.kept.items c.requires.within end c.loop-n.invariant.modules
