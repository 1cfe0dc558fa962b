use Rattle.std.proofs.Common.{◌≡◌, ◌∙◌, ◌<◌, ℕ, ap, arith, get_or, length, subst}
use Rattle.std.specs.Prelude.{Contains}
use Rattle.std.proofs.lemmas.List.{get_or_default}
use Rattle.std.proofs.lemmas.List.Elements.{Contains-get_or}
use Rattle.star_report.specs.Graph.{targets}
use Rattle.star_reading.specs.Readings.{loads_at}
use Rattle.star_report.proofs.Drawings.{edges_push, one_says, target_loaded, target_within, to_more, within_push}
use Rattle.star_report.proofs.graph.edges_of.Goals as goal

pub loop-to-preserved : goal.loop-to-preserved
loop-to-preserved c =
    let row = c.args.reads.now.all.items in
    let it = c.args.it.now in
    let n = it.number in
    let i = c.loop-to.to-index in
    let items = c.as_slice-to-items.result.now in
    let m : ℕ = get_or items i 0 in
    let less : i < length items = omega (arith, c.loop-to-test.true) in
    let keys : items ≡ targets (loads_at row n) = c.as_slice-to-items.ensures.keys ∙ (c.in_ok-files.ensures ∙ ap targets c.loads.ensures) in
    let there = subst (λ ts. Contains ts m) keys (Contains-get_or items i 0 less) in
    let m_in = target_within row n m c.requires.loads there in
    let all = c.in_ok-push.ensures.items in
    let edges = c.loop-to.edges.items in
    record {
      targets = rw all (to_more edges items i m c.are_one-on_cycle.result less (λ d. (let e = get_or_default items i d 0 less in e)) c.loop-to.invariant.targets);
      cycles = rw all (edges_push row it edges _ c.loop-to.invariant.cycles (λ plan read is. one_says plan row c.args.components.now.marks.items n m c.are_one-on_cycle.result read c.requires.components c.requires.number m_in (target_loaded plan row n m read there) c.are_one-on_cycle.ensures));
      within = rw all (within_push (length row) edges _ c.loop-to.invariant.within m_in);
    }
