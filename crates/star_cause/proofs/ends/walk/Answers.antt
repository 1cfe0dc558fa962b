use Rattle.std.proofs.Common.{◌≡◌, ◌<◌, ◌∷◌, ◌++◌, [], ◌∙◌, length, Some, None, sym, ap, subst, arith, slice_index, slice_set}
use Rattle.std.specs.Prelude.{Contains}
use Rattle.std.proofs.lemmas.List.{length_push}
use Rattle.star_cause.specs.declared.ends.End.TheVariants.{Last}
use Rattle.star_cause.specs.declared.ends.WalkEnd.TheVariants.{Known}
use Rattle.star_cause.specs.Ends.{IsFresh, IsWalked}
use Rattle.star_cause.specs.Ways.{Goes}
use Rattle.star_cause.proofs.Walks.{OnWay, room, stopped_known, stopped_last, stopped_met, went_on}
use Rattle.star_cause.proofs.Ways.{read_at}
use Rattle.star_cause.proofs.ends.walk.Goals as goal

pub returns-in-Some-clause-walked : goal.returns-in-Some-clause-walked
returns-in-Some-clause-walked c =
    let ends = c.args.ends.now in
    let inside : c.way.at < length ends = omega (arith, c.way.invariant.file, c.requires.ends.size) in
    stopped_known c.args.nexts.now ends c.args.n c.way.files.items c.way.places.items c.way.at c.in-Some.end c.requires.ends c.requires.fresh (read_at ends c.way.at None (Some c.in-Some.end) inside c.in-Some.is) c.way.invariant

pub returns-in-Some-index_on_path-clause-walked : goal.returns-in-Some-index_on_path-clause-walked
returns-in-Some-index_on_path-clause-walked c =
    let files = c.way.files.items in
    let place = c.in-Some-index_on_path.place in
    let same = c.deref.ensures.value in
    stopped_met c.args.nexts.now c.args.ends.now c.args.n files c.way.places.items c.way.at place (subst (λ fs. place < length fs) same c.in-Some-index_on_path.ensures.0) (subst (λ fs. slice_index fs place ≡ c.way.at) same c.in-Some-index_on_path.ensures.1) c.way.invariant

pub way-smaller : goal.way-smaller
way-smaller c =
    let files = c.way.files.items in
    let off : Contains files c.way.at → ⊥ = subst (λ fs. Contains fs c.way.at → ⊥) c.deref.ensures.value c.in_default-index_on_path.ensures in
    let more = room c.args.nexts.now c.args.ends.now c.args.n files c.way.places.items c.way.at off c.way.invariant in
    let size = ap length c.in_ok-push.ensures.items ∙ length_push files c.way.at in
    omega (arith, more, size)

pub way-preserved : goal.way-preserved
way-preserved c =
    let nexts = c.args.nexts.now in
    let ends = c.args.ends.now in
    let files = c.way.files.items in
    let places = c.way.places.items in
    let at = c.way.at in
    let off : Contains files at → ⊥ = subst (λ fs. Contains fs at → ⊥) c.deref.ensures.value c.in_default-index_on_path.ensures in
    let inside : at < length ends = omega (arith, c.way.invariant.file, c.requires.ends.size) in
    let fresh : IsFresh ends at = read_at ends at None None inside c.in_default.is in
    let goes : Goes nexts at c.in-Some-nexts.next = read_at nexts at None (Some c.in-Some-nexts.next) c.way.invariant.file c.in-Some-nexts.is in
    let all = went_on nexts ends c.args.n files places at c.in-Some-nexts.next c.requires.within fresh off goes c.way.invariant in
    let long : length files ≡ c.len.result = omega (arith, c.len.ensures, c.way.files.ok.0) in
    subst (λ fs. OnWay nexts ends c.args.n fs (slice_set places at c.len.result) c.in-Some-nexts.next) (sym c.in_ok-push.ensures.items)
    (subst (λ k. OnWay nexts ends c.args.n (files ++ at ∷ []) (slice_set places at k) c.in-Some-nexts.next) long all)

pub returns-in-None-clause-walked : goal.returns-in-None-clause-walked
returns-in-None-clause-walked c =
    let nexts = c.args.nexts.now in
    let ends = c.args.ends.now in
    let files = c.way.files.items in
    let at = c.way.at in
    let last = read_at nexts at None None c.way.invariant.file c.in-None.is in
    subst (λ fs. IsWalked nexts ends c.args.n fs (Known (Last at))) (sym c.in_ok-push.ensures.items) (stopped_last nexts ends c.args.n files c.way.places.items at last c.way.invariant)
