use Rattle.std.proofs.Common.{◌≡◌, ◌∷◌, ◌++◌, [], ◌∙◌, length, Some, None, refl, sym, ap, subst, arith}
use Rattle.std.proofs.lemmas.List.{length_push}
use Rattle.star_cause.specs.Ways.{Goes, Way}
use Rattle.star_cause.proofs.Ways.{goes_below, goes_inside, joined, read_at}
use Rattle.star_cause.proofs.ends.trail.Goals as goal

pub loop-init : goal.loop-init
loop-init c =
    let none = c.new-found.ensures.items in
    record {
      way = subst (λ fs. Way c.args.nexts.now c.args.first fs c.args.first) (sym none) refl;
      long = ap length none;
      inside = λ less. let on = goes_inside c.args.nexts.now c.args.first c.args.count c.args.first [] c.requires less refl in goes_below c.args.nexts.now c.args.first on.0 on.1;
    }

pub unreachable-requires : goal.unreachable-requires
unreachable-requires c =
    let on = goes_inside c.args.nexts.now c.args.first c.args.count c.loop.at c.loop.found.items c.requires (omega arith) c.loop.invariant.way in
    let none = read_at c.args.nexts.now c.loop.at None None (goes_below c.args.nexts.now c.loop.at on.0 on.1) c.in-None.is in
    let both : Some None ≡ Some (Some on.0) = sym none ∙ on.1 in
    cc

pub loop-preserved : goal.loop-preserved
loop-preserved c =
    let on = goes_inside c.args.nexts.now c.args.first c.args.count c.loop.at c.loop.found.items c.requires (omega arith) c.loop.invariant.way in
    let goes : Goes c.args.nexts.now c.loop.at c.in-Some.next = read_at c.args.nexts.now c.loop.at None (Some c.in-Some.next) (goes_below c.args.nexts.now c.loop.at on.0 on.1) c.in-Some.is in
    let way : Way c.args.nexts.now c.args.first (c.loop.found.items ++ c.loop.at ∷ []) c.in-Some.next = joined c.args.nexts.now c.args.first c.loop.at c.in-Some.next c.loop.found.items (c.loop.at ∷ []) c.loop.invariant.way (refl, (c.in-Some.next, goes, refl)) in
    let now : Way c.args.nexts.now c.args.first c.push.new.self.items c.in-Some.next = subst (λ fs. Way c.args.nexts.now c.args.first fs c.in-Some.next) (sym c.in_ok-push.ensures.items) way in
    let size = ap length c.in_ok-push.ensures.items ∙ length_push c.loop.found.items c.loop.at in
    record {
      way = now;
      long = omega (arith, size, c.loop.invariant.long);
      inside = λ less. let more = goes_inside c.args.nexts.now c.args.first c.args.count c.in-Some.next c.push.new.self.items c.requires (omega (arith, less, size, c.loop.invariant.long)) now in goes_below c.args.nexts.now c.in-Some.next more.0 more.1;
    }
