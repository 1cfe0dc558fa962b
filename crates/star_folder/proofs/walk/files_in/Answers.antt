use Rattle.std.proofs.Common.{◌∷◌, [], length, length-append, ap, refl, ◌∙◌, arith, map}
use Rattle.star_label.specs.Files.{file_of}
use Rattle.star_bundle.specs.Bundle.{with_files}
use Rattle.star_folder.specs.Views.{left_of}
use Rattle.star_folder.proofs.Limits.{within_limits}
use Rattle.star_folder.proofs.Stacks.{left-push}
use Rattle.star_folder.proofs.Steps.{fewer, next}
use Rattle.star_folder.proofs.walk.files_in.Goals as goal

pub loop-place-init : goal.loop-place-init
unfolding with_files
loop-place-init g c = record {
  walk = (
    [],
    record {
      found = ap (map file_of) c.in_ok-walk.ensures.found;
      listed = c.in_ok-walk.ensures.none.0;
      count = c.in_ok-walk.ensures.none.1;
      size = c.in_ok-walk.ensures.none.2;
    },
    c.in_ok-walk.ensures.places,
  );
  same = refl;
  listings = refl;
  reads = refl;
}

pub loop-place-preserved : goal.loop-place-preserved
loop-place-preserved g c =
    let held = g.F.Folder.holds c.args.folder.now in
    let is = ap left_of c.in-Some.ensures.items ∙ left-push c.pop.new.self.items c.in-Some.place in
    let counts = c.in_ok-walk-2.ensures in
    record {
      walk = next held _ c.loop-place.invariant.walk.0 _ c.in_ok-walk-2.walk _ _ c.loop-place.invariant.same c.loop-place.invariant.walk.1 c.loop-place.invariant.walk.2 is c.in_ok-walk-2.ensures.goes;
      same = c.in_ok-walk-2.ensures.same ∙ c.loop-place.invariant.same;
      listings = omega (arith, c.in_ok-walk-2.ensures.listings, c.loop-place.invariant.listings);
      reads = omega (arith, c.in_ok-walk-2.ensures.reads, c.loop-place.invariant.reads);
    }

pub loop-place-smaller : goal.loop-place-smaller
loop-place-smaller g c =
    let goes = c.in_ok-walk-2.ensures.goes in
    let less = fewer _ _ c.in_ok-walk-2.walk _ goes.0 goes.1 c.in_ok-walk-2.walk.few_entries in
    omega (arith, less, ap length c.in-Some.ensures.items, length-append c.pop.new.self.items (c.in-Some.place ∷ []))

pub numbered-requires : goal.numbered-requires
numbered-requires g c =
    let walk = c.loop-place.invariant.walk in
    within_limits _ walk.0 _ _ walk.2 walk.1.found
