use Rattle.std.proofs.Common.{arith, map, refl}
use Rattle.std.proofs.lemmas.List.{length-map}
use Rattle.star_bundle.specs.Bundle.{with_files}
use Rattle.star_folder.specs.Folder.{entry_of}
use Rattle.star_folder.specs.Views.{path_of}
use Rattle.star_folder.specs.Walk.{Listed}
use Rattle.star_folder.proofs.walk.after_folder.Goals as goal

pub returns-clause-goes : goal.returns-clause-goes
unfolding with_files
returns-clause-goes g c =
    let entries = c.in_ok-listing.listing.entries in (
      Listed (path_of c.args.path.now) (map entry_of entries),
      record {
        is_of = refl;
        tells = c.in_ok-listing.ensures.tells;
        passes = omega (arith, length-map entries entry_of, c.in_ok-listing.ensures.within);
        left = c.in_ok-places.ensures.places;
        found = refl;
        listed = omega (arith, length-map entries entry_of, c.len.ensures.len);
        count = omega arith;
        size = omega arith;
      },
    )
