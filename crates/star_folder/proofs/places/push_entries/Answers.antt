use Rattle.std.proofs.Common.{◌≡◌, ◌++◌, [], sym, ap, ◌∙◌, option_map}
use Rattle.std.specs.List.{filter}
use Rattle.star_bundle.proofs.Members.{nothing_left}
use Rattle.star_folder.specs.Views.{left_of, path_of, place_view}
use Rattle.star_folder.specs.Walk.{is_file, is_folder, leads_to}
use Rattle.star_folder.proofs.Stacks.{all_met, met, met-pushed}
use Rattle.star_folder.proofs.places.push_entries.Goals as goal

pub loop-name-preserved : goal.loop-name-preserved
loop-name-preserved c =
    let path = path_of c.args.path.now in
    let found = option_map place_view c.in_ok-place.place in
    let is = c.in_ok-place.ensures.place ∙ ap (leads_to c.in-Some.kind path) c.as_str.ensures.value in
    record {
      files = met-pushed is_file path c.pop_last.new.self.entries c.loop-name.listing.entries (c.in-Some.name, c.in-Some.kind) found _ _ _ c.in-Some.ensures.removal is c.in_ok-push_place.ensures.files c.loop-name.invariant.files;
      folders = met-pushed is_folder path c.pop_last.new.self.entries c.loop-name.listing.entries (c.in-Some.name, c.in-Some.kind) found _ _ _ c.in-Some.ensures.removal is c.in_ok-push_place.ensures.folders c.loop-name.invariant.folders;
    }

pub returns-clause-places : goal.returns-clause-places
returns-clause-places c =
    let path = path_of c.args.path.now in
    let none : c.loop-name.listing.entries ≡ [] = nothing_left c.loop-name.listing.entries c.in_default.ensures.variant.1 in
    let files = ap (λ es. filter is_file (met path es) ++ left_of c.loop-name.files.items) (sym none) ∙ c.loop-name.invariant.files in
    let folders = ap (λ es. filter is_folder (met path es) ++ left_of c.loop-name.places.items) (sym none) ∙ c.loop-name.invariant.folders in
    all_met path c.args.listing.entries c.loop-name.files.items c.loop-name.places.items c.append.new.self.items (left_of c.args.places.items) files folders c.in_ok-append.ensures.items
