use Rattle.std.proofs.Common.{◌≡◌, option_map, string_bytes, subst, true}
use Rattle.star_folder.specs.Folder.{Says}
use Rattle.star_repo.specs.Below.{belongs}
use Rattle.star_repo.proofs.Fronts.{if_ok, leads_nowhere, lies_there}
use Rattle.star_repo.proofs.disk.found_at.Goals as goal

pub returns-in-Some : goal.returns-in-Some
returns-in-Some g c =
    let drive = g.D.Disk.holds c.args.disk.now in
    let path = c.args.path.now in
    let top = c.args.top in
    let inner = c.args.inner.now in
    let says = subst (λ o. Says (drive.real path) (option_map string_bytes o)) c.in-Some.is c.in_ok-real.ensures.tells in
    let of = subst (λ r. belongs top.links top.real.now inner r ≡ true) c.as_str.ensures.value (c.apart_by.ensures.none c.in-None-apart_by.is) in
    if_ok _ _ c.read_at.result c.read_at.ensures (λ found h. lies_there top.links top.real.now inner (drive.real path) (drive.file path) (string_bytes c.in-Some.real) (option_map (λ b. b.items) found) says of h)

pub returns : goal.returns
returns g c =
    let drive = g.D.Disk.holds c.args.disk.now in
    let path = c.args.path.now in
    let says = subst (λ o. Says (drive.real path) (option_map string_bytes o)) c.in-None.is c.in_ok-real.ensures.tells in
    leads_nowhere c.args.top.links c.args.top.real.now c.args.inner.now (drive.real path) (drive.file path) says
