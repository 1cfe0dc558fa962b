use Rattle.std.proofs.Common.{arith, map, subst}
use Rattle.std.proofs.lemmas.List.{length-map}
use Rattle.star_folder.specs.Folder.{Says, entry_of}
use Rattle.star_folder.proofs.Names.{sorted_names}
use Rattle.star_folder.proofs.walk.list_folder.Goals as goal

pub returns-clause-tells : goal.returns-clause-tells
returns-clause-tells g c =
    let entries = c.in-Ok.listing.entries in
    (subst (λ p. Says ((g.F.Folder.holds c.args.folder.now).entries p) (map entry_of entries)) c.text.ensures.text c.in-Ok.ensures.tells, sorted_names entries c.len.ensures.ordered)

pub returns-then-len-listed-clause-stops : goal.returns-then-len-listed-clause-stops
returns-then-len-listed-clause-stops g c =
    let entries = c.in-Ok.listing.entries in
    let told = subst (λ p. Says ((g.F.Folder.holds c.args.folder.now).entries p) (map entry_of entries)) c.text.ensures.text c.in-Ok.ensures.tells in
    (map entry_of entries, (told, sorted_names entries c.len.ensures.ordered), omega (arith, length-map entries entry_of, c.len.ensures.len))
