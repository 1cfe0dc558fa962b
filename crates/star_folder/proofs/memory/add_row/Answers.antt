use Rattle.std.proofs.Common.{◌≡◌, Bool, true, false, not, map, sym, ap, ◌∙◌, refl}
use Rattle.std.specs.BTreeMap.{insert_entry}
use Rattle.std.specs.Cmp.Lexicographic.{slice_cmp}
use Rattle.std.specs.Ordering.{nat_cmp}
use Rattle.std.specs.Str.{bytes_eq}
use Rattle.star_folder.specs.Folder.{entry_of}
use Rattle.star_folder.proofs.MemoryRows.{entry_inserted}
use Rattle.star_folder.proofs.memory.add_row.Goals as goal

not_false : (b : Bool) → not b ≡ false → b ≡ true
not_false true h = refl
not_false false h = sym h

pub returns-clause-entries : goal.returns-clause-entries
returns-clause-entries c =
    let is : bytes_eq c.args.row.now.path.now c.args.path.now ≡ true = not_false _ (sym c.ne.ensures ∙ c.if-ne.false) in
    rw is (ap (map entry_of) c.in_ok-insert.ensures.entries ∙ entry_inserted c.args.entries.now.entries c.in_ok-name.name c.args.row.now.kind
    ∙ ap (λ n. insert_entry (slice_cmp nat_cmp) (map entry_of c.args.entries.now.entries) n c.args.row.now.kind) c.in_ok-name.ensures.ok)
