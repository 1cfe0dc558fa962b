-- The entries of a folder in memory.
use Rattle.std.proofs.Common.{◌≡◌, List, [], ◌∷◌, map, String, string_bytes, refl, ap, ◌∙◌}
use Rattle.std.specs.declared.alloc.Global.{Global}
use Rattle.std.specs.declared.cmp.Ordering.{Ordering}
use Rattle.std.specs.declared.cmp.Ordering.TheVariants.{Less, Equal, Greater}
use Rattle.std.specs.BTreeMap.{insert_entry}
use Rattle.std.specs.Cmp.Lexicographic.{slice_cmp}
use Rattle.std.specs.Ordering.{match_ordering, nat_cmp}
use Rattle.std.specs.String.{string_cmp}
use Rattle.star_folder.specs.declared.folder.Kind.{Kind}
use Rattle.star_folder.specs.Folder.{entry_of}

abbrev Named : Type 0
Named = String Global × Kind

cases : (o : Ordering) (a b c : List Named) → map entry_of (match_ordering o a b c) ≡ match_ordering o (map entry_of a) (map entry_of b) (map entry_of c)
cases Less a b c = refl
cases Equal a b c = refl
cases Greater a b c = refl

-- an entry put into a map is put among the entries that the map has
pub entry_inserted : (es : List Named) (name : String Global) (kind : Kind) → map entry_of (insert_entry string_cmp es name kind) ≡ insert_entry (slice_cmp nat_cmp) (map entry_of es) (string_bytes name) kind
entry_inserted [] name kind = refl
entry_inserted (e ∷ es) name kind =
    cases (slice_cmp nat_cmp (string_bytes name) (string_bytes e.0)) ((name, kind) ∷ e ∷ es) ((e.0, kind) ∷ es) (e ∷ insert_entry string_cmp es name kind)
    ∙ ap (λ r. match_ordering (slice_cmp nat_cmp (string_bytes name) (string_bytes e.0)) (map entry_of ((name, kind) ∷ e ∷ es)) (map entry_of ((e.0, kind) ∷ es)) (entry_of e ∷ r)) (entry_inserted es name kind)
