-- The content of a folder in memory.
use Rattle.std.specs.Prelude.{ℕ, List, [], ◌∷◌, Some, if◌then◌else◌}
use Rattle.std.specs.BTreeMap.{insert_entry}
use Rattle.std.specs.Cmp.Lexicographic.{slice_cmp}
use Rattle.std.specs.Ordering.{nat_cmp}
use Rattle.std.specs.Str.{bytes_eq}
use Rattle.star_label.specs.Label.{label_text}
use Rattle.star_folder.specs.Folder.{Contents, Entry}
use Rattle.star_folder.specs.declared.memory.MemoryFolder.{MemoryFolder}
use Rattle.star_folder.specs.declared.memory.Row.{Row}

abbrev pub rows_of : MemoryFolder → List Row
rows_of folder = folder.rows.now

-- entries with the entry of a row, if it is an entry of the folder at the path
abbrev pub with_row : List ℕ → List Entry → Row → List Entry
with_row path made r =
    if bytes_eq r.path.now path then insert_entry (slice_cmp nat_cmp) made r.name.now r.kind else made

abbrev pub with_rows : List ℕ → List Entry → List Row → List Entry
with_rows path made [] = made
with_rows path made (r ∷ rs) = with_rows path (with_row path made r) rs

-- the bytes of the first row with this label
abbrev pub bytes_among : List ℕ → List Row → List ℕ
bytes_among label [] = []
bytes_among label (r ∷ rs) =
    if bytes_eq (label_text r.path.now r.name.now) label then r.bytes.now else bytes_among label rs

abbrev pub contents_of : List Row → Contents
contents_of rows =
    record { entries = λ path. Some (with_rows path [] rows); bytes = λ label. Some (bytes_among label rows) }
