-- The program's files and words, as contracts see them.
use Rattle.std.specs.Prelude.{ℕ, List, Option, Some, None, String, string_bytes, if◌then◌else◌}
use Rattle.std.specs.declared.alloc.Global.{Global}
use Rattle.star_label.specs.Files.{File}
use Rattle.star_bundle.specs.Bundle.{Asked, is_label}
use Rattle.star_bundle.specs.declared.bundle.AskedFor.{AskedFor}

-- a member's name and text
abbrev pub member_view : String Global × String Global → File
member_view m = (string_bytes m.0, string_bytes m.1)

-- a text if it is a label in normal form
abbrev pub if_label : List ℕ → Option (List ℕ)
if_label t = if is_label t then Some t else None

-- an input, as contracts see it
abbrev pub asked_view : AskedFor → Asked
asked_view a = record { files = a.files; roots = a.roots.items; prelude = a.prelude }
