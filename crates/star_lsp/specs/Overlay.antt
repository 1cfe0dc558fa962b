-- The files as an editor has them: an open text stands for the disk's.
use Rattle.std.specs.Prelude.{ℕ, List, [], ◌∷◌, Option, Some, None, string_bytes, if◌then◌else◌}
use Rattle.std.specs.Str.{bytes_eq}
use Rattle.star_repo.specs.Held.{Said}
use Rattle.star_lsp.specs.declared.overlay.OpenText.{OpenText}

-- the first text that is open at a label
abbrev pub open_at : List ℕ → List OpenText → Option (List ℕ)
open_at label [] = None
open_at label (t ∷ ts) = if bytes_eq (string_bytes t.label) label then Some t.text else open_at label ts

-- what is told of a label: its open text, else what the folder tells
abbrev pub or_told : Option (List ℕ) → Option (Option (List ℕ)) → Option (Option (List ℕ))
or_told None told = told
or_told (Some text) told = Some (Some text)

abbrev pub said_over : List OpenText → Said → Said
said_over texts said label = or_told (open_at label texts) (said label)
