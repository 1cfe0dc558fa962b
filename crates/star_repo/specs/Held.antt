-- The content of a folder at each label: a text, or no file.
use Rattle.std.specs.Prelude.{◌≡◌, ⊤, ℕ, ◌≤◌, List, [], ◌∷◌, length, take, drop, Option, Some, None, option_map, IfSome, if◌then◌else◌}
use Rattle.std.specs.Str.{bytes_eq}

-- at each label the text of a file, or no file
abbrev pub Held : Type 0
Held = List ℕ → Option (List ℕ)

-- the files that a folder tells of, by label: nothing if it does not tell of the label
abbrev pub Said : Type 0
Said = List ℕ → Option (Option (List ℕ))

abbrev pub Tells : Option (Option (List ℕ)) → Option (List ℕ) → Type 0
Tells None found = ⊤
Tells (Some all) found = found ≡ all

-- a folder may hold this, by all that it tells
abbrev pub Fits : Said → Held → Type 0
Fits said held = (label : List ℕ) → Tells (said label) (held label)

-- the bytes that are read at a label: the text, or its first 1,048,577 bytes if it has more
abbrev pub TellsFront : Option (Option (List ℕ)) → Option (List ℕ) → Type 0
TellsFront None found = IfSome found (λ front. length front ≤ 1048577)
TellsFront (Some all) found = found ≡ option_map (take 1048577) all

-- the byte order mark, in UTF-8
abbrev pub mark : List ℕ
mark = 0xef ∷ 0xbb ∷ 0xbf ∷ []

-- the text of a file's bytes: a mark at the front does not belong to it
abbrev pub unmarked : List ℕ → List ℕ
unmarked bytes = if bytes_eq (take 3 bytes) mark then drop 3 bytes else bytes
