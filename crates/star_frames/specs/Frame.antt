-- The frames in which the protocol sends messages.
use Rattle.std.specs.Prelude.{◌≡◌, ℕ, List, ◌∷◌, [], ◌++◌, codes, length, Option, None, Some}
use Rattle.std.specs.Fmt.{decimal}

-- a line end of a header
abbrev pub crlf : List ℕ
crlf = 13 ∷ 10 ∷ []

-- the line that says how many bytes a content has
abbrev pub length_line : ℕ → List ℕ
length_line n = codes "Content-Length: " ++ decimal n

-- the bytes of the frame of a content
abbrev pub frame_of : List ℕ → List ℕ
frame_of content = length_line (length content) ++ (crlf ++ (crlf ++ content))
