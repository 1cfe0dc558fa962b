-- The line of a file: JSON with its label, the bytes and the SHA-256 digest of its text, and the labels that it loads.
use Rattle.std.specs.Prelude.{◌≡◌, ℕ, List, [], ◌∷◌, ◌++◌, Some, codes, length, map}
use Rattle.hex.specs.Hex.{encode_lower}
use Rattle.serde_json.specs.Data.{Data, array, member, no_members, number, object, string, unsigned}
use Rattle.serde_json.specs.View.{items_of}
use Rattle.serde_json.specs.Written.{compact_text}
use Rattle.sha2.specs.Sha256.{sha256}
use Rattle.star_repo.specs.Held.{Said}
use Rattle.star_repo.specs.Loading.{AreLoads}
use Rattle.star_repo.specs.Text.{IsTextAt}

abbrev pub line_data : List ℕ → List ℕ → List (List ℕ) → Data
line_data label text loads =
    object (member (codes "bytes") (number (unsigned (length text)))
    (member (codes "label") (string label)
    (member (codes "loads") (array (items_of (map string loads)))
    (member (codes "sha256") (string (encode_lower (sha256 text))) no_members))))

abbrev pub line_text : List ℕ → List ℕ → List (List ℕ) → List ℕ
line_text label text loads = compact_text (line_data label text loads) ++ 10 ∷ []

-- a line is that of a file with this label and text: it has the labels that the file loads
abbrev pub IsLineOf : List ℕ → List ℕ → List ℕ → Type 0
IsLineOf label text line = (loads : List (List ℕ)) × AreLoads label text loads × (line ≡ line_text label text loads)

-- a line is that of the file at some label in a folder that tells this
abbrev pub IsLine : Said → List ℕ → Type 0
IsLine said line =
    (label : List ℕ) × (text : List ℕ) × IsTextAt (said label) (Some text) × IsLineOf label text line
