-- Positions and ranges as the protocol writes them.
use Rattle.std.specs.Prelude.{◌≡◌, ◌≤◌, ℕ, List, codes, length}
use Rattle.serde_json.specs.Data.{Data, member, no_members, number, object, unsigned}
use Rattle.star_frames.specs.Place.{Names}
use Rattle.star_frames.specs.declared.place.Places.{Places}
use Rattle.star_frames.specs.declared.place.Position.{Position}
use Rattle.star_lex.specs.declared.token.Span.{Span}

abbrev pub position_data : Position → Data
position_data p =
    object (member (codes "character") (number (unsigned p.column)) (member (codes "line") (number (unsigned p.line)) no_members))

abbrev pub range_data : Data → Data → Data
range_data start end = object (member (codes "end") end (member (codes "start") start no_members))

-- the position names the offset, if that is within the text
abbrev pub IsNamed : Places → List ℕ → ℕ → Position → Type 0
IsNamed places text offset p = offset ≤ length text → Names places text p offset

-- a range names the bytes of a text
abbrev pub IsRange : Places → List ℕ → Span → Data → Type 0
IsRange places text span d =
    (p q : Position) × (d ≡ range_data (position_data p) (position_data q))
    × IsNamed places text span.start p × IsNamed places text span.end q
