-- What a draft says.
use Rattle.std.specs.Prelude.{ℕ, List, [], Option, Some, None, string_bytes}
use Rattle.json.specs.Print as json
use Rattle.star_store.specs.Json.{begun}
use Rattle.star_store.specs.Text.{quoted}
use Rattle.star_visit.specs.declared.draft.Part.{Part}
use Rattle.star_visit.specs.declared.draft.Part.TheVariants as part

-- the bytes of a part of a draft
abbrev pub part_bytes : Part → List ℕ
part_bytes (part.Built text) = string_bytes text
part_bytes (part.Shared text) = text
part_bytes (part.Quoted text) = quoted text
part_bytes (part.Json text) = json.quoted text
part_bytes (part.Line prefix indent depth) = begun prefix indent depth

-- the bytes of a string that may be at the head of a draft
abbrev pub head_bytes : Option (List ℕ) → List ℕ
head_bytes None = []
head_bytes (Some text) = text
