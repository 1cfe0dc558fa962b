-- Texts that were parsed, by label.
use Rattle.std.specs.Prelude.{ℕ, ◌*◌, ◌<◌, List, length, take, drop, Option, IfSome, IsSomeAnd, Result, IfOk, Vec, String, string_bytes, slice_index_or}
use Rattle.std.specs.List.{AllZip}
use Rattle.std.specs.declared.alloc.AllocError.{AllocError}
use Rattle.std.specs.declared.alloc.Global.{Global}
use Rattle.star_label.specs.declared.label.Label.{Label}
use Rattle.star_label.specs.Files.{File}
use Rattle.star_reading.specs.Parsed.{AreParsesOf, IsParsed, ParsedView}
use Rattle.star_repo.specs.declared.known.Known.{Known}

-- labels with texts, each beside the result of parsing its text
abbrev pub AreParsed : List (Label × String Global) → List ParsedView → Type 0
AreParsed files parses = AllZip (λ f p. IsParsed (string_bytes f.1) p) files parses

-- the same of files that all have their results
abbrev pub AreFilesParsed : List File → List (Option ParsedView) → Type 0
AreFilesParsed files parses = AllZip (λ f p. IsSomeAnd p (IsParsed f.1)) files parses

-- the results for the parts of a list that is cut into parts of this size, if memory sufficed
abbrev pub ArePartsParsed : List (Label × String Global) → ℕ → List (Result (Vec ParsedView Global) AllocError) → Type 0
ArePartsParsed files size parts =
    (n : ℕ) (d : Result (Vec ParsedView Global) AllocError) → n < length parts
    → IfOk (slice_index_or parts n d) (λ parses. AreParsed (take size (drop (n * size) files)) parses.items)

-- the results for the parts of a list were joined
abbrev pub AreJoined : List (Result (Vec ParsedView Global) AllocError) → List ParsedView → Type 0
AreJoined parts parses =
    (files : List (Label × String Global)) (size : ℕ) → ArePartsParsed files size parts
    → AreParsed (take (length parts * size) files) parses

-- of some files, if any are given, some texts were parsed so
abbrev pub AreKnown : Option Known → Type 0
AreKnown known = IfSome known (λ k. AreParsesOf k.files.now k.parses.now)
