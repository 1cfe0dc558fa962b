-- The parses of files, by their numbers.
use Rattle.std.proofs.Common.{◌<◌, ℕ, zero, suc, List, [], ◌∷◌, Option, Some, None, length, arith}
use Rattle.std.specs.Prelude.{IfSome, IsSomeAnd}
use Rattle.star_label.specs.Files.{File}
use Rattle.star_reading.specs.Parsed.{AreParsesOf, IsParsed, ParsedView}
use Rattle.star_repo.specs.Parsed.{AreFilesParsed}

there : (text : List ℕ) (parse : Option ParsedView) → IsSomeAnd parse (IsParsed text) → IfSome parse (IsParsed text)
there text None h = absurd h
there text (Some p) h = h

pub parses_of : (files : List File) (parses : List (Option ParsedView)) → AreFilesParsed files parses → AreParsesOf files parses
parses_of [] [] z n d low = absurd (omega (arith, low))
parses_of (f ∷ fs) (p ∷ ps) z zero d low = there f.1 p z.0
parses_of (f ∷ fs) (p ∷ ps) z (suc n) d low = parses_of fs ps z.1 n d (omega (arith, low))
parses_of [] (p ∷ ps) z n d low = absurd z
parses_of (f ∷ fs) [] z n d low = absurd z
