-- The results that are kept of parsing texts.
use Rattle.std.specs.Prelude.{◌≡◌, ◌≢◌, ◌+◌, ◌<◌, ℕ, All, List, [], ◌∷◌, Option, Some, None, IfOk, IfSome, IsSome, Result, Ok, Err, Vec, length, slice_index_or}
use Rattle.std.specs.Arc.{arc_value}
use Rattle.star_label.specs.Files.{File, label_at, text_at}
use Rattle.star_lex.specs.declared.token.SyntaxFault.TheVariants.{Memory}
use Rattle.star_parser.specs.Sources.{Parses}
use Rattle.star_memo.specs.declared.parses.Kept.{Kept}
use Rattle.star_memo.specs.declared.parses.Parse.{Parse}
use Rattle.star_memo.specs.declared.parses.Parse.TheVariants.{Tree, Fault}

-- this is the result of parsing a text: its tree, or its fault if it has no tree
abbrev pub IsParse : List ℕ → Parse → Type 0
IsParse text (Tree tree) = Parses text (Ok tree)
IsParse text (Fault fault) = Parses text (Err fault) × (fault ≢ Memory)

abbrev pub IsKept : List ℕ → Option Kept → Type 0
IsKept text kept = IfSome kept (λ k. IsParse text (arc_value k.parse))

-- whatever is kept for a file, by its number, is the result of parsing its text
abbrev pub AreKept : List File → List (Option Kept) → Type 0
AreKept files all =
    (n : ℕ) (d : Option Kept) → n < length all → IsKept (text_at files n) (slice_index_or all n d)

-- each of these is the result of parsing the text of the file with its number
abbrev pub AreMade : List File → List (ℕ × Parse) → Type 0
AreMade files made = All (λ p. IsParse (text_at files p.0) p.1) made

-- so it is with each share that was made
abbrev pub AreSharesMade : {Z E : Type 0} → List File → List (Result (Vec (ℕ × Parse) Z) E) → Type 0
AreSharesMade files shares = All (λ r. IfOk r (λ made. AreMade files made.items)) shares

-- something is kept for the file n
abbrev pub Has : List (Option Kept) → ℕ → Type 0
Has all n = IsSome (slice_index_or all n None)

-- the file n has the label and the text that the file m had before
pub record IsSameFile (before : List File) (m : ℕ) (files : List File) (n : ℕ) : Type 0 where
  pub there : m < length before
  pub label : label_at before m ≡ label_at files n
  pub text : text_at before m ≡ text_at files n

-- whatever is kept for the file n was last reached by this request
abbrev pub IsTouched : List (Option Kept) → ℕ → ℕ → Type 0
IsTouched all request n = IfSome (slice_index_or all n None) (λ k. k.used ≡ request)

-- how many bytes the texts have whose results are kept
abbrev pub kept_bytes : List File → List (Option Kept) → ℕ
kept_bytes [] all = 0
kept_bytes (f ∷ fs) [] = 0
kept_bytes (f ∷ fs) (None ∷ all) = kept_bytes fs all
kept_bytes (f ∷ fs) (Some k ∷ all) = length f.1 + kept_bytes fs all
