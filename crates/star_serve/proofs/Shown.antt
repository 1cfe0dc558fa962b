-- The bytes that show how far a run is.
use Rattle.std.proofs.Common.{◌≡◌, ℕ, Bool, true, false, All, List, [], ◌∷◌, ◌++◌, Option, None, Some, Result, Ok, Err, Vec, Global, inl, inr, ap, sym, ◌∙◌, append_assoc, refl, subst}
use Rattle.std.specs.Prelude.{IfOk}
use Rattle.std.proofs.lemmas.Bool.{true≢false}
use Rattle.std.proofs.lemmas.List.{append-nil}
use Rattle.std.proofs.lemmas.List.Elements.{All-nil, All-push}
use Rattle.star_serve.specs.Progress.{IsLine, IsShown, ShowsLines, joined, progress_line, rest_cleared}
use Rattle.star_serve.specs.Stream.{Adds}
use Rattle.star_serve.proofs.Streams.{Adds-more}

joined-more : (ls : List (List ℕ)) (l : List ℕ) → joined (ls ++ l ∷ []) ≡ joined ls ++ l
joined-more [] l = append-nil l
joined-more (x ∷ ls) l = ap (λ t. x ++ t) (joined-more ls l) ∙ sym (append_assoc x (joined ls) l)

-- nothing went through yet
pub no_lines : (o : Option (List ℕ)) → Adds o o [] → ShowsLines false o o
no_lines o same = ([], All-nil IsLine, λ none. refl, same)

-- one line more
pub one_line_more : (a b c : Option (List ℕ)) (line : List ℕ) (was : Bool) → ShowsLines was a b → IsLine line → Adds b c line → ShowsLines true a c
one_line_more a b c line was (lines, all, none, before) one then = (
  lines ++ line ∷ [],
  All-push IsLine lines line all one,
  λ no. absurd (true≢false no),
  subst (Adds a c) (sym (joined-more lines line)) (Adds-more a b c (joined lines) line before then),
)

abbrev WritesShown : Option (List ℕ) → Option (List ℕ) → Type 0
WritesShown old new = (bytes : List ℕ) × IsShown bytes × Adds old new bytes

-- lines, and at their end the bytes that clear the last one
pub cleared_after : (a b c : Option (List ℕ)) (was : Bool) → ShowsLines was a b → Adds b c (13 ∷ rest_cleared) → WritesShown a c
cleared_after a b c was (lines, all, none, before) then =
    (joined lines ++ 13 ∷ rest_cleared, inr (lines, all, refl), Adds-more a b c (joined lines) (13 ∷ rest_cleared) before then)

-- no line
pub nothing_after : (a b : Option (List ℕ)) (was : Bool) → was ≡ false → ShowsLines was a b → WritesShown a b
nothing_after a b was off (lines, all, none, before) =
    ([], inl refl, subst (λ ls. Adds a b (joined ls)) (none off) before)

-- the line of some counts is a line
pub is_line : {E : Type 0} (r : Result (Vec ℕ Global) E) (done reached : ℕ) (longest : Option (List ℕ)) → IfOk r (λ v. v.items ≡ progress_line done reached longest) → IfOk r (λ v. IsLine v.items)
is_line (Ok v) done reached longest same = (done, reached, longest, same)
is_line (Err e) done reached longest same = tt
