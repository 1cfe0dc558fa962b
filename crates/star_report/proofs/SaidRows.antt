-- Lines and calls among what was said, one after another.
use Rattle.std.proofs.Common.{◌≡◌, ◌<◌, ◌+◌, ℕ, List, [], ◌∷◌, ◌++◌, get_or, length, map, take, refl, ap, sym, ◌∙◌}
use Rattle.std.proofs.lemmas.List.{take_more}
use Rattle.star_meaning.specs.declared.said.RecordedCall.{RecordedCall}
use Rattle.star_meaning.specs.declared.said.Said.{Said}
use Rattle.star_meaning.specs.declared.said.Said.TheVariants.{Call, Line}
use Rattle.star_plan.specs.Text.{lines_in}
use Rattle.star_report.specs.Calls.{calls_in}

pub lines_push : (xs : List Said) (x : Said) → lines_in (xs ++ x ∷ []) ≡ lines_in xs ++ lines_in (x ∷ [])
lines_push [] x = refl
lines_push (Line t ∷ xs) x = ap (λ ts. t ∷ ts) (lines_push xs x)
lines_push (Call c ∷ xs) x = lines_push xs x

pub calls_push : (xs : List Said) (x : Said) → calls_in (xs ++ x ∷ []) ≡ calls_in xs ++ calls_in (x ∷ [])
calls_push [] x = refl
calls_push (Line t ∷ xs) x = calls_push xs x
calls_push (Call c ∷ xs) x = ap (λ cs. c ∷ cs) (calls_push xs x)

-- the lines and the calls of one more
pub lines_more : (xs : List Said) (i : ℕ) (x : Said) → i < length xs → lines_in (take (i + 1) xs) ≡ lines_in (take i xs) ++ lines_in (get_or xs i x ∷ [])
lines_more xs i x less = ap lines_in (take_more xs i x less) ∙ lines_push (take i xs) (get_or xs i x)

pub calls_more : (xs : List Said) (i : ℕ) (x : Said) → i < length xs → calls_in (take (i + 1) xs) ≡ calls_in (take i xs) ++ calls_in (get_or xs i x ∷ [])
calls_more xs i x less = ap calls_in (take_more xs i x less) ∙ calls_push (take i xs) (get_or xs i x)
