-- The bytes that a buffer has ahead.
use Rattle.std.proofs.Common.{◌≡◌, ◌<◌, ◌≤◌, ◌+◌, ◌-◌, ℕ, suc, List, ◌∷◌, Bool, true, false, Option, None, Some, length, take, drop, get_or, refl, ap, sym, ◌∙◌, subst, arith}
use Rattle.std.specs.Prelude.{MatchOption}
use Rattle.std.specs.List.{slice_range}
use Rattle.memchr.specs.Find.{NoneBefore, Nowhere}
use Rattle.std.proofs.lemmas.Bool.{eqb-true}
use Rattle.std.proofs.lemmas.List.{drop-drop, drop-take, get_or-take, get_or_default, length-drop, length-take-le}
use Rattle.std.proofs.Math.Seq.{drop-cons}
use Rattle.memchr.specs.Find.{IsFirstByte, Passes, is_byte}
use Rattle.star_session.specs.Lines.{IsOneLine, is_end}

-- the bytes ahead but for the first `count`
pub rest : (buffer : List ℕ) (start end count : ℕ) → count ≤ end - start → slice_range buffer (start + count) end ≡ drop count (slice_range buffer start end)
rest buffer start end count h =
    let n : end - start ≡ count + (end - (start + count)) = omega (arith, h) in
    sym (ap (λ k. drop count (take k (drop start buffer))) n
    ∙ drop-take count (end - (start + count)) (drop start buffer)
    ∙ ap (λ xs. take (end - (start + count)) xs) (drop-drop count start buffer))

pub length_ahead : (buffer : List ℕ) (start end : ℕ) → start ≤ end → end ≤ length buffer → length (slice_range buffer start end) ≡ end - start
length_ahead buffer start end low high =
    let size = length-drop start buffer in
    length-take-le (end - start) (drop start buffer) (omega (arith, size, low, high))

decided : (b : Bool) → (b ≡ true → ⊥) → b ≡ false
decided true h = absurd (h refl)
decided false h = refl

-- bytes in which no line end is found have none
pub none_found : (bytes : List ℕ) → Nowhere (Passes (is_byte 10) bytes) 0 (length bytes) → IsOneLine bytes
none_found bytes h k d s =
    decided (is_end (get_or bytes k d)) (λ e. h k (omega arith) s (ap is_end (sym (get_or_default bytes k d 0 s)) ∙ e))

-- no line end is before the first one that is found
pub one_found : (bytes : List ℕ) (at : ℕ) → NoneBefore (Passes (is_byte 10) bytes) 0 (length bytes) at → IsOneLine (take at bytes)
one_found bytes at h k d s =
    let size = length-take-le at bytes (omega (arith, h.high)) in
    let low : k < at = omega (arith, size, s) in
    let same = get_or-take at bytes k d low ∙ get_or_default bytes k d 0 (omega (arith, low, h.high)) in
    decided (is_end (get_or (take at bytes) k d)) (λ e. h.before k (omega arith) low (ap is_end (sym same) ∙ e))

-- a line end is at the place where one is found
pub end_found : (bytes : List ℕ) (at : ℕ) → at < length bytes → Passes (is_byte 10) bytes at → drop at bytes ≡ 10 ∷ drop (at + 1) bytes
end_found bytes at s here =
    let byte : get_or bytes at 0 ≡ 10 = eqb-true (get_or bytes at 0) 10 here in
    let next : suc at ≡ at + 1 = omega arith in
    drop-cons bytes at 0 s ∙ ap (λ b. b ∷ drop (suc at) bytes) byte ∙ ap (λ n. 10 ∷ drop n bytes) next

-- the place of the first line end, if there is one
pub end_in : (bytes : List ℕ) (size : ℕ) (r : Option ℕ) → length bytes ≡ size → IsFirstByte (is_byte 10) bytes r
    → MatchOption r (IsOneLine bytes) (λ at. (at < size) × IsOneLine (take at bytes) × (drop at bytes ≡ 10 ∷ drop (at + 1) bytes))
end_in bytes size None e h = none_found bytes h
end_in bytes size (Some at) e h = (subst (λ n. at < n) e h.0.high, one_found bytes at h.0, end_found bytes at h.0.high h.1)
