-- Ints and strings: the invariants of the loops over their bytes.
use Rattle.std.proofs.Common.{◌≡◌, ℕ, zero, suc, ◌+◌, ◌-◌, ◌*◌, ◌<◌, ◌≤◌, Bool, true, false, cond, nat_le, [], ◌∷◌, ◌++◌, length, take, drop, Option, Some, None, refl, ap, arith, sym, ◌∙◌}
use Rattle.std.specs.Char.{is_digit, digit_value}
use Rattle.std.proofs.Math.Nat.{le-mul_of_pos_right}
use Rattle.std.proofs.lemmas.Bool.{leb-true}
use Rattle.std.proofs.lemmas.List.{take_all, length-drop}
use Rattle.star_lex.specs.declared.value.Quoting.{Quoting}
use Rattle.star_lex.specs.Values.{Text, Part, starts_with, number, at_most, quotes, part, meant, more, closed_from, closed, decoded_from, decoded, opening, inside}

past_limit_end : (most n : ℕ) → most < n → (v : Bool) → nat_le n most ≡ v → at_most most (Some n) ≡ None
past_limit_end most n over true e = absurd (omega (arith, leb-true n most e))
past_limit_end most n over false e = rw e refl

-- a number past the limit stays past it
pub past_limit : (base most n : ℕ) (z : Text) → 1 ≤ base → most < n → at_most most (number base n z) ≡ None
past_limit base most n [] h over = past_limit_end most n over (nat_le n most) refl
past_limit base most n (b ∷ z) h over =
    let k : n ≤ n * base = le-mul_of_pos_right n h in
    let ih = past_limit base most (n * base + digit_value b) z h (omega arith) in
    elim (is_digit b base) as (λ v. at_most most (cond v (number base (n * base + digit_value b) z) None) ≡ None) [ true ↦ ih | false ↦ refl ]

pub drop-part : (n b : ℕ) (z : Text) → 1 ≤ n → drop (n - 1) z ≡ drop n (b ∷ z)
drop-part zero b z h = absurd (omega arith)
drop-part (suc n) b z h = let e : suc n - 1 ≡ n = omega arith in ap (λ k. drop k z) e

closed_from-drop : (n : ℕ) (q : Quoting) (z : Text) → closed_from n q z ≡ closed_from 0 q (drop n z)
closed_from-drop zero q z = refl
closed_from-drop (suc n) q [] = refl
closed_from-drop (suc n) q (b ∷ z) = closed_from-drop n q z

pub closed_nil : (q : Quoting) → closed q [] ≡ None
unfolding closed
closed_nil q = refl

some_quotes : (q : Quoting) (t : Bool) → q.triple ≡ t → starts_with (quotes q) [] ≡ false
some_quotes q true e = rw e refl
some_quotes q false e = rw e refl

pub closed_here : (q : Quoting) (z : Text) → starts_with (quotes q) z ≡ true → closed q z ≡ Some (length (quotes q))
unfolding closed
closed_here q [] e = let f = some_quotes q q.triple refl in cc
closed_here q (b ∷ z) e = rw e refl

pub closed_never : (q : Quoting) (z : Text) → starts_with (quotes q) z ≡ false → part q z ≡ None → closed q z ≡ None
unfolding closed
closed_never q [] e n = refl
closed_never q (b ∷ z) e n = rw (e, n) refl

part_nil : (q : Quoting) → part q [] ≡ None
unfolding part
part_nil q = refl

pub closed_later : (q : Quoting) (z : Text) (p : Part) → starts_with (quotes q) z ≡ false → part q z ≡ Some p → 1 ≤ p.0 → closed q z ≡ more p.0 (closed q (drop p.0 z))
unfolding closed
closed_later q [] p e s h = let n = part_nil q in cc
closed_later q (b ∷ z) p e s h = rw (e, s, closed_from-drop (p.0 - 1) q z, drop-part p.0 b z h) refl

pub more_more : (m n : ℕ) (o : Option ℕ) → more m (more n o) ≡ more (m + n) o
more_more m n None = refl
more_more m n (Some k) = ap Some (omega arith)

decoded_from-drop : (n : ℕ) (q : Quoting) (z : Text) → decoded_from n q z ≡ decoded_from 0 q (drop n z)
decoded_from-drop zero q z = refl
decoded_from-drop (suc n) q [] = refl
decoded_from-drop (suc n) q (b ∷ z) = decoded_from-drop n q z

rest_decoded : (q : Quoting) (b : ℕ) (z : Text) (n : ℕ) → 1 ≤ n → decoded_from (n - 1) q z ≡ decoded_from 0 q (drop n (b ∷ z))
rest_decoded q b z n h = decoded_from-drop (n - 1) q z ∙ ap (decoded_from 0 q) (drop-part n b z h)

decoded_at : Quoting → Text → Option Part → Text
decoded_at q z o = elim o as (λ _. Text) [ None ↦ [] | Some p ↦ meant p.1 ++ decoded_from (p.0 - 1) q z ]

pub decoded_none : (q : Quoting) (z : Text) → part q z ≡ None → decoded q z ≡ []
unfolding decoded decoded_at
decoded_none q [] n = refl
decoded_none q (b ∷ z) n = ap (decoded_at q z) n

pub decoded_some : (q : Quoting) (z : Text) (p : Part) → part q z ≡ Some p → 1 ≤ p.0 → decoded q z ≡ meant p.1 ++ decoded q (drop p.0 z)
unfolding decoded decoded_at
decoded_some q [] p s h = let n = part_nil q in cc
decoded_some q (b ∷ z) p s h = ap (decoded_at q z) s ∙ ap (λ t. meant p.1 ++ t) (rest_decoded q b z p.0 h)

pub decoded_nil : (q : Quoting) (z : Text) → length z < opening q + length (quotes q) → decoded q (inside q z) ≡ []
unfolding decoded
decoded_nil q z h = let e : length z - (opening q + length (quotes q)) ≡ 0 = omega arith in rw e refl

drop_most : (n : ℕ) (z : Text) → length z ≤ n → drop n z ≡ []
drop_most zero [] h = refl
drop_most (suc n) [] h = refl
drop_most zero (b ∷ z) h = absurd (omega arith)
drop_most (suc n) (b ∷ z) h = drop_most n z (omega arith)

-- a span that ends past the text takes the rest of the text
pub taken_short : (z : Text) (start end : ℕ) → length z ≤ end → take (length z - start) (drop start z) ≡ take (end - start) (drop start z)
taken_short z start end h =
    take_all (length z - start) (drop start z) (omega (arith, length-drop start z)) ∙ sym (take_all (end - start) (drop start z) (omega (arith, length-drop start z)))

pub taken_none : (z : Text) (start end : ℕ) → length z ≤ start → take (end - start) (drop start z) ≡ []
taken_none z start end h = rw (drop_most start z h) (take_all (end - start) [] (omega arith))
