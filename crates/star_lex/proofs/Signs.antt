-- The sign that the code finds by the first byte is the longest of the table.
use Rattle.std.proofs.Common.{◌≡◌, ℕ, Bool, true, false, cond, ◌==◌, [], ◌∷◌, Some, None, refl, subst, sym}
use Rattle.std.proofs.lemmas.Bool.{eqb-true}
use Rattle.star_lex.specs.declared.token.Punctuator.{Punctuator}
use Rattle.star_lex.specs.declared.token.Punctuator.TheVariants as s
use Rattle.star_lex.specs.Tokens.{longer, sign}
use Rattle.star_lex.specs.Values.{Text, starts_with}
use Rattle.star_lex.specs.Signs.{either, operator}

-- either a number is the other, or it is not
at_or' : (k b : ℕ) (P : ℕ → Type 0) → P k → ((b == k) ≡ false → P b) → (v : Bool) → (b == k) ≡ v → P b
at_or' k b P here other_way true e = subst P (sym (eqb-true b k e)) here
at_or' k b P here other_way false e = other_way e

at_or : (k b : ℕ) (P : ℕ → Type 0) → P k → ((b == k) ≡ false → P b) → P b
at_or k b P here other_way = at_or' k b P here other_way (b == k) refl

short_or_long : (p : Bool) (short long : Punctuator) → longer true (short, 1) (longer p (long, 2) None) ≡ Some (cond p (long, 2) (short, 1))
short_or_long true short long = refl
short_or_long false short long = refl

bang_only : (p : Bool) → longer p (s.NotEqual, 2) None ≡ either (cond p (Some (s.NotEqual, 2)) None) None
bang_only true = refl
bang_only false = refl

not_equal : (z : Text) → sign (33 ∷ z) ≡ operator 33 z
unfolding sign operator
not_equal z = bang_only (starts_with (61 ∷ []) z)

slashes_then : (q : Bool) → longer true (s.SlashSlash, 2) (longer q (s.SlashSlashAssign, 3) None) ≡ Some (cond q (s.SlashSlashAssign, 3) (s.SlashSlash, 2))
slashes_then true = refl
slashes_then false = refl

slashes : (z : Text) → sign (47 ∷ z) ≡ operator 47 z
unfolding sign operator
slashes [] = refl
slashes (c ∷ z) = at_or 47 c (λ c. sign (47 ∷ c ∷ z) ≡ operator 47 (c ∷ z)) (slashes_then (starts_with (61 ∷ []) z)) (λ n. rw n refl)

shift_then : (q : Bool) (short shift longest : Punctuator) → longer true (shift, 2) (longer true (short, 1) (longer q (longest, 3) None)) ≡ Some (cond q (longest, 3) (shift, 2))
shift_then true short shift longest = refl
shift_then false short shift longest = refl

shift_left : (z : Text) → sign (60 ∷ z) ≡ operator 60 z
unfolding sign operator
shift_left [] = refl
shift_left (c ∷ z) = at_or 60 c (λ c. sign (60 ∷ c ∷ z) ≡ operator 60 (c ∷ z)) (shift_then (starts_with (61 ∷ []) z) s.Less s.ShiftLeft s.ShiftLeftAssign) (λ n. rw n (short_or_long (starts_with (61 ∷ []) (c ∷ z)) s.Less s.LessEqual))

shift_right : (z : Text) → sign (62 ∷ z) ≡ operator 62 z
unfolding sign operator
shift_right [] = refl
shift_right (c ∷ z) = at_or 62 c (λ c. sign (62 ∷ c ∷ z) ≡ operator 62 (c ∷ z)) (shift_then (starts_with (61 ∷ []) z) s.Greater s.ShiftRight s.ShiftRightAssign) (λ n. rw n (short_or_long (starts_with (61 ∷ []) (c ∷ z)) s.Greater s.GreaterEqual))

stars_then : (r : Bool) → r ≡ false → longer true (s.Star, 1) (longer true (s.StarStar, 2) (longer r (s.StarAssign, 2) None)) ≡ Some (s.StarStar, 2)
stars_then true e = cc
stars_then false e = refl

stars : (z : Text) → sign (42 ∷ z) ≡ operator 42 z
unfolding sign operator
stars [] = refl
stars (c ∷ z) = at_or 42 c (λ c. sign (42 ∷ c ∷ z) ≡ operator 42 (c ∷ z)) refl (λ n. rw n (short_or_long (starts_with (61 ∷ []) (c ∷ z)) s.Star s.StarAssign))

-- a byte that begins no other longer sign
other : (b : ℕ) (z : Text) → (b == 42) ≡ false → (b == 47) ≡ false → (b == 60) ≡ false → (b == 62) ≡ false → (b == 33) ≡ false → (b == 43) ≡ false → (b == 45) ≡ false
    → (b == 37) ≡ false → (b == 38) ≡ false → (b == 124) ≡ false → (b == 94) ≡ false → (b == 61) ≡ false → sign (b ∷ z) ≡ operator b z
unfolding sign operator
other b z n42 n47 n60 n62 n33 n43 n45 n37 n38 n124 n94 n61 =
    let Q : ℕ → Type 0 = λ b. sign (b ∷ z) ≡ operator b z in
    at_or 126 b Q refl (λ n126. at_or 46 b Q refl (λ n46. at_or 44 b Q refl (λ n44. at_or 59 b Q refl (λ n59. at_or 58 b Q refl (λ n58.
    at_or 40 b Q refl (λ n40. at_or 41 b Q refl (λ n41. at_or 91 b Q refl (λ n91. at_or 93 b Q refl (λ n93. at_or 123 b Q refl (λ n123. at_or 125 b Q refl (λ n125.
    simp (n42, n47, n60, n62, n33, n43, n45, n37, n38, n124, n94, n61, n126, n46, n44, n59, n58, n40, n41, n91, n93, n123, n125) refl)))))))))))

pub by_first : (b : ℕ) (z : Text) → sign (b ∷ z) ≡ operator b z
unfolding sign operator
by_first b z =
    let P : ℕ → Type 0 = λ b. sign (b ∷ z) ≡ operator b z in
    let q = starts_with (61 ∷ []) z in
    at_or 42 b P (stars z) (λ n42. at_or 47 b P (slashes z) (λ n47. at_or 60 b P (shift_left z) (λ n60. at_or 62 b P (shift_right z) (λ n62.
    at_or 33 b P (not_equal z) (λ n33. at_or 43 b P (short_or_long q s.Plus s.PlusAssign) (λ n43. at_or 45 b P (short_or_long q s.Minus s.MinusAssign) (λ n45.
    at_or 37 b P (short_or_long q s.Percent s.PercentAssign) (λ n37. at_or 38 b P (short_or_long q s.Ampersand s.AmpersandAssign) (λ n38.
    at_or 124 b P (short_or_long q s.Bar s.BarAssign) (λ n124. at_or 94 b P (short_or_long q s.Caret s.CaretAssign) (λ n94. at_or 61 b P (short_or_long q s.Assign s.EqualEqual) (λ n61.
    other b z n42 n47 n60 n62 n33 n43 n45 n37 n38 n124 n94 n61))))))))))))
