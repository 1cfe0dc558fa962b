-- The ints that strings spell: an optional sign and decimal digits.
use Rattle.std.specs.Prelude.{ℕ, ◌+◌, ◌-◌, ◌*◌, nat_eq, nat_lt, Bool, not, ◌&&◌, List, [], ◌∷◌, length, Option, Some, None, ℤ, pos, neg_ℤ, if◌then◌else◌}
use Rattle.std.specs.List.{list_all}

abbrev pub is_digit : ℕ → Bool
is_digit b = not (nat_lt b 48) && nat_lt b 58

abbrev pub number_from : ℕ → List ℕ → ℕ
number_from n [] = n
number_from n (b ∷ bs) = number_from (n * 10 + (b - 48)) bs

abbrev pub decimal_of : List ℕ → Option ℕ
decimal_of t = if list_all is_digit t && not (nat_eq (length t) 0) then Some (number_from 0 t) else None

abbrev pub signed_by : (ℕ → ℤ) → Option ℕ → Option ℤ
signed_by f None = None
signed_by f (Some n) = Some (f n)

abbrev pub spelled : List ℕ → Option ℤ
spelled [] = None
spelled (b ∷ bs) =
    if nat_eq b 45 then signed_by (λ n. neg_ℤ (pos n)) (decimal_of bs)
    else (if nat_eq b 43 then signed_by pos (decimal_of bs)
    else signed_by pos (decimal_of (b ∷ bs)))
