-- Places in strings, within bounds.
use Rattle.std.specs.Prelude.{ℕ, zero, suc, ◌+◌, ◌-◌, nat_eq, nat_le, min, Bool, ◌&&◌, List, [], ◌∷◌, length, take, drop, ℤ, pos, negsuc, Option, Some, None, if◌then◌else◌}
use Rattle.std.specs.List.{list_any, starts_with}
use Rattle.star_strings.specs.declared.table.Argument.{Argument}
use Rattle.star_strings.specs.declared.table.Argument.TheVariants as argument

-- a place below 0 gets the length added; then it is held within 0 and the length
abbrev pub held : ℕ → ℤ → ℕ
held n (pos i) = min i n
held n (negsuc i) = n - suc i

abbrev pub bound : ℕ → ℕ → Option ℤ → ℕ
bound n absent None = absent
bound n absent (Some z) = held n z

-- bounds [a, [b]]: 0 and the length if they are absent or None
abbrev pub bounds : ℕ → List Argument → ℕ × ℕ
bounds n (argument.Place a ∷ []) = (bound n 0 a, n)
bounds n (argument.Place a ∷ argument.Place b ∷ []) = (bound n 0 a, bound n n b)
bounds n _ = (0, n)

-- the bytes from a to b
abbrev pub between : List ℕ → ℕ × ℕ → List ℕ
between t (a, b) = take (b - a) (drop a t)

-- whether u is in t at a place
abbrev pub stands_at : List ℕ → List ℕ → ℕ → Bool
stands_at t u i = starts_with nat_eq (drop i t) u

-- the first, and the last, of n places from the i-th on that has u
abbrev pub first_place : List ℕ → List ℕ → ℕ → ℕ → Option ℕ
first_place t u zero i = None
first_place t u (suc n) i = if stands_at t u i then Some i else first_place t u n (i + 1)

abbrev pub last_place : List ℕ → List ℕ → ℕ → ℕ → Option ℕ
last_place t u zero i = None
last_place t u (suc n) i = if stands_at t u (i + n) then Some (i + n) else last_place t u n i

-- the least, and the greatest, place i from a on of u in t, with i and the length of u at most b
abbrev pub first_between : List ℕ → List ℕ → ℕ → ℕ → Option ℕ
first_between t u a b = first_place t u (b + 1 - (a + length u)) a

abbrev pub last_between : List ℕ → List ℕ → ℕ → ℕ → Option ℕ
last_between t u a b = last_place t u (b + 1 - (a + length u)) a

abbrev pub first_within : List ℕ → List ℕ → List Argument → Option ℕ
first_within t u given = first_between t u (bounds (length t) given).0 (bounds (length t) given).1

abbrev pub last_within : List ℕ → List ℕ → List Argument → Option ℕ
last_within t u given = last_between t u (bounds (length t) given).0 (bounds (length t) given).1

-- whether u is within the bounds at a, or at b less its length
abbrev pub stands_first : List ℕ → ℕ → ℕ → List ℕ → Bool
stands_first t a b u = nat_le (a + length u) b && stands_at t u a

abbrev pub stands_last : List ℕ → ℕ → ℕ → List ℕ → Bool
stands_last t a b u = nat_le (a + length u) b && stands_at t u (b - length u)

-- startswith(us, [a, [b]]) and endswith(us, [a, [b]])
abbrev pub starts : List ℕ → List (List ℕ) → List Argument → Bool
starts t us given = list_any (stands_first t (bounds (length t) given).0 (bounds (length t) given).1) us

abbrev pub ends : List ℕ → List (List ℕ) → List Argument → Bool
ends t us given = list_any (stands_last t (bounds (length t) given).0 (bounds (length t) given).1) us
