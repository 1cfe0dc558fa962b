-- Items in order by merging: the test of two of them may pay, and its fault ends the sorting.
use Rattle.std.specs.Prelude.{ℕ, zero, suc, ◌/◌, nat_lt, Bool, List, [], ◌∷◌, length, take, drop, if◌then◌else◌}
use Rattle.star_meaning.specs.Run.{Action, ◌>>=◌, give}

-- an item in front of the others
abbrev pub in_front : {A : Type 0} → A → Action (List A) → Action (List A)
in_front x others = others >>= λ xs. give (x ∷ xs)

-- the first item of the front, before the rest but for those that the test puts before it; `more` merges what follows it
abbrev pub first_among : {A : Type 0} → (A → A → Action Bool) → A → (List A → Action (List A)) → List A → Action (List A)
first_among before x more [] = in_front x (more [])
first_among before x more (y ∷ ys) =
    before y x
    >>= λ b. if b then in_front y (first_among before x more ys) else in_front x (more (y ∷ ys))

-- two rows in order as one: while both have items, the first of the rest is compared with the first of the front
abbrev pub merged : {A : Type 0} → (A → A → Action Bool) → List A → List A → Action (List A)
merged before [] ys = give ys
merged before (x ∷ xs) ys = first_among before x (merged before xs) ys

-- items in order, halved at most this many times: the front half, which is not the longer one, then the rest, then both
abbrev pub halved : {A : Type 0} → (A → A → Action Bool) → ℕ → List A → Action (List A)
halved before zero xs = give xs
halved before (suc n) xs = if nat_lt (length xs) 2 then give xs else (do
  front ← halved before n (take (length xs / 2) xs)
  rest ← halved before n (drop (length xs / 2) xs)
  merged before front rest)

-- items in order: as many halvings as items are enough
abbrev pub merge_sort : {A : Type 0} → (A → A → Action Bool) → List A → Action (List A)
merge_sort before xs = halved before (length xs) xs
