-- The join of two rows of things with numbers: of modules that are told of files, in the order of the files' labels.
use Rattle.std.specs.Prelude.{◌≡◌, ◌↔◌, ◌⊎◌, ℕ, List, [], ◌∷◌, Contains, if◌then◌else◌, map, length, nat_eq, nat_lt}
use Rattle.std.specs.List.{filter, list_any}
use Rattle.std.specs.List.Sorted.{IsStrictlyIncreasing}

-- a row is in the order of its numbers, so each number stands once
abbrev pub InOrder : {A : Type 0} → (A → ℕ) → List A → Type 0
InOrder number xs = IsStrictlyIncreasing (map number xs)

-- where two rows have one number, they have the same under it
abbrev pub Agree : {A : Type 0} → (A → ℕ) → List A → List A → Type 0
Agree {A} number xs ys = (x y : A) → Contains xs x → Contains ys y → number x ≡ number y → x ≡ y

-- a row is the join of two: it is in order, all that it has is in one of them, and it has all that they have
pub record IsJoin {A : Type 0} (number : A → ℕ) (xs ys zs : List A) : Type 0 where
  pub in_order : InOrder number zs
  pub all : (z : A) → Contains zs z ↔ (Contains xs z ⊎ Contains ys z)

-- one thing more in its place, unless its number is there
unfoldable pub put : {A : Type 0} → (A → ℕ) → A → List A → List A
put number x [] = x ∷ []
put number x (y ∷ ys) =
    if nat_lt (number x) (number y) then x ∷ y ∷ ys
    else (if nat_eq (number x) (number y) then y ∷ ys else y ∷ put number x ys)

-- the join of two rows
unfoldable pub join : {A : Type 0} → (A → ℕ) → List A → List A → List A
join number [] ys = ys
join number (x ∷ xs) ys = put number x (join number xs ys)

-- how many things of a row have a number that another row has too
unfoldable pub shared : {A : Type 0} → (A → ℕ) → List A → List A → ℕ
shared number xs ys = length (filter (λ x. list_any (λ y. nat_eq (number x) (number y)) ys) xs)
