-- Truth values, and bytes that a text has or has not.
use Rattle.std.proofs.Common.{◌≡◌, ℕ, Bool, true, false, ◌||◌, List, [], ◌∷◌, ◌++◌, refl}
use Rattle.std.specs.List.{list_any}

-- a truth value is not both
pub apart : (b : Bool) → b ≡ true → b ≡ false → ⊥
apart true on off = cc
apart false on off = cc

pub or_first : (a b : Bool) → (a || b) ≡ false → a ≡ false
or_first true b h = cc
or_first false b h = refl

pub or_second : (a b : Bool) → (a || b) ≡ false → b ≡ false
or_second true b h = cc
or_second false b h = h

or_parts : (a b c : Bool) → (a || b) ≡ false → (b ≡ false → c ≡ false) → (a || c) ≡ false
or_parts true b c h f = cc
or_parts false b c h f = f h

-- a text has no such byte
abbrev pub Lacks : (ℕ → Bool) → List ℕ → Type 0
Lacks p xs = list_any p xs ≡ false

pub lacks_append : (p : ℕ → Bool) (xs ys : List ℕ) → Lacks p xs → Lacks p ys → Lacks p (xs ++ ys)
lacks_append p [] ys h g = g
lacks_append p (x ∷ xs) ys h g = or_parts (p x) (list_any p xs) (list_any p (xs ++ ys)) h (λ rest. lacks_append p xs ys rest g)

neither : (a b : Bool) → a ≡ false → b ≡ false → (a || b) ≡ false
neither true b h g = cc
neither false b h g = g

pub lacks_cons : (p : ℕ → Bool) (x : ℕ) (xs : List ℕ) → p x ≡ false → Lacks p xs → Lacks p (x ∷ xs)
lacks_cons p x xs h g = neither (p x) (list_any p xs) h g
