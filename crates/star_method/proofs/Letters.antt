-- ASCII letters in the other case, byte by byte.
use Rattle.std.proofs.Common.{◌≡◌, ℕ, List, [], ◌∷◌, map, refl, arith}
use Rattle.std.proofs.lemmas.Bool.Decides.{nat_tests}
use Rattle.std.specs.Char.{to_ascii_lowercase, to_ascii_uppercase}
use Rattle.star_meaning.specs.Texts.{lower, upper}

lower_one : (b : ℕ) → to_ascii_lowercase b ≡ lower b
lower_one b = grind (arith, nat_tests)

upper_one : (b : ℕ) → to_ascii_uppercase b ≡ upper b
upper_one b = grind (arith, nat_tests)

pub lower_is : (bs : List ℕ) → map to_ascii_lowercase bs ≡ map lower bs
lower_is [] = refl
lower_is (b ∷ bs) = λ i. lower_one b i ∷ lower_is bs i

pub upper_is : (bs : List ℕ) → map to_ascii_uppercase bs ≡ map upper bs
upper_is [] = refl
upper_is (b ∷ bs) = λ i. upper_one b i ∷ upper_is bs i
