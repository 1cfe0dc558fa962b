-- Characters and bytes.
use Rattle.std.proofs.Common.{◌≡◌, ℕ, List, [], ◌∷◌, Bool, true, ◌&&◌, ◌<◌, map, refl, ap, ◌∙◌, arith}
use Rattle.std.specs.Char.{encode_utf8, is_ascii}
use Rattle.std.specs.List.{list_all}
use Rattle.std.proofs.lemmas.Bool.{and_parts}
use Rattle.std.proofs.lemmas.Bool.Decides.{nat_tests}
use Rattle.std.proofs.lemmas.Str.{encode_ascii}

below : (b : ℕ) → is_ascii b ≡ true → b < 128
below b h = grind (arith, nat_tests)

pub ascii_each : (bs : List ℕ) → list_all is_ascii bs ≡ true → map encode_utf8 bs ≡ map (λ b. b ∷ []) bs
ascii_each [] h = refl
ascii_each (b ∷ bs) h =
    let both = and_parts (is_ascii b) (list_all is_ascii bs) h in
    λ i. encode_ascii b (below b both.0) i ∷ ascii_each bs both.1 i
