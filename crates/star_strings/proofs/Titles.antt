-- Characters with large letters at heads, one more at a time.
use Rattle.std.proofs.Common.{◌≡◌, ℕ, List, [], ◌∷◌, ◌++◌, Bool, map, refl, ap, ◌∙◌, append-nil}
use Rattle.std.specs.Char.{encode_utf8}
use Rattle.std.specs.Str.{encode_utf8_all}
use Rattle.std.proofs.lemmas.Str.{encodes-append}
use Rattle.star_strings.specs.declared.cases.Heads.{Heads}
use Rattle.star_strings.specs.Strings.{cased, headed_after, small_after}

-- whether a letter after characters is small
abbrev pub ends_small : Heads → Bool → List ℕ → Bool
ends_small h small [] = small
ends_small h small (c ∷ cs) = ends_small h (small_after h c) cs

pub ends_more : (h : Heads) (small : Bool) (cs : List ℕ) (c : ℕ) → ends_small h small (cs ++ c ∷ []) ≡ small_after h c
ends_more h small [] c = refl
ends_more h small (d ∷ cs) c = ends_more h (small_after h d) cs c

more : (h : Heads) (small : Bool) (cs : List ℕ) (c : ℕ) → headed_after h small (cs ++ c ∷ []) ≡ headed_after h small cs ++ cased (ends_small h small cs) c ∷ []
more h small [] c = refl
more h small (d ∷ cs) c = ap (λ z. cased small d ∷ z) (more h (small_after h d) cs c)

pub headed_more : (h : Heads) (small : Bool) (cs : List ℕ) (c : ℕ) → encode_utf8_all (headed_after h small (cs ++ c ∷ [])) ≡ encode_utf8_all (headed_after h small cs) ++ encode_utf8 (cased (ends_small h small cs) c)
headed_more h small cs c =
    let x = cased (ends_small h small cs) c in
    ap encode_utf8_all (more h small cs c) ∙ encodes-append (headed_after h small cs) (x ∷ []) ∙ ap (λ z. encode_utf8_all (headed_after h small cs) ++ z) (append-nil (encode_utf8 x))

pub map_self : (xs : List ℕ) → map (λ x. x) xs ≡ xs
map_self [] = refl
map_self (x ∷ xs) = ap (λ ys. x ∷ ys) (map_self xs)
