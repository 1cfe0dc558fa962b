-- The names of an object, which are put into a map one by one.
use Rattle.std.proofs.Common.{◌≡◌, ℕ, ◌||◌, List, [], ◌∷◌, ◌++◌, map, reverse, Option, Some, ap, sym, ◌∙◌}
use denote.Ref.{Bor}
use Rattle.std.specs.List.{list_any}
use Rattle.std.specs.Ordering.{nat_cmp}
use Rattle.std.specs.Cmp.Lexicographic.{slice_cmp}
use Rattle.std.specs.BTreeMap.{BTreeMap, Updates}
use Rattle.std.specs.Str.{bytes_eq}
use Rattle.std.proofs.lemmas.List.{map-append, reverse-append}
use Rattle.star_outline.specs.Names.{same_name}
use Rattle.star_method.proofs.Found.{has_more}
use Rattle.star_builtin.specs.Decoding.{HaveNames, back}

pub added : (names : List (Bor (List ℕ))) (n : Bor (List ℕ)) → back (names ++ n ∷ []) ≡ n.now ∷ back names
added names n = ap reverse (map-append (λ (m : Bor (List ℕ)). m.now) names (n ∷ [])) ∙ reverse-append (map (λ (m : Bor (List ℕ)). m.now) names) (n.now ∷ [])

pub have_more : (old new : BTreeMap (Bor (List ℕ)) (Unit {0})) (names : List (Bor (List ℕ))) (n : Bor (List ℕ)) → Updates (λ x y. slice_cmp nat_cmp x.now y.now) old new n (Some tt) → HaveNames old (back names) → HaveNames new (back (names ++ n ∷ []))
have_more old new names n u h = λ q. has_more old new n q u ∙ ap (λ b. bytes_eq q n.now || b) (h q) ∙ ap (list_any (same_name q)) (sym (added names n))
