-- The characters of a string, which are put into a map one by one.
use Rattle.std.proofs.Common.{◌≡◌, ℕ, Bool, true, false, ◌||◌, cond, List, ◌∷◌, Option, Some, refl, ap, ◌∙◌, arith}
use denote.Ref.{Bor}
use Rattle.std.specs.List.{list_any}
use Rattle.std.specs.Option.{is_some}
use Rattle.std.specs.Ordering.{nat_cmp}
use Rattle.std.specs.Cmp.Lexicographic.{slice_cmp}
use Rattle.std.specs.BTreeMap.{BTreeMap, Updates, get_by}
use Rattle.std.specs.Str.{bytes_eq}
use Rattle.std.proofs.lemmas.Map.Text.{btree_map_updates_str}
use Rattle.std.proofs.lemmas.Slice.Eq.{bytes_eq-Decides}
use Rattle.star_outline.specs.Names.{same_name}
use Rattle.star_method.specs.Sets.{has}

same : (m n : List ℕ) → bytes_eq m n ≡ bytes_eq n m
same m n = grind (arith, bytes_eq-Decides m n, bytes_eq-Decides n m)

with_one : (b : Bool) (o : Option (Unit {0})) → is_some (cond b (Some tt) o) ≡ (b || is_some o)
with_one true o = refl
with_one false o = refl

pub has_more : (old new : BTreeMap (Bor (List ℕ)) (Unit {0})) (first : Bor (List ℕ)) (q : List ℕ) → Updates (λ x y. slice_cmp nat_cmp x.now y.now) old new first (Some tt) → has new q ≡ (bytes_eq q first.now || has old q)
has_more old new first q u =
    ap is_some (btree_map_updates_str first.now old new (Some tt) u q) ∙ with_one (bytes_eq first.now q) (get_by (λ k. slice_cmp nat_cmp q k.now) old)
    ∙ ap (λ b. b || has old q) (same first.now q)

turned : (a b c : Bool) → ((a || b) || c) ≡ (b || (a || c))
turned true true c = refl
turned true false c = refl
turned false true c = refl
turned false false c = refl

-- one character more
pub one_found : (old new : BTreeMap (Bor (List ℕ)) (Unit {0})) (first : Bor (List ℕ)) (cs : List (List ℕ)) → Updates (λ x y. slice_cmp nat_cmp x.now y.now) old new first (Some tt)
    → (q : List ℕ) → (has new q || list_any (same_name q) cs) ≡ (has old q || list_any (same_name q) (first.now ∷ cs))
one_found old new first cs u q = ap (λ b. b || list_any (same_name q) cs) (has_more old new first q u) ∙ turned (bytes_eq q first.now) (has old q) (list_any (same_name q) cs)
