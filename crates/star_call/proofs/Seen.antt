-- Names that were seen, and whether one comes twice.
use Rattle.std.proofs.Common.{◌≡◌, ℕ, suc, ◌+◌, ◌<◌, drop, get_or, length, Bool, true, false, ◌||◌, cond, List, [], ◌∷◌, Option, Some, refl, ap, sym, ◌∙◌, arith}
use denote.Ref.{Bor}
use Rattle.std.proofs.Math.Seq.{drop-cons}
use Rattle.std.specs.List.{list_any}
use Rattle.std.specs.Option.{is_some}
use Rattle.std.specs.Ordering.{nat_cmp}
use Rattle.std.specs.Cmp.Lexicographic.{slice_cmp}
use Rattle.std.specs.BTreeMap.{BTreeMap, IsEmpty, Updates, get_by, is_at}
use Rattle.std.specs.Map.{lookup}
use Rattle.std.specs.Str.{bytes_eq}
use Rattle.std.proofs.lemmas.Map.Text.{btree_map_updates_str}
use Rattle.std.proofs.lemmas.Slice.Eq.{bytes_eq-Decides}
use Rattle.star_meaning.specs.declared.given.KeywordArgument.{KeywordArgument}
use Rattle.star_meaning.specs.Arguments.{comes_twice, is_given}
use Rattle.star_call.specs.Seen.{has, twice_after}

same : (m n : List ℕ) → bytes_eq m n ≡ bytes_eq n m
same m n = grind (arith, bytes_eq-Decides m n, bytes_eq-Decides n m)

none_any : {X : Type 0} (f : List ℕ → Bool) (name_of : X → List ℕ) (xs : List X) → ((q : List ℕ) → f q ≡ false) → list_any (λ x. f (name_of x)) xs ≡ false
none_any f name_of [] h = refl
none_any f name_of (x ∷ xs) h = ap (λ b. b || list_any (λ y. f (name_of y)) xs) (h (name_of x)) ∙ none_any f name_of xs h

either : (a b c d : Bool) → ((a || b) || (c || d)) ≡ ((a || c) || (b || d))
either true b c d = refl
either false true true d = refl
either false true false d = refl
either false false c d = refl

any_either : {X : Type 0} (f g h : X → Bool) (xs : List X) → ((x : X) → h x ≡ (f x || g x)) → list_any h xs ≡ (list_any f xs || list_any g xs)
any_either f g h [] e = refl
any_either f g h (x ∷ xs) e = ap (λ b. b || list_any h xs) (e x) ∙ ap (λ b. (f x || g x) || b) (any_either f g h xs e) ∙ either (f x) (g x) (list_any f xs) (list_any g xs)

sorted_out : (a b c d : Bool) → a ≡ false → ((a || b) || (c || d)) ≡ ((c || b) || d)
sorted_out true b c d h = cc
sorted_out false true true d h = refl
sorted_out false true false d h = refl
sorted_out false false true d h = refl
sorted_out false false false d h = refl

with_one : (b : Bool) (o : Option (Unit {0})) → is_some (cond b (Some tt) o) ≡ (b || is_some o)
with_one true o = refl
with_one false o = refl

-- one name more was seen
pub has_more : (old new : BTreeMap (Bor (List ℕ)) (Unit {0})) (name : Bor (List ℕ)) (q : List ℕ) → Updates (λ x y. slice_cmp nat_cmp x.now y.now) old new name (Some tt) → has new q ≡ (bytes_eq q name.now || has old q)
has_more old new name q u =
    ap is_some (btree_map_updates_str name.now old new (Some tt) u q) ∙ with_one (bytes_eq name.now q) (get_by (λ k. slice_cmp nat_cmp q k.now) old)
    ∙ ap (λ b. b || has old q) (same name.now q)

-- if no name was seen
pub none_seen : (seen : BTreeMap (Bor (List ℕ)) (Unit {0})) (ns : List KeywordArgument) → IsEmpty seen → twice_after seen ns ≡ comes_twice ns
none_seen seen ns h =
    let none : (q : List ℕ) → has seen q ≡ false = λ q. ap (λ es. is_some (lookup (is_at (λ k. slice_cmp nat_cmp q k.now)) es)) h in
    ap (λ b. b || comes_twice ns) (none_any (has seen) (λ n. n.name) ns none)

-- one name more was seen, which was not among those before
pub one_seen : (old new : BTreeMap (Bor (List ℕ)) (Unit {0})) (name : Bor (List ℕ)) (n : KeywordArgument) (ns : List KeywordArgument) → name.now ≡ n.name → has old name.now ≡ false
    → Updates (λ x y. slice_cmp nat_cmp x.now y.now) old new name (Some tt) → twice_after old (n ∷ ns) ≡ twice_after new ns
one_seen old new name n ns e absent u =
    sorted_out (has old n.name) (list_any (λ m. has old m.name) ns) (is_given n.name ns) (comes_twice ns) (ap (has old) (sym e) ∙ absent)
    ∙ ap (λ b. b || comes_twice ns) (sym (any_either (λ m. bytes_eq m.name n.name) (λ m. has old m.name) (λ m. has new m.name) ns (λ m. has_more old new name m.name u ∙ ap (λ k. bytes_eq m.name k || has old m.name) e)))

-- a name comes that was seen before
pub seen_before : (seen : BTreeMap (Bor (List ℕ)) (Unit {0})) (n : KeywordArgument) (ns : List KeywordArgument) → has seen n.name ≡ true → twice_after seen (n ∷ ns) ≡ true
seen_before seen n ns h = ap (λ b. (b || list_any (λ m. has seen m.name) ns) || comes_twice (n ∷ ns)) h

pub drop_next : {A : Type 0} (ns : List A) (i : ℕ) (n : A) → i < length ns → n ≡ get_or ns i n → drop i ns ≡ n ∷ drop (i + 1) ns
drop_next ns i n h e = drop-cons ns i n h ∙ ap (λ m. m ∷ drop (suc i) ns) (sym e) ∙ ap (λ k. n ∷ drop k ns) (let s : suc i ≡ i + 1 = omega arith in s)
