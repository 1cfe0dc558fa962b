-- The first value of a name, by a map that is made value by value; and names that are looked for in a map.
use Rattle.std.proofs.Common.{◌≡◌, ℕ, Bool, true, false, ◌||◌, cond, not, List, [], ◌∷◌, ◌++◌, Option, Some, None, refl, ap, sym, ◌∙◌, append_assoc}
use denote.Ref.{Bor}
use Rattle.std.specs.List.{find, list_any}
use Rattle.std.specs.Option.{is_some, option_map}
use Rattle.std.specs.Ordering.{nat_cmp}
use Rattle.std.specs.Cmp.Lexicographic.{slice_cmp}
use Rattle.std.specs.BTreeMap.{BTreeMap, Updates}
use Rattle.std.specs.Str.{bytes_eq}
use Rattle.std.proofs.lemmas.Bool.{true≢false}
use Rattle.std.proofs.lemmas.Map.Text.{btree_map_updates_str}
use Rattle.std.proofs.lemmas.Slice.Eq.{bytes_eq-Decides}
use Rattle.std.proofs.lemmas.List.{map-append}
use Rattle.star_store.specs.declared.values.Value.{Value}
use Rattle.star_tree.specs.declared.tree.Parameter.{Parameter}
use Rattle.star_outline.specs.Names.{same_name}
use Rattle.star_meaning.specs.declared.given.KeywordArgument.{KeywordArgument}
use Rattle.star_meaning.specs.Arguments.{is_given}
use Rattle.star_meaning.specs.Binding.{before_names, else_default, keywords_of, extra_keywords, value_named}
use Rattle.star_call.specs.Found.{value_in}
use Rattle.star_call.specs.Seen.{has}
use Rattle.star_call.specs.BoundArguments.{all_named}
use Rattle.star_call.proofs.Seen.{has_more}

one_first : (b : Bool) (n : KeywordArgument) (o : Option KeywordArgument) → option_map (λ m. m.value) (cond b (Some n) o) ≡ cond b (Some n.value) (option_map (λ m. m.value) o)
one_first true n o = refl
one_first false n o = refl

value_next : (q : List ℕ) (n : KeywordArgument) (ns : List KeywordArgument) → value_named q (n ∷ ns) ≡ cond (bytes_eq n.name q) (Some n.value) (value_named q ns)
value_next q n ns = one_first (bytes_eq n.name q) n (find (λ m. same_name m.name q) ns)

some_first : (b : Bool) (v : Value) (o : Option Value) → is_some (cond b (Some v) o) ≡ (b || is_some o)
some_first true v o = refl
some_first false v o = refl

-- a name is given if it has a value
pub given_found : (q : List ℕ) (ns : List KeywordArgument) → is_some (value_named q ns) ≡ is_given q ns
given_found q [] = refl
given_found q (n ∷ ns) =
    ap is_some (value_next q n ns) ∙ some_first (bytes_eq n.name q) n.value (value_named q ns) ∙ ap (λ b. bytes_eq n.name q || b) (given_found q ns)

put_first : (b : Bool) (o d : Option Value) (v : Value) → (b ≡ true → o ≡ None) → else_default (cond b (Some v) o) d ≡ else_default o (cond b (Some v) d)
put_first true o d v h = sym (ap (λ p. else_default p (Some v)) (h refl))
put_first false o d v h = refl

none_is : (o : Option Value) → is_some o ≡ false → o ≡ None
none_is None h = refl
none_is (Some v) h = absurd (true≢false h)

-- the value of a name that had none
pub one_put : (old new : BTreeMap (Bor (List ℕ)) Value) (name : Bor (List ℕ)) (n : KeywordArgument) (ns : List KeywordArgument) → name.now ≡ n.name → is_some (value_in old name.now) ≡ false
    → Updates (λ x y. slice_cmp nat_cmp x.now y.now) old new name (Some n.value) → (q : List ℕ) → else_default (value_in new q) (value_named q ns) ≡ else_default (value_in old q) (value_named q (n ∷ ns))
one_put old new name n ns e absent u q =
    ap (λ o. else_default o (value_named q ns)) (btree_map_updates_str name.now old new (Some n.value) u q)
    ∙ ap (λ k. else_default (cond (bytes_eq k q) (Some n.value) (value_in old q)) (value_named q ns)) e
    ∙ put_first (bytes_eq n.name q) (value_in old q) (value_named q ns) n.value (λ h. ap (value_in old) (sym ((bytes_eq-Decides n.name q).0 h) ∙ sym e) ∙ none_is (value_in old name.now) absent)
    ∙ ap (else_default (value_in old q)) (sym (value_next q n ns))

kept_first : (b : Bool) (o d : Option Value) (v : Value) → (b ≡ true → is_some o ≡ true) → else_default o d ≡ else_default o (cond b (Some v) d)
kept_first true (Some w) d v h = refl
kept_first true None d v h = absurd (true≢false (sym (h refl)))
kept_first false o d v h = refl

-- a further value of a name that has one
pub one_kept : (first : BTreeMap (Bor (List ℕ)) Value) (name : Bor (List ℕ)) (n : KeywordArgument) (ns : List KeywordArgument) → name.now ≡ n.name → is_some (value_in first name.now) ≡ true
    → (q : List ℕ) → else_default (value_in first q) (value_named q ns) ≡ else_default (value_in first q) (value_named q (n ∷ ns))
one_kept first name n ns e there q =
    kept_first (bytes_eq n.name q) (value_in first q) (value_named q ns) n.value (λ h. ap (λ k. is_some (value_in first k)) (sym ((bytes_eq-Decides n.name q).0 h) ∙ sym e) ∙ there)
    ∙ ap (else_default (value_in first q)) (sym (value_next q n ns))

turned : (a b c : Bool) → ((a || b) || c) ≡ (b || (a || c))
turned true true c = refl
turned true false c = refl
turned false true c = refl
turned false false c = refl

-- one name more
pub one_name : (old new : BTreeMap (Bor (List ℕ)) (Unit {0})) (name : Bor (List ℕ)) (o : Option (List ℕ)) (names : List (List ℕ)) → Some name.now ≡ o → Updates (λ x y. slice_cmp nat_cmp x.now y.now) old new name (Some tt)
    → (q : List ℕ) → (has new q || list_any (same_name q) names) ≡ (has old q || list_any (same_name q) (before_names o names))
one_name old new name o names e u q =
    ap (λ b. b || list_any (same_name q) names) (has_more old new name q u) ∙ turned (bytes_eq q name.now) (has old q) (list_any (same_name q) names)
    ∙ ap (λ p. has old q || list_any (same_name q) (before_names p names)) e

-- a parameter without a name
pub no_name : (names : BTreeMap (Bor (List ℕ)) (Unit {0})) (o : Option (List ℕ)) (ns : List (List ℕ)) → None ≡ o → (q : List ℕ) → (has names q || list_any (same_name q) ns) ≡ (has names q || list_any (same_name q) (before_names o ns))
no_name names o ns e q = ap (λ p. has names q || list_any (same_name q) (before_names p ns)) e

-- a keyword value that is not a parameter's, and one that is
pub one_left : (ps : List Parameter) (left : List (Bor KeywordArgument)) (x : Bor KeywordArgument) (ns : List KeywordArgument) → list_any (same_name x.now.name) (keywords_of ps) ≡ false
    → all_named (left ++ x ∷ []) ++ extra_keywords ps ns ≡ all_named left ++ extra_keywords ps (x.now ∷ ns)
one_left ps left x ns h =
    ap (λ l. l ++ extra_keywords ps ns) (map-append (λ n. n.now) left (x ∷ [])) ∙ append_assoc (all_named left) (x.now ∷ []) (extra_keywords ps ns)
    ∙ ap (λ b. all_named left ++ cond (not b) (x.now ∷ extra_keywords ps ns) (extra_keywords ps ns)) (sym h)

pub one_claimed : (ps : List Parameter) (n : KeywordArgument) (ns : List KeywordArgument) → list_any (same_name n.name) (keywords_of ps) ≡ true → extra_keywords ps ns ≡ extra_keywords ps (n ∷ ns)
one_claimed ps n ns h = ap (λ b. cond (not b) (n ∷ extra_keywords ps ns) (extra_keywords ps ns)) (sym h)
