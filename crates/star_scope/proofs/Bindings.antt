-- Two sets of names and the bindings so far that they know, and conflicts that are found one after another.
use Rattle.std.proofs.Common.{◌≡◌, ◌<◌, ◌+◌, ℕ, Bool, true, false, ◌&&◌, ◌||◌, List, [], ◌∷◌, ◌++◌, refl, ap, sym, ◌∙◌, length, map, take, if◌then◌else◌, append-nil, subst, ◌⊎◌, inl, inr}
use Rattle.std.specs.Ordering.{nat_cmp, match_ordering}
use Rattle.std.specs.declared.cmp.Ordering.{Ordering}
use Rattle.std.specs.declared.cmp.Ordering.TheVariants.{Less, Equal, Greater}
use Rattle.std.specs.Cmp.Lexicographic.{slice_cmp}
use Rattle.std.specs.List.{list_any}
use Rattle.std.specs.Str.{bytes_eq}
use Rattle.std.specs.BTreeMap.{is_at}
use Rattle.std.specs.BTreeSet.{insert_key}
use Rattle.std.proofs.lemmas.Map.Text.{is_eq-slice_cmp}
use Rattle.std.proofs.lemmas.Map.Lookups.{exact_bytes}
use denote.Ref.{Bor}
use Rattle.std.proofs.Math.ListN.{get_or}
use Rattle.std.proofs.lemmas.List.{append_assoc, take_more}
use Rattle.std.proofs.lemmas.Grind.{flat_map-append}
use Rattle.star_tree.specs.declared.tree.Parameter.{Parameter, out-Parameter, out-roll-Parameter}
use Rattle.star_tree.specs.declared.tree.Parameter.TheVariants as v
use Rattle.star_tree.specs.declared.tree.Argument.TheOpen as tree
use Rattle.star_tree.specs.declared.tree.Name.{Name}
use Rattle.star_tree.specs.declared.tree.Expression.{Expression}
use Rattle.star_scope.specs.declared.conflicts.Bound.{Bound}
use Rattle.star_scope.specs.Bound.{Binds, Knows, after, is_in, names_of}
use Rattle.star_scope.specs.Conflicts.{Binding, alone, conflict, conflict_at, conflicts, parameter_binding, parameter_bindings, parameter_form}
use Rattle.star_scope.specs.Faults.{first_from}
use Rattle.star_outline.proofs.Turns.{and_true, and_false}
use Rattle.star_scope.proofs.Faults.{first_joined, first_none}

swap : (a b c : Bool) → (a || (b || c)) ≡ (b || (a || c))
swap true true c = refl
swap true false c = refl
swap false true c = refl
swap false false c = refl

twice : (a c : Bool) → (a || c) ≡ (a || (a || c))
twice true c = refl
twice false c = refl

-- a name is in a set with one name more
at_ordering : (o : Ordering) (k y x : List ℕ) (ys more : List (List ℕ)) → slice_cmp nat_cmp k y ≡ o
    → list_any (bytes_eq x) more ≡ (bytes_eq x k || list_any (bytes_eq x) ys)
    → list_any (bytes_eq x) (match_ordering o (k ∷ y ∷ ys) (y ∷ ys) (y ∷ more)) ≡ (bytes_eq x k || (bytes_eq x y || list_any (bytes_eq x) ys))
at_ordering Less k y x ys more e h = refl
at_ordering Equal k y x ys more e h =
    twice (bytes_eq x y) (list_any (bytes_eq x) ys) ∙ ap (λ z. bytes_eq x z || (bytes_eq x y || list_any (bytes_eq x) ys)) (sym (exact_bytes k y e))
at_ordering Greater k y x ys more e h =
    ap (λ b. bytes_eq x y || b) h ∙ swap (bytes_eq x y) (bytes_eq x k) (list_any (bytes_eq x) ys)

pub has_inserted : (ks : List (List ℕ)) (k x : List ℕ) → list_any (bytes_eq x) (insert_key (slice_cmp nat_cmp) ks k) ≡ (bytes_eq x k || list_any (bytes_eq x) ks)
has_inserted [] k x = refl
has_inserted (y ∷ ys) k x = at_ordering (slice_cmp nat_cmp k y) k y x ys (insert_key (slice_cmp nat_cmp) ys k) refl (has_inserted ys k x)

-- a name is in a set of borrowed texts with one text more
abbrev texts : List (Bor (List ℕ)) → List (List ℕ)
texts ks = map (λ x. x.now) ks

texts_ordering : (o : Ordering) (a b c : List (Bor (List ℕ))) (p q r : List (List ℕ)) → texts a ≡ p → texts b ≡ q → texts c ≡ r → texts (match_ordering o a b c) ≡ match_ordering o p q r
texts_ordering Less a b c p q r h g f = h
texts_ordering Equal a b c p q r h g f = g
texts_ordering Greater a b c p q r h g f = f

pub insert_texts : (ks : List (Bor (List ℕ))) (k : Bor (List ℕ)) → map (λ x. x.now) (insert_key (λ x y. slice_cmp nat_cmp x.now y.now) ks k) ≡ insert_key (slice_cmp nat_cmp) (map (λ x. x.now) ks) k.now
insert_texts [] k = refl
insert_texts (x ∷ xs) k = texts_ordering (slice_cmp nat_cmp k.now x.now) (k ∷ x ∷ xs) (x ∷ xs) (x ∷ insert_key (λ x y. slice_cmp nat_cmp x.now y.now) xs k) _ _ _ refl refl (ap (λ ys. x.now ∷ ys) (insert_texts xs k))

pub contains_texts : (ks : List (Bor (List ℕ))) (t : List ℕ) → list_any (is_at (λ k. slice_cmp nat_cmp t k.now)) ks ≡ list_any (bytes_eq t) (map (λ x. x.now) ks)
contains_texts [] t = refl
contains_texts (k ∷ ks) t = ap (λ b. b || list_any (is_at (λ k. slice_cmp nat_cmp t k.now)) ks) (is_eq-slice_cmp t k.now) ∙ ap (λ b. bytes_eq t k.now || b) (contains_texts ks t)

-- ---- bindings one after another

pub bind_none : (b : Bound) → Binds [] b b
bind_none b earlier k = (k, sym (first_none b.found))

any_alone : (x : List ℕ) (es : List Binding) → list_any (λ e. bytes_eq x e.text) es ≡ list_any (λ e. bytes_eq x e.text && (true || e.alone)) es
any_alone x [] = refl
any_alone x (e ∷ es) = ap (λ a. a || list_any (λ e. bytes_eq x e.text) es) (and_true (bytes_eq x e.text)) ∙ ap (λ r. (bytes_eq x e.text && true) || r) (any_alone x es)

knows_alone : (alone : Bool) (names : List (List ℕ)) (x text : List ℕ) (rest : Bool) → is_in names x ≡ rest
    → is_in (if alone then insert_key (slice_cmp nat_cmp) names text else names) x ≡ ((bytes_eq x text && alone) || rest)
knows_alone true names x text rest h = has_inserted names text x ∙ ap (λ r. bytes_eq x text || r) h ∙ ap (λ a. a || rest) (and_true (bytes_eq x text))
knows_alone false names x text rest h = h ∙ ap (λ a. a || rest) (and_false (bytes_eq x text))

clash_is : (alone : Bool) (b : Bound) (text : List ℕ) (earlier : List Binding) → Knows b earlier
    → is_in (if alone then names_of b.all else names_of b.alone) text ≡ list_any (λ e. bytes_eq text e.text && (alone || e.alone)) earlier
clash_is true b text earlier k = k.0 text ∙ any_alone text earlier
clash_is false b text earlier k = k.1 text

pub bind_one : (old new : Bound) (b : Binding)
    → names_of new.all ≡ insert_key (slice_cmp nat_cmp) (names_of old.all) b.text
    → names_of new.alone ≡ (if b.alone then insert_key (slice_cmp nat_cmp) (names_of old.alone) b.text else names_of old.alone)
    → new.found ≡ first_from old.found (conflict_at (is_in (if b.alone then names_of old.all else names_of old.alone) b.text) b.position)
    → Binds (b ∷ []) old new
bind_one old new b all alone found earlier k = (
  (
    λ x. ap (λ ns. is_in ns x) all ∙ has_inserted (names_of old.all) b.text x ∙ ap (λ r. bytes_eq x b.text || r) (k.0 x),
    λ x. ap (λ ns. is_in ns x) alone ∙ knows_alone b.alone (names_of old.alone) x b.text _ (k.1 x),
  ),
  found ∙ ap (λ c. first_from old.found (conflict_at c b.position)) (clash_is b.alone old b.text earlier k)
      ∙ ap (λ fs. first_from old.found fs) (sym (append-nil (conflict earlier b))),
)

after_both : (earlier bs cs : List Binding) → after earlier (bs ++ cs) ≡ after (after earlier bs) cs
after_both earlier [] cs = refl
after_both earlier (b ∷ bs) cs = after_both (b ∷ earlier) bs cs

conflicts_both : (earlier bs cs : List Binding) → conflicts earlier (bs ++ cs) ≡ conflicts earlier bs ++ conflicts (after earlier bs) cs
conflicts_both earlier [] cs = refl
conflicts_both earlier (b ∷ bs) cs =
    ap (λ fs. conflict earlier b ++ fs) (conflicts_both (b ∷ earlier) bs cs)
    ∙ sym (append_assoc (conflict earlier b) (conflicts (b ∷ earlier) bs) (conflicts (after (b ∷ earlier) bs) cs))

pub bind_both : (bs cs : List Binding) (a b c : Bound) → Binds bs a b → Binds cs b c → Binds (bs ++ cs) a c
bind_both bs cs a b c f g earlier k =
    let x = f earlier k in
    let y = g (after earlier bs) x.0 in (
      subst (λ es. Knows c es) (sym (after_both earlier bs cs)) y.0,
      y.1 ∙ ap (λ o. first_from o (conflicts (after earlier bs) cs)) x.1
          ∙ sym (first_joined a.found (conflicts earlier bs) (conflicts (after earlier bs) cs))
          ∙ ap (λ fs. first_from a.found fs) (sym (conflicts_both earlier bs cs)),
    )

-- the bindings of parameters and one parameter more
pub parameters_more : (ps : List Parameter) (i : ℕ) (p : Parameter) → i < length ps → p ≡ get_or ps i p
    → parameter_bindings (take (i + 1) ps) ≡ parameter_bindings (take i ps) ++ parameter_binding p
parameters_more ps i p lt is =
    ap parameter_bindings (take_more ps i p lt) ∙ flat_map-append parameter_binding (take i ps) (get_or ps i p ∷ [])
    ∙ ap (λ bs. parameter_bindings (take i ps) ++ bs) (append-nil (parameter_binding (get_or ps i p)) ∙ ap parameter_binding (sym is))

-- the bindings of a parameter, by its form
pub of_Plain : (n : Name) → parameter_binding (v.Plain n) ≡ alone n
of_Plain n = ap parameter_form (ap out-Parameter (sym (v.rolls-Plain n)) ∙ out-roll-Parameter (tree.Plain n))

pub of_BareStar : parameter_binding v.BareStar ≡ []
of_BareStar = ap parameter_form (ap out-Parameter (sym v.rolls-BareStar) ∙ out-roll-Parameter tree.BareStar)

pub of_named : (p : Parameter) (n : Name) → (p ≡ v.Plain n) ⊎ (((x : Expression) × (p ≡ v.Default n x)) ⊎ ((p ≡ v.Star n) ⊎ (p ≡ v.StarStar n))) → parameter_binding p ≡ alone n
of_named p n (inl e) = ap parameter_binding e ∙ of_Plain n
of_named p n (inr (inl (x, e))) = ap parameter_binding e ∙ ap parameter_form (ap out-Parameter (sym (v.rolls-Default n x)) ∙ out-roll-Parameter (tree.Default n x))
of_named p n (inr (inr (inl e))) = ap parameter_binding e ∙ ap parameter_form (ap out-Parameter (sym (v.rolls-Star n)) ∙ out-roll-Parameter (tree.Parameter-F.Parameter::Star n))
of_named p n (inr (inr (inr e))) = ap parameter_binding e ∙ ap parameter_form (ap out-Parameter (sym (v.rolls-StarStar n)) ∙ out-roll-Parameter (tree.Parameter-F.Parameter::StarStar n))
