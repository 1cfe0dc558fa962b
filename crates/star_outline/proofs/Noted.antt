-- Numbers that are noted for names, and stay noted when a further one is.
use Rattle.std.proofs.Common.{arith, ◌≡◌, ◌<◌, ◌≤◌, ◌+◌, ◌⊎◌, inl, inr, ◌||◌, ℕ, zero, suc, Bool, true, false, cond, List, [], ◌∷◌, ◌++◌, Option, Some, None, refl, ap, sym, ◌∙◌, subst, length, map, take}
use Rattle.std.specs.List.{find}
use Rattle.std.specs.Option.{is_some, option_map, unwrap_or}
use Rattle.std.specs.Bool.{nat_eq}
use Rattle.std.proofs.Math.ListN.{get_or}
use Rattle.std.proofs.Math.Seq.{take-length}
use Rattle.std.proofs.lemmas.List.{map-append, take_more}
use Rattle.std.specs.Prelude.{slice_get}
use Rattle.std.specs.Str.{bytes_eq}
use Rattle.std.specs.BTreeMap.{BTreeMap, Updates, get_by}
use Rattle.std.specs.BTreeSet.{BTreeSet}
use Rattle.std.specs.Cmp.Lexicographic.{slice_cmp}
use Rattle.std.specs.Ordering.{nat_cmp}
use Rattle.std.proofs.lemmas.Bool.{true≢false}
use Rattle.std.proofs.lemmas.Map.Text.{btree_map_updates_str}
use Rattle.std.proofs.lemmas.Slice.Eq.{bytes_eq-Decides}
use denote.Ref.{Bor}
use Rattle.star_outline.specs.declared.binders.Binders.{Binders}
use Rattle.star_outline.specs.Binders.{Covers, binds, noted, noted_at}
use Rattle.star_outline.specs.Names.{Names, has_name, same_name, slot_of}
use Rattle.star_outline.specs.Outlines.{Block, names_in}
use Rattle.star_outline.proofs.Numbers.{position_any}

noted_more : (sets : List (BTreeSet ℕ)) (s : BTreeSet ℕ) (i k : ℕ) → noted (slice_get sets i) k ≡ true → noted (slice_get (sets ++ s ∷ []) i) k ≡ true
noted_more [] s i k h = absurd (true≢false (sym h))
noted_more (x ∷ xs) s zero k h = h
noted_more (x ∷ xs) s (suc i) k h = noted_more xs s i k h

noted_at_more : (sets : List (BTreeSet ℕ)) (s : BTreeSet ℕ) (o : Option ℕ) (k : ℕ) → noted_at sets o k ≡ true → noted_at (sets ++ s ∷ []) o k ≡ true
noted_at_more sets s None k h = h
noted_at_more sets s (Some i) k h = noted_more sets s i k h

-- nothing is noted past the end
pub noted_past : (sets : List (BTreeSet ℕ)) (i k : ℕ) → length sets ≤ i → noted (slice_get sets i) k ≡ false
noted_past [] i k le = refl
noted_past (x ∷ xs) zero k le = absurd (omega (arith, le))
noted_past (x ∷ xs) (suc i) k le = noted_past xs i k (omega (arith, le))

-- a name without noted numbers gets numbers of its own
pub kept_new : (sets : List (BTreeSet ℕ)) (s : BTreeSet ℕ) (old new : BTreeMap (Bor (List ℕ)) ℕ) (name : Bor (List ℕ)) (id : ℕ)
    → ((k : ℕ) → noted_at sets (get_by (λ x. slice_cmp nat_cmp name.now x.now) old) k ≡ false)
    → Updates (λ x y. slice_cmp nat_cmp x.now y.now) old new name (Some id)
    → (n : List ℕ) (k : ℕ) → noted_at sets (get_by (λ x. slice_cmp nat_cmp n x.now) old) k ≡ true
    → noted_at (sets ++ s ∷ []) (get_by (λ x. slice_cmp nat_cmp n x.now) new) k ≡ true
kept_new sets s old new name id none u n k h =
    subst (λ o. noted_at (sets ++ s ∷ []) o k ≡ true) (sym (btree_map_updates_str name.now old new (Some id) u n)) (one (bytes_eq name.now n) refl)
  where
    one : (b : Bool) → bytes_eq name.now n ≡ b → noted_at (sets ++ s ∷ []) (cond b (Some id) (get_by (λ x. slice_cmp nat_cmp n x.now) old)) k ≡ true
    one true e = absurd (true≢false (sym h ∙ ap (λ m. noted_at sets (get_by (λ x. slice_cmp nat_cmp m x.now) old) k) (sym ((bytes_eq-Decides name.now n).0 e)) ∙ none k))
    one false e = noted_at_more sets s (get_by (λ x. slice_cmp nat_cmp n x.now) old) k h

-- ---- names that are noted one after another

or_cases : (a b : Bool) → (a || b) ≡ true → (a ≡ true) ⊎ (b ≡ true)
or_cases true b h = inl refl
or_cases false b h = inr h

or_right : (a b : Bool) → b ≡ true → (a || b) ≡ true
or_right true b h = refl
or_right false b h = h

any_last : (ns : Names) (x n : List ℕ) → has_name (ns ++ x ∷ []) n ≡ true → (has_name ns n ≡ true) ⊎ (n ≡ x)
any_last [] x n h = elim (or_cases (same_name n x) false h) [ inl e ↦ inr ((bytes_eq-Decides n x).0 e) | inr e ↦ absurd (true≢false (sym e)) ]
any_last (m ∷ ms) x n h = elim (or_cases (same_name n m) (has_name (ms ++ x ∷ []) n) h) [
  | inl e ↦ inl (ap (λ b. b || has_name ms n) e)
  | inr e ↦ elim (any_last ms x n e) [ inl f ↦ inl (or_right (same_name n m) (has_name ms n) f) | inr f ↦ inr f ]
]

abbrev pub Kept : Binders → Binders → Type 0
Kept old new = (n : List ℕ) (k : ℕ) → binds old n k ≡ true → binds new n k ≡ true

-- a number is noted for each of these names
abbrev pub NamesNoted : List (Bor (List ℕ)) → ℕ → Binders → Type 0
NamesNoted names number b = (n : List ℕ) → has_name (map (λ m. m.now) names) n ≡ true → binds b n number ≡ true

pub names_turn : (names : List (Bor (List ℕ))) (i : ℕ) (d : Bor (List ℕ)) (number : ℕ) (old new : Binders) → i < length names
    → NamesNoted (take i names) number old → Kept old new → binds new (get_or names i d).now number ≡ true → NamesNoted (take (i + 1) names) number new
names_turn names i d number old new lt noted kept here n h =
    let x = get_or names i d in
    let more : map (λ m. m.now) (take (i + 1) names) ≡ map (λ m. m.now) (take i names) ++ x.now ∷ [] =
    ap (map (λ m. m.now)) (take_more names i d lt) ∙ map-append (λ m. m.now) (take i names) (x ∷ []) in
    elim (any_last (map (λ m. m.now) (take i names)) x.now n (ap (λ ns. has_name ns n) (sym more) ∙ h)) [
      | inl e ↦ kept n number (noted n e)
      | inr e ↦ subst (λ m. binds new m number ≡ true) (sym e) here
    ]

pub names_done : (names : List (Bor (List ℕ))) (i number : ℕ) (b : Binders) → length names ≤ i → i ≤ length names → NamesNoted (take i names) number b → NamesNoted names number b
names_done names i number b le ge h = subst (λ ns. NamesNoted ns number b) (ap (λ k. take k names) (omega (arith, le, ge)) ∙ take-length names) h

-- ---- blocks whose names are noted one after another

abbrev pub AllNoted : List Block → Binders → Type 0
AllNoted [] b = Unit {0}
AllNoted (x ∷ xs) b = ((n : List ℕ) → has_name x.names n ≡ true → binds b n x.number ≡ true) × AllNoted xs b

all_still : (xs : List Block) (old new : Binders) → Kept old new → AllNoted xs old → AllNoted xs new
all_still [] old new kept h = tt
all_still (x ∷ xs) old new kept h = (λ n e. kept n x.number (h.0 n e), all_still xs old new kept h.1)

all_pushed : (xs : List Block) (x : Block) (b : Binders) → AllNoted xs b → ((n : List ℕ) → has_name x.names n ≡ true → binds b n x.number ≡ true) → AllNoted (xs ++ x ∷ []) b
all_pushed [] x b h k = (k, tt)
all_pushed (y ∷ ys) x b h k = (h.0, all_pushed ys x b h.1 k)

pub blocks_turn : (blocks : List Block) (i : ℕ) (x : Block) (old new : Binders) → i < length blocks → x ≡ get_or blocks i x
    → AllNoted (take i blocks) old → Kept old new → ((n : List ℕ) → has_name x.names n ≡ true → binds new n x.number ≡ true) → AllNoted (take (i + 1) blocks) new
blocks_turn blocks i x old new lt is noted kept here =
    subst (λ xs. AllNoted xs new) (sym (take_more blocks i x lt ∙ ap (λ y. take i blocks ++ y ∷ []) (sym is)))
    (all_pushed (take i blocks) x new (all_still (take i blocks) old new kept noted) here)

covered : (blocks : List Block) (b : Binders) → AllNoted blocks b → Covers blocks b
covered [] b h name number slot e = cc
covered (x ∷ xs) b h name number slot e = one (covered xs b h.1 name number slot) (nat_eq x.number number) refl
  where
    found : Bool → Option ℕ
    found t = slot_of name (unwrap_or (option_map (λ y. y.names) (cond t (Some x) (find (λ y. nat_eq y.number number) xs))) [])

    one : (slot_of name (names_in xs number) ≡ Some slot → binds b name number ≡ true) → (t : Bool) → nat_eq x.number number ≡ t → binds b name number ≡ true
    one more true is =
        let there : has_name x.names name ≡ true = sym (position_any (same_name name) x.names) ∙ ap is_some (sym (ap found is) ∙ e) in
        let same : x.number ≡ number = grind (arith, is) in
        subst (λ k. binds b name k ≡ true) same (h.0 name there)
    one more false is = more (sym (ap found is) ∙ e)

pub blocks_done : (blocks : List Block) (i : ℕ) (b : Binders) → length blocks ≤ i → i ≤ length blocks → AllNoted (take i blocks) b → Covers blocks b
blocks_done blocks i b le ge h = covered blocks b (subst (λ xs. AllNoted xs b) (ap (λ k. take k blocks) (omega (arith, le, ge)) ∙ take-length blocks) h)
