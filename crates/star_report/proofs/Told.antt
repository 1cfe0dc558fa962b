-- Each public global is among the values or, by its name, among the opaque ones.
use Rattle.std.proofs.Common.{arith, ◌≡◌, ◌+◌, ◌⊎◌, inl, inr, ℕ, zero, suc, Bool, true, false, not, ◌&&◌, List, [], ◌∷◌, length, map, Option, Some, None, refl, ap, sym, subst, ◌∙◌, if◌then◌else◌}
use Rattle.std.specs.Prelude.{Contains, fold, is_some}
use Rattle.std.specs.List.{filter}
use Rattle.std.specs.Str.{bytes_eq}
use Rattle.std.proofs.lemmas.Slice.Eq.{bytes_eq-Decides}
use Rattle.serde_json.specs.Data.{Data, Members, no_members}
use Rattle.serde_json.specs.Find.{get_member}
use Rattle.serde_json.proofs.Views.{get_member-put, get_member-put_other}
use Rattle.star_scope.specs.Loads.{is_private}
use Rattle.star_report.specs.Laws.{AreToldOnce, NoneDropped, NoneTwice}
use Rattle.star_once.specs.Names.{GlobalsStandOnce, NamesDiffer}
use Rattle.star_data.specs.Counts.{member_count}
use Rattle.star_data.specs.Data.{on_shelf}
use Rattle.star_data.proofs.Rising.{count_new}
use Rattle.star_report.specs.Values.{global_data, is_opaque, opaque_names, put_some, shown_values, with_value}

-- ---- names

-- two names are one or differ
one_or_other : (s t : List ℕ) → (s ≡ t) ⊎ (s ≡ t → ⊥)
one_or_other s t = turn (bytes_eq s t) refl
  where
    turn : (b : Bool) → bytes_eq s t ≡ b → (s ≡ t) ⊎ (s ≡ t → ⊥)
    turn true e = inl ((bytes_eq-Decides s t).0 e)
    turn false e = inr (λ same. (let yes : true ≡ false = sym ((bytes_eq-Decides s t).1 same) ∙ e in let no : ⊥ = cc in no))

later : (x : List ℕ) (xs : List (List ℕ)) (y : List ℕ) → Contains xs y → Contains (x ∷ xs) y
later x xs y c = (suc c.0, omega (arith, c.1), c.2)

here : (x : List ℕ) (xs : List (List ℕ)) → Contains (x ∷ xs) x
here x xs = (0, omega arith, refl)

split : (x : List ℕ) (xs : List (List ℕ)) (y : List ℕ) → Contains (x ∷ xs) y → (x ≡ y) ⊎ Contains xs y
split x xs y (zero, less, e) = inl e
split x xs y (suc k, less, e) = inr (k, omega (arith, less), e)

never : (y : List ℕ) → Contains [] y → ⊥
never y c = let less = c.1 in omega (arith, less)

-- ---- the values

module _ (f : List ℕ → Option Data) where
  -- a step changes no other member
  other_stays : (x name : List ℕ) (ms : Members) → (name ≡ x → ⊥) → get_member name (with_value f ms x) ≡ get_member name ms
  other_stays x name ms other = turn (is_private x) (f x)
    where
      turn : (b : Bool) (o : Option Data) → get_member name (let ns : Members = if b then ms else put_some x o ms in ns) ≡ get_member name ms
      turn true o = refl
      turn false None = refl
      turn false (Some d) = get_member-put_other name x d ms other

  -- nor one with its data
  own_stays : (x : List ℕ) (ms : Members) (d : Data) → f x ≡ Some d → get_member x ms ≡ Some d → get_member x (with_value f ms x) ≡ Some d
  own_stays x ms d is there = turn (is_private x)
    where
      turn : (b : Bool) → get_member x (let ns : Members = if b then ms else put_some x (f x) ms in ns) ≡ Some d
      turn true = there
      turn false = ap (λ o. get_member x (put_some x o ms)) is ∙ get_member-put x d ms

  stays : (names : List (List ℕ)) (ms : Members) (name : List ℕ) (d : Data) → f name ≡ Some d → get_member name ms ≡ Some d → get_member name (fold (with_value f) ms names) ≡ Some d
  stays [] ms name d is there = there
  stays (x ∷ names) ms name d is there = stays names (with_value f ms x) name d is (turn (one_or_other name x))
    where
      turn : ((name ≡ x) ⊎ (name ≡ x → ⊥)) → get_member name (with_value f ms x) ≡ Some d
      turn (inl same) = subst (λ y. get_member name (with_value f ms y) ≡ Some d) same (own_stays name ms d is there)
      turn (inr other) = other_stays x name ms other ∙ there

  shown_there : (names : List (List ℕ)) (ms : Members) (name : List ℕ) (d : Data) → Contains names name → is_private name ≡ false → f name ≡ Some d → get_member name (fold (with_value f) ms names) ≡ Some d
  shown_there [] ms name d c public is = absurd (never name c)
  shown_there (x ∷ names) ms name d c public is = turn (λ rest. shown_there names (with_value f ms x) name d rest public is) (split x names name c)
    where
      turn : (Contains names name → get_member name (fold (with_value f) (with_value f ms x) names) ≡ Some d) → (x ≡ name) ⊎ Contains names name → get_member name (fold (with_value f) (with_value f ms x) names) ≡ Some d
      turn more (inl same) = stays names (with_value f ms x) name d is (
          subst (λ y. get_member name (with_value f ms y) ≡ Some d) (sym same)
          (ap (λ b. get_member name (let ns : Members = if b then ms else put_some name (f name) ms in ns)) public ∙ (ap (λ o. get_member name (put_some name o ms)) is ∙ get_member-put name d ms))
          )
      turn more (inr rest) = more rest

  -- a member is one of before, or a public name with its data
  abbrev IsOwn : List (List ℕ) → List ℕ → Data → Type 0
  IsOwn names name d = Contains names name × (is_private name ≡ false) × (f name ≡ Some d)

  step_own : (x : List ℕ) (ms : Members) (d : Data) → get_member x (with_value f ms x) ≡ Some d → (get_member x ms ≡ Some d) ⊎ ((is_private x ≡ false) × (f x ≡ Some d))
  step_own x ms d e = turn (is_private x) refl (f x) refl e
    where
      turn : (b : Bool) → is_private x ≡ b → (o : Option Data) → f x ≡ o → get_member x (let ns : Members = if b then ms else put_some x o ms in ns) ≡ Some d → (get_member x ms ≡ Some d) ⊎ ((is_private x ≡ false) × (f x ≡ Some d))
      turn true private o is h = inl h
      turn false public None is h = inl h
      turn false public (Some c) is h = inr (public, is ∙ (sym (get_member-put x c ms) ∙ h))

  shown_only : (names : List (List ℕ)) (ms : Members) (name : List ℕ) (d : Data) → get_member name (fold (with_value f) ms names) ≡ Some d → (get_member name ms ≡ Some d) ⊎ IsOwn names name d
  shown_only [] ms name d e = inl e
  shown_only (x ∷ names) ms name d e = turn (shown_only names (with_value f ms x) name d e)
    where
      by_name : ((name ≡ x) ⊎ (name ≡ x → ⊥)) → get_member name (with_value f ms x) ≡ Some d → (get_member name ms ≡ Some d) ⊎ IsOwn (x ∷ names) name d
      by_name (inl same) h = by_step (step_own name ms d (subst (λ y. get_member name (with_value f ms y) ≡ Some d) (sym same) h))
        where
          by_step : (get_member name ms ≡ Some d) ⊎ ((is_private name ≡ false) × (f name ≡ Some d)) → (get_member name ms ≡ Some d) ⊎ IsOwn (x ∷ names) name d
          by_step (inl was) = inl was
          by_step (inr own) = inr (subst (λ y. Contains (y ∷ names) name) same (here name names), own.0, own.1)
      by_name (inr other) h = inl (sym (other_stays x name ms other) ∙ h)

      turn : (get_member name (with_value f ms x) ≡ Some d) ⊎ IsOwn names name d → (get_member name ms ≡ Some d) ⊎ IsOwn (x ∷ names) name d
      turn (inl was) = by_name (one_or_other name x) was
      turn (inr own) = inr (later x names name own.0, own.1, own.2)

  -- ---- the opaque ones

  opaque_is : (name : List ℕ) → is_private name ≡ false → f name ≡ None → is_opaque f name ≡ true
  opaque_is name public none = ap (λ b. not b && not (is_some (f name))) public ∙ ap (λ (o : Option Data). not (is_some o)) none

  is_opaque_only : (name : List ℕ) → is_opaque f name ≡ true → (is_private name ≡ false) × (f name ≡ None)
  is_opaque_only name e = turn (is_private name) refl (f name) refl e
    where
      turn : (b : Bool) → is_private name ≡ b → (o : Option Data) → f name ≡ o → (not b && not (is_some o)) ≡ true → (is_private name ≡ false) × (f name ≡ None)
      turn true private o is h = absurd (let no : ⊥ = cc in no)
      turn false public None is h = (public, is)
      turn false public (Some d) is h = absurd (let no : ⊥ = cc in no)

  opaque_there : (names : List (List ℕ)) (name : List ℕ) → Contains names name → is_opaque f name ≡ true → Contains (opaque_names f names) name
  opaque_there [] name c is = absurd (never name c)
  opaque_there (x ∷ names) name c is = turn (is_opaque f x) refl (split x names name c) (λ rest. opaque_there names name rest is)
    where
      turn : (b : Bool) → is_opaque f x ≡ b → (x ≡ name) ⊎ Contains names name → (Contains names name → Contains (opaque_names f names) name) → Contains (let ns : List (List ℕ) = if b then x ∷ opaque_names f names else opaque_names f names in ns) name
      turn true at (inl same) rest = subst (λ y. Contains (y ∷ opaque_names f names) name) (sym same) (here name (opaque_names f names))
      turn true at (inr more) rest = later x (opaque_names f names) name (rest more)
      turn false at (inl same) rest = absurd (let both : false ≡ true = sym at ∙ (ap (is_opaque f) same ∙ is) in let no : ⊥ = cc in no)
      turn false at (inr more) rest = rest more

  opaque_only : (names : List (List ℕ)) (name : List ℕ) → Contains (opaque_names f names) name → Contains names name × (is_opaque f name ≡ true)
  opaque_only [] name c = absurd (never name c)
  opaque_only (x ∷ names) name c = turn (is_opaque f x) refl c (opaque_only names name)
    where
      turn : (b : Bool) → is_opaque f x ≡ b → Contains (let ns : List (List ℕ) = if b then x ∷ opaque_names f names else opaque_names f names in ns) name → (Contains (opaque_names f names) name → Contains names name × (is_opaque f name ≡ true)) → Contains (x ∷ names) name × (is_opaque f name ≡ true)
      turn true at h rest = by (split x (opaque_names f names) name h)
        where
          by : (x ≡ name) ⊎ Contains (opaque_names f names) name → Contains (x ∷ names) name × (is_opaque f name ≡ true)
          by (inl same) = (subst (λ y. Contains (x ∷ names) y) same (here x names), ap (is_opaque f) (sym same) ∙ at)
          by (inr more) = (later x names name (rest more).0, (rest more).1)
      turn false at h rest = (later x names name (rest h).0, (rest h).1)

pub none_dropped : NoneDropped
none_dropped f names name = record {
  told = λ c public. told c public (f name) refl;
  shown = λ d e. own d (shown_only f names no_members name d e);
  opaque = λ c. (let both = opaque_only f names name c in let is = is_opaque_only f name both.1 in (both.0, is.0, is.1));
}
  where
    told : Contains names name → is_private name ≡ false → (o : Option Data) → f name ≡ o → ((d : Data) × (get_member name (shown_values f names) ≡ Some d)) ⊎ Contains (opaque_names f names) name
    told c public (Some d) is = inl (d, shown_there f names no_members name d c public is)
    told c public None is = inr (opaque_there f names name c (opaque_is f name public is))

    own : (d : Data) → (get_member name no_members ≡ Some d) ⊎ (Contains names name × (is_private name ≡ false) × (f name ≡ Some d)) → Contains names name × (is_private name ≡ false) × (f name ≡ Some d)
    own d (inl none) = absurd (let no : ⊥ = cc in no)
    own d (inr it) = it

-- ---- as many

module _ (f : List ℕ → Option Data) where
  -- none of these names has a member yet
  abbrev AreNew : List (List ℕ) → Members → Type 0
  AreNew names ms = (name : List ℕ) → Contains names name → get_member name ms ≡ None

  abbrev public : List ℕ → Bool
  public n = not (is_private n)

  still_new : (x : List ℕ) (names : List (List ℕ)) (ms : Members) → NamesDiffer (x ∷ names) → AreNew (x ∷ names) ms → AreNew names (with_value f ms x)
  still_new x names ms differ new = λ name c. other_stays f x name ms (λ same. differ.0 (subst (Contains names) same c)) ∙ new name (later x names name c)

  counted : (names : List (List ℕ)) (ms : Members) → NamesDiffer names → AreNew names ms → member_count (fold (with_value f) ms names) + length (opaque_names f names) ≡ member_count ms + length (filter public names)
  counted [] ms differ new = refl
  counted (x ∷ names) ms differ new = turn (is_private x) (f x) (counted names (with_value f ms x) differ.1 (still_new x names ms differ new))
    where
      turn : (b : Bool) (o : Option Data) → (let ns : Members = if b then ms else put_some x o ms in member_count (fold (with_value f) ns names) + length (opaque_names f names) ≡ member_count ns + length (filter public names))
          → (let ns : Members = if b then ms else put_some x o ms in let left : List (List ℕ) = if not b && not (is_some o) then x ∷ opaque_names f names else opaque_names f names in let all : List (List ℕ) = if not b then x ∷ filter public names else filter public names in
          member_count (fold (with_value f) ns names) + length left ≡ member_count ms + length all)
      turn true o rest = rest
      turn false None rest = omega (arith, rest)
      turn false (Some d) rest = let more = count_new x d ms (new x (here x names)) in omega (arith, rest, more)

none_of_these : (f : List ℕ → Option Data) (names : List (List ℕ)) → NamesDiffer names → AreToldOnce f names
none_of_these f names differ =
    let all = counted f names no_members differ (λ name c. refl) in
    let none : member_count no_members ≡ 0 = refl in
    omega (arith, all, none)

pub none_twice : GlobalsStandOnce → NoneTwice
none_twice once plan n shelf globals texts lines is =
    let named = once plan n shelf globals texts lines is in
    none_of_these (global_data (on_shelf shelf) globals) (map (λ g. g.0) texts) (subst NamesDiffer (sym named.1) named.0)
