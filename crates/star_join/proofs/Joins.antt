-- The join of rows in order that agree: one, of any order and grouping.
use Rattle.std.proofs.Common.{arith, ◌≡◌, ◌⊎◌, ◌+◌, ◌<◌, ◌↔◌, ℕ, suc, Bool, true, false, List, [], ◌∷◌, length, map, nat_lt, ◌||◌, if◌then◌else◌, refl, ap, sym, subst, ◌∙◌, inl, inr}
use Rattle.std.specs.Prelude.{Contains, nat_eq}
use Rattle.std.specs.List.{filter, list_any}
use Rattle.std.proofs.lemmas.Bool.Decides.{nat_tests}
use Rattle.star_join.specs.Join.{Agree, InOrder, IsJoin, join, put, shared}
use Rattle.star_join.specs.Laws.{JoinsCount, JoinsGroup, JoinsJoin, JoinsRepeat, JoinsTurn, OneJoin, file_of}
use Rattle.star_join.proofs.Rows.{Below, Up, either, first, from_join, from_map, later, left_join, mapped, member, none, one_there, right_join, same_up, to_order, to_up, up_join}

module _ {A : Type 0} (number : A → ℕ) where
  pub is_join : (xs ys : List A) → InOrder number xs → InOrder number ys → Agree number xs ys → IsJoin number xs ys (join number xs ys)
  is_join xs ys x y agree = record {
    in_order = to_order number (join number xs ys) (up_join number xs ys (to_up number ys y));
    all = λ z. (from_join number xs ys z, either (left_join number xs ys (to_up number xs x) agree z) (right_join number xs ys z));
  }

  pub one_join : (xs ys zs ws : List A) → IsJoin number xs ys zs → IsJoin number xs ys ws → zs ≡ ws
  one_join xs ys zs ws h k = same_up number zs ws (to_up number zs h.in_order) (to_up number ws k.in_order) (λ z c. (k.all z).1 ((h.all z).0 c)) (λ z c. (h.all z).1 ((k.all z).0 c))

  -- what a join of agreeing rows is
  pub join_is : (xs ys zs : List A) → InOrder number xs → InOrder number ys → Agree number xs ys → IsJoin number xs ys zs → zs ≡ join number xs ys
  join_is xs ys zs x y agree h = one_join xs ys zs (join number xs ys) h (is_join xs ys x y agree)

  agree_itself : (xs : List A) → InOrder number xs → Agree number xs xs
  agree_itself xs x y z c d e = one_there number xs (to_up number xs x) y z c d e

  pub repeats : (xs : List A) → InOrder number xs → join number xs xs ≡ xs
  repeats xs x = sym (join_is xs xs xs x x (agree_itself xs x) (record { in_order = x; all = λ z. (λ c. inl c, either (λ c. c) (λ c. c)) }))

  turned : (xs ys : List A) → Agree number xs ys → Agree number ys xs
  turned xs ys agree x y c d e = sym (agree y x d c (sym e))

  swapped : {P Q : Type 0} → (P ⊎ Q) → Q ⊎ P
  swapped (inl p) = inr p
  swapped (inr q) = inl q

  pub turns : (xs ys : List A) → InOrder number xs → InOrder number ys → Agree number xs ys → join number xs ys ≡ join number ys xs
  turns xs ys x y agree =
      let h = is_join xs ys x y agree in
      join_is ys xs (join number xs ys) y x (turned xs ys agree) (record { in_order = h.in_order; all = λ z. (λ c. swapped ((h.all z).0 c), λ c. (h.all z).1 (swapped c)) })

  -- a join agrees with what both agree with
  agree_left : (xs ys zs : List A) → Agree number xs zs → Agree number ys zs → Agree number (join number xs ys) zs
  agree_left xs ys zs a b x z c d e = either (λ h. a x z h d e) (λ h. b x z h d e) (from_join number xs ys x c)

  pub groups : (xs ys zs : List A) → InOrder number xs → InOrder number ys → InOrder number zs → Agree number xs ys → Agree number xs zs → Agree number ys zs → join number (join number xs ys) zs ≡ join number xs (join number ys zs)
  groups xs ys zs x y z a b c =
      let l = is_join xs ys x y a in
      let r = is_join ys zs y z c in
      let whole = is_join (join number xs ys) zs l.in_order z (agree_left xs ys zs b c) in
      join_is xs (join number ys zs) (join number (join number xs ys) zs) x r.in_order
      (λ v w p q e. either (λ h. a v w p h e) (λ h. b v w p h e) ((r.all w).0 q))
      (record {
        in_order = whole.in_order;
        all = λ w. (
          λ p. either (λ h. either (λ k. inl k) (λ k. inr ((r.all w).1 (inl k))) ((l.all w).0 h)) (λ h. inr ((r.all w).1 (inr h))) ((whole.all w).0 p),
          either (λ h. (whole.all w).1 (inl ((l.all w).1 (inl h)))) (λ h. either (λ k. (whole.all w).1 (inl ((l.all w).1 (inr k)))) (λ k. (whole.all w).1 (inr k)) ((r.all w).0 h)),
        );
      })

  -- ---- how many

  abbrev has : A → List A → Bool
  has x ys = list_any (λ y. nat_eq (number x) (number y)) ys

  or_true : (b : Bool) → (b || true) ≡ true
  or_true true = refl
  or_true false = refl

  has_it : (x : A) (ys : List A) (y : A) → Contains ys y → number x ≡ number y → has x ys ≡ true
  has_it x [] y c e = absurd (none y c)
  has_it x (z ∷ zs) y c e =
      either (λ p. (let n : number x ≡ number z = e ∙ ap number (sym p) in let t : nat_eq (number x) (number z) ≡ true = grind (arith, nat_tests) in ap (λ b. b || has x zs) t))
      (λ h. ap (λ b. nat_eq (number x) (number z) || b) (has_it x zs y h e) ∙ or_true (nat_eq (number x) (number z))) (member z zs y c)

  it_has : (x : A) (ys : List A) → has x ys ≡ true → (y : A) × Contains ys y × (number x ≡ number y)
  it_has x [] e = absurd (let no : ⊥ = cc in no)
  it_has x (z ∷ zs) e = by (it_has x zs) (nat_eq (number x) (number z)) refl e
    where
      by : (has x zs ≡ true → (y : A) × Contains zs y × (number x ≡ number y)) → (b : Bool) → nat_eq (number x) (number z) ≡ b → (b || has x zs) ≡ true → (y : A) × Contains (z ∷ zs) y × (number x ≡ number y)
      by more true h k = let n : number x ≡ number z = grind (arith, nat_tests) in (z, first z zs, n)
      by more false h k = let it = more k in (it.0, later z it.0 zs it.1, it.2)

  same_test : (b c : Bool) → (b ≡ true → c ≡ true) → (c ≡ true → b ≡ true) → b ≡ c
  same_test true c f g = sym (f refl)
  same_test false true f g = g refl
  same_test false false f g = refl

  has_joined : (x : A) (xs ys : List A) → Below number x xs → has x (join number xs ys) ≡ has x ys
  has_joined x xs ys b = same_test (has x (join number xs ys)) (has x ys) to from
    where
      to : has x (join number xs ys) ≡ true → has x ys ≡ true
      to e =
          let it = it_has x (join number xs ys) e in
          either (λ h. (let less = b it.0 h in let n = it.2 in absurd (let no : ⊥ = omega (arith, less, n) in no))) (λ h. has_it x ys it.0 h it.2) (from_join number xs ys it.0 it.1)

      from : has x ys ≡ true → has x (join number xs ys) ≡ true
      from e = let it = it_has x ys e in has_it x (join number xs ys) it.0 (right_join number xs ys it.0 it.1) it.2

  none_below : (x : A) (ys : List A) → Below number x ys → has x ys ≡ false
  none_below x ys b = by (has x ys) refl
    where
      by : (t : Bool) → has x ys ≡ t → t ≡ false
      by true e = let it = it_has x ys e in let less = b it.0 it.1 in let n = it.2 in absurd (let no : ⊥ = omega (arith, less, n) in no)
      by false e = refl

  abbrev one_if : Bool → ℕ
  one_if true = 1
  one_if false = 0

  put_count : (x : A) (ys : List A) → Up number ys → length (put number x ys) + one_if (has x ys) ≡ suc (length ys)
  unfolding put
  put_count x [] u = refl
  put_count x (y ∷ ys) u = by (put_count x ys u.1) (nat_lt (number x) (number y)) (nat_eq (number x) (number y)) refl refl
    where
      by : length (put number x ys) + one_if (has x ys) ≡ suc (length ys) → (b e : Bool) → nat_lt (number x) (number y) ≡ b → nat_eq (number x) (number y) ≡ e → length (if b then x ∷ y ∷ ys else (if e then y ∷ ys else y ∷ put number x ys)) + one_if (e || has x ys) ≡ suc (suc (length ys))
      by more true true h k = absurd (let low : number x < number y = grind (arith, nat_tests) in let n : number x ≡ number y = grind (arith, nat_tests) in let no : ⊥ = omega (arith, low, n) in no)
      by more true false h k =
          let low : number x < number y = grind (arith, nat_tests) in
          let free : one_if (has x ys) ≡ 0 = ap one_if (none_below x ys (λ z c. (let less = u.0 z c in omega (arith, low, less)))) in
          omega (arith, free)
      by more false true h k = omega arith
      by more false false h k = omega (arith, more)

  pub counts : (xs ys : List A) → Up number xs → Up number ys → length (join number xs ys) + shared number xs ys ≡ length xs + length ys
  unfolding join shared
  counts [] ys u v = omega arith
  counts (x ∷ xs) ys u v = by (counts xs ys u.1 v) (has x ys) (put_count x (join number xs ys) (up_join number xs ys v)) (has_joined x xs ys u.0)
    where
      by : length (join number xs ys) + length (filter (λ z. has z ys) xs) ≡ length xs + length ys → (b : Bool) → length (put number x (join number xs ys)) + one_if (has x (join number xs ys)) ≡ suc (length (join number xs ys)) → has x (join number xs ys) ≡ b → length (put number x (join number xs ys)) + length (if b then x ∷ filter (λ z. has z ys) xs else filter (λ z. has z ys) xs) ≡ suc (length xs) + length ys
      by more true h k = let t : one_if (has x (join number xs ys)) ≡ 1 = ap one_if k in omega (arith, more, h, t)
      by more false h k = let t : one_if (has x (join number xs ys)) ≡ 0 = ap one_if k in omega (arith, more, h, t)

-- Rows whose things are one by their numbers and by a fact that holds of all of them. A row in order that has the
-- numbers of two others is their join.
module _ {A : Type 0} (number : A → ℕ) (F : A → Type 0) (one : (x y : A) → number x ≡ number y → F x → F y → x ≡ y) where
  pub facts_agree : (xs ys : List A) → ((x : A) → Contains xs x → F x) → ((y : A) → Contains ys y → F y) → Agree number xs ys
  facts_agree xs ys f g x y c d e = one x y e (f x c) (g y d)

  pub found : (xs : List A) (z : A) → ((x : A) → Contains xs x → F x) → F z → Contains (map number xs) (number z) → Contains xs z
  found xs z f h c = let it = from_map number xs (number z) c in subst (λ w. Contains xs w) (one it.0 z it.2 (f it.0 it.1) h) it.1

  pub facts_join : (xs ys zs : List A) → InOrder number zs → ((x : A) → Contains xs x → F x) → ((y : A) → Contains ys y → F y) → ((z : A) → Contains zs z → F z)
      → ((n : ℕ) → Contains (map number zs) n ↔ (Contains (map number xs) n ⊎ Contains (map number ys) n)) → IsJoin number xs ys zs
  facts_join xs ys zs up f g h numbers = record {
    in_order = up;
    all = λ z. (
      λ c. either (λ k. inl (found xs z f (h z c) k)) (λ k. inr (found ys z g (h z c) k)) ((numbers (number z)).0 (mapped number z zs c)),
      either (λ c. found zs z h (f z c) ((numbers (number z)).1 (inl (mapped number z xs c)))) (λ c. found zs z h (g z c) ((numbers (number z)).1 (inr (mapped number z ys c)))),
    );
  }

pub joins_join : JoinsJoin
joins_join ms ks m k agree = is_join file_of ms ks m k agree

pub one : OneJoin
one ms ks js is h k = one_join file_of ms ks js is h k

pub joins_repeat : JoinsRepeat
joins_repeat ms m = repeats file_of ms m

pub joins_turn : JoinsTurn
joins_turn ms ks m k agree = turns file_of ms ks m k agree

pub joins_group : JoinsGroup
joins_group ms ks js m k j a b c = groups file_of ms ks js m k j a b c

pub joins_count : JoinsCount
joins_count ms ks m k = counts file_of ms ks (to_up file_of ms m) (to_up file_of ks k)
