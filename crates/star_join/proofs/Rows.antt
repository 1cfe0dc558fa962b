-- Rows in the order of their numbers, and their join.
use Rattle.std.proofs.Common.{arith, ◌≡◌, ◌⊎◌, ◌+◌, ◌<◌, ℕ, zero, suc, Bool, true, false, List, [], ◌∷◌, map, nat_lt, if◌then◌else◌, refl, ap, sym, subst, ◌∙◌, inl, inr}
use Rattle.std.specs.Prelude.{All, Contains, nat_eq}
use Rattle.std.specs.List.{AllPairs}
use Rattle.std.proofs.lemmas.Bool.Decides.{nat_tests}
use Rattle.std.proofs.lemmas.List.Kept.{AllPairs-cons, AllPairs-from_increasing}
use Rattle.star_join.specs.Join.{Agree, InOrder, join, put}

-- ---- what is in a row

pub either : {A B C : Type 0} → (A → C) → (B → C) → (A ⊎ B) → C
either f g (inl a) = f a
either f g (inr b) = g b

pub none : {A : Type 0} (x : A) → Contains [] x → ⊥
none x c = let less = c.1 in let no : ⊥ = omega (arith, less) in no

pub first : {A : Type 0} (x : A) (xs : List A) → Contains (x ∷ xs) x
first x xs = (0, omega arith, refl)

pub later : {A : Type 0} (x z : A) (xs : List A) → Contains xs z → Contains (x ∷ xs) z
later x z xs (k, less, e) = (suc k, omega (arith, less), e)

pub member : {A : Type 0} (x : A) (xs : List A) (z : A) → Contains (x ∷ xs) z → (x ≡ z) ⊎ Contains xs z
member x xs z (zero, less, e) = inl e
member x xs z (suc k, less, e) = inr (k, omega (arith, less), e)

pub mapped : {A B : Type 0} (f : A → B) (x : A) (xs : List A) → Contains xs x → Contains (map f xs) (f x)
mapped f x [] c = absurd (none x c)
mapped f x (y ∷ ys) c =
    either (λ e. subst (λ z. Contains (f y ∷ map f ys) (f z)) e (first (f y) (map f ys)))
    (λ h. later (f y) (f x) (map f ys) (mapped f x ys h)) (member y ys x c)

pub from_map : {A B : Type 0} (f : A → B) (xs : List A) (b : B) → Contains (map f xs) b → (x : A) × Contains xs x × (f x ≡ b)
from_map f [] b c = absurd (none b c)
from_map f (y ∷ ys) b c =
    either (λ e. (y, first y ys, e)) (λ h. (let it = from_map f ys b h in (it.0, later y it.0 ys it.1, it.2))) (member (f y) (map f ys) b c)

module _ {A : Type 0} (number : A → ℕ) where
  -- ---- rows in order

  abbrev pub Below : A → List A → Type 0
  Below x ys = (y : A) → Contains ys y → number x < number y

  abbrev pub Up : List A → Type 0
  Up [] = Unit {0}
  Up (x ∷ xs) = Below x xs × Up xs

  all_below : (x : A) (ys : List A) → Below x ys → All (λ n. number x < n) (map number ys)
  all_below x [] b k d less = absurd (let no : ⊥ = omega (arith, less) in no)
  all_below x (y ∷ ys) b zero d less = b y (first y ys)
  all_below x (y ∷ ys) b (suc k) d less = all_below x ys (λ z c. b z (later y z ys c)) k d (omega (arith, less))

  pairs : (xs : List A) → Up xs → AllPairs (λ n m. n < m) (map number xs)
  pairs [] u i j d less short = absurd (let no : ⊥ = omega (arith, short) in no)
  pairs (x ∷ xs) u i j d less short = AllPairs-cons (λ n m. n < m) (number x) (map number xs) (all_below x xs u.0) (pairs xs u.1) i j d less short

  pub to_order : (xs : List A) → Up xs → InOrder number xs
  to_order xs u k h = pairs xs u k (k + 1) 0 (omega arith) h

  from_pairs : (xs : List A) → AllPairs (λ n m. n < m) (map number xs) → Up xs
  from_pairs [] p = tt
  from_pairs (x ∷ xs) p = (λ y c. (let at = mapped number y xs c in subst (λ n. number x < n) at.2 (p 0 (suc at.0) (number y) (omega arith) (let low = at.1 in omega (arith, low)))), from_pairs xs (λ i j d less short. p (suc i) (suc j) d (omega (arith, less)) (omega (arith, short))))

  pub to_up : (xs : List A) → InOrder number xs → Up xs
  to_up xs h = from_pairs xs (AllPairs-from_increasing (map number xs) h)

  -- in a row in order, one number has one thing
  pub one_there : (xs : List A) → Up xs → (x y : A) → Contains xs x → Contains xs y → number x ≡ number y → x ≡ y
  one_there [] u x y c d e = absurd (none x c)
  one_there (z ∷ zs) u x y c d e = by (λ h k. one_there zs u.1 x y h k e) (member z zs x c) (member z zs y d)
    where
      by : (Contains zs x → Contains zs y → x ≡ y) → ((z ≡ x) ⊎ Contains zs x) → ((z ≡ y) ⊎ Contains zs y) → x ≡ y
      by more (inl p) (inl q) = sym p ∙ q
      by more (inl p) (inr k) = let less = u.0 y k in let same : number z ≡ number y = ap number p ∙ e in absurd (let no : ⊥ = omega (arith, less, same) in no)
      by more (inr h) (inl q) = let less = u.0 x h in let same : number z ≡ number x = ap number q ∙ sym e in absurd (let no : ⊥ = omega (arith, less, same) in no)
      by more (inr h) (inr k) = more h k

  -- rows in order with the same in them are one
  pub same_up : (xs ys : List A) → Up xs → Up ys → ((z : A) → Contains xs z → Contains ys z) → ((z : A) → Contains ys z → Contains xs z) → xs ≡ ys
  same_up [] [] u v to from = refl
  same_up [] (y ∷ ys) u v to from = absurd (none y (from y (first y ys)))
  same_up (x ∷ xs) [] u v to from = absurd (none x (to x (first x xs)))
  same_up (x ∷ xs) (y ∷ ys) u v to from =
      let same : x ≡ y = heads (member y ys x (to x (first x xs))) (member x xs y (from y (first y ys))) in
      let rest : xs ≡ ys = same_up xs ys u.1 v.1
      (λ z h. tail y ys z (let less = u.0 z h in λ e. let n : number x ≡ number z = ap number (same ∙ e) in let no : ⊥ = omega (arith, less, n) in no) (to z (later x z xs h)))
      (λ z h. tail x xs z (let less = v.0 z h in λ e. let n : number y ≡ number z = ap number (sym same ∙ e) in let no : ⊥ = omega (arith, less, n) in no) (from z (later y z ys h))) in
      ap (λ zs. x ∷ zs) rest ∙ ap (λ z. z ∷ ys) same
    where
      heads : ((y ≡ x) ⊎ Contains ys x) → ((x ≡ y) ⊎ Contains xs y) → x ≡ y
      heads (inl e) _ = sym e
      heads (inr h) (inl e) = e
      heads (inr h) (inr k) = let up = v.0 x h in let down = u.0 y k in absurd (let no : ⊥ = omega (arith, up, down) in no)

      tail : (w : A) (ws : List A) (z : A) → (w ≡ z → ⊥) → Contains (w ∷ ws) z → Contains ws z
      tail w ws z differ h = pick (member w ws z h)
        where
          pick : ((w ≡ z) ⊎ Contains ws z) → Contains ws z
          pick (inl e) = absurd (differ e)
          pick (inr k) = k

  -- ---- one thing more

  pub from_put : (x : A) (ys : List A) (z : A) → Contains (put number x ys) z → (x ≡ z) ⊎ Contains ys z
  unfolding put
  from_put x [] z c = member x [] z c
  from_put x (y ∷ ys) z c = by (from_put x ys z) (nat_lt (number x) (number y)) (nat_eq (number x) (number y)) c
    where
      by : (Contains (put number x ys) z → (x ≡ z) ⊎ Contains ys z) → (b e : Bool) → Contains (if b then x ∷ y ∷ ys else (if e then y ∷ ys else y ∷ put number x ys)) z → (x ≡ z) ⊎ Contains (y ∷ ys) z
      by more true e h = member x (y ∷ ys) z h
      by more false true h = inr h
      by more false false h =
          either (λ p. inr (subst (λ w. Contains (y ∷ ys) w) p (first y ys)))
          (λ k. either (λ p. inl p) (λ q. inr (later y z ys q)) (more k)) (member y (put number x ys) z h)

  pub to_put : (x : A) (ys : List A) (z : A) → Contains ys z → Contains (put number x ys) z
  unfolding put
  to_put x [] z c = absurd (none z c)
  to_put x (y ∷ ys) z c = by (to_put x ys z) (nat_lt (number x) (number y)) (nat_eq (number x) (number y))
    where
      by : (Contains ys z → Contains (put number x ys) z) → (b e : Bool) → Contains (if b then x ∷ y ∷ ys else (if e then y ∷ ys else y ∷ put number x ys)) z
      by more true e = later x z (y ∷ ys) c
      by more false true = c
      by more false false =
          either (λ p. subst (λ w. Contains (y ∷ put number x ys) w) p (first y (put number x ys)))
          (λ k. later y z (put number x ys) (more k)) (member y ys z c)

  pub own_put : (x : A) (ys : List A) → ((y : A) → Contains ys y → number x ≡ number y → x ≡ y) → Contains (put number x ys) x
  unfolding put
  own_put x [] agree = first x []
  own_put x (y ∷ ys) agree = by (own_put x ys (λ z c. agree z (later y z ys c))) (nat_lt (number x) (number y)) (nat_eq (number x) (number y)) refl
    where
      by : Contains (put number x ys) x → (b e : Bool) → nat_eq (number x) (number y) ≡ e → Contains (if b then x ∷ y ∷ ys else (if e then y ∷ ys else y ∷ put number x ys)) x
      by more true e h = first x (y ∷ ys)
      by more false true h = subst (λ w. Contains (y ∷ ys) w) (sym (agree y (first y ys) (grind (arith, nat_tests)))) (first y ys)
      by more false false h = later y x (put number x ys) more

  pub up_put : (x : A) (ys : List A) → Up ys → Up (put number x ys)
  unfolding put
  up_put x [] u = (λ z c. absurd (none z c), tt)
  up_put x (y ∷ ys) u = by (up_put x ys u.1) (nat_lt (number x) (number y)) (nat_eq (number x) (number y)) refl refl
    where
      before : number x < number y → (z : A) → ((y ≡ z) ⊎ Contains ys z) → number x < number z
      before low z (inl p) = let n : number y ≡ number z = ap number p in omega (arith, low, n)
      before low z (inr c) = let less = u.0 z c in omega (arith, low, less)

      after : number y < number x → (z : A) → ((x ≡ z) ⊎ Contains ys z) → number y < number z
      after high z (inl p) = let n : number x ≡ number z = ap number p in omega (arith, high, n)
      after high z (inr c) = u.0 z c

      by : Up (put number x ys) → (b e : Bool) → nat_lt (number x) (number y) ≡ b → nat_eq (number x) (number y) ≡ e → Up (if b then x ∷ y ∷ ys else (if e then y ∷ ys else y ∷ put number x ys))
      by more true e h k = let low : number x < number y = grind (arith, nat_tests) in (λ z c. before low z (member y ys z c), u)
      by more false true h k = u
      by more false false h k = let high : number y < number x = grind (arith, nat_tests) in (λ z c. after high z (from_put x ys z c), more)

  -- ---- the join

  pub from_join : (xs ys : List A) (z : A) → Contains (join number xs ys) z → Contains xs z ⊎ Contains ys z
  unfolding join
  from_join [] ys z c = inr c
  from_join (x ∷ xs) ys z c =
      either (λ e. inl (subst (λ w. Contains (x ∷ xs) w) e (first x xs)))
      (λ h. either (λ p. inl (later x z xs p)) (λ q. inr q) (from_join xs ys z h)) (from_put x (join number xs ys) z c)

  pub right_join : (xs ys : List A) (z : A) → Contains ys z → Contains (join number xs ys) z
  unfolding join
  right_join [] ys z c = c
  right_join (x ∷ xs) ys z c = to_put x (join number xs ys) z (right_join xs ys z c)

  pub left_join : (xs ys : List A) → Up xs → Agree number xs ys → (z : A) → Contains xs z → Contains (join number xs ys) z
  unfolding join
  left_join [] ys u agree z c = absurd (none z c)
  left_join (x ∷ xs) ys u agree z c =
      either (λ e. subst (λ w. Contains (put number x (join number xs ys)) w) e (own_put x (join number xs ys) (λ y h same. on y same (from_join xs ys y h))))
      (λ h. to_put x (join number xs ys) z (left_join xs ys u.1 (λ v w p q. agree v w (later x v xs p) q) z h)) (member x xs z c)
    where
      on : (y : A) → number x ≡ number y → (Contains xs y ⊎ Contains ys y) → x ≡ y
      on y e (inl h) = let less = u.0 y h in absurd (let no : ⊥ = omega (arith, less, e) in no)
      on y e (inr h) = agree x y (first x xs) h e

  pub up_join : (xs ys : List A) → Up ys → Up (join number xs ys)
  unfolding join
  up_join [] ys v = v
  up_join (x ∷ xs) ys v = up_put x (join number xs ys) (up_join xs ys v)
