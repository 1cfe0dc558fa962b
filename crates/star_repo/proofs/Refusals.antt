-- One refusal of the files of a run.
use Rattle.std.proofs.Common.{◌≡◌, ◌≢◌, ◌≤◌, ◌+◌, ◌⊎◌, inl, inr, ℕ, List, [], ◌∷◌, length, Option, Some, refl, ap, sym, ◌∙◌, subst, arith}
use Rattle.std.specs.Prelude.{Contains, sum_by}
use Rattle.std.specs.declared.cmp.Ordering.{Ordering}
use Rattle.std.specs.declared.cmp.Ordering.TheVariants.{Less, Equal, Greater}
use Rattle.std.specs.List.Sorted.{IsStrictlySortedBy}
use Rattle.std.specs.Ordering.{ordering_reverse}
use Rattle.std.specs.Str.{IsUtf8}
use Rattle.std.proofs.lemmas.Cmp.{nat_list_cmp_total}
use Rattle.std.proofs.lemmas.Map.Lookups.{exact_bytes}
use Rattle.std.proofs.lemmas.List.Elements.{All-contains}
use Rattle.std.proofs.lemmas.List.Sums.{sum_by-cons}
use native.Mathlib.Decide.{dec_lt}
use Rattle.star_label.specs.Files.{File, IsOrdered}
use Rattle.star_bundle.specs.declared.error.ServeError.{ServeError}
use Rattle.star_bundle.specs.declared.error.ServeError.TheVariants as error
use Rattle.star_repo.specs.Held.{Held}
use Rattle.star_repo.specs.Reach.{Words}
use Rattle.star_repo.specs.Refusal.{AreBefore, ComesFirst, IsRefusedAt, IsRound, Pass, Refuses, Stands, size_of}
use Rattle.star_repo.specs.Laws.{OneRefusal, RefusedOrNot}
use Rattle.star_repo.proofs.Reached.{from_round}
use Rattle.star_words.specs.Rows.{IsIn}
use Rattle.star_repo.proofs.Rows.{R, below, from_in, never_less, same_rows, to_in}

-- there is a file at a refusal other than a failed read
stands : (held : Held) (l bytes : List ℕ) (e : ServeError) → e ≢ error.BadFile → Stands held l bytes e → held l ≡ Some bytes
stands held l bytes error.BadFile k h = absurd (k refl)
stands held l bytes e k h = h

-- a label that follows x in order is not before it
later : (x : File) (xs : List File) (y : File) (ys : List File) → IsOrdered (x ∷ xs) → IsOrdered (y ∷ ys) → IsIn x ys → ((z : File) → IsIn z (x ∷ xs) → IsIn z (y ∷ ys)) → (z : File) → IsIn z (x ∷ xs) → IsIn z ys
unfolding IsStrictlySortedBy
later x xs y ys s t there to z h = elim (to z h) [ inl k ↦ absurd (behind h k) | inr k ↦ k ]
  where
    low : R y.0 x.0 ≡ Less
    low = below y.0 ys x t.0 there

    behind : IsIn z (x ∷ xs) → y ≡ z → ⊥
    behind (inl e) k = never_less y.0 (subst (λ (g : File). R y.0 g.0 ≡ Less) (e ∙ sym k) low)
    behind (inr m) k = never_less y.0 (subst (λ (g : File). R y.0 g.0 ≡ Less) (sym k) (nat_list_cmp_total.trans y.0 x.0 z.0 low (below x.0 xs z s.0 m)))

tail_of : (x : File) (xs : List File) (y : File) (ys : List File) → IsOrdered (x ∷ xs) → y ≡ x → ((z : File) → IsIn z (x ∷ xs) → IsIn z (y ∷ ys)) → (z : File) → IsIn z xs → IsIn z ys
unfolding IsStrictlySortedBy
tail_of x xs y ys s e to z h = elim (to z (inr h)) [
  | inl k ↦ absurd (never_less x.0 (subst (λ (g : File). R x.0 g.0 ≡ Less) (sym k ∙ e) (below x.0 xs z s.0 h)))
  | inr k ↦ k
]

ordered_tail : (x : File) (xs : List File) → IsOrdered (x ∷ xs) → IsOrdered xs
unfolding IsStrictlySortedBy
ordered_tail x xs s = s.1

abbrev total : (File → ℕ) → List File → ℕ
total f [] = 0
total f (x ∷ xs) = f x + total f xs

total_is : (f : File → ℕ) (xs : List File) → sum_by f xs ≡ total f xs
total_is f [] = refl
total_is f (x ∷ xs) = sum_by-cons f x xs ∙ ap (λ n. f x + n) (total_is f xs)

total_length : (xs : List File) → total (λ x. 1) xs ≡ length xs
total_length [] = refl
total_length (x ∷ xs) = let h = total_length xs in omega (arith, h)

member_weighs : (f : File → ℕ) (z : File) (ys : List File) → IsIn z ys → f z ≤ total f ys
member_weighs f z [] h = absurd h
member_weighs f z (y ∷ ys) (inl e) = let same : f y ≡ f z = ap f e in omega (arith, same)
member_weighs f z (y ∷ ys) (inr h) = let r = member_weighs f z ys h in omega (arith, r)

-- ordered files weigh no more than ordered files that have them all
under : (f : File → ℕ) (xs ys : List File) → IsOrdered xs → IsOrdered ys → ((x : File) → IsIn x xs → IsIn x ys) → total f xs ≤ total f ys
under f [] ys s t to = omega arith
under f (x ∷ xs) [] s t to = absurd (to x (inl refl))
under f (x ∷ xs) (y ∷ ys) s t to = elim (to x (inl refl)) [
  | inl e ↦ (
      let r = under f xs ys (ordered_tail x xs s) (ordered_tail y ys t) (tail_of x xs y ys s e to) in
      let same : f y ≡ f x = ap f e in
      omega (arith, r, same))
  | inr there ↦ (
      let r = under f (x ∷ xs) ys s (ordered_tail y ys t) (later x xs y ys s t there to) in
      omega (arith, r))
]

-- ordered files with one more weigh no more than ordered files that have them all
weigh : (f : File → ℕ) (z : File) (xs ys : List File) → IsOrdered xs → IsOrdered ys → ((x : File) → IsIn x xs → IsIn x ys) → IsIn z ys → (IsIn z xs → ⊥) → total f xs + f z ≤ total f ys
weigh f z xs [] s t to there away = absurd there
weigh f z [] (y ∷ ys) s t to there away = let m = member_weighs f z (y ∷ ys) there in omega (arith, m)
weigh f z (x ∷ xs) (y ∷ ys) s t to there away = elim (to x (inl refl)) [
  | inl e ↦ (
      let deeper : IsIn z ys = elim there [ inl k ↦ absurd (away (inl (sym e ∙ k))) | inr k ↦ k ] in
      let r = weigh f z xs ys (ordered_tail x xs s) (ordered_tail y ys t) (tail_of x xs y ys s e to) deeper (λ h. away (inr h)) in
      let same : f y ≡ f x = ap f e in
      omega (arith, r, same))
  | inr in_ys ↦ elim there [
    | inl k ↦ (
        let r = under f (x ∷ xs) ys s (ordered_tail y ys t) (later x xs y ys s t in_ys to) in
        let same : f y ≡ f z = ap f k in
        omega (arith, r, same))
    | inr k ↦ (
        let r = weigh f z (x ∷ xs) ys s (ordered_tail y ys t) (later x xs y ys s t in_ys to) k away in
        omega (arith, r))
  ]
]

module _ (held : Held) (words : Words) where
  one_round : (d e : ℕ) (l : List ℕ) → IsRound held words d l → IsRound held words e l → d ≡ e
  one_round d e l a b = let h = a.fewest e b.reached in let k = b.fewest d a.reached in omega (arith, h, k)

  -- the first of the first labels is the first of all
  both_first : (c d e : ℕ) (k l m : List ℕ) → ComesFirst c k d l → ComesFirst d l e m → ComesFirst c k e m
  both_first c d e k l m (inl h) (inl i) = inl (omega (arith, h, i))
  both_first c d e k l m (inl h) (inr i) = let s = i.0 in inl (omega (arith, h, s))
  both_first c d e k l m (inr h) (inl i) = let s = h.0 in inl (omega (arith, s, i))
  both_first c d e k l m (inr h) (inr i) = inr (h.0 ∙ i.0, nat_list_cmp_total.trans k l m h.1 i.1)

  not_itself : (d : ℕ) (l : List ℕ) → ComesFirst d l d l → ⊥
  not_itself d l (inl h) = omega (arith, h)
  not_itself d l (inr h) = never_less l h.1

  -- a file that is refused after some files is not among files that pass with those
  passed_over : (l : List ℕ) (e : ServeError) (a : IsRefusedAt held words l e) (ys : List File) → IsOrdered ys → Pass ys → Contains ys (l, a.bytes) → ((g : File) → IsIn g a.front → IsIn g ys) → e ≢ error.BadFile → ⊥
  passed_over l e a ys ordered pass inside to named = by e a.refused named
    where
      passed : (length a.bytes ≤ 1048576) × IsUtf8 a.bytes
      passed = All-contains (λ g. (length g.1 ≤ 1048576) × IsUtf8 g.1) ys (l, a.bytes) pass.texts inside

      away : IsIn (l, a.bytes) a.front → ⊥
      away h =
          let it = (a.before.are l a.bytes).0 (from_in a.front (l, a.bytes) h) in
          not_itself a.rounds l (subst (λ c. ComesFirst c l a.rounds l) (one_round it.0 a.rounds l it.1 a.round) it.2)

      weight : (g : File → ℕ) → total g a.front + g (l, a.bytes) ≤ total g ys
      weight g = weigh g (l, a.bytes) a.front ys a.before.ordered ordered to (to_in ys (l, a.bytes) inside) away

      more : length a.front + 1 ≤ 10000
      more = let w = weight (λ g. 1) in let x = total_length a.front in let y = total_length ys in let z = pass.few in omega (arith, w, x, y, z)

      fits : size_of a.front + length a.bytes ≤ 268435456
      fits = let w = weight (λ g. length g.1) in let x = total_is (λ g. length g.1) a.front in let y = total_is (λ g. length g.1) ys in let z = pass.small in omega (arith, w, x, y, z)

      by : (r : ServeError) → Refuses (length a.front) (size_of a.front) a.bytes r → r ≢ error.BadFile → ⊥
      by error.TooBig h k = let p = fits in let q = h.3 in omega (arith, p, q)
      by error.BadFile h k = k refl
      by error.NotText h k = h.2 passed.1
      by error.TooMany h k = let m = more in omega (arith, h, m)
      by error.TooLong h k = let p = passed.0 in let q = h.1 in omega (arith, p, q)
      by e h k = h

  -- a refusal at an earlier place would have been one of the files that passed
  earlier : (l m : List ℕ) (e f : ServeError) (a : IsRefusedAt held words l e) (b : IsRefusedAt held words m f) → ComesFirst a.rounds l b.rounds m → e ≢ error.BadFile → ⊥
  earlier l m e f a b first named =
      passed_over l e a b.front b.before.ordered b.passed ((b.before.are l a.bytes).1 (a.rounds, a.round, first, stands held l a.bytes e named a.there)) (λ g h.
      let it = (a.before.are g.0 g.1).0 (from_in a.front g h) in
      to_in b.front g ((b.before.are g.0 g.1).1 (it.0, it.1, both_first it.0 a.rounds b.rounds g.0 l m it.2 first, it.3))) named

  -- at one place there is one reason
  only_TooMany : (c s : ℕ) (b : List ℕ) (f : ServeError) → Refuses c s b error.TooMany → Refuses c s b f → f ≢ error.BadFile → error.TooMany ≡ f
  only_TooMany c s b error.TooBig m h k = absurd (let q = h.0 in omega (arith, m, q))
  only_TooMany c s b error.BadFile m h k = absurd (k refl)
  only_TooMany c s b error.NotText m h k = absurd (let q = h.0 in omega (arith, m, q))
  only_TooMany c s b error.TooMany m h k = refl
  only_TooMany c s b error.TooLong m h k = absurd (let q = h.0 in omega (arith, m, q))
  only_TooMany c s b e m h k = absurd h

  only_TooLong : (c s : ℕ) (b : List ℕ) (f : ServeError) → Refuses c s b error.TooLong → Refuses c s b f → f ≢ error.BadFile → error.TooLong ≡ f
  only_TooLong c s b error.TooBig m h k = absurd (let p = m.1 in let q = h.1 in omega (arith, p, q))
  only_TooLong c s b error.BadFile m h k = absurd (k refl)
  only_TooLong c s b error.NotText m h k = absurd (let p = m.1 in let q = h.1 in omega (arith, p, q))
  only_TooLong c s b error.TooMany m h k = absurd (let q = m.0 in omega (arith, h, q))
  only_TooLong c s b error.TooLong m h k = refl
  only_TooLong c s b e m h k = absurd h

  only_NotText : (c s : ℕ) (b : List ℕ) (f : ServeError) → Refuses c s b error.NotText → Refuses c s b f → f ≢ error.BadFile → error.NotText ≡ f
  only_NotText c s b error.TooBig m h k = absurd (m.2 h.2)
  only_NotText c s b error.BadFile m h k = absurd (k refl)
  only_NotText c s b error.NotText m h k = refl
  only_NotText c s b error.TooMany m h k = absurd (let q = m.0 in omega (arith, h, q))
  only_NotText c s b error.TooLong m h k = absurd (let p = m.1 in let q = h.1 in omega (arith, p, q))
  only_NotText c s b e m h k = absurd h

  only_TooBig : (c s : ℕ) (b : List ℕ) (f : ServeError) → Refuses c s b error.TooBig → Refuses c s b f → f ≢ error.BadFile → error.TooBig ≡ f
  only_TooBig c s b error.TooBig m h k = refl
  only_TooBig c s b error.BadFile m h k = absurd (k refl)
  only_TooBig c s b error.NotText m h k = absurd (h.2 m.2)
  only_TooBig c s b error.TooMany m h k = absurd (let q = m.0 in omega (arith, h, q))
  only_TooBig c s b error.TooLong m h k = absurd (let p = m.1 in let q = h.1 in omega (arith, p, q))
  only_TooBig c s b e m h k = absurd h

  one_reason : (c s : ℕ) (b : List ℕ) (e f : ServeError) → Refuses c s b e → Refuses c s b f → e ≢ error.BadFile → f ≢ error.BadFile → e ≡ f
  one_reason c s b error.TooBig f h j k l = only_TooBig c s b f h j l
  one_reason c s b error.BadFile f h j k l = absurd (k refl)
  one_reason c s b error.NotText f h j k l = only_NotText c s b f h j l
  one_reason c s b error.TooMany f h j k l = only_TooMany c s b f h j l
  one_reason c s b error.TooLong f h j k l = only_TooLong c s b f h j l
  one_reason c s b e f h j k l = absurd h

  order_of : (l m : List ℕ) (r : Ordering) → R l m ≡ r → (R l m ≡ Less) ⊎ ((l ≡ m) ⊎ (R m l ≡ Less))
  order_of l m Less e = inl e
  order_of l m Equal e = inr (inl (exact_bytes l m e))
  order_of l m Greater e = inr (inr (nat_list_cmp_total.antisymm m l ∙ ap ordering_reverse e))

  compared : (l m : List ℕ) (d e : ℕ) → ComesFirst d l e m ⊎ ((d ≡ e) × (l ≡ m)) ⊎ ComesFirst e m d l
  compared l m d e = elim (dec_lt d e) [
    | yes h ↦ inl (inl h)
    | no h ↦ elim (dec_lt e d) [
      | yes k ↦ inr (inr (inl k))
      | no k ↦ level (omega arith) (order_of l m (R l m) refl)
    ]
  ]
    where
      level : d ≡ e → (R l m ≡ Less) ⊎ ((l ≡ m) ⊎ (R m l ≡ Less)) → ComesFirst d l e m ⊎ ((d ≡ e) × (l ≡ m)) ⊎ ComesFirst e m d l
      level s (inl h) = inl (inr (s, h))
      level s (inr (inl h)) = inr (inl (s, h))
      level s (inr (inr h)) = inr (inr (inr (sym s, h)))

  -- at one place the same files come before
  one_front : (d : ℕ) (l : List ℕ) (xs ys : List File) → AreBefore held words d l xs → AreBefore held words d l ys → xs ≡ ys
  one_front d l xs ys a b = same_rows xs ys a.ordered b.ordered (λ g h. to_in ys g ((b.are g.0 g.1).1 ((a.are g.0 g.1).0 (from_in xs g h)))) (λ g h. to_in xs g ((a.are g.0 g.1).1 ((b.are g.0 g.1).0 (from_in ys g h))))

  same_bytes : (o : Option (List ℕ)) (a b : List ℕ) → o ≡ Some a → o ≡ Some b → b ≡ a
  same_bytes o a b h k = cc

  at_one : (l m : List ℕ) (e f : ServeError) (a : IsRefusedAt held words l e) (b : IsRefusedAt held words m f) → a.rounds ≡ b.rounds → l ≡ m → e ≢ error.BadFile → f ≢ error.BadFile → e ≡ f
  at_one l m e f a b d_is l_is j k =
      let bytes : b.bytes ≡ a.bytes = same_bytes (held l) a.bytes b.bytes (stands held l a.bytes e j a.there) (ap held l_is ∙ stands held m b.bytes f k b.there) in
      let front : b.front ≡ a.front = one_front a.rounds l b.front a.front (subst (λ x. AreBefore held words a.rounds x b.front) (sym l_is) (subst (λ x. AreBefore held words x m b.front) (sym d_is) b.before)) a.before in
      let there : Refuses (length a.front) (size_of a.front) a.bytes f = subst (λ x. Refuses (length x) (size_of x) a.bytes f) front (subst (λ x. Refuses (length b.front) (size_of b.front) x f) bytes b.refused) in
      one_reason (length a.front) (size_of a.front) a.bytes e f a.refused there j k

pub one_refusal : OneRefusal
one_refusal held words l m e f a b j k = elim (compared held words l m a.rounds b.rounds) [
  | inl h ↦ absurd (earlier held words l m e f a b h j)
  | inr (inl h) ↦ (h.1, at_one held words l m e f a b h.0 h.1 j k)
  | inr (inr h) ↦ absurd (earlier held words m l f e b a h k)
]

pub refused_or_not : RefusedOrNot
refused_or_not held words files are pass l e a named =
    passed_over held words l e a files are.ordered pass ((are.are l a.bytes).1 (from_round held words a.rounds l a.round.reached, stands held l a.bytes e named a.there)) (λ g h.
    let it = (a.before.are g.0 g.1).0 (from_in a.front g h) in
    to_in files g ((are.are g.0 g.1).1 (from_round held words it.0 g.0 it.1.reached, it.3))) named
