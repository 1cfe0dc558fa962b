-- The matches of a pattern, by its first byte.
use Rattle.std.proofs.Common.{◌≡◌, ◌≢◌, ◌⊎◌, ◌-◌, ◌<◌, inl, inr, ℕ, List, [], ◌∷◌, ◌++◌, drop, length, refl, take, ap, sym, ◌∙◌, subst, arith}
use Rattle.std.specs.Prelude.{◌↔◌}
use Rattle.std.proofs.lemmas.List.{append_assoc, take_rest}
use Rattle.star_words.specs.Glob.{Matches, MatchesFrom, MatchesNoEnd}

none_left : (n : List ℕ) → length n ≡ 0 → n ≡ []
none_left [] e = refl
none_left (b ∷ n) e = absurd (omega (arith, e))

pub end_yes : (p n : List ℕ) → length p ≡ 0 → length n ≡ 0 → Matches p n
unfolding Matches
end_yes [] n e h = none_left n h
end_yes (x ∷ p) n e h = absurd (omega (arith, e))

pub end_no : (p n : List ℕ) → length p ≡ 0 → (length n ≡ 0 → ⊥) → Matches p n → ⊥
unfolding Matches
end_no [] n e h m = h (ap length m)
end_no (x ∷ p) n e h m = absurd (omega (arith, e))

from : (f : ℕ) (more n : List ℕ) → Matches (f ∷ more) n → MatchesFrom f (Matches more) n
unfolding Matches
from f more n m = m

to : (f : ℕ) (more n : List ℕ) → MatchesFrom f (Matches more) n → Matches (f ∷ more) n
unfolding Matches
to f more n m = m

-- ---- `*`

pub star_here : (p more n : List ℕ) (f : ℕ) → p ≡ f ∷ more → f ≡ 42 → Matches more n → Matches p n
star_here p more n f e is m = subst (λ q. Matches q n) (sym e) (to f more n (inl (is, [], n, refl, m)))

one_on : (f b : ℕ) (more rest : List ℕ) → f ≡ 42 → MatchesFrom f (Matches more) rest → MatchesFrom f (Matches more) (b ∷ rest)
one_on f b more rest is (inl (e, front, back, same, m)) = inl (e, b ∷ front, back, ap (λ r. b ∷ r) same, m)
one_on f b more rest is (inr c) = absurd (c.0 is)

pub star_on : (p more n rest : List ℕ) (f b : ℕ) → p ≡ f ∷ more → f ≡ 42 → n ≡ b ∷ rest → Matches p rest → Matches p n
star_on p more n rest f b e is same m =
    subst (λ q. Matches q n) (sym e) (subst (Matches (f ∷ more)) (sym same) (to f more (b ∷ rest) (one_on f b more rest is (from f more rest (subst (λ q. Matches q rest) e m)))))

tail_is : (b c : ℕ) (xs ys : List ℕ) → b ∷ xs ≡ c ∷ ys → xs ≡ ys
tail_is b c xs ys e = cc

off : (f b : ℕ) (more rest : List ℕ) → f ≡ 42 → (Matches more (b ∷ rest) → ⊥) → (Matches (f ∷ more) rest → ⊥) → MatchesFrom f (Matches more) (b ∷ rest) → ⊥
off f b more rest is here after (inl (e, [], back, same, m)) = here (subst (Matches more) (sym same) m)
off f b more rest is here after (inl (e, c ∷ front, back, same, m)) = after (to f more rest (inl (e, front, back, tail_is b c rest (front ++ back) same, m)))
off f b more rest is here after (inr c) = c.0 is

pub star_no : (p more n rest : List ℕ) (f b : ℕ) → p ≡ f ∷ more → f ≡ 42 → n ≡ b ∷ rest → (Matches more n → ⊥) → (Matches p rest → ⊥) → Matches p n → ⊥
star_no p more n rest f b e is same here after m =
    off f b more rest is (λ h. here (subst (Matches more) (sym same) h)) (λ h. after (subst (λ q. Matches q rest) (sym e) h)) (from f more (b ∷ rest) (subst (Matches (f ∷ more)) same (subst (λ q. Matches q n) e m)))

off_end : (f : ℕ) (more : List ℕ) → f ≡ 42 → (Matches more [] → ⊥) → MatchesFrom f (Matches more) [] → ⊥
off_end f more is here (inl (e, [], back, same, m)) = here (subst (Matches more) (sym same) m)
off_end f more is here (inl (e, c ∷ front, back, same, m)) = cc
off_end f more is here (inr c) = c.0 is

pub star_end : (p more n : List ℕ) (f : ℕ) → p ≡ f ∷ more → f ≡ 42 → length n ≡ 0 → (Matches more n → ⊥) → Matches p n → ⊥
star_end p more n f e is none here m =
    off_end f more is (λ h. here (subst (Matches more) (sym (none_left n none)) h)) (from f more [] (subst (Matches (f ∷ more)) (none_left n none) (subst (λ q. Matches q n) e m)))

-- ---- any other byte

pub one_yes : (p more n rest : List ℕ) (f b : ℕ) → p ≡ f ∷ more → f ≢ 42 → n ≡ b ∷ rest → (f ≡ 63) ⊎ (f ≡ b) → Matches more rest → Matches p n
one_yes p more n rest f b e ne same fits m = subst (λ q. Matches q n) (sym e) (to f more n (inr (ne, b, rest, same, fits, m)))

both_are : (b c : ℕ) (xs ys : List ℕ) → b ∷ xs ≡ c ∷ ys → (b ≡ c) × (xs ≡ ys)
both_are b c xs ys e = ((let h : b ≡ c = cc in h), (let t : xs ≡ ys = cc in t))

of_one : (f b : ℕ) (more rest : List ℕ) → f ≢ 42 → MatchesFrom f (Matches more) (b ∷ rest) → ((f ≡ 63) ⊎ (f ≡ b)) × Matches more rest
of_one f b more rest ne (inl c) = absurd (ne c.0)
of_one f b more rest ne (inr (nd, byte, back, same, fits, m)) =
    let k = both_are b byte rest back same in
    (elim fits [ inl q ↦ inl q | inr e ↦ inr (e ∙ sym k.0) ], subst (Matches more) (sym k.1) m)

seen : (p more n rest : List ℕ) (f b : ℕ) → p ≡ f ∷ more → f ≢ 42 → n ≡ b ∷ rest → Matches p n → ((f ≡ 63) ⊎ (f ≡ b)) × Matches more rest
seen p more n rest f b e ne same m = of_one f b more rest ne (from f more (b ∷ rest) (subst (Matches (f ∷ more)) same (subst (λ q. Matches q n) e m)))

pub one_no : (p more n rest : List ℕ) (f b : ℕ) → p ≡ f ∷ more → f ≢ 42 → n ≡ b ∷ rest → (Matches more rest → ⊥) → Matches p n → ⊥
one_no p more n rest f b e ne same none m = none (seen p more n rest f b e ne same m).1

pub one_differs : (p more n rest : List ℕ) (f b : ℕ) → p ≡ f ∷ more → f ≢ 42 → f ≢ 63 → f ≢ b → n ≡ b ∷ rest → Matches p n → ⊥
one_differs p more n rest f b e ne nq nb same m = elim (seen p more n rest f b e ne same m).0 [ inl q ↦ nq q | inr q ↦ nb q ]

no_one : (f : ℕ) (more : List ℕ) → f ≢ 42 → MatchesFrom f (Matches more) [] → ⊥
no_one f more ne (inl c) = ne c.0
no_one f more ne (inr (nd, byte, back, same, fits, m)) = cc

pub one_end : (p more n : List ℕ) (f : ℕ) → p ≡ f ∷ more → f ≢ 42 → length n ≡ 0 → Matches p n → ⊥
one_end p more n f e ne none m = no_one f more ne (from f more [] (subst (Matches (f ∷ more)) (none_left n none) (subst (λ q. Matches q n) e m)))

-- ---- ends of a name

none_end : (front rest : List ℕ) → [] ≡ front ++ rest → rest ≡ []
none_end [] rest e = sym e
none_end (c ∷ front) rest e = cc

-- a `*` takes what comes before an end
pub star_more : (more front rest : List ℕ) → Matches (42 ∷ more) rest → Matches (42 ∷ more) (front ++ rest)
star_more more front rest m = by (from 42 more rest m)
  where
    by : MatchesFrom 42 (Matches more) rest → Matches (42 ∷ more) (front ++ rest)
    by (inl (e, near, back, same, k)) = to 42 more (front ++ rest) (inl (refl, front ++ near, back, ap (λ r. front ++ r) same ∙ sym (append_assoc front near back), k))
    by (inr c) = absurd (c.0 refl)

two_to_one : (more n : List ℕ) → MatchesFrom 42 (Matches (42 ∷ more)) n → Matches (42 ∷ more) n
two_to_one more n (inl (e, near, back, same, k)) = subst (Matches (42 ∷ more)) (sym same) (star_more more near back k)
two_to_one more n (inr c) = absurd (c.0 refl)

-- two do what one does
pub two_as_one : (more n : List ℕ) → Matches (42 ∷ more) n ↔ Matches (42 ∷ 42 ∷ more) n
two_as_one more n = (
  (λ m. to 42 (42 ∷ more) n (inl (refl, [], n, refl, m))),
  (λ m. two_to_one more n (from 42 (42 ∷ more) n m)),
)

pub same_no_end : (p q n : List ℕ) → ((m : List ℕ) → Matches p m ↔ Matches q m) → MatchesNoEnd p n → MatchesNoEnd q n
same_no_end p q n same never front rest e m = never front rest e ((same rest).1 m)

pub star_never : (p more n : List ℕ) (f : ℕ) → p ≡ f ∷ more → f ≡ 42 → MatchesNoEnd more n → MatchesNoEnd p n
star_never p more n f e is never front rest same m = by (from f more rest (subst (λ q. Matches q rest) e m))
  where
    by : MatchesFrom f (Matches more) rest → ⊥
    by (inl (s, near, back, cut, k)) = never (front ++ near) back (same ∙ ap (λ r. front ++ r) cut ∙ sym (append_assoc front near back)) k
    by (inr c) = c.0 is

pub star_never_end : (p more n : List ℕ) (f : ℕ) → p ≡ f ∷ more → f ≡ 42 → length n ≡ 0 → (Matches more n → ⊥) → MatchesNoEnd p n
star_never_end p more n f e is none here front rest same m =
    let nothing : n ≡ [] = none_left n none in
    let end : rest ≡ [] = none_end front rest (sym nothing ∙ same) in
    star_end p more n f e is none here (subst (Matches p) (end ∙ sym nothing) m)

pub star_never_on : (p more n rest : List ℕ) (f b : ℕ) → p ≡ f ∷ more → f ≡ 42 → n ≡ b ∷ rest → (Matches more n → ⊥) → MatchesNoEnd p rest → MatchesNoEnd p n
star_never_on p more n rest f b e is same here never [] back cut m = star_no p more n rest f b e is same here (never [] rest refl) (subst (Matches p) (sym cut) m)
star_never_on p more n rest f b e is same here never (c ∷ front) back cut m = never front back (tail_is b c rest (front ++ back) (sym same ∙ cut)) m

pub one_never : (p more n rest : List ℕ) (f b : ℕ) → p ≡ f ∷ more → f ≢ 42 → n ≡ b ∷ rest → MatchesNoEnd more rest → MatchesNoEnd p n
one_never p more n rest f b e ne same never front back cut m = by front (sym same ∙ cut) (from f more back (subst (λ q. Matches q back) e m))
  where
    by : (front : List ℕ) → b ∷ rest ≡ front ++ back → MatchesFrom f (Matches more) back → ⊥
    by front cut (inl c) = ne c.0
    by [] cut (inr (nd, byte, left, is, fits, k)) = never [] left (tail_is b byte rest left (cut ∙ is)) k
    by (c ∷ front) cut (inr (nd, byte, left, is, fits, k)) =
        never (front ++ byte ∷ []) left (tail_is b c rest (front ++ back) cut ∙ ap (λ r. front ++ r) is ∙ sym (append_assoc front (byte ∷ []) left)) k

pub one_never_end : (p more n : List ℕ) (f : ℕ) → p ≡ f ∷ more → f ≢ 42 → length n ≡ 0 → MatchesNoEnd p n
one_never_end p more n f e ne none front rest same m =
    let nothing : n ≡ [] = none_left n none in
    let end : rest ≡ [] = none_end front rest (sym nothing ∙ same) in
    one_end p more n f e ne none (subst (Matches p) (end ∙ sym nothing) m)

-- ---- several `*` at the front

one_left : (xs more : List ℕ) → xs ≡ 42 ∷ 42 ∷ more → take (length xs - 1) (drop 1 xs) ≡ 42 ∷ more
one_left xs more is = take_rest xs 1 ∙ ap (drop 1) is

pub one_less : (xs more : List ℕ) → xs ≡ 42 ∷ 42 ∷ more → (n : List ℕ) → Matches (take (length xs - 1) (drop 1 xs)) n ↔ Matches xs n
one_less xs more is n =
    let left = one_left xs more is in
    let two = two_as_one more n in (
      (λ m. subst (λ ys. Matches ys n) (sym is) (two.0 (subst (λ ys. Matches ys n) left m))),
      (λ m. subst (λ ys. Matches ys n) (sym left) (two.1 (subst (λ ys. Matches ys n) is m))),
    )

pub one_shorter : (xs more : List ℕ) → xs ≡ 42 ∷ 42 ∷ more → length (take (length xs - 1) (drop 1 xs)) < length xs
one_shorter xs more is = let left = ap length (one_left xs more is) in let all = ap length is in omega (arith, left, all)

pub both_ways : (p q r n : List ℕ) → Matches p n ↔ Matches q n → Matches q n ↔ Matches r n → Matches p n ↔ Matches r n
both_ways p q r n f g = ((λ m. g.0 (f.0 m)), (λ m. f.1 (g.1 m)))
