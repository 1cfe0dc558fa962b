-- A tree that is read spells its leaves; reading is computed; there is one reading.
use Rattle.std.proofs.Common.{◌≡◌, ℕ, zero, suc, ◌+◌, ◌*◌, ◌<◌, ◌≤◌, Bool, true, false, ◌&&◌, List, [], ◌∷◌, ◌++◌, length, Option, Some, None, refl, ap, sym, ◌∙◌, subst, arith, append_assoc, length-append}
use Rattle.std.specs.Prelude.{nat_le, nat_lt}
use Rattle.std.proofs.Math.Nat.{mul-le-mul_right}
use borrow.Author.Tests.{ltb-true, leb-true}
use Rattle.star_syntax.specs.declared.leaf.ValuedToken.{ValuedToken}
use Rattle.star_syntax.specs.Sorts.{Sort, both, Val}
use Rattle.star_syntax.specs.Sorts as sorts
use Rattle.star_syntax.specs.Grammar.{Rule, sort, Part, terminal, empty, seq, alt, fold, act, when, placed, nonterminal, Answer, Spells, terminal', empty', seq', left', right', start', round', act', when', placed', nonterminal', Reads, hit, miss, over, free, seq-some, seq-first, seq-second, alt-first, alt-second, fold-none, fold-some, act-none, act-some, when-none, when-broken, when-some, placed-none, placed-some, itself, Rounds, stop, more, step, run, rounds, Readers, first, before_rest, located, and_then, or_else}
use Rattle.star_syntax.proofs.Soundness.{cost, rank_after, safe, Sound}

le_true : (a b : ℕ) → nat_le a b ≡ true → a ≤ b
le_true a b e = leb-true a b e

lt_true : (a b : ℕ) → nat_lt a b ≡ true → a < b
lt_true a b e = ltb-true a b e

abbrev head_or : ValuedToken → List ValuedToken → ValuedToken
head_or t [] = t
head_or t (x ∷ xs) = x

abbrev tail_of : List ValuedToken → List ValuedToken
tail_of [] = []
tail_of (x ∷ xs) = xs

module _ (rule : (r : Rule) → Part (sort r)) where
  -- the tokens up to the rest are spelled by the tree
  abbrev pub Spelled : {s : Sort} → Part s → List ValuedToken → Answer (Val s) → Type 0
  Spelled g ts None = Unit {0}
  Spelled g ts (Some p) = (xs : List ValuedToken) × (ts ≡ xs ++ p.1) × Spells rule _ g p.0 xs

  weaken-right : {s : Sort} (g h : Part s) (ts : List ValuedToken) (r : Answer (Val s)) → Spelled h ts r → Spelled (alt g h) ts r
  weaken-right g h ts None k = tt
  weaken-right g h ts (Some p) k = (k.0, k.1, right' k.2)

  weaken-the : (r : Rule) (ts : List ValuedToken) (a : Answer (Val (sort r))) → Spelled (rule r) ts a → Spelled (nonterminal r) ts a
  weaken-the r ts None k = tt
  weaken-the r ts (Some p) k = (k.0, k.1, nonterminal' k.2)

  weaken-placed : {s : Sort} (g : Part s) (x : Val s) (t : ValuedToken) (xs us ys : List ValuedToken) → t ∷ (xs ++ us) ≡ ys ++ us → Spells rule _ g x ys → Spelled (placed g) (t ∷ (xs ++ us)) (Some ((t.position, x), us))
  weaken-placed g x t xs us [] e s =
      let l : length (t ∷ (xs ++ us)) ≡ length us = ap length e in
      absurd (omega (arith, length-append xs us))
  weaken-placed g x t xs us (y ∷ ys) e s =
      let same : y ≡ t = ap (head_or t) (sym e) in
      let P : ValuedToken → Type 0 = λ z. Spelled (placed g) (t ∷ (xs ++ us)) (Some ((z.position, x), us)) in
      subst P same (y ∷ ys, e, placed' s)

  mutual
    pub spelled : {s : Sort} {g : Part s} {ts : List ValuedToken} {r : Answer (Val s)} → Reads rule s g ts r → Spelled g ts r
    spelled (hit {t = t} e) = (t ∷ [], refl, terminal' e)
    spelled (miss e) = tt
    spelled over = tt
    spelled free = ([], refl, empty')
    spelled (seq-some {vs = vs} d e) =
        let k = spelled d in
        let l = spelled e in
        (k.0 ++ l.0, k.1 ∙ ap (λ z. k.0 ++ z) l.1 ∙ sym (append_assoc k.0 l.0 vs), seq' k.2 l.2)
    spelled (seq-first d) = tt
    spelled (seq-second d e) = tt
    spelled (alt-first d) = let k = spelled d in (k.0, k.1, left' k.2)
    spelled (alt-second {g = g} {h = h} {ts = ts} {r = r} d e) = weaken-right g h ts r (spelled e)
    spelled (fold-none d) = tt
    spelled (fold-some {ts = ts} d e) = let k = spelled d in spelled-rounds e ts k.0 k.1 (start' k.2)
    spelled (act-none d) = tt
    spelled (act-some d) = let k = spelled d in (k.0, k.1, act' k.2)
    spelled (when-none d) = tt
    spelled (when-broken e d) = tt
    spelled (when-some e d) = let k = spelled d in (k.0, k.1, when' e k.2)
    spelled (placed-none d) = tt
    spelled (placed-some {g = g} {x = x} {t = t} xs {us = us} d) = let k = spelled d in weaken-placed g x t xs us k.0 k.1 k.2
    spelled (itself {r = r} {ts = ts} {a = a} d) = weaken-the r ts a (spelled d)

    spelled-rounds : {a b : Sort} {f : Val a → Val b → Val a} {h : Part b} {x : Val a} {us : List ValuedToken} {p : Val a × List ValuedToken} → Rounds rule a b f h x us p
        → {g : Part a} (ts xs : List ValuedToken) → ts ≡ xs ++ us → Spells rule a (fold f g h) x xs → Spelled (fold f g h) ts (Some p)
    spelled-rounds (stop d) ts xs e s = (xs, e, s)
    spelled-rounds (more {us = us} d r) ts xs e s =
        let k = spelled d in
        spelled-rounds r ts (xs ++ k.0) (e ∙ ap (λ z. xs ++ z) k.1 ∙ sym (append_assoc xs k.0 us)) (round' s k.2)

  abbrev pub Within : {s : Sort} → Part s → List ValuedToken → Answer (Val s) → Type 0
  Within g ts None = Unit {0}
  Within g ts (Some p) = length p.1 + cost g ≤ length ts

  within-alt : {s : Sort} (g h : Part s) (ts : List ValuedToken) (r : Answer (Val s)) → Within h ts r → Within (alt g h) ts r
  within-alt g h ts None k = tt
  within-alt g h ts (Some p) k = omega arith

  within-the : (r : Rule) (ts : List ValuedToken) (a : Answer (Val (sort r))) → 1 ≤ cost (rule r) → Within (rule r) ts a → Within (nonterminal r) ts a
  within-the r ts None c k = tt
  within-the r ts (Some p) c k = omega arith

  module _ (rank : Rule → ℕ) (ranks : ℕ) (sound : Sound rule rank ranks) where
    mutual
      pub shorter : {s : Sort} {g : Part s} {ts : List ValuedToken} {r : Answer (Val s)} → Reads rule s g ts r → Within g ts r
      shorter (hit e) = omega arith
      shorter (miss e) = tt
      shorter over = tt
      shorter free = omega arith
      shorter (seq-some d e) = let k = shorter d in let l = shorter e in omega arith
      shorter (seq-first d) = tt
      shorter (seq-second d e) = tt
      shorter (alt-first d) = let k = shorter d in omega arith
      shorter (alt-second {g = g} {h = h} {ts = ts} {r = r} d e) = within-alt g h ts r (shorter e)
      shorter (fold-none d) = tt
      shorter (fold-some d e) = let k = shorter d in let l = shorter-rounds e in omega arith
      shorter (act-none d) = tt
      shorter (act-some d) = shorter d
      shorter (when-none d) = tt
      shorter (when-broken e d) = tt
      shorter (when-some e d) = shorter d
      shorter (placed-none d) = tt
      shorter (placed-some xs d) = shorter d
      shorter (itself {r = r} {ts = ts} {a = a} d) = within-the r ts a (sound.costs r) (shorter d)

      shorter-rounds : {a b : Sort} {f : Val a → Val b → Val a} {h : Part b} {x : Val a} {us : List ValuedToken} {p : Val a × List ValuedToken} → Rounds rule a b f h x us p → length p.1 ≤ length us
      shorter-rounds (stop d) = omega arith
      shorter-rounds (more d r) = let k = shorter d in let l = shorter-rounds r in omega arith

    bound : (lu lt c m n : ℕ) → lu + c ≤ lt → lt * ranks + m ≤ n → lu * ranks + rank_after ranks c m ≤ n
    bound lu lt zero m n h b = let e = mul-le-mul_right {m = lu} {n = lt} ranks (omega arith) in omega arith
    bound lu lt (suc c) m n h b = let e = mul-le-mul_right {m = suc lu} {n = lt} ranks (omega arith) in omega arith

    -- ---- the computed tree is a reading

    reads-one : {a : Sort} (p : ValuedToken → Option (Val a)) (ts : List ValuedToken) → Reads rule a (terminal p) ts (first p ts)
    reads-one p [] = over
    reads-one {a = a} p (t ∷ ts) = go (p t) refl
      where
        go : (r : Option (Val a)) → p t ≡ r → Reads rule a (terminal p) (t ∷ ts) (before_rest r ts)
        go None e = miss e
        go (Some x) e = hit e

    seq-last : {a b : Sort} (g : Part a) (h : Part b) (ts : List ValuedToken) (p : Val a × List ValuedToken) (o : Answer (Val b)) → Reads rule a g ts (Some p) → Reads rule b h p.1 o
        → Reads rule (both a b) (seq g h) ts (and_then o (λ y vs. Some ((p.0, y), vs)))
    seq-last g h ts p None d e = seq-second d e
    seq-last g h ts p (Some w) d e = seq-some d e

    seq-step : {a b : Sort} (g : Part a) (h : Part b) (ts : List ValuedToken) (q : List ValuedToken → Answer (Val b)) (r : Answer (Val a)) → Reads rule a g ts r
        → ((us : List ValuedToken) → length us + cost g ≤ length ts → Reads rule b h us (q us))
        → Reads rule (both a b) (seq g h) ts (and_then r (λ x us. and_then (q us) (λ y vs. Some ((x, y), vs))))
    seq-step g h ts q None d f = seq-first d
    seq-step g h ts q (Some p) d f = seq-last g h ts p (q p.1) d (f p.1 (shorter d))

    alt-step : {a : Sort} (g h : Part a) (ts : List ValuedToken) (r q : Answer (Val a)) → Reads rule a g ts r → Reads rule a h ts q → Reads rule a (alt g h) ts (or_else r q)
    alt-step g h ts None q d e = alt-second d e
    alt-step g h ts (Some p) q d e = alt-first d

    act-step : {a b : Sort} (f : Val a → Val b) (g : Part a) (ts : List ValuedToken) (r : Answer (Val a)) → Reads rule a g ts r → Reads rule b (act f g) ts (and_then r (λ x us. Some (f x, us)))
    act-step f g ts None d = act-none d
    act-step f g ts (Some p) d = act-some d

    when-last : {a b : Sort} (f : Val a → Option (Val b)) (g : Part a) (ts : List ValuedToken) (p : Val a × List ValuedToken) (o : Option (Val b)) → f p.0 ≡ o → Reads rule a g ts (Some p) → Reads rule b (when f g) ts (before_rest o p.1)
    when-last f g ts p None e d = when-broken e d
    when-last f g ts p (Some y) e d = when-some e d

    when-step : {a b : Sort} (f : Val a → Option (Val b)) (g : Part a) (ts : List ValuedToken) (r : Answer (Val a)) → Reads rule a g ts r → Reads rule b (when f g) ts (and_then r (λ x us. before_rest (f x) us))
    when-step f g ts None d = when-none d
    when-step f g ts (Some p) d = when-last f g ts p (f p.0) refl d

    placed-last : {a : Sort} (g : Part a) (t : ValuedToken) (ts : List ValuedToken) (p : Val a × List ValuedToken) (xs : List ValuedToken) → ts ≡ xs ++ p.1 → Reads rule a g (t ∷ ts) (Some p) → Reads rule (both sorts.position a) (placed g) (t ∷ ts) (Some ((t.position, p.0), p.1))
    placed-last {a = a} g t ts p xs e d =
        let P : List ValuedToken → Type 0 = λ z. Reads rule a g (t ∷ z) (Some p) in
        let Q : List ValuedToken → Type 0 = λ z. Reads rule (both sorts.position a) (placed g) (t ∷ z) (Some ((t.position, p.0), p.1)) in
        subst Q (sym e) (placed-some xs (subst P e d))

    placed-front : {a : Sort} (g : Part a) (t : ValuedToken) (ts : List ValuedToken) (p : Val a × List ValuedToken) (ys : List ValuedToken) → t ∷ ts ≡ ys ++ p.1 → length p.1 < length (t ∷ ts) → Reads rule a g (t ∷ ts) (Some p) → Reads rule (both sorts.position a) (placed g) (t ∷ ts) (Some ((t.position, p.0), p.1))
    placed-front g t ts p [] e l d = let same : length (t ∷ ts) ≡ length p.1 = ap length e in absurd (omega arith)
    placed-front g t ts p (y ∷ ys) e l d = placed-last g t ts p ys (ap tail_of e) d

    placed-step : {a : Sort} (g : Part a) (ts : List ValuedToken) (r : Answer (Val a)) → Reads rule a g ts r → 1 ≤ cost g → Reads rule (both sorts.position a) (placed g) ts (located ts r)
    placed-step g [] None d c = placed-none d
    placed-step g [] (Some p) d c = let k = shorter d in absurd (omega arith)
    placed-step g (t ∷ ts) None d c = placed-none d
    placed-step g (t ∷ ts) (Some p) d c = let k = shorter d in let w = spelled d in placed-front g t ts p w.0 w.1 (omega arith) d

    abbrev RoundsOf : (a : Sort) {b : Sort} → (Val a → Val b → Val a) → Part b → Val a → List ValuedToken → Answer (Val a) → Type 0
    RoundsOf a f h x us None = ⊥
    RoundsOf a f h x us (Some p) = Rounds rule _ _ f h x us p

    further : (a : Sort) {b : Sort} (f : Val a → Val b → Val a) (h : Part b) (x : Val a) (y : Val b) (us vs : List ValuedToken) (o : Answer (Val a)) → Reads rule b h us (Some (y, vs)) → RoundsOf a f h (f x y) vs o → RoundsOf a f h x us o
    further a f h x y us vs None d r = r
    further a f h x y us vs (Some p) d r = more d r

    module _ (a b : Sort) (f : Val a → Val b → Val a) (h : Part b) (q : List ValuedToken → Answer (Val b)) (top : ℕ)
        (each : (us : List ValuedToken) → length us ≤ top → Reads rule b h us (q us)) (some : 1 ≤ cost h) where
      rounds-step : (n : ℕ) (x : Val a) (us : List ValuedToken) → length us ≤ n → length us ≤ top → RoundsOf a f h x us (rounds f q n x us)
      unfolding rounds
      rounds-step zero x us l t = go (q us) (each us t)
        where
          go : (o : Answer (Val b)) → Reads rule b h us o → Rounds rule a b f h x us (x, us)
          go None d = stop d
          go (Some p) d = let k = shorter d in absurd (omega arith)
      rounds-step (suc n) x us l t = go (q us) (each us t) (λ y vs k. rounds-step n (f x y) vs (omega arith) (omega arith))
        where
          go : (o : Answer (Val b)) → Reads rule b h us o → ((y : Val b) (vs : List ValuedToken) → length vs + 1 ≤ length us → RoundsOf a f h (f x y) vs (rounds f q n (f x y) vs))
              → RoundsOf a f h x us (elim o [ None ↦ Some (x, us) | Some p ↦ rounds f q n (f x p.0) p.1 ])
          go None d next = stop d
          go (Some p) d next = let k = shorter d in further a f h x p.0 us p.1 (rounds f q n (f x p.0) p.1) d (next p.0 p.1 (omega arith))

    fold-last : {a b : Sort} (f : Val a → Val b → Val a) (g : Part a) (h : Part b) (ts : List ValuedToken) (p : Val a × List ValuedToken) (o : Answer (Val a)) → Reads rule a g ts (Some p) → RoundsOf a f h p.0 p.1 o → Reads rule a (fold f g h) ts o
    fold-last f g h ts p None d r = absurd r
    fold-last f g h ts p (Some w) d r = fold-some d r

    fold-step : {a b : Sort} (f : Val a → Val b → Val a) (g : Part a) (h : Part b) (ts : List ValuedToken) (q : List ValuedToken → Answer (Val b)) (r : Answer (Val a)) → Reads rule a g ts r → 1 ≤ cost h
        → ((us : List ValuedToken) → length us + cost g ≤ length ts → Reads rule b h us (q us))
        → Reads rule a (fold f g h) ts (and_then r (λ x us. rounds f q (length us) x us))
    fold-step f g h ts q None d c e = fold-none d
    fold-step f g h ts q (Some p) d c e = let k = shorter d in
        fold-last f g h ts p (rounds f q (length p.1) p.0 p.1) d
        (rounds-step _ _ f h q (length p.1) (λ us l. e us (omega arith)) c (length p.1) p.0 p.1 (omega arith) (omega arith))

    and_split : (a b : Bool) → (a && b) ≡ true → (a ≡ true) × (b ≡ true)
    and_split true b e = (refl, e)
    and_split false b e = (cc, cc)

    abbrev pub Good : Readers → ℕ → Type 0
    Good k n = (r : Rule) (us : List ValuedToken) → length us * ranks + rank r < n → Reads rule _ (nonterminal r) us (k r us)

    pub step-reads : (k : Readers) (n : ℕ) → Good k n → {s : Sort} (g : Part s) (m : ℕ) (ts : List ValuedToken) → safe rank ranks m g ≡ true → length ts * ranks + m ≤ n → Reads rule s g ts (step k g ts)
    step-reads k n good (terminal p) m ts s b = reads-one p ts
    step-reads k n good empty m ts s b = free
    step-reads k n good (seq g h) m ts s b =
        let t = and_split (safe rank ranks m g) (safe rank ranks (rank_after ranks (cost g) m) h) s in
        seq-step g h ts (step k h) (step k g ts) (step-reads k n good g m ts t.0 b)
        (λ us l. step-reads k n good h (rank_after ranks (cost g) m) us t.1 (bound (length us) (length ts) (cost g) m n l b))
    step-reads k n good (alt g h) m ts s b =
        let t = and_split (safe rank ranks m g) (safe rank ranks m h) s in
        alt-step g h ts (step k g ts) (step k h ts) (step-reads k n good g m ts t.0 b) (step-reads k n good h m ts t.1 b)
    step-reads k n good (fold f g h) m ts s b =
        let t = and_split (safe rank ranks m g) (safe rank ranks (rank_after ranks (cost g) m) h && nat_le 1 (cost h)) s in
        let u = and_split (safe rank ranks (rank_after ranks (cost g) m) h) (nat_le 1 (cost h)) t.1 in
        let some : 1 ≤ cost h = le_true 1 (cost h) u.1 in
        fold-step f g h ts (step k h) (step k g ts) (step-reads k n good g m ts t.0 b) some
        (λ us l. step-reads k n good h (rank_after ranks (cost g) m) us u.0 (bound (length us) (length ts) (cost g) m n l b))
    step-reads k n good (act f g) m ts s b = act-step f g ts (step k g ts) (step-reads k n good g m ts s b)
    step-reads k n good (when f g) m ts s b = when-step f g ts (step k g ts) (step-reads k n good g m ts s b)
    step-reads k n good (placed g) m ts s b =
        let t = and_split (safe rank ranks m g) (nat_le 1 (cost g)) s in
        placed-step g ts (step k g ts) (step-reads k n good g m ts t.0 b) (le_true 1 (cost g) t.1)
    step-reads k n good (nonterminal r) m ts s b = let l : rank r < m = lt_true (rank r) m s in good r ts (omega arith)

    pub computed : (d : ℕ) → Good (run rule d) d
    unfolding run
    computed zero r us b = absurd (omega arith)
    computed (suc d) r us b = itself (step-reads (run rule d) d (computed d) (rule r) (rank r) us (sound.safe' r) (omega arith))

    -- ---- and the only one

    abbrev pub Only : Readers → ℕ → Type 0
    Only k n = (r : Rule) (us : List ValuedToken) (a : Answer (Val (sort r))) → length us * ranks + rank r < n → Reads rule _ (nonterminal r) us a → a ≡ k r us

    rounds-none : {A B : Type 0} (f : A → B → A) (q : List ValuedToken → Answer B) (n : ℕ) (x : A) (us : List ValuedToken) → None ≡ q us → Some (x, us) ≡ rounds f q n x us
    unfolding rounds
    rounds-none f q zero x us e = refl
    rounds-none f q (suc n) x us e = rw (← e, rounds) refl

    rounds-some : {A B : Type 0} (f : A → B → A) (q : List ValuedToken → Answer B) (n : ℕ) (x : A) (us : List ValuedToken) (p : B × List ValuedToken) → Some p ≡ q us → rounds f q n (f x p.0) p.1 ≡ rounds f q (suc n) x us
    unfolding rounds
    rounds-some f q n x us p e = rw (← e, rounds) refl

    located-none : {A : Type 0} (ts : List ValuedToken) → None ≡ located {A = A} ts None
    located-none [] = refl
    located-none (t ∷ ts) = refl

    -- two parts, if the first one reads
    both-agree : {a b : Sort} {x : Val a} {us : List ValuedToken} {r : Answer (Val b)} (k : Readers) (g : Part a) (h : Part b) (ts : List ValuedToken) → Some (x, us) ≡ step k g ts → r ≡ step k h us → and_then r (λ y vs. Some ((x, y), vs)) ≡ step k (seq g h) ts
    both-agree k g h ts i j = rw (← i) (rw (← j) refl)

    module _ (k : Readers) (n : ℕ) (only : Only k n) where
      mutual
        pub agrees : {s : Sort} {g : Part s} {ts : List ValuedToken} {r : Answer (Val s)} → Reads rule s g ts r → (m : ℕ) → safe rank ranks m g ≡ true → length ts * ranks + m ≤ n → r ≡ step k g ts
        agrees (hit e) m s b = rw e refl
        agrees (miss e) m s b = rw e refl
        agrees over m s b = refl
        agrees free m s b = refl
        agrees (seq-some {g = g} {h = h} {ts = ts} {us = us} d e) m s b =
            let t = and_split (safe rank ranks m g) (safe rank ranks (rank_after ranks (cost g) m) h) s in
            both-agree k g h ts (agrees d m t.0 b) (agrees e (rank_after ranks (cost g) m) t.1 (bound (length us) (length ts) (cost g) m n (shorter d) b))
        agrees (seq-first {g = g} {h = h} d) m s b =
            let t = and_split (safe rank ranks m g) (safe rank ranks (rank_after ranks (cost g) m) h) s in
            rw (← agrees d m t.0 b) refl
        agrees (seq-second {g = g} {h = h} {ts = ts} {us = us} d e) m s b =
            let t = and_split (safe rank ranks m g) (safe rank ranks (rank_after ranks (cost g) m) h) s in
            both-agree k g h ts (agrees d m t.0 b) (agrees e (rank_after ranks (cost g) m) t.1 (bound (length us) (length ts) (cost g) m n (shorter d) b))
        agrees (alt-first {g = g} {h = h} d) m s b =
            let t = and_split (safe rank ranks m g) (safe rank ranks m h) s in
            rw (← agrees d m t.0 b) refl
        agrees (alt-second {g = g} {h = h} d e) m s b =
            let t = and_split (safe rank ranks m g) (safe rank ranks m h) s in
            let i = agrees d m t.0 b in
            rw (← i) (agrees e m t.1 b)
        agrees (fold-none {g = g} {h = h} d) m s b =
            let t = and_split (safe rank ranks m g) (safe rank ranks (rank_after ranks (cost g) m) h && nat_le 1 (cost h)) s in
            rw (← agrees d m t.0 b) refl
        agrees (fold-some {g = g} {h = h} {ts = ts} {us = us} d e) m s b =
            let t = and_split (safe rank ranks m g) (safe rank ranks (rank_after ranks (cost g) m) h && nat_le 1 (cost h)) s in
            let u = and_split (safe rank ranks (rank_after ranks (cost g) m) h) (nat_le 1 (cost h)) t.1 in
            let i = agrees d m t.0 b in
            rw (← i) (agrees-rounds e (rank_after ranks (cost g) m) u.0 (bound (length us) (length ts) (cost g) m n (shorter d) b) (le_true 1 (cost h) u.1) (length us) (omega arith))
        agrees (act-none d) m s b = rw (← agrees d m s b) refl
        agrees (act-some d) m s b = rw (← agrees d m s b) refl
        agrees (when-none d) m s b = rw (← agrees d m s b) refl
        agrees (when-broken e d) m s b = rw (← agrees d m s b) (rw e refl)
        agrees (when-some e d) m s b = rw (← agrees d m s b) (rw e refl)
        agrees (placed-none {g = g} {ts = ts} d) m s b =
            let t = and_split (safe rank ranks m g) (nat_le 1 (cost g)) s in
            located-none ts ∙ ap (located ts) (agrees d m t.0 b)
        agrees (placed-some {g = g} {t = t} xs {us = us} d) m s b =
            let u = and_split (safe rank ranks m g) (nat_le 1 (cost g)) s in
            ap (located (t ∷ (xs ++ us))) (agrees d m u.0 b)
        agrees (itself {r = r} {ts = ts} {a = a} d) m s b = let l : rank r < m = lt_true (rank r) m s in only r ts a (omega arith) (itself d)

        agrees-rounds : {a b : Sort} {f : Val a → Val b → Val a} {h : Part b} {x : Val a} {us : List ValuedToken} {p : Val a × List ValuedToken} → Rounds rule a b f h x us p
            → (m : ℕ) → safe rank ranks m h ≡ true → length us * ranks + m ≤ n → 1 ≤ cost h → (fuel : ℕ) → length us ≤ fuel → Some p ≡ rounds f (step k h) fuel x us
        agrees-rounds (stop {f = f} {h = h} {x = x} {ts = ts} d) m s b c fuel l = rounds-none f (step k h) fuel x ts (agrees d m s b)
        agrees-rounds (more {ts = ts} d r) m s b c zero l = let w = shorter d in absurd (omega arith)
        agrees-rounds (more {f = f} {h = h} {x = x} {y = y} {ts = ts} {us = us} d r) m s b c (suc fuel) l =
            let w = shorter d in
            let v = mul-le-mul_right {m = length us} {n = length ts} ranks (omega arith) in
            agrees-rounds r m s (omega arith) c fuel (omega arith) ∙ rounds-some f (step k h) fuel x ts (y, us) (agrees d m s b)

    abbrev Inside : {s : Sort} → Part s → List ValuedToken → Answer (Val s) → Type 0
    Inside (nonterminal r) ts a = Reads rule _ (rule r) ts a
    Inside (terminal p) ts a = Unit {0}
    Inside empty ts a = Unit {0}
    Inside (seq g h) ts a = Unit {0}
    Inside (alt g h) ts a = Unit {0}
    Inside (fold f g h) ts a = Unit {0}
    Inside (act f g) ts a = Unit {0}
    Inside (when f g) ts a = Unit {0}
    Inside (placed g) ts a = Unit {0}

    opened : {s : Sort} {g : Part s} {ts : List ValuedToken} {a : Answer (Val s)} → Reads rule s g ts a → Inside g ts a
    opened (hit e) = tt
    opened (miss e) = tt
    opened over = tt
    opened free = tt
    opened (seq-some d e) = tt
    opened (seq-first d) = tt
    opened (seq-second d e) = tt
    opened (alt-first d) = tt
    opened (alt-second d e) = tt
    opened (fold-none d) = tt
    opened (fold-some d e) = tt
    opened (act-none d) = tt
    opened (act-some d) = tt
    opened (when-none d) = tt
    opened (when-broken e d) = tt
    opened (when-some e d) = tt
    opened (placed-none d) = tt
    opened (placed-some xs d) = tt
    opened (itself d) = d

    pub only_one : (d : ℕ) → Only (run rule d) d
    unfolding run
    only_one zero r us a b e = absurd (omega arith)
    only_one (suc d) r us a b e = agrees (run rule d) d (only_one d) (opened e) (rank r) (sound.safe' r) (omega arith)
