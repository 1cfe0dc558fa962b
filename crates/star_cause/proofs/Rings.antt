-- The ends of the ways of the files on a way.
use Rattle.std.proofs.Common.{arith, ◌≡◌, ◌<◌, ◌≤◌, ◌+◌, ◌-◌, ◌⊎◌, inl, inr, ℕ, Bool, true, false, List, [], ◌∷◌, ◌++◌, length, take, drop, get_or, if◌then◌else◌, nat_lt, Some, None, refl, ap, sym, subst, ◌∙◌, append_assoc, take-append-drop, length-append, length-drop, length-take-le, get_or-take, get_or-drop}
use Rattle.std.specs.Prelude.{All, Contains, slice_get}
use Rattle.std.proofs.lemmas.Bool.{cases_lt}
use Rattle.std.proofs.lemmas.Bool.Decides.{nat_tests}
use Rattle.std.proofs.lemmas.List.{drop_more, get_or_append_left, get_or_push, length_push}
use Rattle.std.proofs.lemmas.List.Elements.{All-contains, Contains-append_right}
use Rattle.star_outline.specs.Definitions.{AllDiffer}
use Rattle.star_plan.proofs.Follow.{first_or}
use Rattle.star_cause.specs.declared.ends.End.{End}
use Rattle.star_cause.specs.declared.ends.End.TheVariants.{Last, Around}
use Rattle.star_cause.specs.declared.ends.WalkEnd.TheVariants.{Met}
use Rattle.star_cause.specs.Ends.{AreEnds, Ends, HasEnd, IsFresh, IsKnown, end_on}
use Rattle.star_cause.specs.Ways.{Goes, Nexts, Way}
use Rattle.star_cause.proofs.Apart.{differ_back, differ_joined, differ_turned}
use Rattle.star_cause.proofs.Ways.{joined, onward, split, upto}

-- ---- a way that is back at one of its files

-- a file on a cycle, the first of its list
on_ring : (nexts : Nexts) (m : ℕ) (ring : List ℕ) (j : ℕ) → j < length ring → Way nexts m ring m → AllDiffer ring → HasEnd nexts (get_or ring j 0) (Around (get_or ring j 0) (length ring))
on_ring nexts m ring j less way differ =
    let x : ℕ = get_or ring j 0 in
    let front : List ℕ = take j ring in
    let back : List ℕ = drop (j + 1) ring in
    let whole : ring ≡ front ++ x ∷ back = split ring j less in
    let turn : Way nexts x ((x ∷ back) ++ front) x = joined nexts x m x (x ∷ back) front (onward nexts m m ring j less way) (upto nexts m m ring j less way) in
    let apart : AllDiffer ((x ∷ back) ++ front) = differ_turned front (x ∷ back) (subst AllDiffer whole differ) in
    let long : length ring ≡ length front + length (x ∷ back) = ap length whole ∙ length-append front (x ∷ back) in
    let also : length ((x ∷ back) ++ front) ≡ length (x ∷ back) + length front = length-append (x ∷ back) front in
    let size : length ((x ∷ back) ++ front) ≡ length ring = omega (arith, long, also) in
    (back ++ front, size, ([], refl, turn, apart))

-- a file before the place of the return
before_ring : (nexts : Nexts) (n m : ℕ) (files : List ℕ) (p i : ℕ) → i < p → p < length files → get_or files p 0 ≡ m → Way nexts n files m → AllDiffer files
    → HasEnd nexts (get_or files i 0) (Around (get_or files p 0) (length files - p))
before_ring nexts n m files p i low less back way differ =
    let f : ℕ = get_or files p 0 in
    let front : List ℕ = take p files in
    let post : List ℕ = drop (p + 1) files in
    let x : ℕ = get_or front i 0 in
    let rest : List ℕ = drop (i + 1) front in
    let long : length front ≡ p = length-take-le p files (omega (arith, less)) in
    let inside : i < length front = omega (arith, low, long) in
    let whole : files ≡ front ++ f ∷ post = split files p less in
    let ring : Way nexts f (f ∷ post) f = subst (λ z. Way nexts f (f ∷ post) z) (sym back) (onward nexts n m files p less way) in
    let lead : Way nexts x (x ∷ rest) f = onward nexts n f front i inside (upto nexts n m files p less way) in
    let parts : files ≡ take i front ++ ((x ∷ rest) ++ f ∷ post) = whole ∙ (ap (λ z. z ++ f ∷ post) (split front i inside) ∙ append_assoc (take i front) (x ∷ rest) (f ∷ post)) in
    let apart : AllDiffer ((x ∷ rest) ++ f ∷ post) = differ_back (take i front) ((x ∷ rest) ++ f ∷ post) (subst AllDiffer parts differ) in
    let total : length files ≡ length front + length (f ∷ post) = ap length whole ∙ length-append front (f ∷ post) in
    let size : length (f ∷ post) ≡ length files - p = omega (arith, total, long) in
    let at : x ≡ get_or files i 0 = get_or-take p files i 0 low in
    subst (λ z. HasEnd nexts z (Around f (length files - p))) at (post, size, (x ∷ rest, lead, ring, apart))

-- a file from that place on
after_ring : (nexts : Nexts) (n m : ℕ) (files : List ℕ) (p i : ℕ) → p ≤ i → i < length files → get_or files p 0 ≡ m → Way nexts n files m → AllDiffer files
    → HasEnd nexts (get_or files i 0) (Around (get_or files i 0) (length files - p))
after_ring nexts n m files p i high inside back way differ =
    let less : p < length files = omega (arith, high, inside) in
    let f : ℕ = get_or files p 0 in
    let ring : List ℕ = drop p files in
    let long : length ring ≡ length files - p = length-drop p files in
    let whole : ring ≡ f ∷ drop (p + 1) files = drop_more files p 0 less in
    let round : Way nexts f (f ∷ drop (p + 1) files) f = subst (λ z. Way nexts f (f ∷ drop (p + 1) files) z) (sym back) (onward nexts n m files p less way) in
    let turn : Way nexts f ring f = subst (λ z. Way nexts f z f) (sym whole) round in
    let apart : AllDiffer ring = differ_back (take p files) ring (subst AllDiffer (sym (take-append-drop p files)) differ) in
    let j : ℕ = i - p in
    let within : j < length ring = omega (arith, long, high, inside) in
    let place : p + j ≡ i = omega (arith, high) in
    let at : get_or ring j 0 ≡ get_or files i 0 = get_or-drop p files j 0 ∙ ap (λ k. get_or files k 0) place in
    let own : HasEnd nexts (get_or ring j 0) (Around (get_or ring j 0) (length ring)) = on_ring nexts f ring j within turn apart in
    let moved : HasEnd nexts (get_or files i 0) (Around (get_or files i 0) (length ring)) = subst (λ z. HasEnd nexts z (Around z (length ring))) at own in
    subst (λ c. HasEnd nexts (get_or files i 0) (Around (get_or files i 0) c)) long moved

pub met_ends : (nexts : Nexts) (n m : ℕ) (files : List ℕ) (p : ℕ) → p < length files → get_or files p 0 ≡ m → Way nexts n files m → AllDiffer files → (i : ℕ) → i < length files → HasEnd nexts (get_or files i 0) (end_on files (Met p) i)
met_ends nexts n m files p less back way differ i inside = by_test (nat_lt i p) refl
  where
    by_test : (b : Bool) → nat_lt i p ≡ b → HasEnd nexts (get_or files i 0) (if b then Around (get_or files p 0) (length files - p) else Around (get_or files i 0) (length files - p))
    by_test true e = let low : i < p = grind (arith, nat_tests) in before_ring nexts n m files p i low less back way differ
    by_test false e = let high : p ≤ i = grind (arith, nat_tests) in after_ring nexts n m files p i high inside back way differ

-- ---- a way that comes to a file without a next one

pub last_ends : (nexts : Nexts) (n m : ℕ) (files : List ℕ) → Way nexts n files m → ((k : ℕ) → Goes nexts m k → ⊥) → (i : ℕ) → i < length (files ++ m ∷ []) → HasEnd nexts (get_or (files ++ m ∷ []) i 0) (Last m)
last_ends nexts n m files way none i inside = turn (cases_lt i (length files))
  where
    long : length (files ++ m ∷ []) ≡ length files + 1
    long = length_push files m

    turn : ((i < length files) ⊎ (length files ≤ i)) → HasEnd nexts (get_or (files ++ m ∷ []) i 0) (Last m)
    turn (inl less) =
        let at : get_or (files ++ m ∷ []) i 0 ≡ get_or files i 0 = get_or_append_left files (m ∷ []) 0 i less in
        subst (λ z. HasEnd nexts z (Last m)) (sym at) (get_or files i 0 ∷ drop (i + 1) files, onward nexts n m files i less way, none)
    turn (inr more) =
        let end : length files ≡ i = omega (arith, more, inside, long) in
        let at : get_or (files ++ m ∷ []) i 0 ≡ m = get_or_push files m 0 i end in
        subst (λ z. HasEnd nexts z (Last m)) (sym at) ([], refl, none)

-- ---- a way that comes to a file whose end is known

-- with a file all files on a way from it are known
known_along : (nexts : Nexts) (ends : Ends) → AreEnds nexts ends → (n m : ℕ) (xs : List ℕ) → Way nexts n xs m → IsKnown ends n → (y : ℕ) → Contains xs y → IsKnown ends y
known_along nexts ends are n m [] way known y h = absurd (let no : ⊥ = omega (arith, h.1) in no)
known_along nexts ends are n m (x ∷ xs) way known y h = turn (λ i. known_along nexts ends are way.1.0 m xs way.1.2 (are.closed n way.1.0 known way.1.1) y i) (first_or x y xs h)
  where
    turn : (Contains xs y → IsKnown ends y) → ((x ≡ y) ⊎ Contains xs y) → IsKnown ends y
    turn others (inl same) = subst (IsKnown ends) (way.0 ∙ same) known
    turn others (inr i) = others i

-- a way to a file ends as that file's does, if none of its files is known
extended : (nexts : Nexts) (ends : Ends) → AreEnds nexts ends → (x m : ℕ) (xs : List ℕ) → Way nexts x xs m → AllDiffer xs → ((z : ℕ) → Contains xs z → IsFresh ends z) → IsKnown ends m → (e : End) → HasEnd nexts m e → HasEnd nexts x e
extended nexts ends are x m xs way differ fresh known (Last z) (w, a, none) = (xs ++ w, joined nexts x m z xs w way a, none)
extended nexts ends are x m xs way differ fresh known (Around first count) (ms, size, (w, a, ring, apart)) = (ms, size, (xs ++ w, joined nexts x m first xs w way a, ring, whole))
  where
    known_too : (z : ℕ) → Contains (w ++ first ∷ ms) z → IsKnown ends z
    known_too = known_along nexts ends are m first (w ++ first ∷ ms) (joined nexts m first first w (first ∷ ms) a ring) known

    never : (z : ℕ) → Contains xs z → Contains (w ++ first ∷ ms) z → ⊥
    never z p q =
        let there : IsKnown ends z = known_too z q in
        let both : Some None ≡ Some (Some there.0) = sym (fresh z p) ∙ there.1 in
        let no : ⊥ = cc in
        no

    whole : AllDiffer ((xs ++ w) ++ first ∷ ms)
    whole = subst AllDiffer (sym (append_assoc xs w (first ∷ ms))) (differ_joined xs (w ++ first ∷ ms) differ apart never)

pub known_ends : (nexts : Nexts) (ends : Ends) → AreEnds nexts ends → (n m : ℕ) (files : List ℕ) (e : End) → slice_get ends m ≡ Some (Some e) → Way nexts n files m → AllDiffer files → All (IsFresh ends) files → (i : ℕ) → i < length files → HasEnd nexts (get_or files i 0) e
known_ends nexts ends are n m files e is way differ fresh i less =
    let x : ℕ = get_or files i 0 in
    let rest : List ℕ = x ∷ drop (i + 1) files in
    let whole : files ≡ take i files ++ rest = split files i less in
    extended nexts ends are x m rest (onward nexts n m files i less way) (differ_back (take i files) rest (subst AllDiffer whole differ))
    (λ z h. All-contains (IsFresh ends) files z fresh (subst (λ zs. Contains zs z) (sym whole) (Contains-append_right (take i files) rest z h)))
    (e, is) e (are.right m e is)
