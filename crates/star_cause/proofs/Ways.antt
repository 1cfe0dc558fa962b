-- Ways along next files: joined, cut, and their files.
use Rattle.std.proofs.Common.{arith, ◌≡◌, ◌<◌, ◌+◌, ◌⊎◌, inl, inr, ℕ, List, [], ◌∷◌, ◌++◌, length, take, drop, get_or, Some, refl, ap, sym, subst, ◌∙◌, take-append-drop}
use Rattle.std.specs.Prelude.{Contains, slice_get}
use Rattle.std.proofs.lemmas.List.{drop_more}
use Rattle.std.proofs.lemmas.Option.{slice_get-get_or, slice_get_within}
use Rattle.star_plan.proofs.Causes.{here, there}
use Rattle.star_plan.proofs.Follow.{first_or}
use Rattle.star_cause.specs.Ways.{Goes, HasWay, Nexts, Way}

pub one_next : (nexts : Nexts) (n a b : ℕ) → Goes nexts n a → Goes nexts n b → a ≡ b
one_next nexts n a b p q =
    let both : Some (Some a) ≡ Some (Some b) = sym p ∙ q in
    cc

-- two ways, one after the other
pub joined : (nexts : Nexts) (n m e : ℕ) (xs ys : List ℕ) → Way nexts n xs m → Way nexts m ys e → Way nexts n (xs ++ ys) e
joined nexts n m e [] ys a b = subst (λ z. Way nexts z ys e) (sym a) b
joined nexts n m e (x ∷ xs) ys a b = (a.0, (a.1.0, a.1.1, joined nexts a.1.0 m e xs ys a.1.2 b))

-- a way in two parts
pub cut : (nexts : Nexts) (n m : ℕ) (xs ys : List ℕ) → Way nexts n (xs ++ ys) m → (k : ℕ) × Way nexts n xs k × Way nexts k ys m
cut nexts n m [] ys a = (n, refl, a)
cut nexts n m (x ∷ xs) ys a =
    let rest = cut nexts a.1.0 m xs ys a.1.2 in
    (rest.0, (a.0, (a.1.0, a.1.1, rest.1)), rest.2)

-- the number at a place, between those before it and those after it
pub split : (xs : List ℕ) (i : ℕ) → i < length xs → xs ≡ take i xs ++ get_or xs i 0 ∷ drop (i + 1) xs
split xs i less = sym (take-append-drop i xs) ∙ ap (λ ys. take i xs ++ ys) (drop_more xs i 0 less)

parts : (nexts : Nexts) (n m : ℕ) (xs : List ℕ) (i : ℕ) → i < length xs → Way nexts n xs m → (k : ℕ) × Way nexts n (take i xs) k × Way nexts k (get_or xs i 0 ∷ drop (i + 1) xs) m
parts nexts n m xs i less way = cut nexts n m (take i xs) (get_or xs i 0 ∷ drop (i + 1) xs) (subst (λ z. Way nexts n z m) (split xs i less) way)

-- a way up to the file at a place
pub upto : (nexts : Nexts) (n m : ℕ) (xs : List ℕ) (i : ℕ) → i < length xs → Way nexts n xs m → Way nexts n (take i xs) (get_or xs i 0)
upto nexts n m xs i less way =
    let two = parts nexts n m xs i less way in
    subst (λ z. Way nexts n (take i xs) z) two.2.0 two.1

-- .. and from it on
pub onward : (nexts : Nexts) (n m : ℕ) (xs : List ℕ) (i : ℕ) → i < length xs → Way nexts n xs m → Way nexts (get_or xs i 0) (get_or xs i 0 ∷ drop (i + 1) xs) m
onward nexts n m xs i less way =
    let two = parts nexts n m xs i less way in
    subst (λ z. Way nexts z (get_or xs i 0 ∷ drop (i + 1) xs) m) two.2.0 two.2

-- two ways of one length from a file have the same files
pub same_way : (nexts : Nexts) (n a b : ℕ) (xs ys : List ℕ) → length xs ≡ length ys → Way nexts n xs a → Way nexts n ys b → xs ≡ ys
same_way nexts n a b [] [] e p q = refl
same_way nexts n a b [] (y ∷ ys) e p q = absurd (let no : ⊥ = omega (arith, e) in no)
same_way nexts n a b (x ∷ xs) [] e p q = absurd (let no : ⊥ = omega (arith, e) in no)
same_way nexts n a b (x ∷ xs) (y ∷ ys) e p q =
    let next : q.1.0 ≡ p.1.0 = one_next nexts n q.1.0 p.1.0 q.1.1 p.1.1 in
    let rest : xs ≡ ys = same_way nexts p.1.0 a b xs ys (omega (arith, e)) p.1.2 (subst (λ z. Way nexts z ys b) next q.1.2) in
    ap (λ zs. x ∷ zs) rest ∙ ap (λ z. z ∷ ys) (sym p.0 ∙ q.0)

-- if a way is longer than another from the same file, that other one goes on
pub goes_on : (nexts : Nexts) (n a b : ℕ) (xs ys : List ℕ) → length xs < length ys → Way nexts n xs a → Way nexts n ys b → (k : ℕ) × Goes nexts a k
goes_on nexts n a b xs [] less p q = absurd (let no : ⊥ = omega (arith, less) in no)
goes_on nexts n a b [] (y ∷ ys) less p q = (q.1.0, subst (λ z. Goes nexts z q.1.0) p q.1.1)
goes_on nexts n a b (x ∷ xs) (y ∷ ys) less p q =
    let next : q.1.0 ≡ p.1.0 = one_next nexts n q.1.0 p.1.0 q.1.1 p.1.1 in
    goes_on nexts p.1.0 a b xs ys (omega (arith, less)) p.1.2 (subst (λ z. Way nexts z ys b) next q.1.2)

-- the next file of a file on a way is on it, or is the one that it leads to
pub next_on : (nexts : Nexts) (n m : ℕ) (xs : List ℕ) → Way nexts n xs m → (x k : ℕ) → Contains xs x → Goes nexts x k → Contains xs k ⊎ (m ≡ k)
next_on nexts n m [] way x k h g = absurd (let no : ⊥ = omega (arith, h.1) in no)
next_on nexts n m (y ∷ ys) way x k h g = turn (λ i. next_on nexts way.1.0 m ys way.1.2 x k i g) (first_or y x ys h)
  where
    begins : (zs : List ℕ) → Way nexts way.1.0 zs m → Contains (y ∷ zs) way.1.0 ⊎ (m ≡ way.1.0)
    begins [] w = inr (sym w)
    begins (z ∷ zs) w = inl (there y way.1.0 (z ∷ zs) (subst (λ u. Contains (z ∷ zs) u) (sym w.0) (here z zs)))

    wider : (Contains ys k ⊎ (m ≡ k)) → Contains (y ∷ ys) k ⊎ (m ≡ k)
    wider (inl i) = inl (there y k ys i)
    wider (inr e) = inr e

    turn : (Contains ys x → Contains ys k ⊎ (m ≡ k)) → ((y ≡ x) ⊎ Contains ys x) → Contains (y ∷ ys) k ⊎ (m ≡ k)
    turn others (inl same) =
        let next : way.1.0 ≡ k = one_next nexts n way.1.0 k way.1.1 (subst (λ u. Goes nexts u k) (sym (way.0 ∙ same)) g) in
        subst (λ u. Contains (y ∷ ys) u ⊎ (m ≡ u)) next (begins ys way.1.2)
    turn others (inr i) = wider (others i)

-- a way that is shorter than one from the same file goes on
pub goes_inside : (nexts : Nexts) (n count a : ℕ) (xs : List ℕ) → HasWay nexts n count → length xs < count → Way nexts n xs a → (k : ℕ) × Goes nexts a k
goes_inside nexts n count a xs (ys, (b, q, size)) less p = goes_on nexts n a b xs ys (omega (arith, size, less)) p q

pub goes_below : (nexts : Nexts) (a k : ℕ) → Goes nexts a k → a < length nexts
goes_below nexts a k goes = slice_get_within nexts a (Some k) goes

-- the file read at a place is there
pub read_at : {X : Type 0} (xs : List X) (i : ℕ) (d x : X) → i < length xs → get_or xs i d ≡ x → slice_get xs i ≡ Some x
read_at xs i d x less e = slice_get-get_or xs i d less ∙ ap Some e
