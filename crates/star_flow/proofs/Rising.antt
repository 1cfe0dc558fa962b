-- The files that become ready.
use Rattle.std.proofs.Common.{Bool, true, false, ◌≡◌, ◌<◌, ◌+◌, ◌-◌, ◌⊎◌, inl, inr, ℕ, zero, suc, nat_eq, List, [], ◌∷◌, ◌++◌, length, get_or, take, cond, refl, ap, sym, ◌∙◌, subst, arith}
use Rattle.std.specs.Prelude.{All, Contains, if◌then◌else◌}
use Rattle.std.proofs.lemmas.List.{get_or_default}
use Rattle.std.proofs.lemmas.List.Elements.{All-append, Contains-append_cases}
use Rattle.std.specs.List.{count_by}
use Rattle.std.proofs.lemmas.List.Sums.{count_by_more_no, count_by_more_yes, sum_by-cons}
use Rattle.star_flow.specs.Schedules.{HasAll, HaveEnded, IsReadyOf, ScheduleView, waiting}

pub one_of : (x y : ℕ) → Contains (x ∷ []) y → x ≡ y
one_of x y (zero, h, e) = e
one_of x y (suc k, h, e) = absurd (let no : ⊥ = omega (arith, h) in no)

pub none_of : (y : ℕ) → Contains [] y → ⊥
none_of y (k, h, e) = let no : ⊥ = omega (arith, h) in no

pub all_one : (P : ℕ → Type 0) (x : ℕ) → P x → All P (x ∷ [])
all_one P x h zero d lt = h
all_one P x h (suc k) d lt = absurd (let no : ⊥ = omega (arith, lt) in no)

-- the member at a place
pub at_place : (xs : List ℕ) (i : ℕ) → i < length xs → Contains xs (get_or xs i 0)
at_place xs i h = (i, h, get_or_default xs i (get_or xs i 0) 0 h)

-- one more file is ready, which is one of these
pub ready_more : (old among new : List ℕ) (n : ℕ) → Contains among n → IsReadyOf old among new → IsReadyOf old among (new ++ n ∷ [])
ready_more old among new n here before m c = by_cases (Contains-append_cases new (n ∷ []) m c)
  where
    by_cases : Contains new m ⊎ Contains (n ∷ []) m → Contains old m ⊎ Contains among m
    by_cases (inl a) = before m a
    by_cases (inr b) = inr (subst (Contains among) (one_of n m b) here)

-- the files that became ready in two steps
pub ready_then : (first middle last among : List ℕ) (n : ℕ) → Contains among n → IsReadyOf first among middle → IsReadyOf middle (n ∷ []) last → IsReadyOf first among last
ready_then first middle last among n here before more m c = by_cases (more m c)
  where
    by_cases : Contains middle m ⊎ Contains (n ∷ []) m → Contains first m ⊎ Contains among m
    by_cases (inl a) = before m a
    by_cases (inr b) = inr (subst (Contains among) (one_of n m b) here)

pub ready_kept : (xs among : List ℕ) → IsReadyOf xs among xs
ready_kept xs among m c = inl c

pub ready_pushed : (xs : List ℕ) (n : ℕ) → IsReadyOf xs (n ∷ []) (xs ++ n ∷ [])
ready_pushed xs n m c = Contains-append_cases xs (n ∷ []) m c

-- a file that became ready, if it found a place
pub ready_either : (b : Bool) (xs old new : List ℕ) (n : ℕ) → xs ≡ old → new ≡ (if b then xs ++ n ∷ [] else xs) → IsReadyOf old (n ∷ []) new
ready_either true xs old new n same e m c = subst (λ ys. Contains ys m ⊎ Contains (n ∷ []) m) same (ready_pushed xs n m (subst (λ ys. Contains ys m) e c))
ready_either false xs old new n same e m c = inl (subst (λ ys. Contains ys m) (e ∙ same) c)

-- one more file all of whose loads have ended
pub all_more : (missing ready : List ℕ) (n : ℕ) → HasAll missing n → All (HasAll missing) ready → All (HasAll missing) (ready ++ n ∷ [])
all_more missing ready n here all = All-append (HasAll missing) ready (n ∷ []) all (all_one (HasAll missing) n here)

-- a row of one file
pub count_one : (p : ℕ → Bool) (x : ℕ) → count_by p (x ∷ []) ≡ cond (p x) 1 0
count_one p x = sum_by-cons (λ y. cond (p y) 1 0) x [] ∙ (let none : cond (p x) 1 0 + 0 ≡ cond (p x) 1 0 = omega arith in none)

-- one load more of one of the files, or of another
pub ends_one : (files : List ℕ) (i m : ℕ) → i < length files → (b : Bool) → nat_eq m (get_or files i 0) ≡ b → count_by (nat_eq m) (take i files) + count_by (nat_eq m) (get_or files i 0 ∷ []) ≡ count_by (nat_eq m) (take (i + 1) files)
ends_one files i m h true e = ap (λ n. count_by (nat_eq m) (take i files) + n) (count_one (nat_eq m) (get_or files i 0) ∙ ap (λ b. cond b 1 0) e) ∙ sym (count_by_more_yes (nat_eq m) files i 0 h e)
ends_one files i m h false e = ap (λ n. count_by (nat_eq m) (take i files) + n) (count_one (nat_eq m) (get_or files i 0) ∙ ap (λ b. cond b 1 0) e) ∙ (let same : count_by (nat_eq m) (take i files) + 0 ≡ count_by (nat_eq m) (take i files) = omega arith in same) ∙ sym (count_by_more_no (nat_eq m) files i 0 h e)

-- the loads that have ended in two steps
pub ended_then : (first middle last : ScheduleView) (files : List ℕ) (i : ℕ) → i < length files → HaveEnded (take i files) first middle → HaveEnded (get_or files i 0 ∷ []) middle last → HaveEnded (take (i + 1) files) first last
ended_then first middle last files i h before more m = more m ∙ ap (λ w. w - count_by (nat_eq m) (get_or files i 0 ∷ [])) (before m) ∙ (let both : waiting first m - count_by (nat_eq m) (take i files) - count_by (nat_eq m) (get_or files i 0 ∷ []) ≡ waiting first m - (count_by (nat_eq m) (take i files) + count_by (nat_eq m) (get_or files i 0 ∷ [])) = omega arith in both) ∙ ap (λ n. waiting first m - n) (ends_one files i m h (nat_eq m (get_or files i 0)) refl)
