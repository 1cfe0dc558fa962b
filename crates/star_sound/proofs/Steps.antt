-- Files go on, one after another, until it is known which are sound.
use Rattle.std.proofs.Common.{arith, ◌≡◌, ◌<◌, ◌≤◌, ◌+◌, ◌⊎◌, inl, inr, ℕ, zero, suc, Bool, true, false, List, [], ◌∷◌, ◌++◌, length, length-append, get_or, Option, Some, None, refl, ap, sym, subst, ◌∙◌}
use Rattle.std.specs.Prelude.{All, Contains, MatchOption, OnOk, Result, Ok, Err, cond, not, slice_get, slice_set}
use denote.Ref.{Bor}
use Rattle.std.specs.List.{HoldsAt}
use Rattle.std.proofs.lemmas.Bool.{cases_eq, cases_lt}
use Rattle.std.proofs.lemmas.List.{get_or_default, get_or-set_other, get_or-set_same, get_or_append_left, get_or_push, length-set}
use Rattle.std.proofs.lemmas.List.Elements.{All-push, Contains-append_left, Contains-push, Contains-push_cases}
use Rattle.std.proofs.lemmas.List.Sums.{sum_by-set}
use Rattle.std.proofs.lemmas.Option.{get_or_from_slice_get, slice_get-get_or, slice_get_past, slice_get_within}
use Rattle.star_sound.specs.Sound.{IsFirstLack, IsProspect, IsSound, Needs, NeedsAll, sound}
use Rattle.star_sound.specs.declared.sound.Prospect.{Prospect}
use Rattle.star_sound.specs.Waiting.{AreWaitingBy, IsMarked, IsMarkedMore, left_in, list_of, passed_of}

by_cases : {A B C : Type 0} → A ⊎ B → (A → C) → (B → C) → C
by_cases (inl a) f g = f a
by_cases (inr b) f g = g b

none_in : (y : ℕ) → Contains [] y → ⊥
none_in y (k, less, e) = let no : ⊥ = omega (arith, less) in no

-- ---- one file more is known to be sound

pub marked_within : (marks : List Bool) (n : ℕ) → IsMarked marks n → n < length marks
marked_within [] n h = absurd (let no : ⊥ = cc in no)
marked_within (m ∷ ms) zero h = omega arith
marked_within (m ∷ ms) (suc n) h = let r = marked_within ms n h in omega (arith, r)

set_stays : (marks : List Bool) (n k : ℕ) → IsMarked marks k → IsMarked (slice_set marks n true) k
set_stays marks n k h = by_cases (cases_eq k n)
    (λ e. subst (λ i. IsMarked (slice_set marks n true) i) (sym e) (get_or-set_same marks n true false (subst (λ i. i < length marks) e (marked_within marks k h))))
    (λ ne. get_or-set_other marks n k true false ne ∙ h)

left_one : (n : ℕ) (marks : List Bool) (todo : List ℕ) → n < length marks → get_or marks n false ≡ false → left_in (slice_set marks n true) (todo ++ n ∷ []) ≡ left_in marks todo
left_one n marks todo inside clear =
    let f : Bool → ℕ = λ m. cond (not m) 1 0 in
    let s = sum_by-set f marks n true false inside in
    let one : f (get_or marks n false) ≡ 1 = ap f clear in
    let none : f true ≡ 0 = refl in
    let more = length-append todo (n ∷ []) in
    omega (arith, s, one, none, more)

-- a mark that was read, and is not set
pub unmarked : (marks : List Bool) (n : ℕ) (mark : Bool) → mark ≡ get_or marks n mark → mark ≡ false → get_or marks n false ≡ false
unmarked marks n true is unset = absurd (let no : ⊥ = cc in no)
unmarked marks n false is unset = sym is

pub marked_new : (n : ℕ) (marks : List Bool) (todo : List ℕ) → n < length marks → get_or marks n false ≡ false → IsMarkedMore n marks todo (slice_set marks n true) (todo ++ n ∷ [])
marked_new n marks todo inside clear = record {
  size = length-set marks n true;
  here = get_or-set_same marks n true false inside;
  stay = set_stays marks n;
  fresh = λ k h. by_cases (cases_eq k n)
      (λ e. inr (e, subst (Contains (todo ++ n ∷ [])) (sym e) (Contains-push todo n)))
      (λ ne. inl (sym (get_or-set_other marks n k true false ne) ∙ h));
  kept = λ k h. Contains-append_left todo (n ∷ []) k h;
  inside = λ all. All-push (λ k. k < length marks) todo n all inside;
  left = left_one n marks todo inside clear;
}

pub marked_again : (n : ℕ) (marks : List Bool) (todo : List ℕ) → IsMarked marks n → IsMarkedMore n marks todo marks todo
marked_again n marks todo here = record { size = refl; here = here; stay = λ k h. h; fresh = λ k h. inl h; kept = λ k h. h; inside = λ all. all; left = refl }

-- ---- a file goes on

-- needs before a place are known to be sound
abbrev pub Passes : List Bool → List ℕ → ℕ → ℕ → Type 0
Passes marks its from place = (i m : ℕ) → from ≤ i → i < place → slice_get its i ≡ Some m → IsMarked marks m

pub passes_none : (marks : List Bool) (its : List ℕ) (from : ℕ) → Passes marks its from from
passes_none marks its from i m low less at = absurd (let no : ⊥ = omega (arith, low, less) in no)

pub passes_more : (marks : List Bool) (its : List ℕ) (from place x : ℕ) → Passes marks its from place → slice_get its place ≡ Some x → IsMarked marks x → Passes marks its from (place + 1)
passes_more marks its from place x before here marked i m low less at = by_cases (cases_eq i place)
    (λ e. let both : Some m ≡ Some x = sym at ∙ (ap (slice_get its) e ∙ here) in let same : m ≡ x = cc in subst (IsMarked marks) (sym same) marked)
    (λ ne. before i m low (omega (arith, less, ne)) at)

-- the same, of marks and a first place that were read
pub passes_read : (marks read : List Bool) (its passed : List ℕ) (n from place : ℕ) → read ≡ marks → n < length passed → from ≡ get_or passed n from
    → Passes read its from place → Passes marks its (passed_of passed n) place
passes_read marks read its passed n from place same inside is passes =
    let start : from ≡ passed_of passed n = is ∙ get_or_default passed n from 0 inside in
    λ i m low less at. subst (λ ms. IsMarked ms m) same (passes i m (subst (λ x. x ≤ i) (sym start) low) less at)

module _ (needs : Needs) (marks : List Bool) (passed : List ℕ) (rows : List (List ℕ)) (todo aside : List ℕ) (n place : ℕ) (ns : List ℕ)
    (inside : n < length passed) (has : NeedsAll needs n ns) (passes : Passes marks ns (passed_of passed n) place)
    (was : AreWaitingBy needs marks passed rows todo (aside ++ n ∷ [])) where
  same_needs : (k : ℕ) (ks : List ℕ) → k ≡ n → NeedsAll needs k ks → ks ≡ ns
  same_needs k ks e its =
      let both : Some (Some ks) ≡ Some (Some ns) = sym its ∙ (ap (slice_get needs) e ∙ has) in
      let same : ks ≡ ns = cc in
      same

  all_passed : (j x : ℕ) → j < place → slice_get ns j ≡ Some x → IsMarked marks x
  all_passed j x low at = by_cases (cases_lt j (passed_of passed n))
      (λ less. was.before n j x ns has less at)
      (λ more. passes j x more low at)

  before_on : (k j x : ℕ) (ks : List ℕ) → NeedsAll needs k ks → j < passed_of (slice_set passed n place) k → slice_get ks j ≡ Some x → IsMarked marks x
  before_on k j x ks its low at = by_cases (cases_eq k n)
      (λ e. all_passed j x (subst (λ p. j < p) (ap (passed_of (slice_set passed n place)) e ∙ get_or-set_same passed n place 0 inside) low) (subst (λ l. slice_get l j ≡ Some x) (same_needs k ks e its) at))
      (λ ne. was.before k j x ks its (subst (λ p. j < p) (get_or-set_other passed n k place 0 ne) low) at)

  -- it waits for this file
  pub go_wait : (m : ℕ) → m < length rows → slice_get ns place ≡ Some m → (IsMarked marks m → ⊥)
      → AreWaitingBy needs marks (slice_set passed n place) (slice_set rows m (list_of rows m ++ n ∷ [])) todo aside
  go_wait m there at clear = record {
    right = was.right;
    before = before_on;
    placed = λ k ks its. by_cases (cases_eq k n)
        (λ e. inr (inr (m, here k ks e its, subst (Contains (list_of later m)) (sym e) (subst (λ l. Contains l n) (sym added) (Contains-push (list_of rows m) n)))))
        (λ ne. by_cases (was.placed k ks its) (λ marked. inl marked) (λ rest. inr (by_cases rest
        (λ c. by_cases (Contains-push_cases aside n k c) (λ a. inl a) (λ e. absurd (ne (sym e))))
        (λ w. inr (w.0, ap (slice_get ks) (get_or-set_other passed n k place 0 ne) ∙ w.1, more w.0 k w.2)))));
    told = λ k marked. by_cases (was.told k marked) (λ t. inl t) (λ none. inr (get_or-set_other rows m k _ [] (λ e. clear (subst (IsMarked marks) e marked)) ∙ none));
  }
    where
      later : List (List ℕ)
      later = slice_set rows m (list_of rows m ++ n ∷ [])

      added : list_of later m ≡ list_of rows m ++ n ∷ []
      added = get_or-set_same rows m (list_of rows m ++ n ∷ []) [] there

      here : (k : ℕ) (ks : List ℕ) → k ≡ n → NeedsAll needs k ks → slice_get ks (passed_of (slice_set passed n place) k) ≡ Some m
      here k ks e its =
          let p : passed_of (slice_set passed n place) k ≡ place = ap (passed_of (slice_set passed n place)) e ∙ get_or-set_same passed n place 0 inside in
          subst (λ l. slice_get l (passed_of (slice_set passed n place) k) ≡ Some m) (sym (same_needs k ks e its)) (ap (slice_get ns) p ∙ at)

      more : (x k : ℕ) → Contains (list_of rows x) k → Contains (list_of later x) k
      more x k c = by_cases (cases_eq x m)
          (λ e. subst (λ y. Contains (list_of later y) k) (sym e) (subst (λ l. Contains l k) (sym added) (Contains-append_left (list_of rows m) (n ∷ []) k (subst (λ y. Contains (list_of rows y) k) e c))))
          (λ ne. subst (λ l. Contains l k) (sym (get_or-set_other rows m x _ [] ne)) c)

  -- it is sound
  pub go_mark : (after : List Bool) (more : List ℕ) → slice_get ns place ≡ None → IsMarkedMore n marks todo after more → AreWaitingBy needs after (slice_set passed n place) rows more aside
  go_mark after more end marked = record {
    right = λ k h. by_cases (marked.fresh k h) (λ old. was.right k old) (λ new. subst (IsSound needs) (sym new.0) (sound has (λ x c. was.right x (each x c))));
    before = λ k j x ks its low at. marked.stay x (before_on k j x ks its low at);
    placed = λ k ks its. by_cases (cases_eq k n)
        (λ e. inl (subst (IsMarked after) (sym e) marked.here))
        (λ ne. by_cases (was.placed k ks its) (λ old. inl (marked.stay k old)) (λ rest. inr (by_cases rest
        (λ c. by_cases (Contains-push_cases aside n k c) (λ a. inl a) (λ e. absurd (ne (sym e))))
        (λ w. inr (w.0, ap (slice_get ks) (get_or-set_other passed n k place 0 ne) ∙ w.1, w.2)))));
    told = λ k h. by_cases (marked.fresh k h) (λ old. by_cases (was.told k old) (λ t. inl (marked.kept k t)) (λ none. inr none)) (λ new. inl new.1);
  }
    where
      each : (x : ℕ) → Contains ns x → IsMarked marks x
      each x (i, less, e) =
          let at : slice_get ns i ≡ Some x = slice_get-get_or ns i x less ∙ ap Some e in
          by_cases (cases_lt i place)
          (λ low. all_passed i x low at)
          (λ high. let there = slice_get-get_or ns place x (omega (arith, less, high)) in let both : Some (get_or ns place x) ≡ None = sym there ∙ end in absurd (let no : ⊥ = cc in no))

-- a barred file does not go on
pub drop_aside : (needs : Needs) (marks : List Bool) (passed : List ℕ) (rows : List (List ℕ)) (todo aside : List ℕ) (n : ℕ) → ((ns : List ℕ) → NeedsAll needs n ns → ⊥)
    → AreWaitingBy needs marks passed rows todo (aside ++ n ∷ []) → AreWaitingBy needs marks passed rows todo aside
drop_aside needs marks passed rows todo aside n none was = record {
  right = was.right;
  before = was.before;
  placed = λ k ks its. by_cases (was.placed k ks its) (λ m. inl m) (λ rest. inr (by_cases rest
      (λ c. by_cases (Contains-push_cases aside n k c) (λ a. inl a) (λ e. absurd (none ks (subst (λ i. NeedsAll needs i ks) (sym e) its))))
      (λ w. inr w)));
  told = was.told;
}

-- those that wait for a file stand aside
pub take_aside : (needs : Needs) (marks : List Bool) (passed : List ℕ) (rows : List (List ℕ)) (todo : List ℕ) (m : ℕ) → m < length rows
    → AreWaitingBy needs marks passed rows (todo ++ m ∷ []) [] → AreWaitingBy needs marks passed (slice_set rows m []) todo (list_of rows m)
take_aside needs marks passed rows todo m there was = record {
  right = was.right;
  before = was.before;
  placed = λ k ks its. by_cases (was.placed k ks its) (λ h. inl h) (λ rest. inr (by_cases rest (λ c. absurd (none_in k c))
      (λ w. by_cases (cases_eq w.0 m) (λ e. inl (subst (λ x. Contains (list_of rows x) k) e w.2)) (λ ne. inr (w.0, w.1, subst (λ l. Contains l k) (sym (get_or-set_other rows m w.0 [] [] ne)) w.2)))));
  told = λ k h. by_cases (cases_eq k m)
      (λ e. inr (ap (list_of (slice_set rows m [])) e ∙ get_or-set_same rows m [] [] there))
      (λ ne. by_cases (was.told k h) (λ c. by_cases (Contains-push_cases todo m k c) (λ t. inl t) (λ e. absurd (ne (sym e)))) (λ none. inr (get_or-set_other rows m k [] [] ne ∙ none)));
}

-- at first all stand aside
pub all_aside : (needs : Needs) (marks : List Bool) (passed : List ℕ) (rows : List (List ℕ)) (todo aside : List ℕ) → ((n : ℕ) → IsMarked marks n → ⊥) → ((n : ℕ) → passed_of passed n ≡ 0)
    → ((n : ℕ) → n < length needs → Contains aside n) → AreWaitingBy needs marks passed rows todo aside
all_aside needs marks passed rows todo aside clear none all = record {
  right = λ n h. absurd (clear n h);
  before = λ n j m ns its low at. absurd (let e = none n in let no : ⊥ = omega (arith, low, e) in no);
  placed = λ n ns its. inr (inl (all n (slice_get_within needs n (Some ns) its)));
  told = λ m h. absurd (clear m h);
}

-- ---- all is known

module _ (needs : Needs) (marks : List Bool) (passed : List ℕ) (rows : List (List ℕ)) (was : AreWaitingBy needs marks passed rows [] []) where
  -- no file waits for one that is known to be sound
  no_wait : (n m : ℕ) → IsMarked marks m → Contains (list_of rows m) n → ⊥
  no_wait n m marked c = by_cases (was.told m marked) (none_in m) (λ empty. none_in n (subst (λ l. Contains l n) empty c))

  pub sound_marked : (n : ℕ) → IsSound needs n → IsMarked marks n
  sound_marked n (sound {ns = ns} has each) = by_cases (was.placed n ns has) (λ m. m) (λ rest. by_cases rest
      (λ c. absurd (none_in n c))
      (λ w. absurd (no_wait n w.0 (sound_marked w.0 (each w.0 (there ns (passed_of passed n) w.0 w.1))) w.2)))
    where
      there : (xs : List ℕ) (i x : ℕ) → slice_get xs i ≡ Some x → Contains xs x
      there xs i x at = (i, slice_get_within xs i x at, get_or_from_slice_get xs i x x at)

  pub lack_at : (n : ℕ) (ns : List ℕ) → NeedsAll needs n ns → (IsMarked marks n → ⊥) → IsFirstLack needs ns (passed_of passed n)
  lack_at n ns has clear = by_cases (was.placed n ns has) (λ m. absurd (clear m)) (λ rest. by_cases rest
      (λ c. absurd (none_in n c))
      (λ w. record {
        file = w.0;
        there = w.1;
        lacks = λ s. no_wait n w.0 (sound_marked w.0 s) w.2;
        before = λ j m low at. was.right m (was.before n j m ns has low at);
      }))

-- ---- words of the answers

pub on_ok : {T E P Q : Type 0} (r : Result T E) → (P → Q) → OnOk r P → OnOk r Q
on_ok (Ok x) f h = f h
on_ok (Err e) f h = tt

pub same_waiting : (needs : Needs) (marks after : List Bool) (passed going : List ℕ) (rows later : List (List ℕ)) (todo more aside : List ℕ)
    → after ≡ marks → going ≡ passed → later ≡ rows → more ≡ todo → AreWaitingBy needs marks passed rows todo aside → AreWaitingBy needs after going later more aside
same_waiting needs marks after passed going rows later todo more aside e f g h w = rw (e, f, g, h) w

pub need_inside : (its : List ℕ) (count place m : ℕ) → All (λ k. k < count) its → slice_get its place ≡ Some m → m < count
need_inside its count place m all at = subst (λ k. k < count) (get_or_from_slice_get its place m 0 at) (all place 0 (slice_get_within its place m at))

pub one_more : (xs ys : List ℕ) (n : ℕ) → ((k : ℕ) → k < n → Contains xs k) → ys ≡ xs ++ n ∷ [] → (k : ℕ) → k < n + 1 → Contains ys k
one_more xs ys n all e k less = subst (λ l. Contains l k) (sym e) (by_cases (cases_eq k n)
    (λ same. subst (Contains (xs ++ n ∷ [])) (sym same) (Contains-push xs n))
    (λ ne. Contains-append_left xs (n ∷ []) k (all k (omega (arith, less, ne)))))

pub front_all : (P : ℕ → Type 0) (xs : List ℕ) (x : ℕ) → All P (xs ++ x ∷ []) → All P xs
front_all P xs x all k d less =
    let long = length-append xs (x ∷ []) in
    subst P (get_or_append_left xs (x ∷ []) d k less) (all k d (omega (arith, less, long)))

-- if each of the prospects so far is right, and one more is, all are
pub prospect_more : (needs : Needs) (xs ys : List Prospect) (n : ℕ) (p : Prospect) → length xs ≡ n → ((k : ℕ) (q : Prospect) → slice_get xs k ≡ Some q → IsProspect needs k q) → IsProspect needs n p → ys ≡ xs ++ p ∷ []
    → (k : ℕ) (q : Prospect) → slice_get ys k ≡ Some q → IsProspect needs k q
prospect_more needs xs ys n p long all here e k q at = by_cases (cases_lt k (length xs))
    (λ less. all k q (slice_get-get_or xs k q less ∙ ap Some (sym (get_or_append_left xs (p ∷ []) q k less) ∙ get_or_from_slice_get (xs ++ p ∷ []) k q q there)))
    (λ more.
    let less = slice_get_within (xs ++ p ∷ []) k q there in
    let size = length-append xs (p ∷ []) in
    let last : k ≡ length xs = omega (arith, less, size, more) in
    let is : p ≡ q = sym (get_or_push xs p q k (sym last)) ∙ get_or_from_slice_get (xs ++ p ∷ []) k q q there in
    subst (IsProspect needs k) is (subst (λ i. IsProspect needs i p) (sym (last ∙ long)) here))
  where
    there : slice_get (xs ++ p ∷ []) k ≡ Some q
    there = subst (λ l. slice_get l k ≡ Some q) e at

-- the item at a place of a list
pub got_some : (xs : List ℕ) (i : ℕ) (r : Option (Bor ℕ)) (x : Bor ℕ) → MatchOption r (length xs ≤ i) (λ y. (i < length xs) × HoldsAt (λ z. y.now ≡ z) xs i) → r ≡ Some x → slice_get xs i ≡ Some x.now
got_some xs i (Some y) x is e =
    let same : y ≡ x = cc in
    slice_get-get_or xs i y.now is.0 ∙ (ap Some (sym (is.1 y.now)) ∙ ap (λ (z : Bor ℕ). Some z.now) same)
got_some xs i None x is e = absurd (let no : ⊥ = cc in no)

pub got_none : (xs : List ℕ) (i : ℕ) (r : Option (Bor ℕ)) → MatchOption r (length xs ≤ i) (λ y. (i < length xs) × HoldsAt (λ z. y.now ≡ z) xs i) → r ≡ None → slice_get xs i ≡ None
got_none xs i (Some y) is e = absurd (let no : ⊥ = cc in no)
got_none xs i None is e = slice_get_past xs i is
