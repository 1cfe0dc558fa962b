-- The files that are found while files are read.
use Rattle.std.proofs.Common.{◌≡◌, ◌+◌, ◌<◌, ◌≢◌, ◌⊎◌, inl, inr, ℕ, zero, suc, Bool, true, false, List, [], ◌∷◌, ◌++◌, map, length, replicate, get_or, Option, Some, None, refl, ap, sym, ◌∙◌, subst, arith, length-append}
use denote.Ref.{Bor}
use Rattle.std.specs.Prelude.{All, Contains, IfSome, IsSome, cond, not, slice_set}
use Rattle.std.specs.Option.{option_copied, option_flatten, option_map}
use Rattle.std.proofs.lemmas.Bool.{cases_order}
use Rattle.std.proofs.lemmas.List.{get_or_default, get_or-map, get_or-replicate, get_or-set_other, get_or-set_same, length-map, length-replicate, length-set}
use Rattle.std.proofs.lemmas.List.Elements.{All-append, Contains-append_cases, Contains-append_left, Contains-append_right}
use Rattle.std.proofs.lemmas.List.Sums.{sum_by-set}
use Rattle.std.proofs.lemmas.Option.{slice_get_past}
use Rattle.star_cache.specs.State.{Loads}
use Rattle.star_label.specs.Files.{File}
use Rattle.star_scope.specs.declared.loads.Load.{Load}
use Rattle.star_scope.specs.declared.program.Prelude.{Prelude}
use Rattle.star_scope.specs.Resolve.{Outside}
use Rattle.star_plan.specs.Plan.{Plan, loaded, loads_in, loads_of}
use Rattle.star_plan.specs.Reached.{IsReached, root, load}
use Rattle.star_reading.specs.declared.reading.Read.{Read}
use Rattle.star_reading.specs.Found.{AreFound, Grew, IsMarked, IsReachedBy, IsRowOf, Within, left_of, plan_by}
use Rattle.star_reading.specs.Readings.{IsReadAs, Row, loads_at, loads_read, read_at, reading_of}
use Rattle.star_reading.proofs.PlacesRead.{all_front, all_last, none_read, place_read, set_read}
use Rattle.star_reading.proofs.Rows.{loads_are}
use Rattle.star_reading.proofs.LoadsWithin.{loads_within}

pub by_cases : {A B C : Type 0} → A ⊎ B → (A → C) → (B → C) → C
by_cases (inl a) f g = f a
by_cases (inr b) f g = g b

-- two numbers are the same, or not
pub same_or_not : (k n : ℕ) → (k ≡ n) ⊎ (k ≢ n)
same_or_not k n = split (cases_order k n)
  where
    split : ((k ≡ n) ⊎ ((k < n) ⊎ (n < k))) → (k ≡ n) ⊎ (k ≢ n)
    split (inl e) = inl e
    split (inr (inl less)) = inr (omega arith)
    split (inr (inr less)) = inr (omega arith)

pub all_one : {X : Type 0} (P : X → Type 0) (x : X) → P x → All P (x ∷ [])
all_one P x h zero d lt = h
all_one P x h (suc k) d lt = absurd (omega (arith, lt))

pub contains_one : (x y : ℕ) → Contains (x ∷ []) y → x ≡ y
contains_one x y (zero, less, e) = e
contains_one x y (suc k, less, e) = absurd (omega (arith, less))

pub contains_here : (x : ℕ) → Contains (x ∷ []) x
contains_here x = (0, omega arith, refl)

none_in : (y : ℕ) → Contains [] y → ⊥
none_in y (k, less, e) = let no : ⊥ = omega (arith, less) in no

pub marked_within : (marks : List Bool) (n : ℕ) → IsMarked marks n → n < length marks
marked_within [] n h = absurd (let no : ⊥ = cc in no)
marked_within (m ∷ ms) zero h = omega arith
marked_within (m ∷ ms) (suc n) h = let r = marked_within ms n h in omega (arith, r)

set_stays : (marks : List Bool) (n k : ℕ) → IsMarked marks k → IsMarked (slice_set marks n true) k
set_stays marks n k h = by_cases (same_or_not k n)
    (λ e. subst (λ i. IsMarked (slice_set marks n true) i) (sym e) (get_or-set_same marks n true false (subst (λ i. i < length marks) e (marked_within marks k h))))
    (λ ne. get_or-set_other marks n k true false ne ∙ h)

-- a file that is found waits to be read, so the number of files left stays
pub left_one : (n : ℕ) (marks : List Bool) (todo : List ℕ) → n < length marks → get_or marks n false ≡ false → left_of (slice_set marks n true) (todo ++ n ∷ []) ≡ left_of marks todo
left_one n marks todo inside clear =
    let f : Bool → ℕ = λ m. cond (not m) 1 0 in
    let s = sum_by-set f marks n true false inside in
    let one : f (get_or marks n false) ≡ 1 = ap f clear in
    let none : f true ≡ 0 = refl in
    let more = length-append todo (n ∷ []) in
    omega (arith, s, one, none, more)

pub grew_one : (n : ℕ) (marks : List Bool) (todo : List ℕ) → n < length marks → get_or marks n false ≡ false → Grew (n ∷ []) marks todo (slice_set marks n true) (todo ++ n ∷ [])
grew_one n marks todo inside clear = record {
  size = length-set marks n true;
  stay = set_stays marks n;
  fresh = λ k h. by_cases (same_or_not k n)
      (λ e. inr (subst (λ i. Contains (n ∷ []) i × Contains (todo ++ n ∷ []) i) (sym e) (contains_here n, Contains-append_right todo (n ∷ []) n (contains_here n))))
      (λ ne. inl (sym (get_or-set_other marks n k true false ne) ∙ h));
  waiting = λ k h. Contains-append_left todo (n ∷ []) k h;
  found = λ all. All-append (IsMarked (slice_set marks n true)) todo (n ∷ []) (λ k d lt. set_stays marks n (get_or todo k d) (all k d lt)) (all_one (IsMarked (slice_set marks n true)) n (get_or-set_same marks n true false inside));
  left = left_one n marks todo inside clear;
}

-- one more of these files is found, after others of them
pub grew_more : (ns : List ℕ) (n : ℕ) (a : List Bool) (ta : List ℕ) (b : List Bool) (tb : List ℕ) (c : List Bool) (tc : List ℕ) → Contains ns n → Grew ns a ta b tb → Grew (n ∷ []) b tb c tc → Grew ns a ta c tc
grew_more ns n a ta b tb c tc among first next = record {
  size = next.size ∙ first.size;
  stay = λ k h. next.stay k (first.stay k h);
  fresh = λ k h. by_cases (next.fresh k h)
      (λ x. by_cases (first.fresh k x) (λ y. inl y) (λ y. inr (y.0, next.waiting k y.1)))
      (λ x. inr (subst (Contains ns) (contains_one n k x.0) among, x.1));
  waiting = λ k h. next.waiting k (first.waiting k h);
  found = λ h. next.found (first.found h);
  left = next.left ∙ first.left;
}

-- an item's file is among the files of all items
pub file_among : {A : Type 0} (f : A → ℕ) (xs : List A) (i : ℕ) (z : A) → i < length xs → Contains (map f xs) (f (get_or xs i z))
file_among f xs i z inside = (i, omega (arith, inside, length-map xs f), get_or-map f xs i z (f (get_or xs i z)) inside)

-- the files of the items so far are found, and the file of one more
pub there_more : {A : Type 0} (f : A → ℕ) (xs : List A) (i : ℕ) (z : A) (a b c : List Bool) → i < length xs → length b ≡ length a
    → ((k : ℕ) (d : A) → k < i → f (get_or xs k d) < length a → IsMarked b (f (get_or xs k d)))
    → ((k : ℕ) → IsMarked b k → IsMarked c k)
    → (f (get_or xs i z) < length b → IsMarked c (f (get_or xs i z)))
    → (k : ℕ) (d : A) → k < i + 1 → f (get_or xs k d) < length a → IsMarked c (f (get_or xs k d))
there_more f xs i z a b c inside size earlier stay here k d lt low = by_cases (same_or_not k i)
    (λ e. let same : f (get_or xs k d) ≡ f (get_or xs i z) = ap (λ j. f (get_or xs j d)) e ∙ ap f (get_or_default xs i d z inside) in
    subst (IsMarked c) (sym same) (here (omega (arith, low, size, same))))
    (λ ne. stay (f (get_or xs k d)) (earlier k d (omega (arith, ne, lt)) low))

pub none_marked : (count k : ℕ) → IsMarked (replicate count false) k → ⊥
none_marked count k h =
    let inside : k < length (replicate count false) = marked_within (replicate count false) k h in
    let l = length-replicate count false in
    let is : get_or (replicate count false) k false ≡ false = get_or-replicate count k false false (omega (arith, inside, l)) in
    let both : false ≡ true = sym is ∙ h in
    let no : ⊥ = cc in
    no

none_at : (row : Row) → All (λ o. o ≡ None) row → (n : ℕ) → read_at row n ≡ None
none_at row none n = by_cases (cases_order n (length row))
    (λ e. ap option_flatten (slice_get_past row n (omega (arith, e))))
    (λ o. by_cases o (λ less. place_read row n None less ∙ none n None less) (λ more. ap option_flatten (slice_get_past row n (omega (arith, more)))))

no_some : {X : Type 0} (o : Option X) → o ≡ None → IsSome o → ⊥
no_some None e h = let no : ⊥ = cc in no
no_some (Some x) e h = let no : ⊥ = cc in no

some_is : {X : Type 0} (o : Option X) (x : X) → o ≡ Some x → IsSome o
some_is o x e = subst IsSome (sym e) refl

all_nothing : {X : Type 0} (P : X → Type 0) (xs : List X) → xs ≡ [] → All P xs
all_nothing P xs e k d lt = absurd (let l : length xs ≡ 0 = ap length e in let no : ⊥ = omega (arith, l, lt) in no)

-- the roots are found, and nothing is read
pub found_roots : (files : List File) (outside : Outside) (roots : List ℕ) (row : Row) (before marks : List Bool) (none todo : List ℕ)
    → All (λ o. o ≡ None) row → length row ≡ length files → before ≡ replicate (length files) false → none ≡ [] → Within files roots
    → Grew roots before none marks todo → All (λ n. n < length before → IsMarked marks n) roots → AreFound files outside roots row marks todo
found_roots files outside roots row before marks none todo empty size clear start within grew there = record {
  right = none_read files outside row empty;
  sized = size;
  marked = grew.size ∙ long;
  starts = λ k d lt. there k d lt (let w = within k d lt in omega (arith, w, long));
  loads = λ n. all_nothing (λ l. IsMarked marks l.file) (loads_at row n) (ap (λ o. loads_in (option_map reading_of o)) (none_at row empty n));
  reached = λ k h. root (new k h).0;
  read = λ n h. absurd (no_some (read_at row n) (none_at row empty n) h);
  done = λ k h. inr (new k h).1;
  waits = grew.found (all_nothing (IsMarked before) none start);
}
  where
    long : length before ≡ length files
    long = ap length clear ∙ length-replicate (length files) false

    new : (k : ℕ) → IsMarked marks k → Contains roots k × Contains todo k
    new k h = by_cases (grew.fresh k h) (λ old. absurd (none_marked (length files) k (subst (λ m. IsMarked m k) clear old))) (λ x. x)

-- a number that waits is the number of a file
pub waits_within : (files : List File) (outside : Outside) (roots : List ℕ) (row : Row) (marks : List Bool) (todo rest : List ℕ) (n : ℕ) → AreFound files outside roots row marks todo → todo ≡ rest ++ n ∷ [] → n < length files
waits_within files outside roots row marks todo rest n f e =
    let m = marked_within marks n (all_last (IsMarked marks) rest n (subst (All (IsMarked marks)) e f.waits)) in
    let a = f.marked in
    omega (arith, m, a)

pub copied_fits : (o : Option (Bor Prelude)) (count : ℕ) → IfSome o (λ p. p.now.file < count) → (p : Prelude) → option_copied o ≡ Some p → p.file < count
copied_fits None count h p e = absurd (let no : ⊥ = cc in no)
copied_fits (Some q) count h p e = let same : q.now ≡ p = cc in subst (λ (x : Prelude). x.file < count) same h

-- reached files stay reached if loads stay
reached_grows : (p q : Plan) → p.roots ≡ q.roots → ((a b : ℕ) → Loads (loaded p) a b → Loads (loaded q) a b) → (n : ℕ) → IsReached p n → IsReached q n
reached_grows p q same to n (root h) = root (subst (λ rs. Contains rs n) same h)
reached_grows p q same to m (load {n = n} r l) = load (reached_grows p q same to n r) (to n m l)

-- a file that the read files reach is reached in each plan with these roots and readings
pub reached_in : (roots : List ℕ) (row : Row) (plan : Plan) → roots ≡ plan.roots → ((n : ℕ) → loads_of plan n ≡ loads_at row n) → (n : ℕ) → IsReachedBy roots row n → IsReached plan n
reached_in roots row plan same loads n h = reached_grows (plan_by roots row) plan same (λ a b l. subst (λ ls. Contains (map (λ x. x.file) ls) b) (loads_are (plan_by roots row) row a refl ∙ sym (loads a)) l) n h

module _ (files : List File) (outside : Outside) (roots : List ℕ) (row : Row) (marks : List Bool) (todo : List ℕ) (n : ℕ) (r : Read) (after : List Bool) (waiting : List ℕ)
    (f : AreFound files outside roots row marks (todo ++ n ∷ [])) (fits : (p : Prelude) → outside.prelude ≡ Some p → p.file < length files) (unread : read_at row n ≡ None) (is : IsReadAs files outside n r)
    (grew : Grew (map (λ (l : Load). l.file) (loads_read r)) marks todo after waiting) (there : All (λ (l : Load). l.file < length marks → IsMarked after l.file) (loads_read r)) where
  abbrev now : Row
  now = slice_set row n (Some r)

  at_n : IsMarked marks n
  at_n = all_last (IsMarked marks) todo n f.waits

  inside : n < length row
  inside = let m = marked_within marks n at_n in let a = f.marked in let b = f.sized in omega (arith, m, a, b)

  here : read_at now n ≡ Some r
  here = place_read now n None (let l = length-set row n (Some r) in omega (arith, l, inside)) ∙ get_or-set_same row n (Some r) None inside

  other : (k : ℕ) → k ≢ n → read_at now k ≡ read_at row k
  other k ne = by_order (cases_order k (length row))
    where
      same_size : length now ≡ length row
      same_size = length-set row n (Some r)

      past : length row < k + 1 → read_at now k ≡ read_at row k
      past h = ap option_flatten (slice_get_past now k (omega (arith, h, same_size))) ∙ sym (ap option_flatten (slice_get_past row k (omega (arith, h))))

      by_order : ((k ≡ length row) ⊎ ((k < length row) ⊎ (length row < k))) → read_at now k ≡ read_at row k
      by_order (inl e) = past (omega (arith, e))
      by_order (inr (inl less)) = place_read now k None (omega (arith, less, same_size)) ∙ (get_or-set_other row n k (Some r) None ne ∙ sym (place_read row k None less))
      by_order (inr (inr more)) = past (omega (arith, more))

  loads_here : loads_at now n ≡ loads_read r
  loads_here = ap (λ o. loads_in (option_map reading_of o)) here

  loads_other : (k : ℕ) → k ≢ n → loads_at now k ≡ loads_at row k
  loads_other k ne = ap (λ o. loads_in (option_map reading_of o)) (other k ne)

  loads_before : loads_at row n ≡ []
  loads_before = ap (λ o. loads_in (option_map reading_of o)) unread

  loads_then : (k : ℕ) → loads_of (plan_by roots row) k ≡ loads_at row k
  loads_then k = loads_are (plan_by roots row) row k refl

  loads_now : (k : ℕ) → loads_of (plan_by roots now) k ≡ loads_at now k
  loads_now k = loads_are (plan_by roots now) now k refl

  load_stays : (a b : ℕ) → Loads (loaded (plan_by roots row)) a b → Loads (loaded (plan_by roots now)) a b
  load_stays a b l = by_cases (same_or_not a n)
      (λ e. absurd (none_in b (subst (λ ls. Contains (map (λ (x : Load). x.file) ls) b) (loads_then a ∙ (ap (loads_at row) e ∙ loads_before)) l)))
      (λ ne. subst (λ ls. Contains (map (λ (x : Load). x.file) ls) b) (loads_then a ∙ (sym (loads_other a ne) ∙ sym (loads_now a))) l)

  still : (k : ℕ) → IsReachedBy roots row k → IsReachedBy roots now k
  still k h = reached_grows (plan_by roots row) (plan_by roots now) refl load_stays k h

  by_it : (k : ℕ) → Contains (map (λ (l : Load). l.file) (loads_read r)) k → IsReachedBy roots now k
  by_it k c = load (still n (f.reached n at_n)) (subst (λ ls. Contains (map (λ (x : Load). x.file) ls) k) (sym (loads_now n ∙ loads_here)) c)

  all_there : All (λ (l : Load). IsMarked after l.file) (loads_read r)
  all_there k d lt = there k d lt (let w = loads_within files outside n r fits is k d lt in let a = f.marked in omega (arith, w, a))

  -- a file that waits was read, and its loads were found
  pub found_next : AreFound files outside roots now after waiting
  found_next = record {
    right = set_read files outside row n r inside is f.right;
    sized = length-set row n (Some r) ∙ f.sized;
    marked = grew.size ∙ f.marked;
    starts = λ k d lt. grew.stay (get_or roots k d) (f.starts k d lt);
    loads = λ k. by_cases (same_or_not k n)
        (λ e. subst (λ ls. All (λ (l : Load). IsMarked after l.file) ls) (sym (ap (loads_at now) e ∙ loads_here)) all_there)
        (λ ne. subst (λ ls. All (λ (l : Load). IsMarked after l.file) ls) (sym (loads_other k ne)) (λ i d lt. grew.stay (get_or (loads_at row k) i d).file (f.loads k i d lt)));
    reached = λ k h. by_cases (grew.fresh k h) (λ old. still k (f.reached k old)) (λ new. by_it k new.0);
    read = λ k h. by_cases (same_or_not k n) (λ e. grew.stay k (subst (IsMarked marks) (sym e) at_n)) (λ ne. grew.stay k (f.read k (subst IsSome (other k ne) h)));
    done = λ k h. by_cases (same_or_not k n)
        (λ e. inl (subst (λ i. IsSome (read_at now i)) (sym e) (some_is (read_at now n) r here)))
        (λ ne. by_cases (grew.fresh k h)
        (λ old. by_cases (f.done k old)
        (λ was. inl (subst IsSome (sym (other k ne)) was))
        (λ c. by_cases (Contains-append_cases todo (n ∷ []) k c) (λ t. inr (grew.waiting k t)) (λ one. absurd (ne (sym (contains_one n k one))))))
        (λ new. inr new.1));
    waits = grew.found (all_front (IsMarked marks) todo n f.waits);
  }

-- no file waits any more
pub all_found : (files : List File) (outside : Outside) (roots : List ℕ) (row : Row) (marks : List Bool) (todo : List ℕ) → todo ≡ [] → AreFound files outside roots row marks todo → IsRowOf files outside roots row
all_found files outside roots row marks todo nothing f = record {
  right = f.right;
  sized = f.sized;
  closed = record {
    starts = λ k d lt. settled (get_or roots k d) (f.starts k d lt);
    loads = λ n k d lt. settled (get_or (loads_at row n) k d).file (f.loads n k d lt);
  };
  reached = λ n h. f.reached n (f.read n h);
}
  where
    settled : (m : ℕ) → IsMarked marks m → IsSome (read_at row m)
    settled m h = by_cases (f.done m h) (λ r. r) (λ c. absurd (none_in m (subst (λ ts. Contains ts m) nothing c)))
