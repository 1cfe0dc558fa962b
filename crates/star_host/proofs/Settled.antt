-- The modules of all reached files, as they are kept in order.
use Rattle.std.proofs.Common.{◌≡◌, ◌+◌, ◌<◌, ℕ, zero, suc, List, [], ◌∷◌, ◌++◌, map, length, get_or, take, Option, Some, None, Result, Ok, Err, IfOk, refl, ap, sym, ◌∙◌, subst, arith}
use Rattle.std.specs.Prelude.{All, Contains, IsSome, cond}
use Rattle.std.specs.List.{count_by}
use Rattle.std.specs.Option.{option_map}
use Rattle.std.specs.List.Sorted.{IsStrictlyIncreasing}
use Rattle.std.proofs.lemmas.List.{map-append, map-id}
use Rattle.std.proofs.lemmas.List.Elements.{All-append, Contains-append_left, Contains-append_right}
use Rattle.std.proofs.lemmas.List.Sums.{sum_by_more}
use Rattle.star_cache.specs.Seats.{AreAll, AreNew, SeatState}
use Rattle.star_cache.specs.State.{is_begun}
use Rattle.star_cache.specs.declared.entry.Entry.{Entry}
use Rattle.star_label.specs.Files.{File}
use Rattle.star_plan.specs.Plan.{Plan}
use Rattle.star_plan.specs.Reached.{IsReached}
use Rattle.star_plan.specs.Reading.{IsPlanOf}
use Rattle.star_plan.proofs.Rising.{rising_push}
use Rattle.star_outcome.specs.Fits.{IsWithin, reached_below}
use Rattle.star_outcome.specs.Kept.{AreModules, AreModulesBelow, IsModuleKept, KeptView}
use Rattle.star_reading.specs.Readings.{Row, read_at, reading_of, readings}
use Rattle.star_reading.specs.declared.reading.Read.{Read}
use Rattle.star_outcome.specs.Views.{IsModule, IsTold, ToldView}
use Rattle.star_reading.proofs.Finds.{all_one, by_cases, contains_here, same_or_not}
use Rattle.star_reading.proofs.PlacesRead.{some_of}
use Rattle.star_reading.proofs.Rows.{read_is}
use Rattle.star_host.proofs.SeatsBack.{all_back}

abbrev numbers : List KeptView → List ℕ
numbers ks = map (λ (k : KeptView). k.number) ks

numbers_push : (ks : List KeptView) (k : KeptView) → numbers (ks ++ k ∷ []) ≡ numbers ks ++ k.number ∷ []
numbers_push ks k = map-append (λ (x : KeptView). x.number) ks (k ∷ [])

-- a reached file's module is kept
pub kept_more : (plan : Plan) (n : ℕ) (ks : List KeptView) (k : KeptView) → k.number ≡ n → IsModuleKept plan k → AreModulesBelow plan n ks → AreModulesBelow plan (n + 1) (ks ++ k ∷ [])
kept_more plan n ks k at kept is = record {
  in_order = subst IsStrictlyIncreasing (sym (numbers_push ks k)) (rising_push (numbers ks) k.number is.in_order (subst (λ m. All (λ x. x < m) (numbers ks)) (sym at) is.below));
  below = subst (All (λ m. m < n + 1)) (sym (numbers_push ks k)) (All-append (λ m. m < n + 1) (numbers ks) (k.number ∷ []) (λ i d lt. let b = is.below i d lt in omega (arith, b)) (all_one (λ m. m < n + 1) k.number (omega (arith, at))));
  all = λ m r h. subst (λ ns. Contains ns m) (sym (numbers_push ks k)) (by_cases (same_or_not m n)
      (λ e. Contains-append_right (numbers ks) (k.number ∷ []) m (subst (Contains (k.number ∷ [])) (at ∙ sym e) (contains_here k.number)))
      (λ ne. Contains-append_left (numbers ks) (k.number ∷ []) m (is.all m r (omega (arith, h, ne)))));
  each = All-append (IsModuleKept plan) ks (k ∷ []) is.each (all_one (IsModuleKept plan) k kept);
}

number_at : (P : ℕ → Type 0) (ks : List KeptView) → All (λ (k : KeptView). P k.number) ks → (m : ℕ) → Contains (numbers ks) m → P m
number_at P ks all m (i, less, e) = pick ks all i less e
  where
    pick : (xs : List KeptView) → All (λ (k : KeptView). P k.number) xs → (j : ℕ) → j < length (numbers xs) → get_or (numbers xs) j m ≡ m → P m
    pick [] h j short q = absurd (let no : ⊥ = omega (arith, short) in no)
    pick (x ∷ xs) h zero short q = subst P q (h 0 x (omega arith))
    pick (x ∷ xs) h (suc j) short q = pick xs (λ i d lt. h (suc i) d (omega (arith, lt))) j (omega (arith, short)) q

-- all files were passed
pub all_kept : (files : List File) (plan : Plan) (n : ℕ) (ks : List KeptView) → IsWithin files plan → n ≡ length files → AreModulesBelow plan n ks → AreModules plan ks
all_kept files plan n ks within end is = record {
  in_order = is.in_order;
  reached = λ m. (λ r. is.all m r (let b = reached_below files plan m within r in omega (arith, b, end)), number_at (IsReached plan) ks (λ i d lt. (is.each i d lt).0) m);
  each = λ i d lt. (is.each i d lt).1;
}

-- a file that was read is reached
pub read_reached : (files : List File) (plan : Plan) (row : Row) (n : ℕ) → readings row ≡ plan.reads → IsPlanOf files plan → IsSome (read_at row n) → IsReached plan n
read_reached files plan row n is planned h =
    let s = some_of (read_at row n) h in
    (planned.reached n).1 (reading_of s.0, read_is plan row n is ∙ ap (option_map reading_of) s.1)

pub unread_not_reached : (files : List File) (plan : Plan) (row : Row) (n : ℕ) → readings row ≡ plan.reads → IsPlanOf files plan → read_at row n ≡ None → IsReached plan n → ⊥
unread_not_reached files plan row n is planned none r =
    let there = (planned.reached n).0 r in
    let both : None ≡ Some there.0 = sym (read_is plan row n is ∙ ap (option_map reading_of) none) ∙ there.1 in
    let no : ⊥ = cc in
    no

pub told_kept : (files : List File) (plan : Plan) (n : ℕ) (t : ToldView) (k : KeptView) → IsReached plan n → IsTold files plan n t → k.number ≡ t.number → k.known ≡ t.known → IsModuleKept plan k
told_kept files plan n t k reached told number known =
    let at : n ≡ k.number = sym (number ∙ told.number) in
    (subst (IsReached plan) at reached, (told.found, known ∙ told.known, subst (λ i. IsModule plan i told.found) at told.right))

-- one more number, which was read, after those below it
pub contains_more : (row : Row) (n : ℕ) (ns : List ℕ) → ((m : ℕ) → m < n → IsSome (read_at row m) → Contains ns m) → (m : ℕ) → m < n + 1 → IsSome (read_at row m) → Contains (ns ++ n ∷ []) m
contains_more row n ns before m h is = by_cases (same_or_not m n)
    (λ e. Contains-append_right ns (n ∷ []) m (subst (Contains (n ∷ [])) (sym e) (contains_here n)))
    (λ ne. Contains-append_left ns (n ∷ []) m (before m (omega (arith, h, ne)) is))

-- a file that was not read is passed by
pub passed_by : (row : Row) (n : ℕ) (ns : List ℕ) → read_at row n ≡ None → ((m : ℕ) → m < n → IsSome (read_at row m) → Contains ns m) → (m : ℕ) → m < n + 1 → IsSome (read_at row m) → Contains ns m
passed_by row n ns none before m h is = by_cases (same_or_not m n)
    (λ e. absurd (let there = some_of (read_at row m) is in let both : None ≡ Some there.0 = sym none ∙ (ap (read_at row) (sym e) ∙ there.1) in let no : ⊥ = cc in no))
    (λ ne. before m (omega (arith, h, ne)) is)

-- a reached file was read
pub reached_read : (files : List File) (plan : Plan) (row : Row) (n : ℕ) → readings row ≡ plan.reads → IsPlanOf files plan → IsReached plan n → IsSome (read_at row n)
reached_read files plan row n is planned r = split (read_at row n) refl
  where
    split : (o : Option Read) → read_at row n ≡ o → IsSome o
    split (Some x) e = refl
    split None e = absurd (unread_not_reached files plan row n is planned e r)

-- a property of each file that was read is one of each reached file
pub of_reached : (P : ℕ → Type 0) (files : List File) (plan : Plan) (row : Row) (ns : List ℕ) → readings row ≡ plan.reads → IsPlanOf files plan → ((n : ℕ) → IsSome (read_at row n) → Contains ns n) → All P ns
    → (n : ℕ) → IsReached plan n → P n
of_reached P files plan row ns is planned there all n r = pick (there n (reached_read files plan row n is planned r))
  where
    pick : Contains ns n → P n
    pick (i, less, e) = subst P e (all i n less)

-- the number of begun entries among the first, with one entry more
pub begun_more : (es : List (Entry ToldView)) (n : ℕ) (d : Entry ToldView) → n < length es → count_by is_begun (take (n + 1) es) ≡ count_by is_begun (take n es) + cond (is_begun (get_or es n d)) 1 0
begun_more es n d h = sum_by_more (λ e. cond (is_begun e) 1 0) es n d h

pub numbers_of : {W : Type 0} (ws : List W) (f : W → SeatState) → map (λ (s : SeatState). s.number) (map f ws) ≡ map (λ w. (f w).number) ws
numbers_of [] f = refl
numbers_of (w ∷ ws) f = ap (λ ns. (f w).number ∷ ns) (numbers_of ws f)

-- the seats that came back from the loaders are all the seats
pub seats_all : {W : Type 0} (n : ℕ) (before seats : List SeatState) (ws : List W) (f : W → SeatState) → AreNew n before → seats ≡ map f ws → map (λ w. (f w).number) ws ≡ map (λ (s : SeatState). s.number) before → AreAll n seats
seats_all n before seats ws f new are back =
    subst (AreAll n) (map-id seats) (all_back n before seats (λ s. s) (record { number = 0; begun = 0 }) new (ap (map (λ (s : SeatState). s.number)) are ∙ (numbers_of ws f ∙ back)))

pub if_ok : {T E : Type 0} {A B : T → Type 0} (r : Result T E) → ((x : T) → A x → B x) → IfOk r A → IfOk r B
if_ok (Ok x) f a = f x a
if_ok (Err e) f a = tt
