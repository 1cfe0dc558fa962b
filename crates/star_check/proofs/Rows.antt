-- The verdicts on the files of a row, by their readings.
use Rattle.std.proofs.Common.{arith, ◌≡◌, ◌<◌, ◌≤◌, ◌+◌, ◌⊎◌, inl, inr, ℕ, List, [], ◌∷◌, ◌++◌, length, length-append, map, Option, Some, None, refl, ap, sym, subst, ◌∙◌}
use denote.Ref.{Bor}
use Rattle.std.specs.Prelude.{All, IfSome, MatchOption, slice_get}
use Rattle.std.specs.List.{HoldsAt}
use Rattle.std.specs.Option.{option_flatten, option_map}
use Rattle.std.proofs.lemmas.Bool.{cases_eq, cases_lt}
use Rattle.std.proofs.lemmas.List.{get_or_append_left, get_or_push, length-map, map_push}
use Rattle.std.proofs.lemmas.List.Elements.{All-map, All-push}
use Rattle.std.proofs.lemmas.Option.{get_or_from_slice_get, slice_get-get_or, slice_get-map, slice_get_within}
use Rattle.star_dialect.specs.declared.Dialect.TheVariants.{Core}
use Rattle.star_label.specs.Files.{File}
use Rattle.star_scope.specs.declared.loads.Load.{Load}
use Rattle.star_plan.specs.Plan.{Plan, Reading, loaded, loads_of, read_of}
use Rattle.star_plan.specs.Reached.{IsReached}
use Rattle.star_plan.specs.Reading.{IsPlanOf}
use Rattle.star_cause.specs.declared.cause.Cause.{Cause}
use Rattle.star_cause.specs.Causes.{cause_of}
use Rattle.star_cause.specs.Ways.{EndsIn, Goes, Nexts}
use Rattle.star_reading.specs.Readings.{InReadPlans, LeadWithin, Row, loads_at, read_at, reading_of, readings}
use Rattle.star_reading.specs.declared.code.StaticFault.{StaticFault as Fault}
use Rattle.star_reading.specs.declared.reading.Read.{Read}
use Rattle.star_reading.specs.declared.reading.Read.TheVariants as read
use Rattle.star_reading.proofs.Finds.{by_cases}
use Rattle.star_reading.specs.Listed.{AreListed}
use Rattle.star_reading.proofs.Listed.{listed_more, listed_on}
use Rattle.star_reading.proofs.Rows.{loads_are, read_is}
use Rattle.star_sound.specs.Sound as sound
use Rattle.star_sound.specs.declared.sound.Prospect.{Prospect}
use Rattle.star_sound.specs.declared.sound.Prospect.TheVariants as prospect
use Rattle.star_check.specs.Check as check
use Rattle.star_check.specs.Check.{FailsBy, IsCheck, IsFirstLack, IsSound, IsVerdict, needs, needs_in}
use Rattle.star_check.specs.Judged.{AreNexts, AreProspects, IsCheckBelow}
use Rattle.star_check.proofs.Judgements.{cause_is, lack_unsound, needs_loaded, unbarred}

-- ---- the load by which a file fails

abbrev pub IsAt : List Load → ℕ → Option (Bor Load) → Type 0
IsAt ls place r = MatchOption r (length ls ≤ place) (λ y. (place < length ls) × HoldsAt (λ z. y.now ≡ z) ls place)

pub load_none : (row : Row) (n place : ℕ) (r : Option (Bor Load)) → IsAt (loads_at row n) place r → r ≡ None → InReadPlans row (λ plan. sound.IsProspect (needs plan) n (prospect.Lacks place) → ⊥)
load_none row n place (Some y) is e = absurd (let no : ⊥ = cc in no)
load_none row n place None is e = λ plan read lack.
    let ns = lack.0 in
    let has = lack.1 in
    let first = lack.2 in
    let at : slice_get (loaded plan n) place ≡ Some first.file = subst (λ l. slice_get l place ≡ Some first.file) (needs_loaded plan n ns has) first.there in
    let within = slice_get_within (loaded plan n) place first.file at in
    let long = length-map (loads_of plan n) (λ (l : Load). l.file) in
    let same = ap length (loads_are plan row n read) in
    omega (arith, within, long, same, is)

-- the file of that load
pub next_fails : (plan : Plan) (n : ℕ) (l : Load) → (i : ℕ) × IsFirstLack plan n i × (slice_get (loads_of plan n) i ≡ Some l) → FailsBy plan n l.file
next_fails plan n l (i, lack, at) = (i, lack, slice_get-map (λ (x : Load). x.file) (loads_of plan n) i ∙ ap (option_map (λ (x : Load). x.file)) at)

-- ---- the next files of a row

push_at : {X : Type 0} (xs : List X) (x : X) (k : ℕ) (y : X) → slice_get (xs ++ x ∷ []) k ≡ Some y → ((k < length xs) × (slice_get xs k ≡ Some y)) ⊎ ((k ≡ length xs) × (x ≡ y))
push_at xs x k y at = by_cases (cases_lt k (length xs))
    (λ less. inl (less, slice_get-get_or xs k y less ∙ ap Some (sym (get_or_append_left xs (x ∷ []) y k less) ∙ get_or_from_slice_get (xs ++ x ∷ []) k y y at)))
    (λ more.
    let inside = slice_get_within (xs ++ x ∷ []) k y at in
    let size = length-append xs (x ∷ []) in
    let last : k ≡ length xs = omega (arith, inside, size, more) in
    inr (last, sym (get_or_push xs x y k (sym last)) ∙ get_or_from_slice_get (xs ++ x ∷ []) k y y at))

pub push_old : {X : Type 0} (xs : List X) (x : X) (k : ℕ) (y : X) → slice_get xs k ≡ Some y → slice_get (xs ++ x ∷ []) k ≡ Some y
push_old xs x k y at =
    let less = slice_get_within xs k y at in
    let long = length-append xs (x ∷ []) in
    slice_get-get_or (xs ++ x ∷ []) k y (omega (arith, less, long)) ∙ ap Some (get_or_append_left xs (x ∷ []) y k less ∙ get_or_from_slice_get xs k y y at)

pub push_last : {X : Type 0} (xs : List X) (x : X) (k : ℕ) → length xs ≡ k → slice_get (xs ++ x ∷ []) k ≡ Some x
push_last xs x k long =
    let size = length-append xs (x ∷ []) in
    slice_get-get_or (xs ++ x ∷ []) k x (omega (arith, size, long)) ∙ ap Some (get_or_push xs x x k long)

-- the facts on the next files of the first `count` files
pub record AreNextsBelow (row : Row) (ps : List Prospect) (count : ℕ) (nexts : Nexts) : Type 0 where
  pub size : length nexts ≡ count
  pub within : (n m : ℕ) → Goes nexts n m → m < length row
  pub right : InReadPlans row (λ plan. AreProspects row ps → (n m : ℕ) → Goes nexts n m → FailsBy plan n m)
  pub all : InReadPlans row (λ plan. AreProspects row ps → (n i : ℕ) → n < count → slice_get ps n ≡ Some (prospect.Lacks i) → (m : ℕ) × Goes nexts n m)

pub nexts_more : (row : Row) (ps : List Prospect) (count : ℕ) (nexts later : Nexts) (p : Prospect) (o : Option ℕ) → AreNextsBelow row ps count nexts → slice_get ps count ≡ Some p → later ≡ nexts ++ o ∷ []
    → IfSome o (λ m. m < length row) → IfSome o (λ m. InReadPlans row (λ plan. sound.IsProspect (needs plan) count p → FailsBy plan count m))
    → (o ≡ None → InReadPlans row (λ plan. sound.IsProspect (needs plan) count p → (i : ℕ) → p ≡ prospect.Lacks i → ⊥)) → AreNextsBelow row ps (count + 1) later
nexts_more row ps count nexts later p o were here e inside fails none = record {
  size = ap length e ∙ (let l = length-append nexts (o ∷ []) in let s = were.size in omega (arith, l, s));
  within = λ n m at. by_cases (split n m at) (λ old. were.within n m old.1) (λ new. within_of o m inside new.1);
  right = λ plan read are n m at. by_cases (split n m at) (λ old. were.right plan read are n m old.1)
      (λ new. subst (λ k. FailsBy plan k m) (sym (new.0 ∙ were.size)) (fails_of o m fails new.1 plan read (are plan read count p here)));
  all = λ plan read are n i less at. by_cases (cases_eq n count)
      (λ same. next_of plan read are i (subst (λ k. slice_get ps k ≡ Some (prospect.Lacks i)) same at) n same)
      (λ ne. let old = were.all plan read are n i (omega (arith, less, ne)) at in (old.0, subst (λ l. slice_get l n ≡ Some (Some old.0)) (sym e) (push_old nexts o n (Some old.0) old.1)));
}
  where
    split : (n m : ℕ) → Goes later n m → ((n < length nexts) × Goes nexts n m) ⊎ ((n ≡ length nexts) × (o ≡ Some m))
    split n m at = push_at nexts o n (Some m) (subst (λ l. slice_get l n ≡ Some (Some m)) e at)

    within_of : (q : Option ℕ) (m : ℕ) → IfSome q (λ x. x < length row) → q ≡ Some m → m < length row
    within_of None m h is = absurd (let no : ⊥ = cc in no)
    within_of (Some x) m h is = subst (λ y. y < length row) (let same : x ≡ m = cc in same) h

    fails_of : (q : Option ℕ) (m : ℕ) → IfSome q (λ x. InReadPlans row (λ plan. sound.IsProspect (needs plan) count p → FailsBy plan count x)) → q ≡ Some m → InReadPlans row (λ plan. sound.IsProspect (needs plan) count p → FailsBy plan count m)
    fails_of None m h is = absurd (let no : ⊥ = cc in no)
    fails_of (Some x) m h is = λ plan read at. subst (FailsBy plan count) (let same : x ≡ m = cc in same) (h plan read at)

    there : (q : Option ℕ) → o ≡ q → (plan : Plan) → readings row ≡ plan.reads → AreProspects row ps → (i : ℕ) → p ≡ prospect.Lacks i → (m : ℕ) × (o ≡ Some m)
    there None is plan read are i same = absurd (none is plan read (are plan read count p here) i same)
    there (Some m) is plan read are i same = (m, is)

    next_of : (plan : Plan) → readings row ≡ plan.reads → AreProspects row ps → (i : ℕ) → slice_get ps count ≡ Some (prospect.Lacks i) → (n : ℕ) → n ≡ count → (m : ℕ) × Goes later n m
    next_of plan read are i at n same =
        let both : Some p ≡ Some (prospect.Lacks i) = sym here ∙ at in
        let is : p ≡ prospect.Lacks i = cc in
        let found = there o refl plan read are i is in
        (found.0, subst (λ l. slice_get l n ≡ Some (Some found.0)) (sym e) (push_last nexts o n (were.size ∙ sym same) ∙ ap Some found.1))

pub nexts_all : (row : Row) (ps : List Prospect) (count : ℕ) (nexts : Nexts) → count ≡ length ps → AreNextsBelow row ps count nexts → AreNexts row ps nexts
nexts_all row ps count nexts end were = record {
  right = were.right;
  all = λ plan read are n i at. were.all plan read are n i (let less = slice_get_within ps n (prospect.Lacks i) at in omega (arith, less, end)) at;
}

-- ---- verdicts

-- a program with nothing known against it is sound
pub verdict_unrun : (row : Row) (plan : Plan) (n : ℕ) (r : Read) (p : Prospect) → readings row ≡ plan.reads → read_at row n ≡ Some r → ((f : Fault) → r ≡ read.Fault f → ⊥) → sound.IsProspect (needs plan) n p
    → ((i : ℕ) → p ≡ prospect.Lacks i → ⊥) → IsSound plan n
verdict_unrun row plan n (read.Fault f) p is at sane has none = absurd (sane f refl)
verdict_unrun row plan n (read.Program q) prospect.Barred is at sane has none =
    let its = unbarred plan n (reading_of (read.Program q)) (read_is plan row n is ∙ ap (option_map reading_of) at) (λ f e. let no : ⊥ = cc in no) in
    absurd (has its.0 its.1)
verdict_unrun row plan n (read.Program q) prospect.Sound is at sane has none = has
verdict_unrun row plan n (read.Program q) (prospect.Lacks i) is at sane has none = absurd (none i refl)

pub verdict_fails : (files : List File) (row : Row) (plan : Plan) (ps : List Prospect) (nexts : Nexts) (n : ℕ) (p : Prospect) (c : Cause) (l : Load) → IsPlanOf files plan → readings row ≡ plan.reads → length ps ≡ length row → IsReached plan n
    → AreProspects row ps → AreNexts row ps nexts → EndsIn nexts n (cause_of c) → (i : ℕ) × IsFirstLack plan n i × (slice_get (loads_of plan n) i ≡ Some l) → IsVerdict plan n (check.Fails (cause_of c) l.line)
verdict_fails files row plan ps nexts n p c l planned is size reached are nexts_are ends (i, lack, at) =
    let long : length ps ≡ length plan.reads = size ∙ (sym (length-map row (option_map reading_of)) ∙ ap length is) in (
      cause_is files plan nexts ps planned long (are plan is) (nexts_are.right plan is are) (nexts_are.all plan is are) n (cause_of c) ends reached (lack_unsound plan n i lack),
      (i, l, lack, at, refl),
    )

-- ---- the check

abbrev files_of : List check.Module → List ℕ
files_of ms = map (λ (m : check.Module). m.file) ms

-- a file that is not reached is passed by
pub check_on : (plan : Plan) (n : ℕ) (ms : List check.Module) → (IsReached plan n → ⊥) → IsCheckBelow plan n ms → IsCheckBelow plan (n + 1) ms
check_on plan n ms never is = record { listed = listed_on plan n (files_of ms) never is.listed; each = is.each }

-- a reached file has its verdict in the check
pub check_more : (plan : Plan) (n : ℕ) (ms : List check.Module) (m : check.Module) → m.file ≡ n → IsReached plan n → IsVerdict plan m.file m.verdict → IsCheckBelow plan n ms → IsCheckBelow plan (n + 1) (ms ++ m ∷ [])
check_more plan n ms m at reached verdict is = record {
  listed = subst (AreListed plan (n + 1)) (sym (map_push (λ (x : check.Module). x.file) ms m)) (listed_more plan n (files_of ms) m.file at reached is.listed);
  each = All-push (λ (x : check.Module). IsVerdict plan x.file x.verdict) ms m is.each verdict;
}

-- the read files are reached, and no others
pub is_reached : (files : List File) (row : Row) (plan : Plan) (n : ℕ) (r : Read) → IsPlanOf files plan → readings row ≡ plan.reads → read_at row n ≡ Some r → IsReached plan n
is_reached files row plan n r planned is at = (planned.reached n).1 (reading_of r, read_is plan row n is ∙ ap (option_map reading_of) at)

pub not_reached : (files : List File) (row : Row) (plan : Plan) (n : ℕ) → IsPlanOf files plan → readings row ≡ plan.reads → read_at row n ≡ None → IsReached plan n → ⊥
not_reached files row plan n planned is at reached =
    let there = (planned.reached n).0 reached in
    let none : read_of plan n ≡ None = read_is plan row n is ∙ ap (option_map reading_of) at in
    let both : None ≡ Some there.0 = sym none ∙ there.1 in
    let no : ⊥ = cc in
    no

-- all files were passed
pub check_all : (files : List File) (row : Row) (plan : Plan) (n : ℕ) (ms : List check.Module) → IsPlanOf files plan → readings row ≡ plan.reads → n ≡ length row → IsCheckBelow plan n ms → IsCheck plan ms
check_all files row plan n ms planned is end below = record {
  in_order = below.listed.in_order;
  all = λ m. (λ r. below.listed.all m r (inside m r), below.listed.reached m);
  each = below.each;
}
  where
    reading_within : (m : ℕ) (o : Option (Option Reading)) (r : Reading) → slice_get plan.reads m ≡ o → option_flatten o ≡ Some r → m < length plan.reads
    reading_within m None r at e = absurd (let no : ⊥ = cc in no)
    reading_within m (Some x) r at e = slice_get_within plan.reads m x at

    inside : (m : ℕ) → IsReached plan m → m < n
    inside m r =
        let there = (planned.reached m).0 r in
        let less = reading_within m (slice_get plan.reads m) there.0 refl there.1 in
        let long = sym (ap length is) ∙ length-map row (option_map reading_of) in
        omega (arith, less, long, end)

-- ---- the needs of the files of a row

-- each needed file is in the row
pub rows_within : (row : Row) (rows : sound.Needs) → rows ≡ map needs_in (readings row) → LeadWithin row → sound.AreWithin rows
rows_within row rows e lead n ns has =
    let plan : Plan = record { roots = []; prelude = None; mode = record { steps = 0; language = record { dialect = Core; recorded = [] } }; reads = readings row } in
    let its : sound.NeedsAll (needs plan) n ns = subst (λ rs. sound.NeedsAll rs n ns) e has in
    let same : ns ≡ map (λ (l : Load). l.file) (loads_at row n) = needs_loaded plan n ns its ∙ ap (map (λ (l : Load). l.file)) (loads_are plan row n refl) in
    let size : length rows ≡ length row = ap length e ∙ (length-map (readings row) needs_in ∙ length-map row (option_map reading_of)) in
    subst (λ ms. All (λ m. m < length rows) ms) (sym same)
    (subst (λ k. All (λ m. m < k) (map (λ (l : Load). l.file) (loads_at row n))) (sym size) (All-map (λ m. m < length row) (λ (l : Load). l.file) (loads_at row n) (lead n)))

pub rows_size : (row : Row) (rows : sound.Needs) → rows ≡ map needs_in (readings row) → length rows ≡ length row
rows_size row rows e = ap length e ∙ (length-map (readings row) needs_in ∙ length-map row (option_map reading_of))

-- the prospects of the files
pub are_prospects : (row : Row) (rows : sound.Needs) (ps : List Prospect) → rows ≡ map needs_in (readings row) → ((n : ℕ) (p : Prospect) → slice_get ps n ≡ Some p → sound.IsProspect rows n p) → AreProspects row ps
are_prospects row rows ps e each plan read n p at = subst (λ rs. sound.IsProspect rs n p) (e ∙ ap (map needs_in) read) (each n p at)
