-- Readings that stay when files change.
use Rattle.std.proofs.Common.{◌≡◌, ◌≢◌, ◌<◌, ◌≤◌, ◌+◌, ◌⊎◌, ℕ, zero, suc, List, [], ◌∷◌, ◌++◌, length, Option, Some, None, Ok, get_or, slice_get, refl, sym, subst, ap, ◌∙◌, inl, inr, arith}
use Rattle.std.specs.Prelude.{IfSome, slice_set}
use Rattle.std.proofs.lemmas.Bool.{cases_order}
use Rattle.std.proofs.lemmas.List.{get_or-set_other, get_or-set_same, length-set}
use Rattle.std.proofs.lemmas.Option.{get_or_from_slice_get, slice_get-get_or, slice_get_within}
use Rattle.star_dialect.specs.declared.Language.{Language}
use Rattle.star_label.specs.Files.{File, text_at}
use Rattle.star_parser.specs.Sources.{Parses}
use Rattle.star_scope.specs.Resolve.{Outside, outside}
use Rattle.star_plan.specs.Plan.{Faulty}
use Rattle.star_reading.specs.Codes.{fault_of}
use Rattle.star_reading.specs.Parsed.{AreParsesOf, IsParsed, ParsedView}
use Rattle.star_reading.specs.Readings.{IsPlaceOf, IsReadAs, Row}
use Rattle.star_reading.specs.declared.reading.Read.{Read}
use Rattle.star_reading.specs.declared.reading.Read.TheVariants as read
use Rattle.star_reading.proofs.Finds.{by_cases, same_or_not}
use Rattle.star_needs.proofs.Moves.{length_same, no_text, prelude_to, read_to, resolved_to}
use Rattle.star_memo.specs.Outcomes.{HaveLabels}
use Rattle.star_memo.specs.Readings.{AreKnown, AreLeft, AreReadings, StayIn}
use Rattle.star_memo.specs.declared.readings.Readings.{Readings}

-- ---- a row of entries, below a number

pub record LeftBelow {A : Type 0} (before files : List File) (n : ℕ) (old new : List (Option A)) : Type 0 where
  pub there : (k : ℕ) (x : A) → slice_get new k ≡ Some (Some x) → slice_get old k ≡ Some (Some x)
  pub texts : (k : ℕ) (x : A) → k < n → slice_get new k ≡ Some (Some x) → text_at before k ≡ text_at files k
  pub stay : (k : ℕ) (x : A) → text_at before k ≡ text_at files k → slice_get old k ≡ Some (Some x) → slice_get new k ≡ Some (Some x)

pub none_left : {A : Type 0} (before files : List File) (row : List (Option A)) → LeftBelow before files 0 row row
none_left before files row = record {
  there = λ k x h. h;
  texts = λ k x less h. absurd (omega (arith, less));
  stay = λ k x t h. h;
}

pub one_stays : {A : Type 0} (before files : List File) (n : ℕ) (old new : List (Option A)) → text_at before n ≡ text_at files n → LeftBelow before files n old new → LeftBelow before files (n + 1) old new
one_stays before files n old new text left = record {
  there = left.there;
  texts = λ k x less h. by_cases (same_or_not k n)
      (λ e. subst (λ i. text_at before i ≡ text_at files i) (sym e) text)
      (λ ne. left.texts k x (omega (arith, less, ne)) h);
  stay = left.stay;
}

pub one_goes : {A : Type 0} (before files : List File) (n : ℕ) (old new after : List (Option A)) → text_at before n ≢ text_at files n → ((x : A) → slice_get after n ≢ Some (Some x)) → ((m : ℕ) → m ≢ n → slice_get after m ≡ slice_get new m) → LeftBelow before files n old new → LeftBelow before files (n + 1) old after
one_goes {A = A} before files n old new after other gone others left = record {
  there = λ k x h. left.there k x (was k x h);
  texts = λ k x less h. left.texts k x (below k x less h) (was k x h);
  stay = λ k x text h. others k (λ e. other (subst (λ i. text_at before i ≡ text_at files i) e text)) ∙ left.stay k x text h;
}
  where
    differs : (k : ℕ) (x : A) → slice_get after k ≡ Some (Some x) → k ≢ n
    differs k x h e = gone x (subst (λ i. slice_get after i ≡ Some (Some x)) e h)

    was : (k : ℕ) (x : A) → slice_get after k ≡ Some (Some x) → slice_get new k ≡ Some (Some x)
    was k x h = sym (others k (differs k x h)) ∙ h

    below : (k : ℕ) (x : A) → k < n + 1 → slice_get after k ≡ Some (Some x) → k < n
    below k x less h = let ne = differs k x h in omega (arith, less, ne)

-- below the number of the files, and beyond it there are no texts
pub all_left : {A : Type 0} (before files : List File) (n : ℕ) (old new : List (Option A)) → HaveLabels before files → length files ≤ n → LeftBelow before files n old new → AreLeft before files old new
all_left before files n old new labels all left = record {
  there = left.there;
  texts = λ k x h. by_cases (below_or_not k n) (λ less. left.texts k x less h) (λ far. beyond k far);
  stay = left.stay;
}
  where
    below_or_not : (k m : ℕ) → (k < m) ⊎ (m ≤ k)
    below_or_not k m = by_cases (cases_order k m) (λ e. inr (omega (arith, e))) (λ o. by_cases o (λ less. inl less) (λ more. inr (omega (arith, more))))

    beyond : (k : ℕ) → n ≤ k → text_at before k ≡ text_at files k
    beyond k far =
        let size : length before ≡ length files = length_same before files labels in
        no_text before k (omega (arith, size, far, all)) ∙ sym (no_text files k (omega (arith, far, all)))

-- ---- both rows of readings, below a number

pub record StayBelow (before files : List File) (n : ℕ) (old new : Readings) : Type 0 where
  pub prelude : new.prelude ≡ old.prelude
  pub language : new.language ≡ old.language
  pub reads : LeftBelow before files n old.reads.all.items new.reads.all.items
  pub parses : LeftBelow before files n old.parses.items new.parses.items

pub none_stay : (before files : List File) (r : Readings) → StayBelow before files 0 r r
none_stay before files r = record { prelude = refl; language = refl; reads = none_left before files r.reads.all.items; parses = none_left before files r.parses.items }

pub more_stay : (before files : List File) (n : ℕ) (old new : Readings) → text_at before n ≡ text_at files n → StayBelow before files n old new → StayBelow before files (n + 1) old new
more_stay before files n old new text s = record {
  prelude = s.prelude;
  language = s.language;
  reads = one_stays before files n old.reads.all.items new.reads.all.items text s.reads;
  parses = one_stays before files n old.parses.items new.parses.items text s.parses;
}

pub all_stay : (before files : List File) (n : ℕ) (old new : Readings) → HaveLabels before files → length files ≤ n → StayBelow before files n old new → StayIn before files old new
all_stay before files n old new labels all s = record {
  reads = all_left before files n old.reads.all.items new.reads.all.items labels all s.reads;
  parses = all_left before files n old.parses.items new.parses.items labels all s.parses;
}

-- ---- entries at their places

at_place : {A : Type 0} (row : List A) (n : ℕ) (d x : A) → n < length row → get_or row n d ≡ x → slice_get row n ≡ Some x
at_place row n d x less h = slice_get-get_or row n d less ∙ ap Some h

-- an empty place at the end
pub none_more : {A : Type 0} (row : List (Option A)) (n : ℕ) (x : A) → slice_get (row ++ None ∷ []) n ≡ Some (Some x) → slice_get row n ≡ Some (Some x)
none_more [] zero x h = absurd (let no : ⊥ = cc in no)
none_more [] (suc n) x h = h
none_more (y ∷ ys) zero x h = h
none_more (y ∷ ys) (suc n) x h = none_more ys n x h

-- ---- readings of files whose texts stay

module _ (before files : List File) (labels : HaveLabels before files) where
  read_stays : (block : Outside) (n : ℕ) (r : Read) → text_at before n ≡ text_at files n → IsReadAs before block n r → IsReadAs files block n r
  read_stays block n (read.Program p) text (tree, parses, are, resolves) = (tree, subst (λ t. Parses t (Ok tree)) text parses, are, resolved_to before files labels n block tree.statements p resolves)
  read_stays block n (read.Fault f) text is = read_to before files labels block n (Faulty (fault_of f)) text is

  place_stays : (block : Outside) (n : ℕ) (o : Option Read) → ((r : Read) → o ≡ Some r → IsReadAs files block n r) → IsPlaceOf files block n o
  place_stays block n None h = tt
  place_stays block n (Some r) h = h r refl

  pub known_stay : (prelude : Option ℕ) (m : Language) (old new : Row) → ((q : ℕ) → prelude ≡ Some q → text_at before q ≡ text_at files q) → AreLeft before files old new → AreKnown before prelude m old → AreKnown files prelude m new
  known_stay prelude m old new same left known = λ block is n d less. place_stays (outside block m) n (get_or new n d) (λ r e.
      let at = at_place new n d (Some r) less e in
      let was = left.there n r at in
      let entry = known block (prelude_to files before prelude block (λ q h. sym (same q h)) is) n d (slice_get_within old n (Some r) was) in
      read_stays (outside block m) n r (left.texts n r at) (subst (λ o. IsPlaceOf before (outside block m) n o) (get_or_from_slice_get old n (Some r) d was) entry))

-- ---- results of parsing

parsed_stays : (text : List ℕ) (o : Option ParsedView) → ((v : ParsedView) → o ≡ Some v → IsParsed text v) → IfSome o (IsParsed text)
parsed_stays text None h = tt
parsed_stays text (Some v) h = h v refl

-- whatever is there was there before, for a file with the same text
parses_left : (before files : List File) (old new : List (Option ParsedView)) → ((n : ℕ) (v : ParsedView) → slice_get new n ≡ Some (Some v) → slice_get old n ≡ Some (Some v)) → ((n : ℕ) (v : ParsedView) → slice_get new n ≡ Some (Some v) → text_at before n ≡ text_at files n) → AreParsesOf before old → AreParsesOf files new
parses_left before files old new there texts are = λ n d less. parsed_stays (text_at files n) (get_or new n d) (λ v e.
    let at = at_place new n d (Some v) less e in
    let was = there n v at in
    let entry = are n d (slice_get_within old n (Some v) was) in
    let parsed = subst (λ o. IfSome o (IsParsed (text_at before n))) (get_or_from_slice_get old n (Some v) d was) entry in
    subst (λ t. IsParsed t v) (texts n v at) parsed)

pub parses_stay : (before files : List File) (old new : List (Option ParsedView)) → AreLeft before files old new → AreParsesOf before old → AreParsesOf files new
parses_stay before files old new left are = parses_left before files old new left.there left.texts are

pub parses_same : (files : List File) (old new : List (Option ParsedView)) → ((n : ℕ) (v : ParsedView) → slice_get new n ≡ Some (Some v) → slice_get old n ≡ Some (Some v)) → AreParsesOf files old → AreParsesOf files new
parses_same files old new there are = parses_left files files old new there (λ n v h. refl) are

-- one more result
pub parse_set : (files : List File) (row : List (Option ParsedView)) (k : ℕ) (v : ParsedView) → k < length row → IsParsed (text_at files k) v → AreParsesOf files row → AreParsesOf files (slice_set row k (Some v))
parse_set files row k v inside is all n d h = by_cases (same_or_not n k) here other
  where
    here : n ≡ k → IfSome (get_or (slice_set row k (Some v)) n d) (IsParsed (text_at files n))
    here same =
        let at : IfSome (get_or (slice_set row k (Some v)) k d) (IsParsed (text_at files k)) = subst (λ o. IfSome o (IsParsed (text_at files k))) (sym (get_or-set_same row k (Some v) d inside)) is in
        subst (λ i. IfSome (get_or (slice_set row k (Some v)) i d) (IsParsed (text_at files i))) (sym same) at

    other : n ≢ k → IfSome (get_or (slice_set row k (Some v)) n d) (IsParsed (text_at files n))
    other ne = subst (λ o. IfSome o (IsParsed (text_at files n))) (sym (get_or-set_other row k n (Some v) d ne)) (all n d (let e = length-set row k (Some v) in omega (arith, e, h)))

-- ---- all readings

pub readings_stay : (before files : List File) (prelude : Option ℕ) (old new : Readings) → HaveLabels before files → ((q : ℕ) → prelude ≡ Some q → text_at before q ≡ text_at files q) → old.prelude ≡ prelude → new.prelude ≡ old.prelude → new.language ≡ old.language → StayIn before files old new → AreReadings before old → AreReadings files new
readings_stay before files prelude old new labels text was same languages stay are = record {
  reads = known_stay before files labels new.prelude new.language old.reads.all.items new.reads.all.items (λ q e. text q (sym was ∙ sym same ∙ e)) stay.reads (subst (λ p. AreKnown before p new.language old.reads.all.items) (sym same) (subst (λ d. AreKnown before old.prelude d old.reads.all.items) (sym languages) are.reads));
  parses = parses_stay before files old.parses.items new.parses.items stay.parses are.parses;
}
