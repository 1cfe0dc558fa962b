-- A way as it grows, and the facts at its end.
use Rattle.std.proofs.Common.{arith, ◌≡◌, ◌≢◌, ◌<◌, ◌≤◌, ◌+◌, ◌⊎◌, inl, inr, ℕ, List, [], ◌∷◌, ◌++◌, length, get_or, Some, None, refl, ap, sym, subst, ◌∙◌}
use Rattle.std.specs.Prelude.{All, Contains, slice_get, slice_set}
use Rattle.std.proofs.lemmas.Bool.{cases_lt}
use Rattle.std.proofs.lemmas.List.{get_or_append_left, get_or_push, get_or-set_other, get_or-set_same, length-set, length_push}
use Rattle.std.proofs.lemmas.List.Elements.{All-push, Contains-append_left, Contains-get_or, Contains-push, Contains-push_cases}
use Rattle.star_outline.specs.Definitions.{AllDiffer}
use Rattle.star_outline.proofs.Differ.{differ_pushed}
use Rattle.star_plan.proofs.Causes.{here}
use Rattle.star_cause.specs.declared.ends.End.{End}
use Rattle.star_cause.specs.declared.ends.End.TheVariants.{Last}
use Rattle.star_cause.specs.declared.ends.WalkEnd.TheVariants.{Known, Met}
use Rattle.star_cause.specs.Ends.{AreEnds, AreNoted, AreWithin, Ends, IsFresh, IsKnown, IsWalked}
use Rattle.star_cause.specs.Ways.{Goes, Nexts, Way}
use Rattle.star_cause.proofs.Apart.{differ_short}
use Rattle.star_cause.proofs.Rings.{known_ends, last_ends, met_ends}
use Rattle.star_cause.proofs.Ways.{joined, next_on}

-- the way from the file n has these files, whose ends are not known, and has come to the file `at`
pub record OnWay (nexts : Nexts) (ends : Ends) (n : ℕ) (files places : List ℕ) (at : ℕ) : Type 0 where
  pub way : Way nexts n files at
  pub differ : AllDiffer files
  pub noted : AreNoted files places
  pub fresh : All (IsFresh ends) files
  pub inside : All (λ x. x < length nexts) files
  pub file : at < length nexts
  pub long : length places ≡ length nexts

-- ---- one file more

noted_push : (files places : List ℕ) (at : ℕ) → AreNoted files places → (Contains files at → ⊥) → at < length places → AreNoted (files ++ at ∷ []) (slice_set places at (length files))
noted_push files places at noted off inside k h = turn (cases_lt k (length files))
  where
    long : length (files ++ at ∷ []) ≡ length files + 1
    long = length_push files at

    turn : ((k < length files) ⊎ (length files ≤ k)) → get_or (slice_set places at (length files)) (get_or (files ++ at ∷ []) k 0) 0 ≡ k
    turn (inl less) =
        let front : get_or (files ++ at ∷ []) k 0 ≡ get_or files k 0 = get_or_append_left files (at ∷ []) 0 k less in
        let other : get_or files k 0 ≢ at = λ e. off (subst (λ z. Contains files z) e (Contains-get_or files k 0 less)) in
        let stays : get_or (slice_set places at (length files)) (get_or files k 0) 0 ≡ get_or places (get_or files k 0) 0 = get_or-set_other places at (get_or files k 0) (length files) 0 other in
        ap (λ z. get_or (slice_set places at (length files)) z 0) front ∙ (stays ∙ noted k less)
    turn (inr more) =
        let end : length files ≡ k = omega (arith, more, h, long) in
        let last : get_or (files ++ at ∷ []) k 0 ≡ at = get_or_push files at 0 k end in
        ap (λ z. get_or (slice_set places at (length files)) z 0) last ∙ (get_or-set_same places at (length files) 0 inside ∙ end)

pub went_on : (nexts : Nexts) (ends : Ends) (n : ℕ) (files places : List ℕ) (at next : ℕ) → AreWithin nexts → IsFresh ends at → (Contains files at → ⊥) → Goes nexts at next → OnWay nexts ends n files places at
    → OnWay nexts ends n (files ++ at ∷ []) (slice_set places at (length files)) next
went_on nexts ends n files places at next within fresh off goes is =
    let file : at < length nexts = is.file in
    let long : length places ≡ length nexts = is.long in
    let inside : at < length places = omega (arith, file, long) in
    record {
      way = joined nexts n at next files (at ∷ []) is.way (refl, (next, goes, refl));
      differ = differ_pushed files at is.differ off;
      noted = noted_push files places at is.noted off inside;
      fresh = All-push (IsFresh ends) files at is.fresh fresh;
      inside = All-push (λ x. x < length nexts) files at is.inside is.file;
      file = within at next goes;
      long = length-set places at (length files) ∙ is.long;
    }

-- some of the files are not on the way
pub room : (nexts : Nexts) (ends : Ends) (n : ℕ) (files places : List ℕ) (at : ℕ) → (Contains files at → ⊥) → OnWay nexts ends n files places at → length files < length nexts
room nexts ends n files places at off is =
    let more : length (files ++ at ∷ []) ≤ length nexts = differ_short (files ++ at ∷ []) (length nexts) (differ_pushed files at is.differ off) (All-push (λ x. x < length nexts) files at is.inside is.file) in
    let long : length (files ++ at ∷ []) ≡ length files + 1 = length_push files at in
    omega (arith, more, long)

-- ---- its end

-- a way begins at its first file, if it has one
begins : (nexts : Nexts) (n m : ℕ) (files : List ℕ) → Way nexts n files m → (n ≡ m → ⊥) ⊎ (0 < length files) → Contains files n
begins nexts n m [] way (inl other) = absurd (other way)
begins nexts n m [] way (inr some) = absurd (let no : ⊥ = omega (arith, some) in no)
begins nexts n m (x ∷ xs) way any = subst (λ z. Contains (x ∷ xs) z) (sym way.0) (here x xs)

pub stopped_known : (nexts : Nexts) (ends : Ends) (n : ℕ) (files places : List ℕ) (at : ℕ) (e : End) → AreEnds nexts ends → IsFresh ends n → slice_get ends at ≡ Some (Some e) → OnWay nexts ends n files places at → IsWalked nexts ends n files (Known e)
stopped_known nexts ends n files places at e are fresh known is = record {
  starts = begins nexts n at files is.way (inl other);
  within = is.inside;
  place = tt;
  right = known_ends nexts ends are n at files e known is.way is.differ is.fresh;
  closed = λ x k h g. turn k (next_on nexts n at files is.way x k h g);
}
  where
    other : n ≡ at → ⊥
    other same =
        let both : Some None ≡ Some (Some e) = sym fresh ∙ (ap (slice_get ends) same ∙ known) in
        let no : ⊥ = cc in
        no

    turn : (k : ℕ) → (Contains files k ⊎ (at ≡ k)) → Contains files k ⊎ IsKnown ends k
    turn k (inl h) = inl h
    turn k (inr same) = inr (subst (IsKnown ends) same (e, known))

pub stopped_met : (nexts : Nexts) (ends : Ends) (n : ℕ) (files places : List ℕ) (at p : ℕ) → p < length files → get_or files p 0 ≡ at → OnWay nexts ends n files places at → IsWalked nexts ends n files (Met p)
stopped_met nexts ends n files places at p less back is = record {
  starts = begins nexts n at files is.way (inr (omega (arith, less)));
  within = is.inside;
  place = less;
  right = met_ends nexts n at files p less back is.way is.differ;
  closed = λ x k h g. turn k (next_on nexts n at files is.way x k h g);
}
  where
    turn : (k : ℕ) → (Contains files k ⊎ (at ≡ k)) → Contains files k ⊎ IsKnown ends k
    turn k (inl h) = inl h
    turn k (inr same) = inl (subst (λ z. Contains files z) (back ∙ same) (Contains-get_or files p 0 less))

pub stopped_last : (nexts : Nexts) (ends : Ends) (n : ℕ) (files places : List ℕ) (at : ℕ) → slice_get nexts at ≡ Some None → OnWay nexts ends n files places at → IsWalked nexts ends n (files ++ at ∷ []) (Known (Last at))
stopped_last nexts ends n files places at last is = record {
  starts = first files is.way;
  within = All-push (λ x. x < length nexts) files at is.inside is.file;
  place = tt;
  right = last_ends nexts n at files is.way none;
  closed = λ x k h g. inl (turn x k g (Contains-push_cases files at x h));
}
  where
    none : (k : ℕ) → Goes nexts at k → ⊥
    none k goes =
        let both : Some None ≡ Some (Some k) = sym last ∙ goes in
        let no : ⊥ = cc in
        no

    first : (xs : List ℕ) → Way nexts n xs at → Contains (xs ++ at ∷ []) n
    first [] way = subst (λ z. Contains (at ∷ []) z) (sym way) (here at [])
    first (x ∷ xs) way = subst (λ z. Contains (x ∷ (xs ++ at ∷ [])) z) (sym way.0) (here x (xs ++ at ∷ []))

    onto : (k : ℕ) → (Contains files k ⊎ (at ≡ k)) → Contains (files ++ at ∷ []) k
    onto k (inl h) = Contains-append_left files (at ∷ []) k h
    onto k (inr same) = subst (λ z. Contains (files ++ at ∷ []) z) same (Contains-push files at)

    turn : (x k : ℕ) → Goes nexts x k → (Contains files x ⊎ (at ≡ x)) → Contains (files ++ at ∷ []) k
    turn x k g (inl h) = onto k (next_on nexts n at files is.way x k h g)
    turn x k g (inr same) = absurd (none k (subst (λ z. Goes nexts z k) (sym same) g))
