-- The modules of a run, by the numbers of their files.
use Rattle.std.proofs.Common.{arith, ◌≡◌, ◌<◌, ◌≤◌, ◌+◌, ◌⊎◌, inl, inr, ℕ, zero, suc, List, map, length, replicate, Option, Some, None, ap, sym, subst, ◌∙◌}
use denote.Ref.{Bor}
use Rattle.std.specs.Prelude.{IfSome, slice_get, slice_index_or, slice_set}
use Rattle.std.proofs.lemmas.Bool.{cases_eq, cases_lt}
use Rattle.std.proofs.lemmas.List.{get_or-map, length-map}
use Rattle.std.proofs.lemmas.List.Elements.{All-set}
use Rattle.star_plan.proofs.Rows.{get_set_other, get_set_same}
use Rattle.star_outcome.specs.Kept.{AreModules, KeptView}
use Rattle.star_outcome.specs.Views.{IsModule}
use Rattle.star_outcome.specs.declared.module.Module.{Module}
use Rattle.star_plan.specs.Plan.{Plan}
use Rattle.star_plan.specs.Reached.{IsReached}
use Rattle.star_report.specs.Drawn.{IsTableWithin}
use Rattle.star_report.specs.Table.{HasModule, IsTable, IsTableBelow, Table}

-- ---- the notes of a run

pub no_note : KeptView
no_note = record { number = 0; cell = 0; known = None }

-- up to a note of this file, a note of another file is an earlier one
pub note_before : (ks : List KeptView) (i n : ℕ) → ((d : KeptView) → (slice_index_or ks i d).number ≡ n) → (k : ℕ) (d : KeptView) → k < i + 1 → ((slice_index_or ks k d).number ≡ n → ⊥) → k < i
note_before ks i n at k d less other = turn (cases_lt k i)
  where
    turn : ((k < i) ⊎ (i ≤ k)) → k < i
    turn (inl below) = below
    turn (inr above) =
        let same : k ≡ i = omega (arith, less, above) in
        absurd (other (ap (λ j. (slice_index_or ks j d).number) same ∙ at d))

-- the note of a file that is reached
pub note_of : (plan : Plan) (ks : List KeptView) (n : ℕ) → AreModules plan ks → IsReached plan n → (k : ℕ) × (k < length ks) × ((slice_index_or ks k no_note).number ≡ n)
note_of plan ks n are reached =
    let among = (are.reached n).0 reached in
    let long = length-map ks (λ (k : KeptView). k.number) in
    let less : among.0 < length (map (λ (k : KeptView). k.number) ks) = among.1 in
    let inside : among.0 < length ks = omega (arith, less, long) in
    (among.0, inside, sym (get_or-map (λ (k : KeptView). k.number) ks among.0 no_note n inside) ∙ among.2)

-- ---- the table

none_there : (count n : ℕ) (m : Bor Module) → slice_get (replicate {A = Option (Bor Module)} count None) n ≡ Some (Some m) → ⊥
none_there zero n m is = let no : ⊥ = cc in no
none_there (suc count) zero m is = let no : ⊥ = cc in no
none_there (suc count) (suc n) m is = none_there count n m is

pub table_more : (plan : Plan) (ks : List KeptView) (i n : ℕ) (table : Table) (m : Bor Module) → ((d : KeptView) → (slice_index_or ks i d).number ≡ n) → n < length table → IsReached plan n → IsModule plan n m.now
    → IsTableBelow plan ks i table → IsTableBelow plan ks (i + 1) (slice_set table n (Some m))
table_more plan ks i n table m at inside reached own was = record {
  right = λ x y is. right_at x y is (cases_eq x n);
  all = λ k d less. all_at (slice_index_or ks k d).number (cases_eq (slice_index_or ks k d).number n) (λ other. was.all k d (note_before ks i n at k d less other));
}
  where
    here : slice_get (slice_set table n (Some m)) n ≡ Some (Some m)
    here = get_set_same table n (Some m) inside

    right_at : (x : ℕ) (y : Bor Module) → slice_get (slice_set table n (Some m)) x ≡ Some (Some y) → ((x ≡ n) ⊎ (x ≡ n → ⊥)) → IsReached plan x × IsModule plan x y.now
    right_at x y is (inl same) =
        let both : Some (Some m) ≡ Some (Some y) = sym here ∙ (ap (slice_get (slice_set table n (Some m))) (sym same) ∙ is) in
        let one : m ≡ y = cc in
        (subst (IsReached plan) (sym same) reached, subst (λ z. IsModule plan z y.now) (sym same) (subst (λ (z : Bor Module). IsModule plan n z.now) one own))
    right_at x y is (inr other) = was.right x y (sym (get_set_other table n x (Some m) other) ∙ is)

    all_at : (x : ℕ) → ((x ≡ n) ⊎ (x ≡ n → ⊥)) → ((x ≡ n → ⊥) → HasModule plan table x) → HasModule plan (slice_set table n (Some m)) x
    all_at x (inl same) others = subst (HasModule plan (slice_set table n (Some m))) (sym same) (m, here, own)
    all_at x (inr other) others =
        let old = others other in
        (old.0, get_set_other table n x (Some m) other ∙ old.1, old.2)

pub table_all : (plan : Plan) (ks : List KeptView) (count : ℕ) (table : Table) → count ≡ length ks → AreModules plan ks → IsTableBelow plan ks count table → IsTable plan table
table_all plan ks count table size are is = record { right = is.right; all = all_at }
  where
    all_at : (n : ℕ) → IsReached plan n → HasModule plan table n
    all_at n reached =
        let among = note_of plan ks n are reached in
        let inside = among.1 in
        let low : among.0 < count = omega (arith, inside, size) in
        subst (HasModule plan table) among.2 (is.all among.0 no_note low)

pub within_more : (count : ℕ) (table : Table) (n : ℕ) (m : Bor Module) → m.now.number < count → IsTableWithin count table → IsTableWithin count (slice_set table n (Some m))
within_more count table n m less all = All-set (λ (o : Option (Bor Module)). IfSome o (λ x. x.now.number < count)) table n (Some m) less all
