-- The files by which files fail, as they are found among the modules of a run.
use Rattle.std.proofs.Common.{arith, ◌≡◌, ◌<◌, ◌+◌, ◌↔◌, ◌⊎◌, inl, inr, ℕ, zero, suc, List, [], map, length, replicate, Option, Some, None, refl, ap, sym, subst, ◌∙◌}
use Rattle.std.specs.Arc.{arc_value}
use Rattle.std.specs.Prelude.{All, Contains, IfSome, slice_get, slice_index_or, slice_set}
use Rattle.std.proofs.lemmas.Bool.{cases_eq}
use Rattle.std.proofs.lemmas.List.Elements.{All-contains}
use Rattle.star_meaning.specs.Module.{Good as WentWell}
use Rattle.star_plan.specs.Causes.{FailsBy}
use Rattle.star_plan.specs.Plan.{Plan, Reading, loaded, loads_in, read_of}
use Rattle.star_plan.proofs.Causes.{stops}
use Rattle.star_plan.proofs.Outcomes.{no_bad}
use Rattle.star_cause.specs.Ways.{Goes, Nexts}
use Rattle.star_plan.proofs.Rows.{get_set_other, get_set_same}
use Rattle.star_reading.specs.Codes.{fault_of}
use Rattle.star_report.specs.Fails.{AreBelow, AreFails, AreFailsBelow}
use Rattle.star_outcome.specs.Kept.{AreModules, KeptView}
use Rattle.star_outcome.specs.Views.{IsEnd, IsModule}
use Rattle.star_outcome.specs.declared.module.Ended.{Ended}
use Rattle.star_outcome.specs.declared.module.Ended.TheVariants.{Static, Load as Unloaded, Stopped, Good}
use Rattle.star_outcome.specs.declared.module.Module.{Module}
use Rattle.star_report.proofs.Tables.{no_note, note_before, note_of}

-- ---- of one module

no_load : (plan : Plan) (n m : ℕ) (e : Ended) → IsEnd plan n e → ((index line : ℕ) → e ≡ Unloaded index line → ⊥) → FailsBy plan n m → ⊥
no_load plan n m (Static f) is other fails = stops plan n m (inl (fault_of f, is)) fails
no_load plan n m (Unloaded index line) is other fails = other index line refl
no_load plan n m (Stopped code line lines trail) is other fails = stops plan n m (inr (record { code = code; line = line }, lines.items, is)) fails
no_load plan n m (Good body) is other fails = no_bad plan is.outcome.0 n (WentWell is.shelf is.globals (arc_value (arc_value body).shown) (arc_value body).lines.items) fails.0 is.outcome.1 fails.1

-- a module that ended otherwise fails by no file
pub fails_not : (it : Module) → ((index line : ℕ) → it.ended ≡ Unloaded index line → ⊥) → (plan : Plan) (n m : ℕ) → IsModule plan n it → (None ≡ Some m) ↔ FailsBy plan n m
fails_not it other plan n m is = (λ e. absurd (let no : ⊥ = cc in no), λ fails. absurd (no_load plan n m it.ended is.ended other fails))

pub next_below : (count : ℕ) (loads : List ℕ) (o : Option ℕ) → All (λ k. k < count) loads → IfSome o (Contains loads) → (m : ℕ) → o ≡ Some m → m < count
next_below count loads o all among m e = All-contains (λ k. k < count) loads m all (subst (λ r. IfSome r (Contains loads)) e among)

-- ---- of the modules so far

none_there : (count n m : ℕ) → slice_get (replicate {A = Option ℕ} count None) n ≡ Some (Some m) → ⊥
none_there zero n m is = let no : ⊥ = cc in no
none_there (suc count) zero m is = let no : ⊥ = cc in no
none_there (suc count) (suc n) m is = none_there count n m is

pub below_more : (count : ℕ) (nexts : Nexts) (n : ℕ) (o : Option ℕ) → n < length nexts → ((m : ℕ) → o ≡ Some m → m < count) → AreBelow count nexts → AreBelow count (slice_set nexts n o)
below_more count nexts n o inside low was x m goes = turn (cases_eq x n)
  where
    turn : ((x ≡ n) ⊎ (x ≡ n → ⊥)) → m < count
    turn (inl same) =
        let both : Some o ≡ Some (Some m) = sym (get_set_same nexts n o inside) ∙ (ap (slice_get (slice_set nexts n o)) (sym same) ∙ goes) in
        low m (let one : o ≡ Some m = cc in one)
    turn (inr other) = was x m (sym (get_set_other nexts n x o other) ∙ goes)

pub fails_more : (plan : Plan) (ks : List KeptView) (i n : ℕ) (nexts : Nexts) (o : Option ℕ) → ((d : KeptView) → (slice_index_or ks i d).number ≡ n) → n < length nexts → ((m : ℕ) → (o ≡ Some m) ↔ FailsBy plan n m)
    → AreFailsBelow plan ks i nexts → AreFailsBelow plan ks (i + 1) (slice_set nexts n o)
fails_more plan ks i n nexts o at inside own was = record {
  right = λ x m goes. right_at x m goes (cases_eq x n);
  all = λ k d less m fails. all_at (slice_index_or ks k d).number m fails (cases_eq (slice_index_or ks k d).number n) (λ other. was.all k d (note_before ks i n at k d less other) m fails);
}
  where
    right_at : (x m : ℕ) → Goes (slice_set nexts n o) x m → ((x ≡ n) ⊎ (x ≡ n → ⊥)) → FailsBy plan x m
    right_at x m goes (inl same) =
        let both : Some o ≡ Some (Some m) = sym (get_set_same nexts n o inside) ∙ (ap (slice_get (slice_set nexts n o)) (sym same) ∙ goes) in
        let one : o ≡ Some m = cc in
        subst (λ z. FailsBy plan z m) (sym same) ((own m).0 one)
    right_at x m goes (inr other) = was.right x m (sym (get_set_other nexts n x o other) ∙ goes)

    all_at : (x m : ℕ) → FailsBy plan x m → ((x ≡ n) ⊎ (x ≡ n → ⊥)) → ((x ≡ n → ⊥) → Goes nexts x m) → Goes (slice_set nexts n o) x m
    all_at x m fails (inl same) others =
        let one : o ≡ Some m = (own m).1 (subst (λ z. FailsBy plan z m) same fails) in
        ap (slice_get (slice_set nexts n o)) same ∙ (get_set_same nexts n o inside ∙ ap Some one)
    all_at x m fails (inr other) others = get_set_other nexts n x o other ∙ others other

-- ---- of all modules

-- a file that fails by a load was read
fails_read : (plan : Plan) (n m : ℕ) → FailsBy plan n m → (r : Reading) × (read_of plan n ≡ Some r)
fails_read plan n m (i, bad, at) = turn (read_of plan n) refl
  where
    turn : (o : Option Reading) → read_of plan n ≡ o → (r : Reading) × (read_of plan n ≡ Some r)
    turn (Some r) e = (r, e)
    turn None e =
        let none : loaded plan n ≡ [] = ap (λ r. map (λ l. l.file) (loads_in r)) e in
        let there : slice_get [] i ≡ Some m = subst (λ ns. slice_get ns i ≡ Some m) none at in
        absurd (let no : ⊥ = cc in no)

pub fails_all : (ks : List KeptView) (count : ℕ) (nexts : Nexts) → count ≡ length ks → ((plan : Plan) → AreModules plan ks → AreFailsBelow plan ks count nexts) → AreFails ks nexts
fails_all ks count nexts size so files plan planned are n m = ((so plan are).right n m, all_at)
  where
    all_at : FailsBy plan n m → Goes nexts n m
    all_at fails =
        let read = fails_read plan n m fails in
        let among = note_of plan ks n are ((planned.reached n).1 read) in
        let inside = among.1 in
        let low : among.0 < count = omega (arith, inside, size) in
        subst (λ z. Goes nexts z m) among.2 ((so plan are).all among.0 no_note low m (subst (λ z. FailsBy plan z m) (sym among.2) fails))
