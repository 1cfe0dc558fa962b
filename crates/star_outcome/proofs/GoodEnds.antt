-- The ends of files whose runs went well.
use Rattle.std.proofs.Common.{◌≡◌, ◌+◌, ◌<◌, inl, inr, ℕ, true, false, List, map, length, get_or, Option, Some, None, refl, ap, sym, ◌∙◌, subst, arith}
use Rattle.std.specs.Arc.{arc_value}
use Rattle.std.specs.Prelude.{All, Any, Contains, MatchOption, slice_get, slice_set}
use Rattle.std.proofs.lemmas.List.{get_or-map, get_or_default, length-map}
use Rattle.std.proofs.lemmas.Option.{get_or_from_slice_get, slice_get_within}
use Rattle.star_plan.specs.Plan.{Plan, loaded}
use Rattle.star_plan.specs.Reached.{IsReached}
use Rattle.star_plan.specs.Shelves.{IsOwn}
use Rattle.star_plan.proofs.Plans.{one-plan}
use Rattle.star_plan.proofs.Rows.{get_set_other, get_set_same}
use Rattle.star_reading.proofs.Finds.{by_cases, same_or_not}
use Rattle.star_outcome.specs.GoodEnds.{AreEndsAgain, AreEndsAmong, AreEndsInPlans, HaveEnd, IsEndOf, IsGoodEnd, IsLasting, IsPut, KnowsEnd, body_in}
use Rattle.star_outcome.specs.Kept.{AreModules, KeptView}
use Rattle.star_outcome.specs.Reaches.{ReachView, row_of}
use Rattle.star_outcome.specs.Views.{AreStores, IsBody, IsEnd, IsModule, ended_well}
use Rattle.star_outcome.specs.declared.good_end.GoodEnd.{GoodEnd}
use Rattle.star_outcome.specs.declared.module.Body.{Body}
use Rattle.star_outcome.specs.declared.module.Ended.{Ended}
use Rattle.star_outcome.specs.declared.module.Ended.TheVariants.{Static, Load as Unloaded, Stopped, Good}
use Rattle.star_outcome.specs.declared.module.Module.{Module}

-- ---- one module

body_is : (plan : Plan) (n : ℕ) (e : Ended) (b : Body) → body_in e ≡ Some b → IsEnd plan n e → IsBody plan n b
body_is plan n (Static f) b e is = absurd (let no : ⊥ = cc in no)
body_is plan n (Unloaded index line) b e is = absurd (let no : ⊥ = cc in no)
body_is plan n (Stopped code line lines left) b e is = absurd (let no : ⊥ = cc in no)
body_is plan n (Good body) b e is = let same : arc_value body ≡ b = cc in subst (IsBody plan n) same is

-- the store of a file among its stores is its own
own_is : (plan : Plan) (n : ℕ) (rs : List ReachView) → AreStores plan n rs → All (λ (r : ReachView). r.number ≡ n → IsOwn plan n r.store) rs
own_is plan n rs are i d less number = subst (λ k. IsOwn plan k (get_or rs i d).store) number (are.own i d less).1

-- a body lasts in its own plan
pub lasting_body : (plan : Plan) (n : ℕ) (b : Body) → IsBody plan n b → IsLasting plan n b
lasting_body plan n b is = record {
  shelf = is.shelf;
  globals = is.globals;
  outcome = is.outcome;
  own = own_is plan n (row_of b.stores) is.stores;
  paid = is.paid;
}

-- a good end with the body of its file
pub good_by : (plan : Plan) (n : ℕ) (e : GoodEnd) → e.loads.items ≡ loaded plan n → IsBody plan n (arc_value e.body) → IsGoodEnd plan n e
good_by plan n e loads body = record { loads = loads; lasting = lasting_body plan n (arc_value e.body) body; stores = λ fresh. body.stores }

-- the body of a good end that is not stale is its file's
pub fresh_body : (plan : Plan) (n : ℕ) (e : GoodEnd) → IsGoodEnd plan n e → e.is_stale ≡ false → IsBody plan n (arc_value e.body)
fresh_body plan n e is fresh = record {
  shelf = is.lasting.shelf;
  globals = is.lasting.globals;
  outcome = is.lasting.outcome;
  stores = is.stores fresh;
  paid = is.lasting.paid;
}

end_is_good : (plan : Plan) (n : ℕ) (m : Module) (e : GoodEnd) → IsModule plan n m → IsEndOf m e → IsGoodEnd plan n e
end_is_good plan n m e is end = good_by plan n e (end.loads ∙ is.loads) (body_is plan n m.ended (arc_value e.body) end.body is.ended)

-- ---- a row of ends

pub own_none : (ks : List KeptView) (es : List (Option GoodEnd)) → All (λ o. o ≡ None) es → AreEndsAmong ks es
own_none ks es none n e at =
    let inside : n < length es = slice_get_within es n (Some e) at in
    let both : Some e ≡ None = sym (get_or_from_slice_get es n (Some e) None at) ∙ none n None inside in
    absurd (let no : ⊥ = cc in no)

no_note : KeptView
no_note = record { number = 0; cell = 0; known = None }

pub own_more : (ks : List KeptView) (es after : List (Option GoodEnd)) (i : ℕ) (m : Module) → i < length ks → ((d : KeptView) → (get_or ks i d).known ≡ Some m) → m.number < length es → AreEndsAmong ks es → IsPut m es after → AreEndsAmong ks after
own_more ks es after i m less known inside own (inl (bad, same)) n e at = own n e (subst (λ xs. slice_get xs n ≡ Some (Some e)) same at)
own_more ks es after i m less known inside own (inr (end, is, same)) n e at = by_cases (same_or_not n m.number) here (λ other. own n e (sym (get_set_other es m.number n (Some end) other) ∙ there))
  where
    there : slice_get (slice_set es m.number (Some end)) n ≡ Some (Some e)
    there = subst (λ xs. slice_get xs n ≡ Some (Some e)) same at

    here : n ≡ m.number → Any (KnowsEnd n e) ks
    here number =
        let both : Some (Some end) ≡ Some (Some e) = sym (get_set_same es m.number (Some end) inside) ∙ subst (λ k. slice_get (slice_set es m.number (Some end)) k ≡ Some (Some e)) number there in
        let one : end ≡ e = cc in
        (i, get_or ks i no_note, less, get_or_default ks i (get_or ks i no_note) no_note less, (m, known no_note, sym number, subst (IsEndOf m) one is))

pub is_put : (m : Module) (es : List (Option GoodEnd)) (o : Option GoodEnd) (e : GoodEnd) → o ≡ Some e → MatchOption o (ended_well m.ended ≡ false) (IsEndOf m) → IsPut m es (slice_set es m.number (Some e))
is_put m es o e is ends = inr (e, subst (λ r. MatchOption r (ended_well m.ended ≡ false) (IsEndOf m)) is ends, refl)

abbrev Has : List (Option GoodEnd) → ℕ → Type 0
Has es n = (e : GoodEnd) × (slice_get es n ≡ Some (Some e))

put_here : (m : Module) (es after : List (Option GoodEnd)) → m.number < length es → IsPut m es after → ended_well m.ended ≡ true → Has after m.number
put_here m es after inside (inl (bad, same)) well = absurd (let no : ⊥ = cc in no)
put_here m es after inside (inr (end, is, same)) well = (end, ap (λ xs. slice_get xs m.number) same ∙ get_set_same es m.number (Some end) inside)

put_stays : (m : Module) (es after : List (Option GoodEnd)) (n : ℕ) → m.number < length es → IsPut m es after → Has es n → Has after n
put_stays m es after n inside (inl (bad, same)) (e, at) = (e, ap (λ xs. slice_get xs n) same ∙ at)
put_stays m es after n inside (inr (end, is, same)) (e, at) = by_cases (same_or_not n m.number)
    (λ number. (end, ap (λ xs. slice_get xs n) same ∙ (ap (slice_get (slice_set es m.number (Some end))) number ∙ get_set_same es m.number (Some end) inside)))
    (λ other. (e, ap (λ xs. slice_get xs n) same ∙ (get_set_other es m.number n (Some end) other ∙ at)))

pub all_more : (ks : List KeptView) (es after : List (Option GoodEnd)) (i : ℕ) (m : Module) → ((d : KeptView) → (get_or ks i d).known ≡ Some m) → m.number < length es → IsPut m es after
    → ((k : ℕ) (d : KeptView) → k < i → HaveEnd es (get_or ks k d)) → (k : ℕ) (d : KeptView) → k < i + 1 → HaveEnd after (get_or ks k d)
all_more ks es after i m known inside put before k d less it knows well = by_cases (same_or_not k i) here
    (λ other. put_stays m es after it.number inside put (before k d (omega (arith, less, other)) it knows well))
  where
    here : k ≡ i → Has after it.number
    here e =
        let both : Some m ≡ Some it = sym (known d) ∙ subst (λ j. (get_or ks j d).known ≡ Some it) e knows in
        let one : m ≡ it = cc in
        subst (λ (x : Module). Has after x.number) one (put_here m es after inside put (subst (λ (x : Module). ended_well x.ended ≡ true) (sym one) well))

-- ---- all ends of a run

abbrev number : KeptView → ℕ
number k = k.number

pub in_plans : (ks : List KeptView) (es : List (Option GoodEnd)) → AreEndsAmong ks es → AreEndsInPlans ks es
in_plans ks es own plan are n e at = turn (own n e at)
  where
    turn : Any (KnowsEnd n e) ks → IsReached plan n × IsGoodEnd plan n e × (e.is_stale ≡ false)
    turn (i, k, less, there, (m, known, of_file, end)) =
        let one = subst (λ (x : KeptView). (it : Module) × (x.known ≡ Some it) × IsModule plan x.number it) there (are.each i k less) in
        let both : Some one.0 ≡ Some m = sym one.1 ∙ known in
        let same : one.0 ≡ m = cc in
        let is : IsModule plan k.number m = subst (IsModule plan k.number) same one.2 in
        let file : k.number ≡ n = sym is.number ∙ of_file in
        let long = length-map ks number in
        let low : i < length (map number ks) = omega (arith, less, long) in
        let among : Contains (map number ks) n = (i, low, get_or-map number ks i k n less ∙ (ap number there ∙ file)) in
        ((are.reached n).1 among, end_is_good plan n m e (subst (λ x. IsModule plan x m) file is) end, end.fresh)

pub ends_again : (ks : List KeptView) (es : List (Option GoodEnd)) → AreEndsAmong ks es → AreEndsAgain ks es
ends_again ks es own files roots prelude mode ordered of_files plan planned of_roots of_prelude of_mode n e at reached =
    let p = of_files.0 in
    let same : p ≡ plan = one-plan files ordered p plan of_files.1 planned (of_files.2 ∙ sym of_roots) (of_files.3 ∙ sym of_prelude) (of_files.4 ∙ sym of_mode) in
    let are : AreModules plan ks = subst (λ x. AreModules x ks) same of_files.5 in
    (in_plans ks es own plan are n e at).1
