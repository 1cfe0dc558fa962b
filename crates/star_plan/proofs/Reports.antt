-- One report for a plan.
use Rattle.std.proofs.Common.{arith, ◌≡◌, ◌⊎◌, ◌<◌, ℕ, zero, suc, List, [], ◌∷◌, map, length, Some, refl, ap, sym, subst, ◌∙◌, inl, inr}
use Rattle.std.specs.Prelude.{slice_get, Contains}
use Rattle.std.specs.List.{All, AllPairs}
use Rattle.std.proofs.lemmas.List.Kept.{AllPairs-from_increasing}
use Rattle.star_meaning.specs.Module.{Good, Stopped}
use Rattle.star_plan.specs.Plan.{Plan, loads_of}
use Rattle.star_plan.specs.Results.{Static, Unloaded, Ran}
use Rattle.star_plan.specs.Report.{Ended, HadFault, HadLoad, HadStatic, IsEnded, IsReport, Module, WentWell}
use Rattle.star_plan.proofs.Outcomes.{one-outcome}
use Rattle.star_plan.proofs.Causes.{one-cause}
use Rattle.star_plan.proofs.Rising.{same_rising}

pub one-ended : (plan : Plan) (n : ℕ) (a b : Ended) → IsEnded plan n a → IsEnded plan n b → a ≡ b
one-ended plan n (WentWell ts ls) (WentWell us ms) x y =
    let same : Ran (Good x.0 x.1 ts ls) ≡ Ran (Good y.0 y.1 us ms) = one-outcome plan n (Ran (Good x.0 x.1 ts ls)) (Ran (Good y.0 y.1 us ms)) x.2 y.2 in
    let texts : ts ≡ us = cc in
    let lines : ls ≡ ms = cc in
    ap (λ z. WentWell z ls) texts ∙ ap (WentWell us) lines
one-ended plan n (WentWell ts ls) (HadFault g ms) x y = absurd (let same = one-outcome plan n (Ran (Good x.0 x.1 ts ls)) (Ran (Stopped g ms)) x.2 y in let no : ⊥ = cc in no)
one-ended plan n (WentWell ts ls) (HadStatic g) x y = absurd (let same = one-outcome plan n (Ran (Good x.0 x.1 ts ls)) (Static g) x.2 y in let no : ⊥ = cc in no)
one-ended plan n (WentWell ts ls) (HadLoad d k) x y = absurd (let same = one-outcome plan n (Ran (Good x.0 x.1 ts ls)) (Unloaded y.1.0) x.2 y.1.2 in let no : ⊥ = cc in no)
one-ended plan n (HadFault f ls) (WentWell us ms) x y = absurd (let same = one-outcome plan n (Ran (Stopped f ls)) (Ran (Good y.0 y.1 us ms)) x y.2 in let no : ⊥ = cc in no)
one-ended plan n (HadFault f ls) (HadFault g ms) x y =
    let same : Ran (Stopped f ls) ≡ Ran (Stopped g ms) = one-outcome plan n (Ran (Stopped f ls)) (Ran (Stopped g ms)) x y in
    let faults : f ≡ g = cc in
    let lines : ls ≡ ms = cc in
    ap (λ z. HadFault z ls) faults ∙ ap (HadFault g) lines
one-ended plan n (HadFault f ls) (HadStatic g) x y = absurd (let same = one-outcome plan n (Ran (Stopped f ls)) (Static g) x y in let no : ⊥ = cc in no)
one-ended plan n (HadFault f ls) (HadLoad d k) x y = absurd (let same = one-outcome plan n (Ran (Stopped f ls)) (Unloaded y.1.0) x y.1.2 in let no : ⊥ = cc in no)
one-ended plan n (HadStatic f) (WentWell us ms) x y = absurd (let same = one-outcome plan n (Static f) (Ran (Good y.0 y.1 us ms)) x y.2 in let no : ⊥ = cc in no)
one-ended plan n (HadStatic f) (HadFault g ms) x y = absurd (let same = one-outcome plan n (Static f) (Ran (Stopped g ms)) x y in let no : ⊥ = cc in no)
one-ended plan n (HadStatic f) (HadStatic g) x y = let same = one-outcome plan n (Static f) (Static g) x y in let faults : f ≡ g = cc in ap HadStatic faults
one-ended plan n (HadStatic f) (HadLoad d k) x y = absurd (let same = one-outcome plan n (Static f) (Unloaded y.1.0) x y.1.2 in let no : ⊥ = cc in no)
one-ended plan n (HadLoad c i) (WentWell us ms) x y = absurd (let same = one-outcome plan n (Unloaded x.1.0) (Ran (Good y.0 y.1 us ms)) x.1.2 y.2 in let no : ⊥ = cc in no)
one-ended plan n (HadLoad c i) (HadFault g ms) x y = absurd (let same = one-outcome plan n (Unloaded x.1.0) (Ran (Stopped g ms)) x.1.2 y in let no : ⊥ = cc in no)
one-ended plan n (HadLoad c i) (HadStatic g) x y = absurd (let same = one-outcome plan n (Unloaded x.1.0) (Static g) x.1.2 y in let no : ⊥ = cc in no)
one-ended plan n (HadLoad c i) (HadLoad d k) x y =
    let causes : c ≡ d = one-cause plan n c d x.0 y.0 in
    let same = one-outcome plan n (Unloaded x.1.0) (Unloaded y.1.0) x.1.2 y.1.2 in
    let places : x.1.0 ≡ y.1.0 = cc in
    let at : slice_get (loads_of plan n) y.1.0 ≡ Some x.1.1 = subst (λ z. slice_get (loads_of plan n) z ≡ Some x.1.1) places x.1.3 in
    let both : Some x.1.1 ≡ Some y.1.1 = sym at ∙ y.1.3 in
    let loads : x.1.1 ≡ y.1.1 = cc in
    let lines : i ≡ k = sym x.1.4 ∙ (ap (λ l. l.line) loads ∙ y.1.4) in
    ap (λ z. HadLoad z i) causes ∙ ap (HadLoad d) lines

-- modules of the same files with the same ends are the same
pub same_modules : (plan : Plan) (ms ks : List Module) → map (λ m. m.file) ms ≡ map (λ m. m.file) ks → All (λ m. IsEnded plan m.file m.ended) ms → All (λ m. IsEnded plan m.file m.ended) ks → ms ≡ ks
same_modules plan [] [] e p q = refl
same_modules plan [] (k ∷ ks) e p q = absurd (let no : ⊥ = cc in no)
same_modules plan (m ∷ ms) [] e p q = absurd (let no : ⊥ = cc in no)
same_modules plan (m ∷ ms) (k ∷ ks) e p q =
    let files : m.file ≡ k.file = cc in
    let rest : map (λ x. x.file) ms ≡ map (λ x. x.file) ks = cc in
    let own : IsEnded plan m.file m.ended = p 0 m (omega arith) in
    let other : IsEnded plan m.file k.ended = subst (λ z. IsEnded plan z k.ended) (sym files) (q 0 k (omega arith)) in
    let ends : m.ended ≡ k.ended = one-ended plan m.file m.ended k.ended own other in
    let heads : m ≡ k = ap (λ z. let r : Module = record { file = z; ended = m.ended } in r) files ∙ ap (λ z. let r : Module = record { file = k.file; ended = z } in r) ends in
    let tails : ms ≡ ks = same_modules plan ms ks rest (λ i d less. p (suc i) d (omega arith)) (λ i d less. q (suc i) d (omega arith)) in
    ap (λ x. x ∷ ms) heads ∙ ap (λ xs. k ∷ xs) tails

pub one-report : (plan : Plan) (b c : ℕ) (ms ks : List Module) → IsReport plan b ms → IsReport plan c ks → (b ≡ c) × (ms ≡ ks)
one-report plan b c ms ks x y =
    let files : map (λ m. m.file) ms ≡ map (λ m. m.file) ks = same_rising (map (λ m. m.file) ms) (map (λ m. m.file) ks) (AllPairs-from_increasing (map (λ m. m.file) ms) x.in_order) (AllPairs-from_increasing (map (λ m. m.file) ks) y.in_order) (λ n h. (y.all n).0 ((x.all n).1 h)) (λ n h. (x.all n).0 ((y.all n).1 h)) in
    let same : ms ≡ ks = same_modules plan ms ks files x.each_ended y.each_ended in
    (x.begun_are ∙ (ap length same ∙ sym y.begun_are), same)
