-- A plan has one check.
use Rattle.std.proofs.Common.{◌≡◌, ℕ, Bool, List, Some, map, refl, ap, sym, subst, ◌∙◌}
use Rattle.std.specs.Prelude.{slice_get}
use Rattle.std.specs.List.{All}
use Rattle.std.proofs.lemmas.List.Kept.{AllPairs-from_increasing}
use Rattle.star_label.specs.Files.{File}
use Rattle.star_plan.specs.Plan.{Faulty, Plan, StaticFault, loads_of, loaded, read_of}
use Rattle.star_plan.specs.Causes.{Cause}
use Rattle.star_sound.specs.Sound as sound
use Rattle.star_check.specs.Check.{AtFault, Fails, FailsBy, IsBarred, IsCause, IsCheck, IsFirstLack, IsSound, IsVerdict, Module, Unrun, Verdict, needs}
use Rattle.star_check.proofs.Judgements.{fault_unsound, faulty_barred, lack_unsound}
use Rattle.star_check.specs.Text.{IsCheckText, check_text}
use Rattle.star_plan.proofs.Causes.{one_cause_by}
use Rattle.star_plan.proofs.Outcomes.{one_first}
use Rattle.star_plan.proofs.Rising.{same_rising}
use Rattle.star_reply.proofs.Rows.{same_rows}

-- the first load that is not sound has one place
one_lack : (plan : Plan) (n i j : ℕ) → IsFirstLack plan n i → IsFirstLack plan n j → i ≡ j
one_lack plan n i j (ns, all, first) (ms, its, second) =
    let both : Some (Some ns) ≡ Some (Some ms) = sym all ∙ its in
    let rows : ns ≡ ms = cc in
    let a : sound.IsFirstLack (needs plan) ms i = subst (λ xs. sound.IsFirstLack (needs plan) xs i) rows first in
    one_first (IsSound plan) ms i j a.file second.file a.there second.there a.lacks second.lacks a.before second.before

one_next : (plan : Plan) (n m k : ℕ) → FailsBy plan n m → FailsBy plan n k → m ≡ k
one_next plan n m k (i, first, a) (j, second, b) =
    let same : i ≡ j = one_lack plan n i j first second in
    let at : slice_get (loaded plan n) j ≡ Some m = subst (λ x. slice_get (loaded plan n) x ≡ Some m) same a in
    let both : Some m ≡ Some k = sym at ∙ b in
    cc

-- a file with a static fault lacks nothing
no_lack : (plan : Plan) (n : ℕ) (f : StaticFault) (i : ℕ) → read_of plan n ≡ Some (Faulty f) → IsFirstLack plan n i → ⊥
no_lack plan n f i is (ns, all, first) = faulty_barred plan n f ns is all

-- a static fault ends the way
stops : (plan : Plan) (n k : ℕ) → IsBarred plan n → FailsBy plan n k → ⊥
stops plan n k (f, is) (i, first, at) = no_lack plan n f i is first

one_cause : (plan : Plan) (n : ℕ) (a b : Cause) → IsCause plan n a → IsCause plan n b → a ≡ b
one_cause plan = one_cause_by (FailsBy plan) (one_next plan) (IsBarred plan) (stops plan)

one_verdict : (plan : Plan) (n : ℕ) (v w : Verdict) → IsVerdict plan n v → IsVerdict plan n w → v ≡ w
one_verdict plan n (AtFault f) (AtFault g) x y =
    let both : Some (Faulty f) ≡ Some (Faulty g) = sym x ∙ y in
    let same : f ≡ g = cc in
    ap AtFault same
one_verdict plan n (AtFault f) (Fails d k) x y = absurd (no_lack plan n f y.1.0 x y.1.2)
one_verdict plan n (AtFault f) Unrun x y = absurd (fault_unsound plan n f x y)
one_verdict plan n (Fails c i) (AtFault g) x y = absurd (no_lack plan n g x.1.0 y x.1.2)
one_verdict plan n (Fails c i) (Fails d k) x y =
    let causes : c ≡ d = one_cause plan n c d x.0 y.0 in
    let places : x.1.0 ≡ y.1.0 = one_lack plan n x.1.0 y.1.0 x.1.2 y.1.2 in
    let at : slice_get (loads_of plan n) y.1.0 ≡ Some x.1.1 = subst (λ z. slice_get (loads_of plan n) z ≡ Some x.1.1) places x.1.3 in
    let both : Some x.1.1 ≡ Some y.1.1 = sym at ∙ y.1.3 in
    let loads : x.1.1 ≡ y.1.1 = cc in
    let lines : i ≡ k = sym x.1.4 ∙ (ap (λ l. l.line) loads ∙ y.1.4) in
    ap (λ z. Fails z i) causes ∙ ap (Fails d) lines
one_verdict plan n (Fails c i) Unrun x y = absurd (lack_unsound plan n x.1.0 x.1.2 y)
one_verdict plan n Unrun (AtFault g) x y = absurd (fault_unsound plan n g y x)
one_verdict plan n Unrun (Fails d k) x y = absurd (lack_unsound plan n y.1.0 y.1.2 x)
one_verdict plan n Unrun Unrun x y = refl

one_module : (plan : Plan) (m k : Module) → m.file ≡ k.file → IsVerdict plan m.file m.verdict → IsVerdict plan k.file k.verdict → m ≡ k
one_module plan m k files own its =
    let other : IsVerdict plan m.file k.verdict = subst (λ z. IsVerdict plan z k.verdict) (sym files) its in
    let same : m.verdict ≡ k.verdict = one_verdict plan m.file m.verdict k.verdict own other in
    ap (λ z. let r : Module = record { file = z; verdict = m.verdict } in r) files ∙ ap (λ z. let r : Module = record { file = k.file; verdict = z } in r) same

same_modules : (plan : Plan) (ms ks : List Module) → map (λ (m : Module). m.file) ms ≡ map (λ (m : Module). m.file) ks → All (λ (m : Module). IsVerdict plan m.file m.verdict) ms → All (λ (m : Module). IsVerdict plan m.file m.verdict) ks → ms ≡ ks
same_modules plan = same_rows (λ (m : Module). m.file) (λ (m : Module). IsVerdict plan m.file m.verdict) (one_module plan)

one_check : (plan : Plan) (ms ks : List Module) → IsCheck plan ms → IsCheck plan ks → ms ≡ ks
one_check plan ms ks x y =
    let ns : List ℕ = map (λ (m : Module). m.file) ms in
    let us : List ℕ = map (λ (m : Module). m.file) ks in
    same_modules plan ms ks (same_rising ns us (AllPairs-from_increasing ns x.in_order) (AllPairs-from_increasing us y.in_order) (λ n h. (y.all n).0 ((x.all n).1 h)) (λ n h. (x.all n).0 ((y.all n).1 h))) x.each y.each

pub one_check_text : (only_roots calls : Bool) (files : List File) (plan : Plan) (a b : List ℕ) → IsCheckText only_roots calls files plan a → IsCheckText only_roots calls files plan b → a ≡ b
one_check_text only_roots calls files plan a b (ms, x, e) (ks, y, g) = e ∙ (ap (check_text only_roots calls files plan.roots) (one_check plan ms ks x y) ∙ sym g)
