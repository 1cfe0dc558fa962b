-- One text of the report for given options.
use Rattle.std.proofs.Common.{arith, ◌≡◌, ℕ, zero, suc, Bool, true, false, List, [], ◌∷◌, ◌-◌, Some, codes, map, refl, ap, sym, subst, ◌∙◌}
use Rattle.std.specs.List.{All}
use Rattle.serde_json.specs.Data.{Members, member, no_members, number, unsigned}
use Rattle.star_label.specs.Files.{File}
use Rattle.star_meaning.specs.Module.{Good, Local, Stopped}
use Rattle.star_meaning.specs.Run.{Done, State}
use Rattle.star_outcome.specs.Paid.{HasPaid}
use Rattle.star_plan.specs.Plan.{Plan, loaded}
use Rattle.star_plan.specs.Results.{AreGood, Outcome, Ran, Static, Unloaded}
use Rattle.star_plan.specs.Runs.{run_by_names}
use Rattle.star_plan.specs.Report.{Module}
use Rattle.star_plan.proofs.Outcomes.{one-outcome}
use Rattle.star_plan.proofs.Reports.{one-report}
use Rattle.star_report.specs.Values.{value_members}
use Rattle.star_report.specs.Wanted.{AreMore, AreWanted, Full, HasLoads, HasSteps, HasStepsAs, HasValues, followed, whole_text}
use Rattle.star_report.specs.Laws.{OneFullText}
use Rattle.star_report.specs.declared.wanted.Wanted.{Wanted}

one_values : (plan : Plan) (n : ℕ) (a b : Members) → HasValues plan n a → HasValues plan n b → a ≡ b
one_values plan n a b (o, x, e) (p, y, g) = e ∙ (ap value_members (one-outcome plan n o p x y) ∙ sym g)

one_wanted : (b : Bool) (P : Members → Type 0) → ((x y : Members) → P x → P y → x ≡ y) → (x y : Members) → AreWanted b P x → AreWanted b P y → x ≡ y
one_wanted true P h x y p q = h x y p q
one_wanted false P h x y p q = p ∙ sym q

one_loads : (files : List File) (plan : Plan) (n : ℕ) (a b : Members) → HasLoads files plan n a → HasLoads files plan n b → a ≡ b
one_loads files plan n a b x y = x ∙ sym y

-- good outcomes of the same files are the same
one_good : (plan : Plan) (ns : List ℕ) (ms ks : List Local) → AreGood plan ns ms → AreGood plan ns ks → ms ≡ ks
one_good plan [] [] [] a b = refl
one_good plan [] [] (k ∷ ks) a b = absurd b
one_good plan [] (m ∷ ms) ks a b = absurd a
one_good plan (n ∷ ns) [] ks a b = absurd a
one_good plan (n ∷ ns) (m ∷ ms) [] a b = absurd b
one_good plan (n ∷ ns) (m ∷ ms) (k ∷ ks) a b =
    let both : Ran m ≡ Ran k = one-outcome plan n (Ran m) (Ran k) a.0 b.0 in
    let head : m ≡ k = cc in
    ap (λ x. x ∷ ms) head ∙ ap (λ xs. k ∷ xs) (one_good plan ns ms ks a.2 b.2)

-- a file has paid one number of steps
one_paid : (plan : Plan) (n a b : ℕ) → HasPaid plan n a → HasPaid plan n b → a ≡ b
one_paid plan n a b x y =
    let both : Some x.statements ≡ Some y.statements = sym x.sound ∙ y.sound in
    let same : x.statements ≡ y.statements = cc in
    let outcomes : x.outcomes ≡ y.outcomes = one_good plan (loaded plan n) x.outcomes y.outcomes x.good y.good in
    let runs : Done x.ended x.state ≡ Done y.ended y.state = sym x.run ∙ (ap (λ ss. run_by_names plan n ss x.outcomes) same ∙ (ap (run_by_names plan n y.statements) outcomes ∙ y.run)) in
    let state : x.state ≡ y.state = cc in
    x.steps ∙ (ap (λ (s : State). plan.mode.steps - s.steps) state ∙ sym y.steps)

one_steps_as : (plan : Plan) (n : ℕ) (o : Outcome) (a b : Members) → HasStepsAs plan n o a → HasStepsAs plan n o b → a ≡ b
one_steps_as plan n (Ran (Good shelf globals texts lines)) a b (i, x, e) (k, y, g) = e ∙ (ap (λ m. member (codes "steps") (number (unsigned m)) no_members) (one_paid plan n i k x y) ∙ sym g)
one_steps_as plan n (Ran (Stopped f lines)) a b x y = x ∙ sym y
one_steps_as plan n (Static f) a b x y = x ∙ sym y
one_steps_as plan n (Unloaded i) a b x y = x ∙ sym y

one_steps : (plan : Plan) (n : ℕ) (a b : Members) → HasSteps plan n a → HasSteps plan n b → a ≡ b
one_steps plan n a b (o, x, e) (p, y, g) = one_steps_as plan n p a b (subst (λ q. HasStepsAs plan n q a) (one-outcome plan n o p x y) e) g

pub one_more : (wanted : Wanted) (files : List File) (plan : Plan) (n : ℕ) (a b : Members) → AreMore wanted files plan n a → AreMore wanted files plan n b → a ≡ b
one_more wanted files plan n a b (l, s, v, x, y, z, e) (m, t, w, p, q, r, g) =
    let loads : l ≡ m = one_wanted wanted.loads (HasLoads files plan n) (one_loads files plan n) l m x p in
    let steps : s ≡ t = one_wanted wanted.steps (HasSteps plan n) (one_steps plan n) s t y q in
    let values : v ≡ w = one_wanted wanted.values (HasValues plan n) (one_values plan n) v w z r in
    e ∙ (ap (λ k. followed k (followed s v)) loads ∙ (ap (λ k. followed m (followed k v)) steps ∙ (ap (λ k. followed m (followed t k)) values ∙ sym g)))

abbrev modules_in : List Full → List Module
modules_in fs = map (λ (f : Full). f.shown) fs

abbrev Mores : Wanted → List File → Plan → List Full → Type 0
Mores wanted files plan fs = All (λ (f : Full). AreMore wanted files plan f.shown.file f.more) fs

first_is : (m k : Module) (ms ks : List Module) → (let xs : List Module = m ∷ ms in xs) ≡ k ∷ ks → (m ≡ k) × (ms ≡ ks)
first_is m k ms ks e = (cc, cc)

same_fulls : (wanted : Wanted) (files : List File) (plan : Plan) (fs gs : List Full) → modules_in fs ≡ modules_in gs → Mores wanted files plan fs → Mores wanted files plan gs → fs ≡ gs
same_fulls wanted files plan [] [] e h k = refl
same_fulls wanted files plan [] (g ∷ gs) e h k = absurd (let no : ⊥ = cc in no)
same_fulls wanted files plan (f ∷ fs) [] e h k = absurd (let no : ⊥ = cc in no)
same_fulls wanted files plan (f ∷ fs) (g ∷ gs) e h k =
    let both = first_is f.shown g.shown (modules_in fs) (modules_in gs) e in
    let mine : AreMore wanted files plan f.shown.file f.more = h zero f (omega arith) in
    let yours : AreMore wanted files plan g.shown.file g.more = k zero g (omega arith) in
    let more : f.more ≡ g.more = one_more wanted files plan f.shown.file f.more g.more mine (subst (λ (m : Module). AreMore wanted files plan m.file g.more) (sym both.0) yours) in
    let one : f ≡ g = ap (λ m. let x : Full = record { shown = m; more = f.more } in x) both.0 ∙ ap (λ m. let x : Full = record { shown = g.shown; more = m } in x) more in
    ap (λ z. z ∷ fs) one ∙ ap (λ zs. g ∷ zs) (same_fulls wanted files plan fs gs both.1 (λ i d less. h (suc i) d (omega (arith, less))) (λ i d less. k (suc i) d (omega (arith, less))))

pub one_full_text : OneFullText
one_full_text wanted files plan a b x y =
    let same = one-report plan x.begun y.begun (modules_in x.fulls) (modules_in y.fulls) x.report y.report in
    let fulls : x.fulls ≡ y.fulls = same_fulls wanted files plan x.fulls y.fulls same.1 x.more y.more in
    x.text_is ∙ (ap (λ n. whole_text wanted.calls wanted files plan n x.fulls) same.0 ∙ (ap (whole_text wanted.calls wanted files plan y.begun) fulls ∙ sym y.text_is))
