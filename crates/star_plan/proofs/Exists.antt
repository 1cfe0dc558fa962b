-- Each plan of files has a report.
use Rattle.std.proofs.Common.{arith, rules, ◌≡◌, ◌+◌, ◌<◌, ◌≤◌, ◌↔◌, ℕ, zero, suc, List, [], ◌∷◌, map, length, Option, Some, None, refl, ap, sym, subst, ◌∙◌, ◌⊎◌, inl, inr}
use Rattle.std.specs.Prelude.{Contains, slice_get, slice_index}
use Rattle.std.specs.List.{All}
use Rattle.std.specs.List.Sorted.{IsStrictlyIncreasing}
use Rattle.std.specs.Option.{option_map}
use Rattle.std.proofs.lemmas.Bool.{cases_eq}
use Rattle.std.proofs.lemmas.List.Elements.{All-cons}
use Rattle.std.proofs.lemmas.Option.{slice_get-map}
use Rattle.star_cache.specs.State.{Loads}
use Rattle.star_label.specs.Files.{File}
use Rattle.star_scope.specs.declared.loads.Load.{Load}
use Rattle.star_meaning.specs.Module.{Good, Stopped}
use Rattle.star_plan.specs.Laws.{EachHasOutcome, EachHasReport}
use Rattle.star_plan.specs.Plan.{Plan, Reading, loaded, loads_of, read_of}
use Rattle.star_plan.specs.Reached.{load}
use Rattle.star_plan.specs.Reading.{IsPlanOf}
use Rattle.star_plan.specs.Report.{Ended, HadFault, HadLoad, HadStatic, IsEnded, Module, WentWell}
use Rattle.star_plan.specs.Results.{IsOutcome, Outcome, Ran, Static, Unloaded}
use Rattle.star_plan.proofs.Causes.{here, there}
use Rattle.star_plan.proofs.Chase.{WasRead, has_cause}
use Rattle.star_plan.proofs.Follow.{first_or}
use Rattle.star_plan.proofs.Options.{mapped}
use Rattle.star_plan.proofs.Settled.{has_outcome, within}

closed : (files : List File) (plan : Plan) → IsPlanOf files plan → (k m : ℕ) → WasRead plan k → Loads (loaded plan) k m → WasRead plan m
closed files plan is k m read step = (is.reached m).0 (load ((is.reached k).1 read) step)

pub each_has_outcome : EachHasOutcome
each_has_outcome files plan is n h =
    let read = (is.reached n).0 h in
    has_outcome plan n read.0 read.1

ended_by : (files : List File) (plan : Plan) → IsPlanOf files plan → (n : ℕ) → WasRead plan n → (o : Outcome) → IsOutcome plan n o → (e : Ended) × IsEnded plan n e
ended_by files plan is n read (Static f) o = (HadStatic f, o)
ended_by files plan is n read (Ran (Stopped f lines)) o = (HadFault f lines, o)
ended_by files plan is n read (Ran (Good shelf globals texts lines)) o = (WentWell texts lines, (shelf, globals, o))
ended_by files plan is n read (Unloaded i) b =
    let cause = has_cause plan (closed files plan is) n i read b in
    let at : option_map (λ (l : Load). l.file) (slice_get (loads_of plan n) i) ≡ Some b.file = sym (slice_get-map (λ (l : Load). l.file) (loads_of plan n) i) ∙ b.there in
    let one = mapped (λ (l : Load). l.file) (slice_get (loads_of plan n) i) b.file at in
    (HadLoad cause.0 one.0.line, (cause.1, (i, one.0, b, one.1, refl)))

ended_of : (files : List File) (plan : Plan) → IsPlanOf files plan → (n : ℕ) → WasRead plan n → (e : Ended) × IsEnded plan n e
ended_of files plan is n read =
    let outcome = has_outcome plan n read.0 read.1 in
    ended_by files plan is n read outcome.0 outcome.1

abbrev file_of : Module → ℕ
file_of m = m.file

-- the modules of the files that were read, from a number on
record From (plan : Plan) (n : ℕ) : Type 0 where
  modules : List Module
  rises : IsStrictlyIncreasing (map file_of modules)
  each : (j : ℕ) → Contains (map file_of modules) j ↔ ((n ≤ j) × WasRead plan j)
  ended : All (λ m. IsEnded plan m.file m.ended) modules

-- a number below all that rise
rises_too : (x : ℕ) (xs : List ℕ) → IsStrictlyIncreasing xs → ((j : ℕ) → Contains xs j → x < j) → IsStrictlyIncreasing (x ∷ xs)
rises_too x [] rises below k less = absurd (let no : ⊥ = omega (arith, less) in no)
rises_too x (y ∷ ys) rises below zero less = below y (here y ys)
rises_too x (y ∷ ys) rises below (suc k) less =
    let same : suc (k + 1) ≡ suc k + 1 = omega arith in
    subst (λ z. slice_index (y ∷ ys) k < slice_index (x ∷ y ∷ ys) z) same (rises k (omega (arith, less)))

added : (files : List File) (plan : Plan) → IsPlanOf files plan → (n : ℕ) (r : Reading) → read_of plan n ≡ Some r → From plan (suc n) → From plan n
added files plan is n r e f =
    let one = ended_of files plan is n (r, e) in
    let m : Module = record { file = n; ended = one.0 } in
    record {
      modules = m ∷ f.modules;
      rises = rises_too n (map file_of f.modules) f.rises (λ j h. let up = ((f.each j).0 h).0 in omega (arith, up));
      each = λ j. (λ h. into j (first_or n j (map file_of f.modules) h), λ h. onto j h.1 (cases_eq n j) h.0);
      ended = All-cons (λ x. IsEnded plan x.file x.ended) m f.modules one.1 f.ended;
    }
  where
    into : (j : ℕ) → ((n ≡ j) ⊎ Contains (map file_of f.modules) j) → (n ≤ j) × WasRead plan j
    into j (inl same) = (omega (arith, same), subst (WasRead plan) same (r, e))
    into j (inr h) = let up = (f.each j).0 h in let less : suc n ≤ j = up.0 in (omega (arith, less), up.1)

    onto : (j : ℕ) → WasRead plan j → ((n ≡ j) ⊎ (n ≡ j → ⊥)) → n ≤ j → Contains (n ∷ map file_of f.modules) j
    onto j read (inl same) less = subst (λ z. Contains (n ∷ map file_of f.modules) z) same (here n (map file_of f.modules))
    onto j read (inr other) less = there n j (map file_of f.modules) ((f.each j).1 (omega (arith, other, less), read))

skipped : (plan : Plan) (n : ℕ) → read_of plan n ≡ None → From plan (suc n) → From plan n
skipped plan n e f = record { modules = f.modules; rises = f.rises; each = λ j. (λ h. into j ((f.each j).0 h), λ h. onto j (cases_eq n j) h.0 h.1); ended = f.ended }
  where
    into : (j : ℕ) → (suc n ≤ j) × WasRead plan j → (n ≤ j) × WasRead plan j
    into j h = let less : suc n ≤ j = h.0 in (omega (arith, less), h.1)

    onto : (j : ℕ) → ((n ≡ j) ⊎ (n ≡ j → ⊥)) → n ≤ j → WasRead plan j → Contains (map file_of f.modules) j
    onto j (inl same) less read =
        let both : None ≡ Some read.0 = sym e ∙ (ap (read_of plan) same ∙ read.1) in
        absurd (let no : ⊥ = cc in no)
    onto j (inr other) less read = (f.each j).1 (omega (arith, other, less), read)

modules_from : (files : List File) (plan : Plan) → IsPlanOf files plan → (k n : ℕ) → n + k ≡ length plan.reads → From plan n
modules_from files plan is zero n e = record {
  modules = [];
  rises = λ k less. absurd (let no : ⊥ = omega (arith, less) in no);
  each = λ j. (λ h. absurd (let no : ⊥ = omega (arith, h.1) in no), λ h. absurd (past j h.0 (within plan j h.1.0 h.1.1)));
  ended = none;
}
  where
    past : (j : ℕ) → n ≤ j → j < length plan.reads → ⊥
    past j up less = omega (arith, up, less, e)

    none : All (λ m. IsEnded plan m.file m.ended) (let ms : List Module = [] in ms)
    none = search (rules)
modules_from files plan is (suc k) n e = turn (read_of plan n) refl (modules_from files plan is k (suc n) (omega (arith, e)))
  where
    turn : (o : Option Reading) → read_of plan n ≡ o → From plan (suc n) → From plan n
    turn None at f = skipped plan n at f
    turn (Some r) at f = added files plan is n r at f

pub each_has_report : EachHasReport
each_has_report files plan is =
    let f = modules_from files plan is (length plan.reads) 0 (omega arith) in (
      length f.modules,
      f.modules,
      record {
        begun_are = refl;
        in_order = f.rises;
        all = λ n. (λ h. (f.each n).1 (omega arith, (is.reached n).0 h), λ h. (is.reached n).1 ((f.each n).0 h).1);
        each_ended = f.ended;
      },
    )
