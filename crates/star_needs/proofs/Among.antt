-- Two plans that agree on all that some files need have a part in common, and these files have the same runs, results,
-- outcomes, modules and ends in each plan and in that part.
use Rattle.std.proofs.Common.{◌≡◌, ◌↔◌, ℕ, zero, suc, ◌+◌, Bool, true, false, List, [], ◌∷◌, arith, map, Option, Some, None, refl, ap, sym, subst, ◌∙◌, if◌then◌else◌}
use Rattle.std.specs.Prelude.{Contains, slice_get}
use Rattle.std.specs.Option.{option_flatten}
use Rattle.star_cache.specs.State.{Loads}
use Rattle.star_label.specs.Files.{File}
use Rattle.star_meaning.specs.Module.{Local}
use Rattle.star_plan.specs.Plan.{Plan, Reading, loaded, loads_in, read_of, tree_in}
use Rattle.star_plan.specs.Reading.{IsPlanOf}
use Rattle.star_plan.specs.Report.{IsEnded}
use Rattle.star_plan.specs.Results.{AreGood, IsOutcome, Outcome, Ran}
use Rattle.star_plan.specs.Shelves.{IsOwn}
use Rattle.star_plan.proofs.Causes.{here, there}
use Rattle.star_needs.specs.Agree.{AgreeAmong, IsPartOf}
use Rattle.star_needs.specs.Laws.{OneEndByNeeds, OneModuleByNeeds, OneOutcomeByNeeds, OneResultByNeeds, OneRunByNeeds}
use Rattle.star_needs.proofs.Needs.{Agree, AllRunsAgree, ended_by_needs, outcome_by_needs, own_by_needs, result_by_needs}
use Rattle.star_needs.proofs.Portions.{part_agrees, parts_run}

-- the readings of these files alone
abbrev pub kept : (ℕ → Bool) → ℕ → List (Option Reading) → List (Option Reading)
kept is_in i [] = []
kept is_in i (r ∷ rs) = (if is_in i then r else None) ∷ kept is_in (i + 1) rs

pub at_kept : (is_in : ℕ → Bool) (i : ℕ) (rs : List (Option Reading)) (k : ℕ) → option_flatten (slice_get (kept is_in i rs) k) ≡ (if is_in (i + k) then option_flatten (slice_get rs k) else None)
at_kept is_in i [] k = nothing (is_in (i + k))
  where
    nothing : (b : Bool) → None ≡ (let o : Option Reading = if b then None else None in o)
    nothing true = refl
    nothing false = refl
at_kept is_in i (r ∷ rs) zero =
    let e : i ≡ i + 0 = omega arith in
    ap (λ j. let o : Option Reading = if is_in j then r else None in o) e
at_kept is_in i (r ∷ rs) (suc k) =
    let e : (i + 1) + k ≡ i + suc k = omega arith in
    at_kept is_in (i + 1) rs k ∙ ap (λ j. if is_in j then option_flatten (slice_get rs k) else None) e

abbrev pub common : (ℕ → Bool) → Plan → Plan
common is_in p = record p { reads = kept is_in 0 p.reads }

common_is : (is_in : ℕ → Bool) (p : Plan) (k : ℕ) → read_of (common is_in p) k ≡ (if is_in k then read_of p k else None)
common_is is_in p k =
    let e : 0 + k ≡ k = omega arith in
    at_kept is_in 0 p.reads k ∙ ap (λ j. if is_in j then read_of p k else None) e

kept_by : (b : Bool) (o : Option Reading) (r : Reading) → (if b then o else None) ≡ Some r → (b ≡ true) × (o ≡ Some r)
kept_by true o r e = (refl, e)
kept_by false o r e = absurd (let no : ⊥ = cc in no)

pub in_common : (is_in : ℕ → Bool) (p : Plan) (k : ℕ) (r : Reading) → read_of (common is_in p) k ≡ Some r → (is_in k ≡ true) × (read_of p k ≡ Some r)
in_common is_in p k r e = kept_by (is_in k) (read_of p k) r (sym (common_is is_in p k) ∙ e)

pub to_common : (is_in : ℕ → Bool) (p : Plan) (k : ℕ) → is_in k ≡ true → read_of (common is_in p) k ≡ read_of p k
to_common is_in p k e = common_is is_in p k ∙ ap (λ b. if b then read_of p k else None) e

common_closed : (is_in : ℕ → Bool) (p q : Plan) → AgreeAmong is_in p q → (n m : ℕ) (r : Reading) → read_of (common is_in p) n ≡ Some r → Loads (loaded (common is_in p)) n m → (x : Reading) × (read_of (common is_in p) m ≡ Some x)
common_closed is_in p q a n m r e step =
    let is = in_common is_in p n r e in
    let loads : Loads (loaded p) n m = subst (λ z. Contains (map (λ l. l.file) (loads_in z)) m) (to_common is_in p n is.0) step in
    let within : is_in m ≡ true = a.closed n m is.0 loads in
    let read = a.read m within in
    (read.0, to_common is_in p m within ∙ read.1)

part_one : (is_in : ℕ → Bool) (p q : Plan) → AgreeAmong is_in p q → IsPartOf (common is_in p) p
part_one is_in p q a = record { mode = refl; prelude = refl; reads = λ n r e. (in_common is_in p n r e).1; closed = common_closed is_in p q a }

part_two : (is_in : ℕ → Bool) (p q : Plan) → AgreeAmong is_in p q → IsPartOf (common is_in p) q
part_two is_in p q a = record { mode = a.mode; prelude = a.prelude; reads = λ n r e. (let is = in_common is_in p n r e in sym (a.reads n is.0) ∙ is.1); closed = common_closed is_in p q a }

-- a plan and a part of it agree
abbrev Sames : Plan → Plan → ℕ → Type 0
Sames part whole n = Agree part whole n × AllRunsAgree part whole n

same_one : (files : List File) (p q : Plan) → IsPlanOf files p → (is_in : ℕ → Bool) → AgreeAmong is_in p q → (n : ℕ) → is_in n ≡ true → Sames (common is_in p) p n
same_one files p q is is_in a n h =
    let read = a.read n h in
    let of = part_one is_in p q a in
    (part_agrees (common is_in p) p of n read.0 (to_common is_in p n h ∙ read.1), λ k way. parts_run files (common is_in p) p is of k)

same_two : (others : List File) (p q : Plan) → IsPlanOf others q → (is_in : ℕ → Bool) → AgreeAmong is_in p q → (n : ℕ) → is_in n ≡ true → Sames (common is_in p) q n
same_two others p q is is_in a n h =
    let read = a.read n h in
    let of = part_two is_in p q a in
    (part_agrees (common is_in p) q of n read.0 (to_common is_in p n h ∙ read.1), λ k way. parts_run others (common is_in p) q is of k)

-- good outcomes stay good if each outcome stays
pub good_over : (p q : Plan) (ns : List ℕ) (ms : List Local) → ((k : ℕ) → Contains ns k → (o : Outcome) → IsOutcome p k o → IsOutcome q k o) → AreGood p ns ms → AreGood q ns ms
good_over p q [] [] to g = tt
good_over p q [] (m ∷ ms) to g = g
good_over p q (n ∷ ns) [] to g = g
good_over p q (n ∷ ns) (m ∷ ms) to (is, well, g) = (to n (here n ns) (Ran m) is, well, good_over p q ns ms (λ k c. to k (there n k ns c)) g)

pub one_run_by_needs : OneRunByNeeds
one_run_by_needs files others p q is also is_in a n h ss ms sound g =
    let one = same_one files p q is is_in a n h in
    let two = same_two others p q also is_in a n h in
    let read = to_common is_in p n h in
    let loads : loaded p n ≡ loaded (common is_in p) n = ap (λ r. map (λ l. l.file) (loads_in r)) (sym read) in
    let outcomes : (k : ℕ) → Contains (loaded p n) k → (o : Outcome) → IsOutcome p k o → IsOutcome (common is_in p) k o = λ k c o. (let low = same_one files p q is is_in a k (a.closed n k h c) in (outcome_by_needs (common is_in p) p k low.0 low.1 o).1) in
    let good : AreGood (common is_in p) (loaded (common is_in p) n) ms = subst (λ ns. AreGood (common is_in p) ns ms) loads (good_over p (common is_in p) (loaded p n) ms outcomes g) in
    let tree : tree_in (read_of (common is_in p) n) ≡ Some ss = ap tree_in read ∙ sound in
    sym (one.1 n (0, refl) ss ms tree good) ∙ two.1 n (0, refl) ss ms tree good

pub one_result_by_needs : OneResultByNeeds
one_result_by_needs files others p q is also is_in a n h d =
    let one = same_one files p q is is_in a n h in
    let two = same_two others p q also is_in a n h in
    sym (result_by_needs (common is_in p) p n one.0 one.1 d) ∙ result_by_needs (common is_in p) q n two.0 two.1 d

-- a fact that depends only on the readings and runs that a file needs is the same in both plans
across : (files others : List File) (p q : Plan) → IsPlanOf files p → IsPlanOf others q → (is_in : ℕ → Bool) → AgreeAmong is_in p q → (n : ℕ) → is_in n ≡ true → (P : Plan → Type 0) → ((r s : Plan) → Agree r s n → AllRunsAgree r s n → P r ↔ P s) → P p ↔ P q
across files others p q is also is_in a n h P by =
    let one = same_one files p q is is_in a n h in
    let two = same_two others p q also is_in a n h in
    let x = by (common is_in p) p one.0 one.1 in
    let y = by (common is_in p) q two.0 two.1 in
    (λ z. y.0 (x.1 z), λ z. x.0 (y.1 z))

pub one_outcome_by_needs : OneOutcomeByNeeds
one_outcome_by_needs files others p q is also is_in a n h o = across files others p q is also is_in a n h (λ r. IsOutcome r n o) (λ r s i j. outcome_by_needs r s n i j o)

pub one_module_by_needs : OneModuleByNeeds
one_module_by_needs files others p q is also is_in a n h m = across files others p q is also is_in a n h (λ r. IsOwn r n m) (λ r s i j. own_by_needs r s n i j m)

pub one_end_by_needs : OneEndByNeeds
one_end_by_needs files others p q is also is_in a n h e = across files others p q is also is_in a n h (λ r. IsEnded r n e) (λ r s i j. ended_by_needs r s n i j e)
