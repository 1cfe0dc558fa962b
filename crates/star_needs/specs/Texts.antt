-- Laws of the ends of files: they depend on the labels, on the texts of all that the files need and on the prelude's
-- text. They do not depend on the roots, nor on any other text.
use Rattle.std.specs.Prelude.{◌≡◌, ◌↔◌, ℕ, Bool, true, List, Option}
use Rattle.star_cache.specs.State.{Loads}
use Rattle.star_dialect.specs.declared.Language.{Language}
use Rattle.star_dialect.specs.declared.Mode.{Mode}
use Rattle.star_label.specs.Files.{File, IsOrdered}
use Rattle.star_scope.specs.declared.program.Prelude.{Prelude}
use Rattle.star_scope.specs.Resolve.{outside}
use Rattle.star_plan.specs.Plan.{Plan, Reading, loaded, read_of}
use Rattle.star_plan.specs.Reached.{IsReached}
use Rattle.star_plan.specs.Reading.{IsPlanOf, IsPrelude, IsRead}
use Rattle.star_outcome.specs.Views.{IsBody, IsEnd}
use Rattle.star_outcome.specs.declared.module.Body.{Body}
use Rattle.star_outcome.specs.declared.module.Ended.{Ended}
use Rattle.star_needs.specs.Ends.{AreLoadsUnder, HaveSame, InEachPlan, IsBodyUnder, IsClosed, IsEndUnder}
use Rattle.star_needs.specs.Laws.{Among}

-- ---- of plans

-- the module of a file ends the same in two plans that agree on all that the file needs
abbrev pub OneModuleEndByNeeds : Type 0
OneModuleEndByNeeds = Among (λ p q n. (e : Ended) → IsEnd p n e ↔ IsEnd q n e)

-- two plans of files with the same labels, in one language: a file that both reach has one reading, if its text and the
-- prelude's are the same
abbrev pub OneReadingByTexts : Type 0
OneReadingByTexts =
    (files others : List File) (p q : Plan) (is_in : ℕ → Bool) → IsOrdered files → IsPlanOf files p → IsPlanOf others q
    → p.prelude ≡ q.prelude → p.mode.language ≡ q.mode.language → HaveSame is_in p.prelude files others
    → (n : ℕ) → is_in n ≡ true → IsReached p n → IsReached q n → read_of p n ≡ read_of q n

-- .. and its module has one end, if the texts of all that it needs are the same
abbrev pub OneEndByTexts : Type 0
OneEndByTexts =
    (files others : List File) (p q : Plan) (is_in : ℕ → Bool) → IsOrdered files → IsPlanOf files p → IsPlanOf others q
    → p.prelude ≡ q.prelude → p.mode ≡ q.mode → HaveSame is_in p.prelude files others
    → ((n m : ℕ) → is_in n ≡ true → Loads (loaded p) n m → is_in m ≡ true)
    → (n : ℕ) → is_in n ≡ true → IsReached p n → IsReached q n → (e : Ended) → IsEnd p n e ↔ IsEnd q n e

-- ---- of files, whatever the roots

-- the end of a file in one plan is its end in each plan of the same files, prelude and mode
abbrev pub EndsForAllRoots : Type 0
EndsForAllRoots =
    (files : List File) (plan : Plan) → IsOrdered files → IsPlanOf files plan → (n : ℕ) (e : Ended) → IsReached plan n
    → IsEnd plan n e → IsEndUnder files plan.prelude plan.mode n e

-- .. so is its body
abbrev pub BodiesForAllRoots : Type 0
BodiesForAllRoots =
    (files : List File) (plan : Plan) → IsOrdered files → IsPlanOf files plan → (n : ℕ) (b : Body) → IsReached plan n
    → IsBody plan n b → IsBodyUnder files plan.prelude plan.mode n b

-- .. and its loads
abbrev pub LoadsForAllRoots : Type 0
LoadsForAllRoots =
    (files : List File) (plan : Plan) → IsOrdered files → IsPlanOf files plan → (n : ℕ) → IsReached plan n
    → AreLoadsUnder files plan.prelude plan.mode n (loaded plan n)

-- loads of a file are those that it has in each plan
abbrev pub LoadsInPlans : Type 0
LoadsInPlans =
    (files : List File) (prelude : Option ℕ) (mode : Mode) (n : ℕ) (loads : List ℕ)
    → AreLoadsUnder files prelude mode n loads
    → InEachPlan files prelude mode n (λ plan. loads ≡ loaded plan n)

-- ---- of files that change

-- a reading of a file stays one if the labels, its own text and the prelude's stay
abbrev pub ReadingsStay : Type 0
ReadingsStay =
    (files others : List File) (prelude : Option ℕ) (is_in : ℕ → Bool) → HaveSame is_in prelude files others
    → (p : Option Prelude) (d : Language) (n : ℕ) (r : Reading) → is_in n ≡ true → IsPrelude files prelude p
    → IsRead files (outside p d) n r → IsPrelude others prelude p × IsRead others (outside p d) n r

-- so its loads stay
abbrev pub LoadsStay : Type 0
LoadsStay =
    (files others : List File) (prelude : Option ℕ) (mode : Mode) (is_in : ℕ → Bool)
    → HaveSame is_in prelude files others → (n : ℕ) (loads : List ℕ) → is_in n ≡ true
    → AreLoadsUnder files prelude mode n loads → AreLoadsUnder others prelude mode n loads

-- a fact of files that have among them all that they load stays, if the labels, their texts and the prelude's stay
abbrev pub Stays : (List File → Option ℕ → Mode → ℕ → Type 0) → Type 0
Stays P =
    (files others : List File) (prelude : Option ℕ) (mode : Mode) (is_in : ℕ → Bool) → IsOrdered files
    → HaveSame is_in prelude files others → IsClosed files prelude mode is_in
    → (n : ℕ) → is_in n ≡ true → P files prelude mode n → P others prelude mode n

-- so the ends of files stay
abbrev pub EndsStay : Type 0
EndsStay = (e : Ended) → Stays (λ files prelude mode n. IsEndUnder files prelude mode n e)

-- .. and their bodies
abbrev pub BodiesStay : Type 0
BodiesStay = (b : Body) → Stays (λ files prelude mode n. IsBodyUnder files prelude mode n b)
