-- Laws of the reports of one set of files for several sets of roots.
use Rattle.std.specs.Prelude.{◌≡◌, ◌↔◌, ◌⊎◌, ◌+◌, ◌++◌, ℕ, List, Contains, length}
use Rattle.star_label.specs.Files.{File, IsOrdered}
use Rattle.star_plan.specs.Plan.{Plan}
use Rattle.star_plan.specs.Reached.{IsReached}
use Rattle.star_plan.specs.Reading.{IsPlanOf}
use Rattle.star_plan.specs.Report.{IsReport, Module}
use Rattle.star_join.specs.Join.{Agree, InOrder, IsJoin, join, shared}

-- the number of a module's file
abbrev pub file_of : Module → ℕ
file_of m = m.file

-- ---- of the join

-- the join of two rows in order that agree is their join
abbrev pub JoinsJoin : Type 0
JoinsJoin =
    (ms ks : List Module) → InOrder file_of ms → InOrder file_of ks → Agree file_of ms ks
    → IsJoin file_of ms ks (join file_of ms ks)

-- two rows have at most one join
abbrev pub OneJoin : Type 0
OneJoin = (ms ks js is : List Module) → IsJoin file_of ms ks js → IsJoin file_of ms ks is → js ≡ is

-- a row joined with itself is that row
abbrev pub JoinsRepeat : Type 0
JoinsRepeat = (ms : List Module) → InOrder file_of ms → join file_of ms ms ≡ ms

-- rows in order that agree may be joined in either order
abbrev pub JoinsTurn : Type 0
JoinsTurn =
    (ms ks : List Module) → InOrder file_of ms → InOrder file_of ks → Agree file_of ms ks
    → join file_of ms ks ≡ join file_of ks ms

-- and three such rows in any grouping
abbrev pub JoinsGroup : Type 0
JoinsGroup =
    (ms ks js : List Module) → InOrder file_of ms → InOrder file_of ks → InOrder file_of js → Agree file_of ms ks
    → Agree file_of ms js → Agree file_of ks js
    → join file_of (join file_of ms ks) js ≡ join file_of ms (join file_of ks js)

-- the join has as many as both rows, less those that they share
abbrev pub JoinsCount : Type 0
JoinsCount =
    (ms ks : List Module) → InOrder file_of ms → InOrder file_of ks
    → length (join file_of ms ks) + shared file_of ms ks ≡ length ms + length ks

-- ---- of reports

-- a plan of files has the roots of two others, and the same prelude and mode
pub record HasRootsOf (p q r : Plan) : Type 0 where
  pub roots : r.roots ≡ p.roots ++ q.roots
  pub preludes : (p.prelude ≡ r.prelude) × (q.prelude ≡ r.prelude)
  pub modes : (p.mode ≡ r.mode) × (q.mode ≡ r.mode)

-- it reaches what they reach
abbrev pub RootsReach : Type 0
RootsReach =
    (files : List File) (p q r : Plan) → IsOrdered files → IsPlanOf files p → IsPlanOf files q → IsPlanOf files r
    → HasRootsOf p q r → (n : ℕ) → IsReached r n ↔ (IsReached p n ⊎ IsReached q n)

-- The report for the roots of two reports is their join, which agree. As many files are begun as the join has modules,
-- whatever became of them.
abbrev pub RootsJoin : Type 0
RootsJoin =
    (files : List File) (p q r : Plan) → IsOrdered files → IsPlanOf files p → IsPlanOf files q → IsPlanOf files r
    → HasRootsOf p q r → (b c d : ℕ) (ms ks js : List Module) → IsReport p b ms → IsReport q c ks → IsReport r d js
    → Agree file_of ms ks × (js ≡ join file_of ms ks) × (d + shared file_of ms ks ≡ b + c)

-- all roots of a plan are roots of another one, which has the same prelude and mode
pub record HasRootsAmong (p r : Plan) : Type 0 where
  pub roots : (n : ℕ) → Contains p.roots n → Contains r.roots n
  pub prelude : p.prelude ≡ r.prelude
  pub mode : p.mode ≡ r.mode

-- each module of the report for some roots is in each report for more roots, as it is
abbrev pub RootsGrow : Type 0
RootsGrow =
    (files : List File) (p r : Plan) → IsOrdered files → IsPlanOf files p → IsPlanOf files r → HasRootsAmong p r
    → (b d : ℕ) (ms js : List Module) → IsReport p b ms → IsReport r d js → (m : Module) → Contains ms m → Contains js m

-- so the report depends on the set of the roots alone
abbrev pub RootsAreASet : Type 0
RootsAreASet =
    (files : List File) (p q : Plan) → IsOrdered files → IsPlanOf files p → IsPlanOf files q → HasRootsAmong p q
    → HasRootsAmong q p → (b c : ℕ) (ms ks : List Module) → IsReport p b ms → IsReport q c ks → (b ≡ c) × (ms ≡ ks)
