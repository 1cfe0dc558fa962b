-- The law of the answer whether all is good.
use Rattle.std.specs.Prelude.{◌≡◌, ◌&&◌, Bool, List}
use Rattle.star_label.specs.Files.{File, IsOrdered}
use Rattle.star_plan.specs.Plan.{Plan}
use Rattle.star_plan.specs.Reading.{IsPlanOf}
use Rattle.star_report.specs.Output.{IsAnswer}
use Rattle.star_join.specs.Laws.{HasRootsOf}

-- the answer for the roots of two reports is that all is good in both
abbrev pub AnswersJoin : Type 0
AnswersJoin =
    (files : List File) (p q r : Plan) → IsOrdered files → IsPlanOf files p → IsPlanOf files q → IsPlanOf files r
    → HasRootsOf p q r → (one other both : Bool) → IsAnswer p one → IsAnswer q other → IsAnswer r both
    → both ≡ (one && other)
