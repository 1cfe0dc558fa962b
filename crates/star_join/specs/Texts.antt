-- Laws of the texts of reports of one set of files for several sets of roots.
use Rattle.std.specs.Prelude.{◌≡◌, ◌+◌, ℕ, List, length}
use Rattle.std.specs.List.{filter}
use Rattle.star_label.specs.Files.{File, IsOrdered}
use Rattle.star_plan.specs.Plan.{Plan}
use Rattle.star_plan.specs.Reading.{IsPlanOf}
use Rattle.star_report.specs.Wanted.{Full, IsFullText, is_shown, whole_text}
use Rattle.star_report.specs.declared.wanted.Wanted.{Wanted}
use Rattle.star_join.specs.Join.{Agree, join, shared}
use Rattle.star_join.specs.Laws.{HasRootsOf}

-- the number of the file of a module with its further members
abbrev pub full_file : Full → ℕ
full_file f = f.shown.file

-- the modules that a report shows
abbrev pub told : Wanted → Plan → List Full → List Full
told wanted plan fulls = filter (is_shown wanted plan) fulls

-- The text for the roots of two reports has the join of their modules with all further members, and shows the join of
-- what they show, under each choice of what is wanted. It says that so many files were begun as the join has modules.
pub record AreJoined (wanted : Wanted) (files : List File) (p q r : Plan) (b c d : ℕ) (xs ys zs : List Full) (text : List ℕ) : Type 0
  where
    pub agree : Agree full_file xs ys
    pub joined : zs ≡ join full_file xs ys
    pub begun_is : d ≡ length (join full_file xs ys)
    pub begun : d + shared full_file xs ys ≡ b + c
    pub shown : told wanted r zs ≡ join full_file (told wanted p xs) (told wanted q ys)
    pub text_is : text ≡ whole_text wanted.calls wanted files r (length (join full_file xs ys)) (join full_file xs ys)

abbrev pub TextsJoin : Type 0
TextsJoin =
    (wanted : Wanted) (files : List File) (p q r : Plan) → IsOrdered files → IsPlanOf files p → IsPlanOf files q
    → IsPlanOf files r → HasRootsOf p q r
    → (a b c : List ℕ) (x : IsFullText wanted files p a) (y : IsFullText wanted files q b) (z : IsFullText wanted files r c)
    → AreJoined wanted files p q r x.begun y.begun z.begun x.fulls y.fulls z.fulls c
