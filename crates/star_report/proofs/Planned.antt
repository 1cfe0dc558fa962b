-- The readings of files are those that the plan has.
use Rattle.std.proofs.Common.{arith, ◌≡◌, ◌<◌, ℕ, zero, suc, List, [], ◌∷◌, Option, length, refl, ap, sym}
use Rattle.std.specs.Prelude.{IsSome, slice_index_or}
use Rattle.std.proofs.lemmas.Bool.{true≢false}
use Rattle.star_dialect.specs.declared.Language.{Language}
use Rattle.star_label.specs.Files.{File, IsOrdered}
use Rattle.star_plan.specs.Plan.{Plan}
use Rattle.star_plan.specs.Reading.{IsPlanOf}
use Rattle.star_plan.proofs.Plans.{one-plan}
use Rattle.star_reading.specs.Found.{IsReadOf}
use Rattle.star_reading.specs.Readings.{Row, loads_at, read_at, readings}
use Rattle.star_reading.proofs.Plans.{planned_so}
use Rattle.star_report.specs.Shelf.{LeadToFiles}

-- the readings of a plan's files are those that the plan has
pub read_plan : (files : List File) (row : Row) (plan : Plan) → IsOrdered files → IsPlanOf files plan → IsReadOf files plan.roots plan.prelude plan.mode.language row → readings row ≡ plan.reads
read_plan files row plan ordered planned (block, prelude_is, rows) =
    let q : Plan = record { roots = plan.roots; prelude = plan.prelude; mode = plan.mode; reads = readings row } in
    let also : IsPlanOf files q = planned_so files block row q refl prelude_is rows in
    ap (λ (p : Plan). p.reads) (one-plan files ordered q plan also planned refl refl refl)

there : (row : Row) (n : ℕ) → IsSome (read_at row n) → n < length row
there [] n h = absurd (true≢false (sym h))
there (r ∷ row) zero h = omega arith
there (r ∷ row) (suc n) h = let less : n < length row = there row n h in omega (arith, less)

-- the loads of the read files lead to files
pub lead_to_files : (files : List File) (roots : List ℕ) (prelude : Option ℕ) (d : Language) (row : Row) → IsReadOf files roots prelude d row → LeadToFiles files row
lead_to_files files roots prelude d row (block, prelude_is, rows) n = λ i l less.
    let inside : (slice_index_or (loads_at row n) i l).file < length row = there row (slice_index_or (loads_at row n) i l).file (rows.closed.loads n i l less) in
    omega (arith, inside, rows.sized)
