-- The rows of read files, and a plan's readings of them.
use Rattle.std.proofs.Common.{◌≡◌, ℕ, Option, Some, None, refl, ap, sym, ◌∙◌}
use Rattle.std.specs.Prelude.{slice_get}
use Rattle.std.specs.Option.{option_map, option_flatten}
use Rattle.std.proofs.lemmas.Option.{slice_get-map}
use Rattle.star_plan.specs.Plan.{Plan, loads_of, read_of, loads_in}
use Rattle.star_reading.specs.Readings.{Row, loads_at, read_at, reading_of, readings}

flat-map : {A B : Type 0} (f : A → B) (o : Option (Option A)) → option_flatten (option_map (option_map f) o) ≡ option_map f (option_flatten o)
flat-map f None = refl
flat-map f (Some o) = refl

-- a plan's reading of a file is its reading in the row
pub read_is : (plan : Plan) (row : Row) (n : ℕ) → readings row ≡ plan.reads → read_of plan n ≡ option_map reading_of (read_at row n)
read_is plan row n e =
    ap (λ rs. option_flatten (slice_get rs n)) (sym e)
    ∙ ap option_flatten (slice_get-map (option_map reading_of) row n)
    ∙ flat-map reading_of (slice_get row n)

pub loads_are : (plan : Plan) (row : Row) (n : ℕ) → readings row ≡ plan.reads → loads_of plan n ≡ loads_at row n
loads_are plan row n e = ap loads_in (read_is plan row n e)
