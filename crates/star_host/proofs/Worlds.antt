-- All reached files of a row that has all that it needs are files.
use Rattle.std.proofs.Common.{◌≡◌, ◌<◌, ℕ, List, length, get_or, ap, ◌∙◌, subst, arith}
use Rattle.std.specs.Prelude.{All, Contains}
use Rattle.std.specs.Option.{option_map}
use Rattle.std.proofs.lemmas.List.{get_or_default}
use Rattle.star_label.specs.Files.{File}
use Rattle.star_plan.specs.Plan.{Plan}
use Rattle.star_plan.specs.Reached.{root}
use Rattle.star_reading.specs.Found.{IsClosed}
use Rattle.star_reading.specs.Readings.{Row, read_at, reading_of, readings}
use Rattle.star_reading.proofs.Plans.{load_read, reached_read, root_read}
use Rattle.star_reading.proofs.PlacesRead.{read_within, some_of}
use Rattle.star_reading.proofs.Rows.{read_is}
use Rattle.star_outcome.specs.Fits.{IsAsked, IsWithin}

pub closed_within : (files : List File) (plan : Plan) (row : Row) → readings row ≡ plan.reads → length row ≡ length files → IsClosed row plan.roots → IsWithin files plan
closed_within files plan row is fits c = record {
  roots = λ n h. let w = read_within row n (root_read row plan.roots n c h) in omega (arith, w, fits);
  loads = λ n m h. let w = read_within row m (load_read plan row n m is c h) in omega (arith, w, fits);
  read = λ n h. let r = some_of (read_at row n) (reached_read plan row n is c h) in (reading_of r.0, read_is plan row n is ∙ ap (option_map reading_of) r.1);
}

-- each root may be asked for
pub roots_asked : (files : List File) (plan : Plan) (rs : List ℕ) → IsWithin files plan → rs ≡ plan.roots → All (IsAsked files plan) rs
roots_asked files plan rs w same i d h = (w, root (subst (λ xs. Contains xs (get_or rs i d)) same (i, h, get_or_default rs i (get_or rs i d) d h)))

pub root_asked : (files : List File) (plan : Plan) (rs : List ℕ) (i : ℕ) → IsWithin files plan → rs ≡ plan.roots → i < length rs → IsAsked files plan (get_or rs i 0)
root_asked files plan rs i w same h = roots_asked files plan rs w same i 0 h
