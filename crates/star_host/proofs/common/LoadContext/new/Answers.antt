use Rattle.std.proofs.Common.{◌≡◌, refl, sym, subst}
use Rattle.star_plan.specs.Plan.{Plan}
use Rattle.star_plan.specs.Runs.{ArePlaced}
use Rattle.star_reading.specs.Found.{IsReadOf}
use Rattle.star_reading.specs.Readings.{readings, table_of}
use Rattle.star_reading.proofs.Plans.{placed_so, planned_so}
use Rattle.star_host.proofs.Worlds.{closed_within, roots_asked}
use Rattle.star_host.proofs.common.LoadContext.new.Goals as goal

pub returns-clause-world : goal.returns-clause-world
returns-clause-world c =
    let row = c.as_slice.result.now in
    let same : row ≡ c.args.reads.now.all.items = c.as_slice.ensures.value in
    let o = c.args.options in
    let is : IsReadOf c.args.files.now o.roots.now o.prelude o.mode.now.language row = subst (IsReadOf c.args.files.now o.roots.now o.prelude o.mode.now.language) (sym same) c.requires.read in
    let plan : Plan = record { roots = o.roots.now; prelude = o.prelude; mode = o.mode.now; reads = readings row } in
    let planned = planned_so c.args.files.now is.0 row plan refl is.1 is.2 in
    record {
      files_are = refl;
      row_is = refl;
      table_is = subst (λ r. c.args.programs.now ≡ table_of r) (sym same) c.requires.programs;
      cells_are = refl;
      cells_fit = c.requires.cells;
      prelude_is = refl;
      prelude_fits = c.requires.prelude;
      mode_is = refl;
      steps_fit = c.requires.steps;
      planned = planned;
      placed = subst (ArePlaced c.args.files.now plan) (sym (subst (λ r. c.args.programs.now ≡ table_of r) (sym same) c.requires.programs)) (placed_so c.args.files.now o.roots.now is.0 row plan refl is.1 is.2);
      ends_are = c.requires.ends plan planned refl refl refl;
    }

pub returns-clause-within : goal.returns-clause-within
returns-clause-within c =
    let o = c.args.options in
    let is : IsReadOf c.args.files.now o.roots.now o.prelude o.mode.now.language c.as_slice.result.now = subst (IsReadOf c.args.files.now o.roots.now o.prelude o.mode.now.language) (sym c.as_slice.ensures.value) c.requires.read in
    closed_within c.args.files.now _ c.as_slice.result.now refl is.2.sized is.2.closed

pub returns-clause-asked : goal.returns-clause-asked
returns-clause-asked c = roots_asked c.args.files.now _ c.args.options.roots.now (returns-clause-within c) refl
