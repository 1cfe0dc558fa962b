-- A file whose loads are good may run over each shelf that holds the own modules of the files that it needs, and no others.
use Rattle.std.proofs.Common.{◌≡◌, ℕ, List, ap, sym, subst, ◌∙◌}
use Rattle.star_store.specs.Store.{Shelf, put_up}
use Rattle.star_meaning.specs.Local.{Trees, outlines}
use Rattle.star_meaning.specs.Module.{Good, Local, local, start}
use Rattle.star_meaning.specs.Places.{AllFit}
use Rattle.star_meaning.specs.Program.{Setting}
use Rattle.star_meaning.specs.Programs.{Files, load_files, trees_of}
use Rattle.star_plan.specs.Laws.{FilesMayRun}
use Rattle.star_plan.specs.Plan.{Plan, loaded, loads_of, trees}
use Rattle.star_plan.specs.Results.{IsOutcome, Ran}
use Rattle.star_plan.specs.Runs.{given, given_over}
use Rattle.star_plan.proofs.ByPlaces.{plans_are_ready}
use Rattle.star_plan.proofs.Needs.{good_files_have_outcomes, runs_leave_own, the_one_shelf}
use Rattle.star_plan.proofs.Seen.{ran-is}

same_setting : (plan : Plan) (placed : Files) (n : ℕ) (ms : List Local) (shelf : Shelf) → trees_of placed ≡ trees plan → shelf ≡ (given plan n ms).shelf → given_over placed plan n shelf ≡ given plan n ms
same_setting plan placed n ms shelf trees_are shelf_is =
    ap (λ (t : Trees). let w : Setting = record { home = n; outlines = outlines t; shelf = shelf; loads = load_files (loads_of plan n); prelude = plan.prelude; language = plan.mode.language } in w) trees_are
    ∙ ap (λ (s : Shelf). let w : Setting = record { home = n; outlines = outlines (trees plan); shelf = s; loads = load_files (loads_of plan n); prelude = plan.prelude; language = plan.mode.language } in w) shelf_is

pub files_may_run : FilesMayRun
files_may_run files plan placed is placed_so n ss shelf e good tight holds =
    let outcomes = good_files_have_outcomes plan (loaded plan n) good in
    let same_shelf : shelf ≡ (given plan n outcomes.0).shelf = the_one_shelf plan n outcomes.0 outcomes.1 shelf tight holds in
    let same : given plan n outcomes.0 ≡ given_over placed plan n shelf = sym (same_setting plan placed n outcomes.0 shelf placed_so.statements same_shelf) in
    let ready = plans_are_ready files plan placed is placed_so n ss outcomes.0 e outcomes.1 in
    record {
      stands = ready.0;
      programs = ready.1;
      functions = subst (λ (w : Setting). AllFit (trees_of placed) w (start w plan.mode.steps)) same ready.2;
      outcome = subst (λ (w : Setting). IsOutcome plan n (Ran (local w plan.mode.steps ss))) same ready.3;
      own = λ p globals texts lines h. runs_leave_own plan n ss outcomes.0 e outcomes.1 p globals texts lines
          (sym (ran-is plan n ss outcomes.0 e) ∙ (ap (λ (w : Setting). local w plan.mode.steps ss) same ∙ (h ∙ ap (λ (s : Shelf). Good (put_up n p s) globals texts lines) same_shelf)));
    }
