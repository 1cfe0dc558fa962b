-- Every run that ends well keeps its cells and its active definitions, by induction on the levels that may still be
-- opened.
use Rattle.star_meaning.specs.Variables.{by_names}
use Rattle.std.proofs.Common.{◌≡◌, subst}
use Rattle.star_meaning.specs.Run.{State, Outcome, Done}
use Rattle.star_meaning.specs.Laws.{Grows, Grown, Kept, RunsKeep}
use Rattle.star_meaning.proofs.Runs.{meaning_keeps, names_keep}
use Rattle.star_meaning.proofs.Stays.{Stays, Preserved}

-- both that the state stays and that it grows
kept : {A : Type 0} (s t : State) (o : Outcome A) (x : A) → o ≡ Done x t → Preserved s o → Grown s o → Kept s t
kept s t o x e h g =
    let a : Stays s t = subst (Preserved s) e h in
    let b : Grows s t = subst (Grown s) e g in
    record { home = a.home; cells = a.cells; fresh = a.fresh; active = a.active; steps = b.steps; lines = b.lines }

pub runs_keep : RunsKeep
runs_keep w levels p s t = (
  (λ e v h. kept s t _ v h (((meaning_keeps (by_names w) w levels (names_keep w)).expr p e).stays.holds s) (((meaning_keeps (by_names w) w levels (names_keep w)).expr p e).grows.holds s)),
  (λ x f h. kept s t _ f h (((meaning_keeps (by_names w) w levels (names_keep w)).stmt p x).stays.holds s) (((meaning_keeps (by_names w) w levels (names_keep w)).stmt p x).grows.holds s)),
)
