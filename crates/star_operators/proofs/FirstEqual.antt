-- The first equal item, by the actions of the definitions.
use Rattle.std.proofs.Common.{◌≡◌, ℕ, ◌+◌, List, [], ◌∷◌, Bool, true, false, Option, Some, is_some, if◌then◌else◌, refl, ap, ◌∙◌}
use Rattle.star_store.specs.declared.values.Value.{Value}
use Rattle.star_store.specs.Equal.{same}
use Rattle.star_store.specs.Spend.{Spent, Enough, Lacks, Spend, answer, spend_then}
use Rattle.star_meaning.specs.Run.{State, Outcome, and_then, give, settled}
use Rattle.star_meaning.specs.Program.{Setting, seen}
use Rattle.star_meaning.specs.Values.{equal}
use Rattle.star_meaning.specs.Operators.{list_contains}
use Rattle.star_machine.specs.Search.{first_place_where, found_place}

abbrev whether : Outcome (Option ℕ) → Outcome Bool
whether o = and_then o (λ p. give (is_some p))

settled_again : {A : Type 0} (line : ℕ) (o : Spent A) (s : State) (n : ℕ) → settled line o (record s { steps = n }) ≡ settled line o s
settled_again line (Enough x left) s n = refl
settled_again line (Lacks f left) s n = refl

turn : (w : Setting) (levels line : ℕ) (ys : List Value) (x : Value) (i : ℕ) (s : State) (f : Value → Spend Bool) (o : Spent Bool) → ((n : ℕ) → list_contains w levels line ys x (record s { steps = n }) ≡ whether (settled line (first_place_where f (i + 1) ys n) s)) → and_then (settled line o s) (λ b. if b then give true else list_contains w levels line ys x) ≡ whether (settled line (spend_then o (λ b. if b then answer (Some i) else first_place_where f (i + 1) ys)) s)
turn w levels line ys x i s f (Enough true n) h = refl
turn w levels line ys x i s f (Enough false n) h = h n
turn w levels line ys x i s f (Lacks e n) h = refl

has_from : (w : Setting) (levels line : ℕ) (ys : List Value) (x : Value) (i : ℕ) (s : State) → list_contains w levels line ys x s ≡ whether (settled line (first_place_where (λ y. same (seen w s) levels y x) i ys s.steps) s)
unfolding equal
has_from w levels line [] x i s = refl
has_from w levels line (y ∷ ys) x i s = turn w levels line ys x i s (λ z. same (seen w s) levels z x) (same (seen w s) levels y x s.steps) (λ n. has_from w levels line ys x (i + 1) (record s { steps = n }) ∙ ap whether (settled_again line (first_place_where (λ z. same (seen w s) levels z x) (i + 1) ys n) s n))

pub has_some : (w : Setting) (levels line : ℕ) (ys : List Value) (x : Value) (s : State) → list_contains w levels line ys x s ≡ and_then (found_place w levels line x ys s) (λ p. give (is_some p))
unfolding found_place
has_some w levels line ys x s = has_from w levels line ys x 0 s
