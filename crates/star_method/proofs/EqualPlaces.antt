-- The first equal item of a list, by the actions of the definitions.
use Rattle.std.proofs.Common.{◌≡◌, ◌≢◌, ℕ, ◌+◌, List, [], ◌∷◌, Bool, true, false, Some, None, if◌then◌else◌, refl, ap, ◌∙◌}
use Rattle.star_store.specs.declared.values.Value.{Value}
use Rattle.star_store.specs.declared.values.Cell.TheVariants as cell
use Rattle.star_store.specs.Equal.{same}
use Rattle.star_store.specs.Spend.{Spent, Enough, Lacks, Spend, answer, spend_then}
use Rattle.star_machine.specs.declared.content.Kind.TheVariants as kind
use Rattle.star_meaning.specs.Run.{State, Done, and_then, give, settled}
use Rattle.star_meaning.specs.Program.{Setting, seen}
use Rattle.star_meaning.specs.Values.{Content, Held, content, equal}
use Rattle.star_machine.specs.Kinds.{kind_of, row_in}
use Rattle.star_meaning.specs.ListMethods.{equal_place, items_of}
use Rattle.star_machine.specs.Search.{first_place_where, found_place}
use Rattle.star_machine.proofs.KindCases.{is_list, row_seen}

settled_again : {A : Type 0} (line : ℕ) (o : Spent A) (s : State) (n : ℕ) → settled line o (record s { steps = n }) ≡ settled line o s
settled_again line (Enough x left) s n = refl
settled_again line (Lacks f left) s n = refl

turn : (w : Setting) (levels line : ℕ) (x : Value) (ys : List Value) (i : ℕ) (s : State) (f : Value → Spend Bool) (o : Spent Bool) → ((n : ℕ) → equal_place w levels line x (i + 1) ys (record s { steps = n }) ≡ settled line (first_place_where f (i + 1) ys n) s) → and_then (settled line o s) (λ b. if b then give (Some i) else equal_place w levels line x (i + 1) ys) ≡ settled line (spend_then o (λ b. if b then answer (Some i) else first_place_where f (i + 1) ys)) s
turn w levels line x ys i s f (Enough true n) h = refl
turn w levels line x ys i s f (Enough false n) h = h n
turn w levels line x ys i s f (Lacks e n) h = refl

equal_from : (w : Setting) (levels line : ℕ) (x : Value) (i : ℕ) (ys : List Value) (s : State) → equal_place w levels line x i ys s ≡ settled line (first_place_where (λ y. same (seen w s) levels y x) i ys s.steps) s
unfolding equal
equal_from w levels line x i [] s = refl
equal_from w levels line x i (y ∷ ys) s = turn w levels line x ys i s (λ z. same (seen w s) levels z x) (same (seen w s) levels y x s.steps) (λ n. equal_from w levels line x (i + 1) ys (record s { steps = n }) ∙ settled_again line (first_place_where (λ z. same (seen w s) levels z x) (i + 1) ys n) s n)

equal_found : (w : Setting) (levels line : ℕ) (x : Value) (ys : List Value) (s : State) → equal_place w levels line x 0 ys s ≡ found_place w levels line x ys s
unfolding found_place
equal_found w levels line x ys s = equal_from w levels line x 0 ys s

-- the items of a list are the items of its row
pub place_in_list : (w : Setting) (levels line : ℕ) (l x : Value) (s : State) → kind_of (content w s l) ≡ kind.List → equal_place w levels line x 0 (items_of (content w s l)) s ≡ found_place w levels line x (row_in (seen w s l)) s
place_in_list w levels line l x s h = ap (λ c. equal_place w levels line x 0 (items_of c) s) (is_list (content w s l) h) ∙ ap (λ ys. equal_place w levels line x 0 ys s) (row_seen w s l) ∙ equal_found w levels line x (row_in (seen w s l)) s

no_items : (c : Content) → kind_of c ≢ kind.List → items_of c ≡ []
no_items (Held (cell.List xs)) h = absurd (h refl)
no_items _ h = refl

-- a value that is not a list has no place
pub place_in_none : (w : Setting) (levels line : ℕ) (l x : Value) (s : State) → kind_of (content w s l) ≢ kind.List → equal_place w levels line x 0 (items_of (content w s l)) s ≡ Done None s
place_in_none w levels line l x s h = ap (λ ys. equal_place w levels line x 0 ys s) (no_items (content w s l) h)
