-- A call is its part up to the body, and the rest.
use Rattle.std.proofs.Common.{◌≡◌, ℕ, List, refl, ◌∙◌}
use Rattle.star_store.specs.declared.values.Value.{Value}
use Rattle.star_store.specs.declared.values.Function.{Function}
use Rattle.star_tree.specs.declared.tree.Name.{Name}
use Rattle.std.specs.Prelude.{◌+◌, Some}
use Rattle.star_outline.specs.Definitions.{Definition}
use Rattle.star_meaning.specs.declared.site.Site.{Site}
use Rattle.star_meaning.specs.Binding.{BoundArgument, build_arguments}
use Rattle.star_meaning.specs.Calls.{activate, run}
use Rattle.star_meaning.specs.Semantics.{Semantics}
use Rattle.star_meaning.specs.Run.{State, Outcome, Done, Failed, Action, and_then, ◌>>=◌, give, pay}
use Rattle.star_enter.specs.Entering.{begin, bind_all, entering, framed, left, within}
use Rattle.star_world.specs.World.{World, variables}

after : {A B D : Type 0} (o : Outcome A) (f : A → Action B) (k : A → Action D) (g : B → Action D) → ((x : A) (t : State) → k x t ≡ and_then (f x t) g) → and_then o k ≡ and_then (and_then o f) g
after (Done x t) f k g h = h x t
after (Failed e lines) f k g h = refl

within_then : {A : Type 0} (w : World) (q : Site) (number : ℕ) (values : List (Name × Value)) (k : Site → Action A) (s : State) → within w q number values k s ≡ and_then (within w q number values give s) k
within_then w q number values k s = after (bind_all w q values s) (λ _. begin q.file number >>= λ _. give q) (λ _. begin q.file number >>= λ _. k q) k (λ x t. after (begin q.file number t) (λ _. give q) (λ _. k q) k (λ y u. refl))

abbrev place_at : ℕ → ℕ → Value → Site
place_at line file frame = record { file = file; frame = frame; line = line }

abbrev with_frame : {A : Type 0} → World → ℕ → ℕ → ℕ → Value → List (Name × Value) → (Site → Action A) → Action A
with_frame w line file number parent values k = (variables w).frame file (1 + number) (Some parent) >>= λ frame. within w (place_at line file frame) number values k

with_frame_then : {A : Type 0} (w : World) (line file number : ℕ) (parent : Value) (values : List (Name × Value)) (k : Site → Action A) (s : State) → with_frame w line file number parent values k s ≡ and_then (with_frame w line file number parent values give s) k
with_frame_then w line file number parent values k s = after ((variables w).frame file (1 + number) (Some parent) s) (λ frame. within w (place_at line file frame) number values give) (λ frame. within w (place_at line file frame) number values k) k (λ frame t. within_then w (place_at line file frame) number values k t)

framed_then : {A : Type 0} (w : World) (line file number : ℕ) (parent : Value) (values : List (Name × Value)) (k : Site → Action A) (s : State) → framed w line file number parent values k s ≡ and_then (framed w line file number parent values give s) k
framed_then w line file number parent values k s = after (pay line 1 s) (λ _. with_frame w line file number parent values give) (λ _. with_frame w line file number parent values k) k (λ x t. with_frame_then w line file number parent values k t)

entering_then : {A : Type 0} (w : World) (line file number : ℕ) (parent : Value) (shares : List (Name × BoundArgument)) (k : Site → Action A) (s : State) → entering w line file number parent shares k s ≡ and_then (entering w line file number parent shares give s) k
entering_then w line file number parent shares k s = after (build_arguments line shares s) (λ values. framed w line file number parent values give) (λ values. framed w line file number parent values k) k (λ values t. framed_then w line file number parent values k t)

run_enters : (w : World) (m : Semantics) (p : Site) (f : Function) (d : Definition) (shares : List (Name × BoundArgument)) (s : State) → run (variables w) m p f d shares s ≡ entering w p.line f.file f.definition f.frame shares (left m d) s
unfolding activate begin
run_enters w m p f d shares s = refl

pub run_is : (w : World) (m : Semantics) (p : Site) (f : Function) (d : Definition) (shares : List (Name × BoundArgument)) (s : State) → run (variables w) m p f d shares s ≡ and_then (entering w p.line f.file f.definition f.frame shares give s) (left m d)
run_is w m p f d shares s = run_enters w m p f d shares s ∙ entering_then w p.line f.file f.definition f.frame shares (left m d) s
