-- Entering a call: a frame, the parameters in it, and the definition that becomes active.
use Rattle.std.specs.Prelude.{ℕ, ◌+◌, List, ◌∷◌, Some}
use Rattle.star_store.specs.declared.values.Value.{Value}
use Rattle.star_tree.specs.declared.tree.Name.{Name}
use Rattle.star_meaning.specs.declared.site.Site.{Site}
use Rattle.star_meaning.specs.Places.{bind_spot}
use Rattle.star_meaning.specs.Programs.{tables_of}
use Rattle.star_outline.specs.Definitions.{Definition}
use Rattle.star_meaning.specs.Binding.{BoundArgument, build_arguments}
use Rattle.star_meaning.specs.Calls.{deactivate, run_body}
use Rattle.star_meaning.specs.Run.{Action, Done, ◌>>=◌, all_of, give, pay}
use Rattle.star_call.specs.declared.callee.Called.{Called}
use Rattle.star_meaning.specs.Semantics.{Semantics}
use Rattle.star_world.specs.World.{World, variables}

-- names are bound to values, one after another
abbrev pub bind_all : World → Site → List (Name × Value) → Action (Unit {0})
bind_all w p xs = all_of (λ x. bind_spot (tables_of w.files) p x.0 x.1) xs

-- the definition with this number in a file becomes active
unfoldable pub begin : ℕ → ℕ → Action (Unit {0})
begin file number = λ s. Done tt (record s { active = (file, number) ∷ s.active })

-- a call of a function with these values of its parameters, up to its body, which k runs: its frame, the parameters in
-- it; then its definition is active
abbrev pub within : {A : Type 0} → World → Site → ℕ → List (Name × Value) → (Site → Action A) → Action A
within w q number values k = do
  _ ← bind_all w q values
  _ ← begin q.file number
  k q

abbrev pub framed : {A : Type 0} → World → ℕ → ℕ → ℕ → Value → List (Name × Value) → (Site → Action A) → Action A
framed w line file number parent values k = do
  _ ← pay line 1
  frame ← (variables w).frame file (1 + number) (Some parent)
  within w (record { file = file; frame = frame; line = line }) number values k

abbrev pub entering : {A : Type 0} → World → ℕ → ℕ → ℕ → Value → List (Name × BoundArgument) →
    (Site → Action A) → Action A
entering w line file number parent shares k =
    build_arguments line shares >>= λ values. framed w line file number parent values k

-- the place of the body of a call, with its frame, which pays 1
abbrev pub paid_site : World → ℕ → Called → Action Site
paid_site w line f = do
  _ ← pay line 1
  frame ← (variables w).frame f.file (1 + f.number) (Some f.frame)
  give (record { file = f.file; frame = frame; line = line })

-- a call of this function is entered: with these values of its parameters, or with these shares
abbrev pub entered_with : World → ℕ → Called → List (Name × Value) → Action Site
entered_with w line f values = framed w line f.file f.number f.frame values give

abbrev pub entered : World → ℕ → Called → List (Name × BoundArgument) → Action Site
entered w line f shares = entering w line f.file f.number f.frame shares give

-- the rest of a call: the body runs, and its definition ceases to be active
abbrev pub left : Semantics → Definition → Site → Action Value
left m d q = run_body m q d.body >>= λ v. deactivate >>= λ _. give v
