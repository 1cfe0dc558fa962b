-- Each plan of files has its row of programs.
use Rattle.std.proofs.Common.{◌≡◌, ℕ, zero, suc, ◌+◌, List, [], ◌∷◌, arith, map, Option, Some, None, Ok, refl, ap, sym, subst, ◌∙◌}
use Rattle.std.specs.Prelude.{slice_get}
use Rattle.std.specs.Option.{option_flatten, option_map}
use Rattle.star_label.specs.Files.{File}
use Rattle.star_scope.specs.declared.program.Program.{Program}
use Rattle.star_scope.specs.Resolve.{Outside, Resolves, outside}
use Rattle.star_tree.specs.declared.tree.Statement.{Statement}
use Rattle.star_meaning.specs.Programs.{Files, PlacedFile, file_in, placed_file, trees_of}
use Rattle.star_plan.specs.Plan.{Faulty, Plan, Reading, Sound, tree_in}
use Rattle.star_plan.specs.Reading.{IsPlanOf, IsRead}
use Rattle.star_plan.specs.Runs.{ArePlaced}

-- the program of a file is the answer of `resolve` for the file with this number
abbrev IsAnswer : List File → Outside → ℕ → PlacedFile → Type 0
IsAnswer files seen n f = (p : Program) × (placed_file p ≡ f) × Resolves files n seen f.statements (Ok p)

abbrev statements_of : PlacedFile → List Statement
statements_of f = f.statements

record Site (files : List File) (seen : Outside) (n : ℕ) (o : Option Reading) : Type 0 where
  file : Option PlacedFile
  statements : option_map statements_of file ≡ tree_in o
  right : (f : PlacedFile) → file ≡ Some f → IsAnswer files seen n f

place : (files : List File) (seen : Outside) (n : ℕ) (o : Option Reading) → ((r : Reading) → o ≡ Some r → IsRead files seen n r) → Site files seen n o
place files seen n None h = record { file = None; statements = refl; right = λ f e. absurd (let no : ⊥ = cc in no) }
place files seen n (Some (Faulty f)) h = record { file = None; statements = refl; right = λ f e. absurd (let no : ⊥ = cc in no) }
place files seen n (Some (Sound ss loads)) h =
    let read = h (Sound ss loads) refl in
    let p : Program = read.3.0 in
    let resolves : Resolves files n seen ss (Ok p) = read.3.1 in
    let own : Resolves files n seen (placed_file p).statements (Ok p) = subst (λ z. Resolves files n seen z (Ok p)) (sym resolves.3.statements) resolves in
    record {
      file = Some (placed_file p);
      statements = ap Some resolves.3.statements;
      right = λ f e. (let same : placed_file p ≡ f = cc in (p, same, subst (λ g. Resolves files n seen g.statements (Ok p)) same own));
    }

-- the programs of these readings, from the number i on
record Row (files : List File) (seen : Outside) (i : ℕ) (rs : List (Option Reading)) : Type 0 where
  placed : Files
  statements : trees_of placed ≡ map tree_in rs
  right : (k : ℕ) (f : PlacedFile) → file_in placed k ≡ Some f → IsAnswer files seen (i + k) f

row : (files : List File) (seen : Outside) (i : ℕ) (rs : List (Option Reading)) → ((k : ℕ) (r : Reading) → option_flatten (slice_get rs k) ≡ Some r → IsRead files seen (i + k) r) → Row files seen i rs
row files seen i [] h = record { placed = []; statements = refl; right = λ k f e. absurd (let no : ⊥ = cc in no) }
row files seen i (o ∷ rs) h =
    let first : i + 0 ≡ i = omega arith in
    let next : (k : ℕ) → i + suc k ≡ (i + 1) + k = λ k. omega arith in
    let one : Site files seen i o = place files seen i o (λ r e. subst (λ n. IsRead files seen n r) first (h 0 r e)) in
    let more : Row files seen (i + 1) rs = row files seen (i + 1) rs (λ k r e. subst (λ n. IsRead files seen n r) (next k) (h (suc k) r e)) in
    record {
      placed = one.file ∷ more.placed;
      statements = ap (λ t. t ∷ trees_of more.placed) one.statements ∙ ap (λ ts. tree_in o ∷ ts) more.statements;
      right = at i o rs one more;
    }
  where
    at : (i : ℕ) (o : Option Reading) (rs : List (Option Reading)) (one : Site files seen i o) (more : Row files seen (i + 1) rs) (k : ℕ) (f : PlacedFile) → file_in (one.file ∷ more.placed) k ≡ Some f → IsAnswer files seen (i + k) f
    at i o rs one more zero f e =
        let first : i ≡ i + 0 = omega arith in
        subst (λ n. IsAnswer files seen n f) first (one.right f e)
    at i o rs one more (suc k) f e =
        let next : (i + 1) + k ≡ i + suc k = omega arith in
        subst (λ n. IsAnswer files seen n f) next (more.right k f e)

pub row_of_plan : (files : List File) (plan : Plan) → IsPlanOf files plan → (placed : Files) × ArePlaced files plan placed
row_of_plan files plan is =
    let seen : Outside = outside is.prelude plan.mode.language in
    let all : Row files seen 0 plan.reads = row files seen 0 plan.reads (λ k r e. (let same : k ≡ 0 + k = omega arith in subst (λ n. IsRead files seen n r) same (is.right k r e))) in (
      all.placed,
      record {
        prelude = is.prelude;
        prelude_is = is.prelude_is;
        statements = all.statements;
        right = λ n f e. (let same : 0 + n ≡ n = omega arith in subst (λ k. IsAnswer files seen k f) same (all.right n f e));
      },
    )
