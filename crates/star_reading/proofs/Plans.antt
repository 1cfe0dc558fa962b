-- A row that has all reached files: all are read, and it is the plan of its files.
use Rattle.std.proofs.Common.{◌≡◌, ◌≢◌, ◌<◌, ℕ, List, [], ◌∷◌, map, length, get_or, Option, Some, None, Ok, Err, refl, ap, sym, ◌∙◌, subst, arith}
use Rattle.std.specs.Prelude.{Contains, IsSome, slice_get}
use Rattle.std.specs.Option.{option_flatten, option_map}
use Rattle.std.proofs.lemmas.List.{get_or-map, length-map}
use Rattle.std.proofs.lemmas.Option.{slice_get-map, slice_get_within}
use Rattle.star_cache.specs.State.{Loads}
use Rattle.star_label.specs.Files.{File, text_at}
use Rattle.star_lex.specs.declared.token.SyntaxFault.{SyntaxFault}
use Rattle.star_lex.specs.declared.token.SyntaxFault.TheVariants as syntax
use Rattle.star_tree.specs.declared.tree.Tree.{Tree}
use Rattle.star_parser.specs.Sources.{Parses}
use Rattle.star_scope.specs.declared.loads.Load.{Load}
use Rattle.star_scope.specs.declared.program.Prelude.{Prelude}
use Rattle.star_scope.specs.declared.program.Program.{Program}
use Rattle.star_scope.specs.Resolve.{Outside, Resolves, outside, prelude_names}
use Rattle.star_meaning.specs.Programs.{PlacedFile, file_in, placed_file, trees_of}
use Rattle.star_plan.specs.Plan.{Plan, Reading, loaded, loads_of, read_of, tree_in}
use Rattle.star_plan.specs.Reached.{IsReached, root, load}
use Rattle.star_plan.specs.Reading.{IsPlanOf, IsPrelude, IsRead}
use Rattle.star_plan.specs.Runs.{ArePlaced}
use Rattle.star_plan.proofs.Walks.{readings_make_plans}
use Rattle.star_reading.specs.declared.reading.Read.{Read}
use Rattle.star_reading.specs.declared.reading.Read.TheVariants as read
use Rattle.star_reading.specs.Readings.{AreReadAs, IsPlaceOf, IsReadAs, Row, loads_at, placed_in, read_at, reading_of, readings, table_of}
use Rattle.star_reading.specs.Found.{IsClosed, IsRowOf}
use Rattle.star_reading.proofs.Rows.{loads_are, read_is}
use Rattle.star_reading.proofs.PlacesRead.{place_read, some_of}
use Rattle.star_reading.proofs.Finds.{reached_in}

pub root_read : (row : Row) (roots : List ℕ) (n : ℕ) → IsClosed row roots → Contains roots n → IsSome (read_at row n)
root_read row roots n c (k, h, e) = subst (λ m. IsSome (read_at row m)) e (c.starts k n h)

pub load_read : (plan : Plan) (row : Row) (n m : ℕ) → readings row ≡ plan.reads → IsClosed row plan.roots → Loads (loaded plan) n m → IsSome (read_at row m)
load_read plan row n m is c (k, h, e) =
    let d : Load = record { file = m; line = 0; token = None } in
    let same : loads_of plan n ≡ loads_at row n = loads_are plan row n is in
    let inside : k < length (loads_of plan n) = let l = length-map (loads_of plan n) (λ (x : Load). x.file) in omega (arith, h, l) in
    let short : k < length (loads_at row n) = subst (λ ls. k < length ls) same inside in
    let at : get_or (map (λ x. x.file) (loads_of plan n)) k m ≡ (get_or (loads_of plan n) k d).file = get_or-map (λ (x : Load). x.file) (loads_of plan n) k d m inside in
    let there : IsSome (read_at row (get_or (loads_at row n) k d).file) = c.loads n k d short in
    let back : IsSome (read_at row (get_or (loads_of plan n) k d).file) = subst (λ ls. IsSome (read_at row (get_or ls k d).file)) (sym same) there in
    subst (λ x. IsSome (read_at row x)) (sym at ∙ e) back

pub reached_read : (plan : Plan) (row : Row) (n : ℕ) → readings row ≡ plan.reads → IsClosed row plan.roots → IsReached plan n → IsSome (read_at row n)
reached_read plan row n is c (root h) = root_read row plan.roots n c h
reached_read plan row n is c (load {n = k} r l) = load_read plan row k n is c l

trees_there : (o : Option Read) → option_map (λ (f : PlacedFile). f.statements) (placed_in o) ≡ tree_in (option_map reading_of o)
trees_there None = refl
trees_there (Some (read.Program p)) = refl
trees_there (Some (read.Fault f)) = refl

trees_are : (row : Row) → trees_of (table_of row) ≡ map tree_in (readings row)
trees_are [] = refl
trees_are (o ∷ row) = ap (λ t. t ∷ trees_of (table_of row)) (trees_there o) ∙ ap (λ ts. tree_in (option_map reading_of o) ∷ ts) (trees_are row)

-- a program of a row of read files is the answer of `resolve`
resolved_at : (files : List File) (block : Outside) (n : ℕ) (o : Option Read) (f : PlacedFile) → IsPlaceOf files block n o → placed_in o ≡ Some f → (p : Program) × (placed_file p ≡ f) × Resolves files n block f.statements (Ok p)
resolved_at files block n None f is e = absurd (let no : ⊥ = cc in no)
resolved_at files block n (Some (read.Fault x)) f is e = absurd (let no : ⊥ = cc in no)
resolved_at files block n (Some (read.Program p)) f is e =
    let same : placed_file p ≡ f = cc in (
      p,
      same,
      subst (λ (g : PlacedFile). Resolves files n block g.statements (Ok p)) same (subst (λ ss. Resolves files n block ss (Ok p)) (sym is.2) is.3),
    )

-- the entry of a file is empty or its reading
place_is : (files : List File) (block : Outside) (row : Row) (n : ℕ) → AreReadAs files block row → IsPlaceOf files block n (read_at row n)
place_is files block row n all = split (slice_get row n) refl
  where
    split : (o : Option (Option Read)) → slice_get row n ≡ o → IsPlaceOf files block n (option_flatten (slice_get row n))
    split None e = subst (λ x. IsPlaceOf files block n (option_flatten x)) (sym e) tt
    split (Some x) e =
        let inside : n < length row = slice_get_within row n x e in
        subst (IsPlaceOf files block n) (sym (place_read row n None inside)) (all n None inside)

placed_at : (row : Row) (n : ℕ) → file_in (table_of row) n ≡ placed_in (read_at row n)
placed_at row n = ap option_flatten (slice_get-map placed_in row n) ∙ flat (slice_get row n)
  where
    flat : (o : Option (Option Read)) → option_flatten (option_map placed_in o) ≡ placed_in (option_flatten o)
    flat None = refl
    flat (Some x) = refl

-- the programs of a row are the programs of a plan with its readings
pub placed_so : (files : List File) (roots : List ℕ) (block : Option Prelude) (row : Row) (plan : Plan) → readings row ≡ plan.reads → IsPrelude files plan.prelude block → IsRowOf files (outside block plan.mode.language) roots row → ArePlaced files plan (table_of row)
placed_so files roots block row plan is prelude_is rows = record {
  prelude = block;
  prelude_is = prelude_is;
  statements = trees_are row ∙ ap (map tree_in) is;
  right = λ n f e. resolved_at files (outside block plan.mode.language) n (read_at row n) f (place_is files (outside block plan.mode.language) row n rows.right) (sym (placed_at row n) ∙ e);
}

read_as : (files : List File) (block : Outside) (n : ℕ) (q : Read) → IsReadAs files block n q → IsRead files block n (reading_of q)
read_as files block n (read.Fault f) is = is
read_as files block n (read.Program p) is = (is.0, is.1, sym is.2, (p, subst (λ ss. Resolves files n block ss (Ok p)) (sym is.2) is.3, refl))

read_there : (files : List File) (block : Outside) (n : ℕ) (o : Option Read) (r : Reading) → IsPlaceOf files block n o → option_map reading_of o ≡ Some r → IsRead files block n r
read_there files block n None r is e = absurd (let no : ⊥ = cc in no)
read_there files block n (Some q) r is e = subst (IsRead files block n) (let same : reading_of q ≡ r = cc in same) (read_as files block n q is)

-- a row has the reading of a file that the plan has
some_read : (o : Option Read) (r : Reading) → option_map reading_of o ≡ Some r → IsSome o
some_read None r e = absurd (let no : ⊥ = cc in no)
some_read (Some q) r e = refl

-- the readings of a row are the plan of the files
pub planned_so : (files : List File) (block : Option Prelude) (row : Row) (plan : Plan) → readings row ≡ plan.reads → IsPrelude files plan.prelude block → IsRowOf files (outside block plan.mode.language) plan.roots row → IsPlanOf files plan
planned_so files block row plan is prelude_is rows = readings_make_plans files plan block prelude_is (ap length (sym is) ∙ (length-map row (option_map reading_of) ∙ rows.sized))
    (λ n r e. let there : option_map reading_of (read_at row n) ≡ Some r = sym (read_is plan row n is) ∙ e in
    (read_there files (outside block plan.mode.language) n (read_at row n) r (place_is files (outside block plan.mode.language) row n rows.right) there, reached_in plan.roots row plan refl (λ k. loads_are plan row k is) n (rows.reached n (some_read (read_at row n) r there))))
    (λ n h. known n (root_read row plan.roots n rows.closed h))
    (λ n m r e l. known m (load_read plan row n m is rows.closed l))
  where
    known : (n : ℕ) → IsSome (read_at row n) → (r : Reading) × (read_of plan n ≡ Some r)
    known n h = let s = some_of (read_at row n) h in (reading_of s.0, read_is plan row n is ∙ ap (option_map reading_of) s.1)

-- the prelude has the names of its tree
pub prelude_sound : (files : List File) (n : ℕ) (tree : Tree) (p : Prelude) → Parses (text_at files n) (Ok tree) → p.file ≡ n → p.names ≡ prelude_names (Some tree.statements) → IsPrelude files (Some n) (Some p)
prelude_sound files n tree p parses file names = (
  Ok tree,
  parses,
  λ e. let no : ⊥ = cc in no,
  ap (λ k. Some (record { file = k; names = p.names })) file ∙ ap (λ ns. Some (record { file = n; names = ns })) names,
)

pub prelude_faulty : (files : List File) (n : ℕ) (e : SyntaxFault) (p : Prelude) → Parses (text_at files n) (Err e) × (e ≢ syntax.Memory) → p.file ≡ n → p.names ≡ prelude_names None → IsPrelude files (Some n) (Some p)
prelude_faulty files n e p is file names = (
  Err e,
  is.0,
  λ h. is.1 (let same : e ≡ syntax.Memory = cc in same),
  ap (λ k. Some (record { file = k; names = p.names })) file ∙ ap (λ ns. Some (record { file = n; names = ns })) names,
)
