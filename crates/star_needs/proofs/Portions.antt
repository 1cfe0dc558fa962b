-- The runs of a plan and of a part of it are the same.
use Rattle.std.proofs.Common.{◌≡◌, ℕ, zero, suc, Bool, true, false, nat_eq, List, [], ◌∷◌, length, eqb-true, map, Option, Some, None, refl, ap, sym, subst, ◌∙◌, if◌then◌else◌}
use Rattle.std.specs.Prelude.{slice_get}
use Rattle.std.specs.Option.{option_flatten, option_map}
use Rattle.std.proofs.lemmas.Option.{slice_get-map}
use Rattle.star_dialect.specs.declared.Mode.{Mode}
use Rattle.star_cache.specs.State.{Loads}
use Rattle.star_cache.specs.Walk.{Walk}
use Rattle.star_label.specs.Files.{File}
use Rattle.star_store.specs.declared.values.Value.{Value}
use Rattle.star_tree.specs.declared.tree.Statement.{Statement}
use Rattle.star_outline.specs.Names.{Names}
use Rattle.star_outline.specs.Outlines.{Outline, names_in, outline}
use Rattle.star_scope.specs.Places.{AllPlaced, Outer}
use Rattle.star_scope.specs.Uses.{uses}
use Rattle.star_meaning.specs.Local.{Trees, outlines, setting}
use Rattle.star_meaning.specs.Module.{Local, most_levels, run_file, start}
use Rattle.star_meaning.specs.Places.{AllFit, FitsBlock, FitsChain, FitsFunction, IsResolved, Stands, Tables, by_places, outer_at, outer_names}
use Rattle.star_meaning.specs.Program.{Setting, blocks_in, blocks_of, outline_of}
use Rattle.star_meaning.specs.Programs.{Files, load_files, tables_of}
use Rattle.star_meaning.specs.Run.{State}
use Rattle.star_meaning.specs.Variables.{by_names}
use Rattle.star_meaning.proofs.ByPlaces.{places_mean_names}
use Rattle.star_plan.specs.Plan.{Plan, Reading, loaded, loads_in, loads_of, read_of, tree_in, trees}
use Rattle.star_plan.specs.Reading.{IsPlanOf}
use Rattle.star_plan.specs.Results.{AreGood}
use Rattle.star_plan.specs.Runs.{ArePlaced, PreludeIsSound, given}
use Rattle.star_plan.proofs.Fit.{fit_at}
use Rattle.star_plan.proofs.Outcomes.{gather}
use Rattle.star_plan.proofs.Seen.{stands}
use Rattle.star_plan.proofs.Tables.{first_load, head_sound, sound_read, tables_right}
use Rattle.star_needs.specs.Agree.{IsPartOf, RunsAgree}
use Rattle.star_needs.specs.Laws.{PartsHaveResults, PartsRun}
use Rattle.star_needs.proofs.Outlines.{with_outlines}
use Rattle.star_needs.proofs.Needs.{Agree, result_by_needs}
use Rattle.star_needs.proofs.Rows.{row_of_plan}
use Rattle.star_needs.proofs.SeenRuns.{outlines_seen}
use Rattle.star_needs.proofs.Sight.{Sight}

-- ---- the outlines of files that both have

outlined : (trees : Trees) (file : ℕ) (ss : List Statement) → Stands trees file ss → option_flatten (slice_get (outlines trees) file) ≡ Some (outline ss)
outlined trees file ss h = ap option_flatten (slice_get-map (option_map outline) trees file) ∙ ap (λ o. option_flatten (option_map (option_map outline) o)) h

tree_back : (o : Option (Option Reading)) (ss : List Statement) → option_map tree_in o ≡ Some (Some ss) → tree_in (option_flatten o) ≡ Some ss
tree_back None ss e = absurd (let no : ⊥ = cc in no)
tree_back (Some None) ss e = absurd (let no : ⊥ = cc in no)
tree_back (Some (Some r)) ss e = let same : tree_in (Some r) ≡ Some ss = cc in same

stands-read : (plan : Plan) (n : ℕ) (ss : List Statement) → Stands (trees plan) n ss → tree_in (read_of plan n) ≡ Some ss
stands-read plan n ss h = tree_back (slice_get plan.reads n) ss (sym (slice_get-map tree_in plan.reads n) ∙ h)

tree_whole : (part whole : Plan) → IsPartOf part whole → (n : ℕ) (ss : List Statement) → tree_in (read_of part n) ≡ Some ss → tree_in (read_of whole n) ≡ Some ss
tree_whole part whole is n ss e =
    let read = sound_read (read_of part n) ss e in
    ap tree_in (is.reads n _ read.1)

wider : (part whole : Plan) → IsPartOf part whole → (n : ℕ) (ss : List Statement) → Stands (trees part) n ss → Stands (trees whole) n ss
wider part whole is n ss h = stands whole n ss (tree_whole part whole is n ss (stands-read part n ss h))

same_outline : (part whole : Plan) → IsPartOf part whole → (file : ℕ) (ss : List Statement) → Stands (trees part) file ss → option_flatten (slice_get (outlines (trees whole)) file) ≡ option_flatten (slice_get (outlines (trees part)) file)
same_outline part whole is file ss h = outlined (trees whole) file ss (wider part whole is file ss h) ∙ sym (outlined (trees part) file ss h)

-- ---- functions that fit in a part fit in the whole

chain_wider : (os : List (Option Outline)) (w : Setting) (s : State) (file : ℕ) → outline_of (with_outlines os w) file ≡ outline_of w file → (chain : List ℕ) (frame : Option Value) → FitsChain w s file chain frame → FitsChain (with_outlines os w) s file chain frame
chain_wider os w s file e [] frame h = h
chain_wider os w s file e (b ∷ bs) frame h =
    let fits : FitsBlock (with_outlines os w) file b h.1 = record { file_is = h.4.file_is; block_is = h.4.block_is; slots_are = h.4.slots_are ∙ ap (λ o. length (names_in (blocks_in o) b)) (sym e) } in
    (h.0, h.1, h.2, h.3, fits, chain_wider os w s file e bs h.1.parent h.5)

fit_wider : (part whole : Plan) → IsPartOf part whole → (w : Setting) → w.outlines ≡ outlines (trees part) → (s : State) → AllFit (trees part) w s → AllFit (trees whole) (with_outlines (outlines (trees whole)) w) s
fit_wider part whole is w o s h v f e =
    let x : FitsFunction (trees part) w s f = h v f e in
    record {
      statements = x.statements;
      chain = x.chain;
      stands = wider part whole is f.file x.statements x.stands;
      is_there = x.is_there;
      fits = chain_wider (outlines (trees whole)) w s f.file (same_outline part whole is f.file x.statements x.stands ∙ ap (λ os. option_flatten (slice_get os f.file)) (sym o)) x.chain (Some f.frame) x.fits;
    }

-- ---- tables that are right for the whole are right for the part

outer_same : (part whole : Plan) → IsPartOf part whole → PreludeIsSound part → (n : ℕ) (ms : List Local) (file : ℕ) (o : Option ℕ) → part.prelude ≡ o → outer_names (given whole n ms) file o ≡ outer_names (given part n ms) file o
outer_same part whole is sound n ms file None e = refl
outer_same part whole is sound n ms file (Some q) e =
    let tree = sound q e in
    ap (λ o. let r : Option Names = if nat_eq q file then None else Some (names_in (blocks_in o) 0) in r) (same_outline part whole is q tree.0 (stands part q tree.0 tree.1))

right : (files : List File) (part whole : Plan) (placed : Files) → IsPlanOf files whole → ArePlaced files whole placed → IsPartOf part whole → PreludeIsSound part
    → (n : ℕ) (ms : List Local) (file : ℕ) (ss : List Statement) → Stands (trees part) file ss → IsResolved (tables_of placed) (given part n ms) file ss
right files part whole placed is placed_so of sound n ms file ss there =
    let whole_sound : PreludeIsSound whole = λ q e. (let t = sound q (of.prelude ∙ e) in (t.0, tree_whole part whole of q t.0 t.1)) in
    let r : IsResolved (tables_of placed) (given whole n ms) file ss = tables_right files whole placed is placed_so whole_sound n ms file ss (wider part whole of file ss there) in
    let same = same_outline part whole of file ss there in
    let names : outer_names (given whole n ms) file whole.prelude ≡ outer_names (given part n ms) file part.prelude = ap (outer_names (given whole n ms) file) (sym of.prelude) ∙ outer_same part whole of sound n ms file part.prelude refl in
    let outer : outer_at (given whole n ms) file ≡ outer_at (given part n ms) file =
    ap (λ o. let r : Outer = record { names = o; language = whole.mode.language } in r) names ∙ ap (λ (m : Mode). let r : Outer = record { names = outer_names (given part n ms) file part.prelude; language = m.language } in r) (sym of.mode) in
    record {
      numbers = r.numbers;
      names = subst (λ o. AllPlaced ((tables_of placed).spots file) (blocks_of (given part n ms) file) o (uses ss)) outer (subst (λ o. AllPlaced ((tables_of placed).spots file) (blocks_in o) (outer_at (given whole n ms) file) (uses ss)) same r.names);
      blocks = λ number. r.blocks number ∙ ap (λ o. length (names_in (blocks_in o) number)) same;
    }

-- ---- the prelude of a part

prelude_by : (files : List File) (part whole : Plan) → IsPlanOf files whole → IsPartOf part whole → (n : ℕ) (ss : List Statement) (ms : List Local) → tree_in (read_of part n) ≡ Some ss → AreGood part (loaded part n) ms
    → (q : ℕ) → part.prelude ≡ Some q → (b : Bool) → nat_eq q n ≡ b → (us : List Statement) × (tree_in (read_of part q) ≡ Some us)
prelude_by files part whole is of n ss ms e g q prelude true same = (ss, ap (λ k. tree_in (read_of part k)) (eqb-true q n same) ∙ e)
prelude_by files part whole is of n ss ms e g q prelude false apart =
    let read = sound_read (read_of part n) ss e in
    let first = first_load files whole is n ss (tree_whole part whole of n ss e) q (sym of.prelude ∙ prelude) apart in
    let loads : loaded part n ≡ q ∷ first.0 = ap (λ r. map (λ l. l.file) (loads_in r)) (read.1 ∙ sym (of.reads n _ read.1)) ∙ first.1 in
    head_sound part q first.0 ms (subst (λ ns. AreGood part ns ms) loads g)

part_sound : (files : List File) (part whole : Plan) → IsPlanOf files whole → IsPartOf part whole → (n : ℕ) (ss : List Statement) (ms : List Local) → tree_in (read_of part n) ≡ Some ss → AreGood part (loaded part n) ms → PreludeIsSound part
part_sound files part whole is of n ss ms e g = λ q at. prelude_by files part whole is of n ss ms e g q at (nat_eq q n) refl

-- ---- the runs

parts_run_placed : (files : List File) (part whole : Plan) (placed : Files) → IsPlanOf files whole → ArePlaced files whole placed → IsPartOf part whole → (n : ℕ) → RunsAgree part whole n
parts_run_placed files part whole placed is placed_so of n ss ms e g =
    let sound : PreludeIsSound part = part_sound files part whole is of n ss ms e g in
    let tables : Tables = tables_of placed in
    let w : Setting = given part n ms in
    let u : Setting = with_outlines (outlines (trees whole)) w in
    let all = gather part (loaded part n) ms g in
    let fit : AllFit (trees part) w (start w part.mode.steps) = fit_at part tables (λ k ks file us. right files part whole placed is placed_so of sound k ks file us) all.0 n ms all.1 in
    let sight : Sight (trees part) w = record { outlines = outlines (trees whole); same = λ file us h. same_outline part whole of file us h } in
    let places : run_file (by_places tables u) u most_levels ss (start w part.mode.steps) ≡ run_file (by_names w) w most_levels ss (start w part.mode.steps) = outlines_seen tables (trees part) w ss part.mode.steps refl (stands part n ss e) (right files part whole placed is placed_so of sound n ms) fit sight in
    let read = sound_read (read_of part n) ss e in
    let same : u ≡ given whole n ms = ap (λ r. setting n (trees whole) (load_files (loads_in r)) part.prelude part.mode.language ms) (read.1 ∙ sym (of.reads n _ read.1)) ∙ (ap (λ o. setting n (trees whole) (load_files (loads_of whole n)) o part.mode.language ms) of.prelude ∙ ap (λ (m : Mode). setting n (trees whole) (load_files (loads_of whole n)) whole.prelude m.language ms) of.mode) in
    let whole_sound : PreludeIsSound whole = λ q h. (let t = sound q (of.prelude ∙ h) in (t.0, tree_whole part whole of q t.0 t.1)) in
    let resolved : (file : ℕ) (us : List Statement) → Stands (trees whole) file us → IsResolved tables u file us = λ file us h. subst (λ z. IsResolved tables z file us) (sym same) (tables_right files whole placed is placed_so whole_sound n ms file us h) in
    let names : run_file (by_places tables u) u most_levels ss (start u part.mode.steps) ≡ run_file (by_names u) u most_levels ss (start u part.mode.steps) = (places_mean_names tables (trees whole) u ss part.mode.steps refl (wider part whole of n ss (stands part n ss e)) resolved (fit_wider part whole of w refl (start w part.mode.steps) fit)).0 in
    sym places
    ∙ (names
    ∙ (ap (λ z. run_file (by_names z) z most_levels ss (start z part.mode.steps)) same
    ∙ ap (λ (m : Mode). run_file (by_names (given whole n ms)) (given whole n ms) most_levels ss (start (given whole n ms) m.steps)) of.mode))

pub parts_run : PartsRun
parts_run files part whole is of =
    let row = row_of_plan files whole is in
    parts_run_placed files part whole row.0 is row.1 of

-- ---- results

part_walk : (part whole : Plan) → IsPartOf part whole → (j n k : ℕ) (r : Reading) → read_of part n ≡ Some r → Walk (Loads (loaded part)) j n k → read_of part k ≡ read_of whole k
part_walk part whole of zero n k r e w = subst (λ z. read_of part z ≡ read_of whole z) w (e ∙ sym (of.reads n r e))
part_walk part whole of (suc j) n k r e w =
    let next = of.closed n w.0 r e w.1 in
    part_walk part whole of j w.0 k next.0 next.1 w.2

pub part_agrees : (part whole : Plan) → IsPartOf part whole → (n : ℕ) (r : Reading) → read_of part n ≡ Some r → Agree part whole n
part_agrees part whole of n r e = record { mode = of.mode; prelude = of.prelude; reads = λ k way. part_walk part whole of way.0 n k r e way.1 }

pub parts_have_results : PartsHaveResults
parts_have_results files part whole is of n r e =
    result_by_needs part whole n (part_agrees part whole of n r e) (λ k way. parts_run files part whole is of k)
