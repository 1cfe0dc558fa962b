-- The tables that the programs of a plan give are right in every run of it.
use Rattle.std.proofs.Common.{arith, ◌≡◌, ℕ, Bool, true, false, List, [], ◌∷◌, ◌++◌, map, Option, Some, None, Ok, refl, ap, sym, subst, ◌∙◌, nat_eq}
use Rattle.std.specs.Prelude.{slice_get, if◌then◌else◌}
use Rattle.std.specs.List.{flat_map}
use Rattle.std.specs.Option.{option_flatten, option_map}
use Rattle.std.proofs.lemmas.Option.{slice_get-map}
use Rattle.star_label.specs.Files.{File, text_at}
use Rattle.star_tree.specs.declared.tree.Statement.{Statement}
use Rattle.star_parser.proofs.Once.{one_answer}
use Rattle.star_scope.specs.declared.loads.Load.{Load}
use Rattle.star_scope.specs.declared.program.Prelude.{Prelude}
use Rattle.star_scope.specs.Loads.{load_of, prelude_loads}
use Rattle.star_scope.specs.Resolve.{IsProgram, outside, prelude_names, seen_by}
use Rattle.star_meaning.specs.Local.{Trees, outlines}
use Rattle.star_meaning.specs.Module.{Local}
use Rattle.star_meaning.specs.Places.{IsResolved, Stands}
use Rattle.star_meaning.specs.Programs.{ArePrograms, Files, prelude_in, tables_of, trees_of}
use Rattle.star_meaning.proofs.Resolved.{programs_place_names}
use Rattle.star_plan.specs.Plan.{Faulty, Plan, Reading, Sound, loaded, loads_in, read_of, tree_in, trees}
use Rattle.star_plan.specs.Reading.{IsPlanOf, IsPrelude, IsRead, statements_in}
use Rattle.star_plan.specs.Results.{AreGood}
use Rattle.star_plan.specs.Runs.{ArePlaced, PreludeIsSound, given}
use Rattle.star_plan.proofs.Seen.{result-sound}

-- the reading of a file with a tree
pub sound_read : (o : Option Reading) (ss : List Statement) → tree_in o ≡ Some ss → (loads : List Load) × (o ≡ Some (Sound ss loads))
sound_read None ss e = absurd (let no : ⊥ = cc in no)
sound_read (Some (Faulty f)) ss e = absurd (let no : ⊥ = cc in no)
sound_read (Some (Sound us loads)) ss e = (loads, let same : us ≡ ss = cc in ap (λ z. Some (Sound z loads)) same)

tree_flat : (o : Option (Option Reading)) → option_flatten (option_map tree_in o) ≡ tree_in (option_flatten o)
tree_flat None = refl
tree_flat (Some o) = refl

-- the names that the programs give to the prelude are the names of its text
same_prelude : (files : List File) (plan : Plan) (placed : Files) → IsPlanOf files plan → trees_of placed ≡ trees plan → PreludeIsSound plan
    → (o : Option ℕ) → plan.prelude ≡ o → (p : Option Prelude) → IsPrelude files o p → prelude_in placed o ≡ p
same_prelude files plan placed is same sound None at p e = sym e
same_prelude files plan placed is same sound (Some q) at p (answer, parses, other, e) =
    let tree = sound q at in
    let read = sound_read (read_of plan q) tree.0 tree.1 in
    let right : IsRead files (outside is.prelude plan.mode.language) q (Sound tree.0 read.0) = is.right q (Sound tree.0 read.0) read.1 in
    let one : answer ≡ Ok right.0 = one_answer (text_at files q) answer (Ok right.0) other (λ h. let no : ⊥ = cc in no) parses right.1 in
    let names : statements_in answer ≡ Some tree.0 = ap statements_in one ∙ ap Some right.2 in
    let there : option_flatten (slice_get (trees_of placed) q) ≡ Some tree.0 = ap (λ t. option_flatten (slice_get t q)) same ∙ (ap option_flatten (slice_get-map tree_in plan.reads q) ∙ (tree_flat (slice_get plan.reads q) ∙ tree.1)) in
    ap (λ z. let r : Prelude = record { file = q; names = prelude_names z } in Some r) (there ∙ sym names) ∙ sym e

pub are_programs : (files : List File) (plan : Plan) (placed : Files) → IsPlanOf files plan → ArePlaced files plan placed → PreludeIsSound plan → ArePrograms placed plan.prelude plan.mode.language
are_programs files plan placed is placed_so sound n f there =
    let same : prelude_in placed plan.prelude ≡ placed_so.prelude = same_prelude files plan placed is placed_so.statements sound plan.prelude refl placed_so.prelude placed_so.prelude_is in
    let one = placed_so.right n f there in
    (one.2.0, one.0, one.1, subst (λ (o : Option Prelude). IsProgram n (outside o plan.mode.language) f.statements one.2.0 one.0) (sym same) one.2.3)

pub tables_right : (files : List File) (plan : Plan) (placed : Files) → IsPlanOf files plan → ArePlaced files plan placed → PreludeIsSound plan
    → (n : ℕ) (ms : List Local) (file : ℕ) (ss : List Statement) → Stands (trees plan) file ss → IsResolved (tables_of placed) (given plan n ms) file ss
tables_right files plan placed is placed_so sound n ms file ss there =
    programs_place_names placed (given plan n ms) (ap outlines (sym placed_so.statements)) (are_programs files plan placed is placed_so sound) file ss
    (subst (λ (t : Trees). Stands t file ss) (sym placed_so.statements) there)

-- ---- the prelude of a file whose loads are good

-- each file but the prelude loads the prelude first
pub first_load : (files : List File) (plan : Plan) (is : IsPlanOf files plan) (n : ℕ) (ss : List Statement) → tree_in (read_of plan n) ≡ Some ss
    → (q : ℕ) → plan.prelude ≡ Some q → nat_eq q n ≡ false → (ns : List ℕ) × (loaded plan n ≡ q ∷ ns)
first_load files plan is n ss e q prelude apart =
    let read = sound_read (read_of plan n) ss e in
    let right : IsRead files (outside is.prelude plan.mode.language) n (Sound ss read.0) = is.right n (Sound ss read.0) read.1 in
    let there : IsPrelude files (Some q) is.prelude = subst (λ o. IsPrelude files o is.prelude) prelude is.prelude_is in
    let own : Prelude = record { file = q; names = prelude_names (statements_in there.0) } in
    let seen : seen_by n is.prelude ≡ Some own = ap (seen_by n) there.3 ∙ ap (λ b. let o : Option Prelude = if b then None else Some own in o) apart in
    let resolves = right.3.1 in
    let more : List Load = flat_map load_of resolves.0 in
    let loads : read.0 ≡ prelude_loads (Some q) ++ more = sym right.3.2 ∙ (resolves.3.loads ∙ ap (λ o. prelude_loads (option_map (λ (z : Prelude). z.file) o) ++ more) seen) in
    (map (λ l. l.file) more, ap (λ r. map (λ l. l.file) (loads_in r)) read.1 ∙ ap (λ ls. map (λ (l : Load). l.file) ls) loads)

pub head_sound : (plan : Plan) (q : ℕ) (ns : List ℕ) (ms : List Local) → AreGood plan (q ∷ ns) ms → (ss : List Statement) × (tree_in (read_of plan q) ≡ Some ss)
head_sound plan q ns [] g = absurd g
head_sound plan q ns (m ∷ ms) g = result-sound plan g.0.0 q m g.0.1

prelude_by : (files : List File) (plan : Plan) (is : IsPlanOf files plan) (n : ℕ) (ss : List Statement) (ms : List Local) → tree_in (read_of plan n) ≡ Some ss → AreGood plan (loaded plan n) ms
    → (q : ℕ) → plan.prelude ≡ Some q → (b : Bool) → nat_eq q n ≡ b → (us : List Statement) × (tree_in (read_of plan q) ≡ Some us)
prelude_by files plan is n ss ms e g q prelude true same = (ss, ap (λ k. tree_in (read_of plan k)) (let both : q ≡ n = grind (arith, same) in both) ∙ e)
prelude_by files plan is n ss ms e g q prelude false apart =
    let first = first_load files plan is n ss e q prelude apart in
    head_sound plan q first.0 ms (subst (λ ns. AreGood plan ns ms) first.1 g)

pub prelude_sound : (files : List File) (plan : Plan) (n : ℕ) (ss : List Statement) (ms : List Local) → IsPlanOf files plan → tree_in (read_of plan n) ≡ Some ss → AreGood plan (loaded plan n) ms → PreludeIsSound plan
prelude_sound files plan n ss ms is e g = λ q at. prelude_by files plan is n ss ms e g q at (nat_eq q n) refl
