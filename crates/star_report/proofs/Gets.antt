-- The globals of roots as data.
use Rattle.std.proofs.Common.{arith, ◌≡◌, ◌<◌, ◌+◌, ℕ, zero, suc, List, [], ◌∷◌, ◌++◌, length, take, drop, get_or, Option, Some, None, Result, Ok, Err, Vec, refl, ap, sym, subst, ◌∙◌, append_assoc}
use denote.Ref.{Bor}
use Rattle.std.specs.Arc.{arc_value}
use Rattle.std.specs.Prelude.{Contains, slice_get}
use Rattle.std.specs.Option.{option_flatten}
use Rattle.std.proofs.lemmas.List.{flat_map_more, take_all, take_more}
use Rattle.serde_json.specs.Data.{Data}
use Rattle.serde_json.specs.Written.{compact_text}
use Rattle.star_label.specs.Files.{File}
use Rattle.star_store.specs.declared.values.Value.{Value}
use Rattle.star_store.specs.declared.values.Cell.{Cell}
use Rattle.star_store.specs.Store.{look}
use Rattle.star_data.specs.Data.{on_shelf}
use Rattle.star_meaning.specs.Module.{Good as WentWell, Stopped as HadFault, most_levels}
use Rattle.star_plan.specs.Plan.{Plan}
use Rattle.star_plan.specs.Reached.{IsReached}
use Rattle.star_plan.specs.Reached.{root as is_root}
use Rattle.star_plan.specs.Reading.{IsPlanOf}
use Rattle.star_plan.specs.Results.{Ran, Static as StaticOutcome, Unloaded as UnloadedOutcome}
use Rattle.star_reading.specs.Codes.{fault_of}
use Rattle.star_outcome.specs.Views.{IsBody, IsEnd, IsModule}
use Rattle.star_outcome.specs.declared.module.Body.{Body}
use Rattle.star_outcome.specs.declared.module.Ended.{Ended}
use Rattle.star_outcome.specs.declared.module.Ended.TheVariants.{Static, Load as Unloaded, Stopped, Good}
use Rattle.star_outcome.specs.declared.module.Module.{Module}
use Rattle.star_report.specs.Gets.{HasJson, IsJsonFor, got_in, got_stored}
use Rattle.star_report.specs.Got.{AreGot, HasGot, IsFirstLack, data_got, data_or, got_text, public_global}
use Rattle.star_report.specs.Shelf.{shelf_in}
use Rattle.star_report.specs.Table.{IsTable, Table}
use Rattle.star_report.specs.declared.got.Lack.{Lack}
use Rattle.star_report.proofs.Stores.{same_data, stores_say}

-- ---- one file

data_same : (look see : Value → Option Cell) → ((v : Value) → look v ≡ see v) → (o : Option Value) → data_got look o ≡ data_got see o
data_same look see same None = refl
data_same look see same (Some v) = ap data_or (same_data look see same most_levels v)

stored_is : (files : List File) (plan : Plan) (n : ℕ) (b : Body) → IsPlanOf files plan → (is : IsBody plan n b) → (name : List ℕ) → got_stored (length files) n b name ≡ data_got (on_shelf is.shelf) (public_global is.globals name)
stored_is files plan n b planned is name =
    let see = look (record { home = length files; cells = [] }) (shelf_in b) in
    let say = stores_say files plan n b planned is in
    ap (λ gs. data_got see (public_global gs name)) say.1 ∙ data_same see (on_shelf is.shelf) say.0 (public_global is.globals name)

ended_has : (files : List File) (plan : Plan) (n : ℕ) (e : Ended) (name : List ℕ) → IsPlanOf files plan → IsEnd plan n e → HasGot plan name n (got_in (length files) n e name)
ended_has files plan n (Static f) name planned is = (StaticOutcome (fault_of f), is, refl)
ended_has files plan n (Unloaded index line) name planned is = (UnloadedOutcome index, is.0, refl)
ended_has files plan n (Stopped code line lines story) name planned is = (Ran (HadFault (record { code = code; line = line }) lines.items), is, refl)
ended_has files plan n (Good b) name planned is =
    let body = arc_value b in
    (Ran (WentWell is.shelf is.globals (arc_value body.shown) body.lines.items), is.outcome, sym (stored_is files plan n body planned is name))

-- a module has the same answer for a name as its file
pub module_has : (files : List File) (plan : Plan) (n : ℕ) (m : Module) (name : List ℕ) → IsPlanOf files plan → IsModule plan n m → HasGot plan name n (got_in (length files) m.number m.ended name)
module_has files plan n m name planned is = subst (λ k. HasGot plan name n (got_in (length files) k m.ended name)) (sym is.number) (ended_has files plan n m.ended name planned is.ended)

-- a root whose module is in the table has the JSON of this module
pub json_has : {Z : Type 0} (files : List File) (plan : Plan) (table : Table) (root : ℕ) (m : Bor Module) (name : List ℕ) (r : Result (Vec ℕ Z) Lack) → IsPlanOf files plan → length files ≡ length table → IsTable plan table → slice_get table root ≡ Some (Some m)
    → IsJsonFor (got_in (length table) m.now.number m.now.ended name) r → HasJson plan name root r
json_has files plan table root m name r planned size is there json =
    let own : IsModule plan root m.now = (is.right root m there).1 in
    (got_in (length table) m.now.number m.now.ended name, subst (λ k. HasGot plan name root (got_in k m.now.number m.now.ended name)) size (module_has files plan root m.now name planned own), json)

pub flat_some : {A : Type 0} (o : Option (Option A)) (x : A) → option_flatten o ≡ Some x → o ≡ Some (Some x)
flat_some None x e = absurd (let no : ⊥ = cc in no)
flat_some (Some None) x e = absurd (let no : ⊥ = cc in no)
flat_some (Some (Some y)) x e = ap Some e

-- a reached file has a module in the table
pub not_missing : {A : Type 0} (plan : Plan) (table : Table) (n : ℕ) → IsTable plan table → IsReached plan n → option_flatten (slice_get table n) ≡ None → A
not_missing plan table n is reached none =
    let there = is.all n reached in
    let both : Some there.0 ≡ None = ap option_flatten (sym there.1) ∙ none in
    absurd (let no : ⊥ = cc in no)

-- ---- the lines

-- the lines of the first roots
abbrev pub SoFar : Plan → List ℕ → List ℕ → List ℕ → Type 0
SoFar plan name roots text = (ds : List Data) × AreGot plan name roots ds × (text ≡ got_text ds)

are_push : (plan : Plan) (name ns : List ℕ) (ds : List Data) (n : ℕ) (d : Data) → AreGot plan name ns ds → HasGot plan name n (Ok d) → AreGot plan name (ns ++ n ∷ []) (ds ++ d ∷ [])
are_push plan name [] [] n d are has = (has, tt)
are_push plan name [] (e ∷ ds) n d are has = absurd are
are_push plan name (m ∷ ns) [] n d are has = absurd are
are_push plan name (m ∷ ns) (e ∷ ds) n d are has = (are.0, are_push plan name ns ds n d are.1 has)

data_there : {Z : Type 0} (plan : Plan) (name : List ℕ) (n : ℕ) (g : Result Data Lack) (t : Vec ℕ Z) → HasGot plan name n g → IsJsonFor g (Ok t) → (d : Data) × HasGot plan name n (Ok d) × (t.items ≡ compact_text d)
data_there plan name n (Ok d) t has is = (d, has, is)
data_there plan name n (Err why) t has is = absurd is

lack_there : (Z : Type 0) (plan : Plan) (name : List ℕ) (n : ℕ) (g : Result Data Lack) (why : Lack) → HasGot plan name n g → IsJsonFor {Z = Z} g (Err why) → HasGot plan name n (Err why)
lack_there Z plan name n (Ok d) why has is = absurd is
lack_there Z plan name n (Err lack) why has is = subst (λ w. HasGot plan name n (Err w)) is has

-- one line more
pub line_more : {Z : Type 0} (plan : Plan) (name roots : List ℕ) (i : ℕ) (n : ℕ) (t : Vec ℕ Z) (old new : List ℕ) → i < length roots → ((d : ℕ) → get_or roots i d ≡ n) → HasJson plan name n (Ok t) → new ≡ (old ++ t.items) ++ 10 ∷ [] → SoFar plan name (take i roots) old → SoFar plan name (take (i + 1) roots) new
line_more plan name roots i n t old new less at json more (ds, are, is) =
    let d = data_there plan name n json.0 t json.1 json.2 in
    let line : new ≡ old ++ (compact_text d.0 ++ 10 ∷ []) = more ∙ (append_assoc old t.items (10 ∷ []) ∙ ap (λ s. old ++ (s ++ 10 ∷ [])) d.2) in
    let all : AreGot plan name (take (i + 1) roots) (ds ++ d.0 ∷ []) = subst (λ ns. AreGot plan name ns (ds ++ d.0 ∷ [])) (ap (λ x. take i roots ++ x ∷ []) (sym (at 0)) ∙ sym (take_more roots i 0 less)) (are_push plan name (take i roots) ds n d.0 are d.1) in
    (ds ++ d.0 ∷ [], all, line ∙ (ap (λ s. s ++ (compact_text d.0 ++ 10 ∷ [])) is ∙ flat_map_more (λ e. compact_text e ++ 10 ∷ []) [] ds d.0))

split_at : (roots : List ℕ) (i n : ℕ) → i < length roots → ((d : ℕ) → get_or roots i d ≡ n) → roots ≡ take i roots ++ n ∷ drop (i + 1) roots
split_at [] i n less at = absurd (let no : ⊥ = omega (arith, less) in no)
split_at (x ∷ xs) zero n less at = ap (λ y. y ∷ xs) (at 0)
split_at (x ∷ xs) (suc i) n less at =
    let same : drop (suc i + 1) (x ∷ xs) ≡ drop (i + 1) xs = ap (λ k. drop k (x ∷ xs)) (let e : suc i + 1 ≡ suc (i + 1) = omega arith in e) in
    ap (λ ys. x ∷ ys) (split_at xs i n (omega (arith, less)) at) ∙ ap (λ ys. x ∷ (take i xs ++ n ∷ ys)) (sym same)

-- a root that has no data for the name
pub first_lack : (Z : Type 0) (plan : Plan) (name roots : List ℕ) (i n : ℕ) (why : Lack) (old : List ℕ) → i < length roots → ((d : ℕ) → get_or roots i d ≡ n) → HasJson {Z = Z} plan name n (Err why) → SoFar plan name (take i roots) old → IsFirstLack plan name roots n why
first_lack Z plan name roots i n why old less at json (ds, are, is) = record {
  before = take i roots;
  after = drop (i + 1) roots;
  data_before = ds;
  files_are = split_at roots i n less at;
  got = are;
  lacks = lack_there Z plan name n json.0 why json.1 json.2;
}

pub all_lines : (plan : Plan) (name roots : List ℕ) (i : ℕ) (text : List ℕ) → i ≡ length roots → SoFar plan name (take i roots) text → SoFar plan name roots text
all_lines plan name roots i text end was = subst (λ ns. SoFar plan name ns text) (take_all i roots (let e : i ≡ length roots = end in omega arith)) was

-- a root is reached
pub root_reached : (plan : Plan) (roots : List ℕ) (i n : ℕ) → plan.roots ≡ roots → i < length roots → ((d : ℕ) → get_or roots i d ≡ n) → IsReached plan n
root_reached plan roots i n same less at = is_root (subst (λ ns. Contains ns n) (sym same) (i, less, at n))
