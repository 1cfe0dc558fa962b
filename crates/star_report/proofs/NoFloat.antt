-- The values of modules have no float, so their texts are exact.
use Rattle.std.proofs.Common.{arith, ◌≡◌, ℕ, zero, suc, ℤ, pos, negsuc, List, [], ◌∷◌, Bool, true, false, Option, Some, None, fold, map, codes, refl, ap, sym, ◌∙◌, if◌then◌else◌}
use Rattle.std.specs.Prelude.{All, filter, is_some, option_and_then}
use Rattle.std.specs.Option.{option_map}
use Rattle.std.proofs.lemmas.Bool.{or_parts}
use Rattle.serde_json.specs.Data.{Data, Items, Members, array, boolean, item, member, no_items, no_members, null, number, object, put, string}
use Rattle.serde_json.specs.Find.{of_integer}
use Rattle.serde_json.specs.View.{items_of}
use Rattle.serde_json.specs.Written.{has_float, items_have_float, members_have_float}
use Rattle.star_label.specs.Files.{File, label_at}
use Rattle.star_store.specs.declared.values.Value.{Value}
use Rattle.star_store.specs.declared.values.Value.TheVariants as value
use Rattle.star_store.specs.declared.values.Cell.{Cell}
use Rattle.star_store.specs.declared.values.Cell.TheVariants as cell
use Rattle.star_store.specs.Store.{global_of}
use Rattle.star_data.specs.Data.{cell_data, cell_of, data_of, entries_data, fields_data, items_data, key_in, on_shelf, utf8_of, value_data}
use Rattle.star_data.proofs.Options.{chained, mapped}
use Rattle.star_scope.specs.Loads.{is_private}
use Rattle.star_meaning.specs.Module.{Good, Stopped, most_levels}
use Rattle.star_scope.specs.declared.loads.Load.{Load}
use Rattle.star_plan.specs.Plan.{Plan, loads_of}
use Rattle.star_plan.specs.Results.{Outcome, Ran, Static, Unloaded}
use Rattle.star_report.specs.Values.{global_data, is_opaque, put_some, value_members, with_value}
use Rattle.star_data.proofs.Ints.{int_is}
use Rattle.star_data.proofs.Strings.{string_is}
use Rattle.star_report.specs.Wanted.{AreMore, AreWanted, Full, HasLoads, HasSteps, HasStepsAs, HasValues, added, followed, full_data, load_member, put_in}
use Rattle.star_report.specs.declared.wanted.Wanted.{Wanted}
use Rattle.star_plan.specs.Causes.{Cause, Culprit, Cycle}
use Rattle.star_plan.specs.Report.{Ended, HadFault, HadLoad, HadStatic, Module, WentWell}
use Rattle.star_outcome.proofs.NoFloat.{globals_none, put_none}
use Rattle.star_plan.specs.Text.{code_word, ended_data, ill_data, lines_in, load_data, module_data, static_line, static_word, texts_data, well_data}

put_text : (k s : List ℕ) (ms : Members) → members_have_float ms ≡ false → members_have_float (put k (string s) ms) ≡ false
put_text k s ms h = put_none k (string s) ms refl h

pub texts_none : (ts : List (List ℕ)) → items_have_float (items_of (map string ts)) ≡ false
texts_none [] = refl
texts_none (t ∷ ts) = texts_none ts

ill_none : (key : List ℕ) (fault : Data) (label : List ℕ) (line : ℕ) (lines : List (List ℕ)) (status : List ℕ) → has_float fault ≡ false → has_float (ill_data key fault label line lines status) ≡ false
ill_none key fault label line lines status h = rw (h, texts_none lines) refl

well_none : (label : List ℕ) (texts : List (List ℕ × List ℕ)) (lines : List (List ℕ)) → has_float (well_data label texts lines) ≡ false
well_none label texts lines = rw (globals_none texts, texts_none lines) refl

load_none : (files : List File) (label : List ℕ) (cause : Cause) (line : ℕ) → has_float (load_data files label cause line) ≡ false
load_none files label (Culprit n) line = ill_none (codes "cause") (string (label_at files n)) label line [] (codes "load") refl
load_none files label (Cycle ns) line = ill_none (codes "cycle") (texts_data (map (label_at files) ns)) label line [] (codes "load") (texts_none (map (label_at files) ns))

ended_none : (files : List File) (label : List ℕ) (e : Ended) → has_float (ended_data files label e) ≡ false
ended_none files label (WentWell texts said) = well_none label texts (lines_in said)
ended_none files label (HadFault f said) = ill_none (codes "fault") (string (code_word f.code)) label f.line (lines_in said) (codes "fault") refl
ended_none files label (HadStatic f) = ill_none (codes "fault") (string (static_word f)) label (static_line f) [] (codes "static") refl
ended_none files label (HadLoad cause line) = load_none files label cause line

-- ---- values as data

abbrev Plain : (Value → Option Data) → Type 0
Plain f = (v : Value) (d : Data) → f v ≡ Some d → has_float d ≡ false

items_plain : (f : Value → Option Data) → Plain f → (xs : List Value) (is : Items) → items_data f xs ≡ Some is → items_have_float is ≡ false
items_plain f h [] is e = let same : no_items ≡ is = cc in ap items_have_float (sym same)
items_plain f h (x ∷ xs) is e =
    let first = chained (λ d. option_map (item d) (items_data f xs)) (f x) is e in
    let rest = mapped (item first.0) (items_data f xs) is first.2 in
    ap items_have_float (sym rest.2) ∙ rw (h x first.0 first.1) (items_plain f h xs rest.0 rest.1)

entries_plain : (look : Value → Option Cell) (f : Value → Option Data) → Plain f → (es : List (Value × Value)) (ms : Members) → entries_data look f es ≡ Some ms → members_have_float ms ≡ false
entries_plain look f h [] ms e = let same : no_members ≡ ms = cc in ap members_have_float (sym same)
entries_plain look f h (x ∷ es) ms e =
    let k = chained (λ k. option_and_then (λ d. option_map (put k d) (entries_data look f es)) (f x.1)) (key_in (cell_of look x.0)) ms e in
    let d = chained (λ d. option_map (put k.0 d) (entries_data look f es)) (f x.1) ms k.2 in
    let rest = mapped (put k.0 d.0) (entries_data look f es) ms d.2 in
    ap members_have_float (sym rest.2) ∙ put_none k.0 d.0 rest.0 (h x.1 d.0 d.1) (entries_plain look f h es rest.0 rest.1)

fields_plain : (f : Value → Option Data) → Plain f → (fs : List (List ℕ × Value)) (ms : Members) → fields_data f fs ≡ Some ms → members_have_float ms ≡ false
fields_plain f h [] ms e = let same : no_members ≡ ms = cc in ap members_have_float (sym same)
fields_plain f h (x ∷ fs) ms e =
    let k = chained (λ k. option_and_then (λ d. option_map (put k d) (fields_data f fs)) (f x.1)) (utf8_of x.0) ms e in
    let d = chained (λ d. option_map (put k.0 d) (fields_data f fs)) (f x.1) ms k.2 in
    let rest = mapped (put k.0 d.0) (fields_data f fs) ms d.2 in
    ap members_have_float (sym rest.2) ∙ put_none k.0 d.0 rest.0 (h x.1 d.0 d.1) (fields_plain f h fs rest.0 rest.1)

cell_plain : (look : Value → Option Cell) (f : Value → Option Data) → Plain f → (o : Option Cell) (d : Data) → cell_data look f o ≡ Some d → has_float d ≡ false
cell_plain look f h (Some (cell.Text t)) d e = ap has_float (sym (string_is t d e).0)
cell_plain look f h (Some (cell.Tuple xs)) d e = let all = mapped array (items_data f xs) d e in ap has_float (sym all.2) ∙ items_plain f h xs all.0 all.1
cell_plain look f h (Some (cell.List xs)) d e = let all = mapped array (items_data f xs) d e in ap has_float (sym all.2) ∙ items_plain f h xs all.0 all.1
cell_plain look f h (Some (cell.Dict es)) d e = let all = mapped object (entries_data look f es) d e in ap has_float (sym all.2) ∙ entries_plain look f h es all.0 all.1
cell_plain look f h (Some (cell.Struct fs)) d e = let all = mapped object (fields_data f fs) d e in ap has_float (sym all.2) ∙ fields_plain f h fs all.0 all.1
cell_plain look f h (Some (cell.Set es)) d e = let all = mapped array (items_data f (map (λ (x : Value × Value). x.0) es)) d e in ap has_float (sym all.2) ∙ items_plain f h (map (λ (x : Value × Value). x.0) es) all.0 all.1
cell_plain look f h (Some (cell.Range r)) d e = absurd (let no : ⊥ = cc in no)
cell_plain look f h (Some (cell.Func r)) d e = absurd (let no : ⊥ = cc in no)
cell_plain look f h (Some (cell.Frame r)) d e = absurd (let no : ⊥ = cc in no)
cell_plain look f h (Some (cell.Bound m x)) d e = absurd (let no : ⊥ = cc in no)
cell_plain look f h None d e = absurd (let no : ⊥ = cc in no)

int_plain : (i : ℤ) → has_float (number (of_integer i)) ≡ false
int_plain (pos n) = refl
int_plain (negsuc n) = refl

value_plain : (look : Value → Option Cell) (f : Value → Option Data) → Plain f → Plain (value_data look f)
value_plain look f h value.NoneValue d e = let same : null ≡ d = cc in ap has_float (sym same)
value_plain look f h (value.Bool b) d e = let same : boolean b ≡ d = cc in ap has_float (sym same)
value_plain look f h (value.Int i) d e = ap has_float (sym (int_is i d e).1) ∙ int_plain i
value_plain look f h (value.Ref a b) d e = cell_plain look f h (look (value.Ref a b)) d e
value_plain look f h (value.Builtin b) d e = absurd (let no : ⊥ = cc in no)

data_plain : (look : Value → Option Cell) (n : ℕ) → Plain (data_of look n)
unfolding data_of
data_plain look zero v d e = absurd (let no : ⊥ = cc in no)
data_plain look (suc n) v d e = value_plain look (data_of look n) (data_plain look n) v d e

-- ---- the members of a module

global_plain : (look : Value → Option Cell) (globals : List (List ℕ × Value)) (name : List ℕ) (d : Data) → global_data look globals name ≡ Some d → has_float d ≡ false
global_plain look globals name d e = let v = chained (data_of look most_levels) (global_of name globals) d e in data_plain look most_levels v.0 d v.2

some_plain : (name : List ℕ) (o : Option Data) (ms : Members) → ((d : Data) → o ≡ Some d → has_float d ≡ false) → members_have_float ms ≡ false → members_have_float (put_some name o ms) ≡ false
some_plain name None ms h e = e
some_plain name (Some d) ms h e = put_none name d ms (h d refl) e

unless_private : (b : Bool) (ms ns : Members) → members_have_float ms ≡ false → members_have_float ns ≡ false → members_have_float (if b then ms else ns) ≡ false
unless_private true ms ns g h = g
unless_private false ms ns g h = h

values_plain : (f : List ℕ → Option Data) → ((name : List ℕ) (d : Data) → f name ≡ Some d → has_float d ≡ false) → (names : List (List ℕ)) (ms : Members) → members_have_float ms ≡ false → members_have_float (fold (with_value f) ms names) ≡ false
values_plain f h [] ms e = e
values_plain f h (x ∷ xs) ms e = values_plain f h xs (with_value f ms x) (unless_private (is_private x) ms (put_some x (f x) ms) e (some_plain x (f x) ms (h x) e))

outcome_plain : (o : Outcome) → members_have_float (value_members o) ≡ false
outcome_plain (Static f) = refl
outcome_plain (Unloaded i) = refl
outcome_plain (Ran (Stopped f lines)) = refl
outcome_plain (Ran (Good shelf globals texts lines)) =
    let f = global_data (on_shelf shelf) globals in
    let names : List (List ℕ) = map (λ (g : List ℕ × List ℕ). g.0) texts in
    rw (texts_none (filter (is_opaque f) names), values_plain f (global_plain (on_shelf shelf) globals) names no_members refl) refl

if_plain : (b : Bool) (P : Members → Type 0) (ms : Members) → ((ns : Members) → P ns → members_have_float ns ≡ false) → AreWanted b P ms → members_have_float ms ≡ false
if_plain true P ms h is = h ms is
if_plain false P ms h e = ap members_have_float e

values_are_plain : (plan : Plan) (n : ℕ) (ms : Members) → HasValues plan n ms → members_have_float ms ≡ false
values_are_plain plan n ms (o, is, e) = ap members_have_float e ∙ outcome_plain o

loads_plain : (files : List File) (ls : List Load) → items_have_float (items_of (map (load_member files) ls)) ≡ false
loads_plain files [] = refl
loads_plain files (l ∷ ls) = loads_plain files ls

loads_are_plain : (files : List File) (plan : Plan) (n : ℕ) (ms : Members) → HasLoads files plan n ms → members_have_float ms ≡ false
loads_are_plain files plan n ms e = ap members_have_float e ∙ rw (loads_plain files (filter (λ (l : Load). is_some l.token) (loads_of plan n))) refl

steps_as_plain : (plan : Plan) (n : ℕ) (o : Outcome) (ms : Members) → HasStepsAs plan n o ms → members_have_float ms ≡ false
steps_as_plain plan n (Ran (Good shelf globals texts lines)) ms (paid, has, e) = ap members_have_float e
steps_as_plain plan n (Ran (Stopped f lines)) ms e = ap members_have_float e
steps_as_plain plan n (Static f) ms e = ap members_have_float e
steps_as_plain plan n (Unloaded i) ms e = ap members_have_float e

followed_plain : (ms ns : Members) → members_have_float ms ≡ false → members_have_float ns ≡ false → members_have_float (followed ms ns) ≡ false
followed_plain no_members ns g h = h
followed_plain (member k e ms) ns g h =
    let both = or_parts (has_float e) (members_have_float ms) g in
    rw both.0 (followed_plain ms ns both.1 h)

more_plain : (wanted : Wanted) (files : List File) (plan : Plan) (n : ℕ) (ms : Members) → AreMore wanted files plan n ms → members_have_float ms ≡ false
more_plain wanted files plan n ms (l, s, v, a, b, c, e) =
    ap members_have_float e
    ∙ followed_plain l (followed s v) (if_plain wanted.loads (HasLoads files plan n) l (loads_are_plain files plan n) a)
    (followed_plain s v (if_plain wanted.steps (HasSteps plan n) s (λ ns h. steps_as_plain plan n h.0 ns h.2) b) (if_plain wanted.values (HasValues plan n) v (values_are_plain plan n) c))

put_in_none : (k : List ℕ) (e d : Data) → has_float e ≡ false → has_float d ≡ false → has_float (put_in k e d) ≡ false
put_in_none k e (object ms) g h = put_none k e ms g h
put_in_none k e null g h = h
put_in_none k e (boolean b) g h = h
put_in_none k e (number n) g h = h
put_in_none k e (string s) g h = h
put_in_none k e (array ds) g h = h

added_none : (ms : Members) (d : Data) → members_have_float ms ≡ false → has_float d ≡ false → has_float (added ms d) ≡ false
added_none no_members d g h = h
added_none (member k e ms) d g h =
    let both = or_parts (has_float e) (members_have_float ms) g in
    added_none ms (put_in k e d) both.1 (put_in_none k e d both.0 h)

module_none : (files : List File) (m : Module) → has_float (module_data files m) ≡ false
module_none files m = ended_none files (label_at files m.file) m.ended

pub fulls_none : (wanted : Wanted) (files : List File) (plan : Plan) (fs : List Full) → All (λ (f : Full). AreMore wanted files plan f.shown.file f.more) fs → items_have_float (items_of (map (full_data files) fs)) ≡ false
fulls_none wanted files plan [] h = refl
fulls_none wanted files plan (f ∷ fs) h =
    rw (added_none f.more (module_data files f.shown) (more_plain wanted files plan f.shown.file f.more (h zero f (omega arith))) (module_none files f.shown))
    (fulls_none wanted files plan fs (λ k d less. h (suc k) d (omega (arith, less))))
