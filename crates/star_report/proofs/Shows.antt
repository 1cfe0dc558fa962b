-- The values that show modules, and the report of them.
use Rattle.std.proofs.Common.{arith, ◌≡◌, ◌<◌, ◌+◌, ℕ, Bool, List, [], ◌∷◌, ◌++◌, map, take, length, get_or, Some, None, refl, ap, sym, subst, ◌∙◌}
use Rattle.std.specs.Arc.{arc_value}
use Rattle.std.specs.Prelude.{All, Contains, slice_index_or}
use Rattle.serde_json.specs.Data.{Data, Members, no_members}
use Rattle.std.specs.List.Sorted.{IsStrictlyIncreasing}
use Rattle.std.proofs.lemmas.List.{get_or-map, length-map, map_push, take_all, take_more}
use Rattle.std.proofs.lemmas.List.Elements.{All-get_or, All-nil, All-push}
use Rattle.star_label.specs.Files.{File, label_at}
use Rattle.star_plan.specs.Plan.{Plan, loaded}
use Rattle.star_plan.specs.Reached.{IsReached}
use Rattle.star_plan.specs.Reading.{IsPlanOf}
use Rattle.star_plan.specs.Report.{Ended as ReportEnded, HadFault, HadLoad, HadStatic, IsEnded, IsReport, Module as ReportModule, WentWell}
use Rattle.star_plan.specs.Results.{IsFirstBad, IsGood, result}
use Rattle.star_plan.specs.Text.{ended_data}
use Rattle.star_plan.proofs.Outcomes.{no_bad}
use Rattle.star_plan.proofs.Stay.{good_is}
use Rattle.star_cause.specs.Causes.{AreNextsOf}
use Rattle.star_cause.specs.Ways.{Nexts}
use Rattle.star_reading.specs.Codes.{fault_of}
use Rattle.star_reading.specs.Readings.{Row, loads_at, readings}
use Rattle.star_scope.specs.declared.loads.Load.{Load}
use Rattle.star_outcome.specs.Kept.{AreModules, KeptView}
use Rattle.star_meaning.specs.declared.said.RecordedCall.{RecordedCall}
use Rattle.star_report.specs.Calls.{calls_by, calls_of}
use Rattle.star_report.specs.Shelf.{more_of}
use Rattle.star_report.specs.Shown.{AreShown, IsShown}
use Rattle.star_report.specs.Wanted.{AreMore, Full, added, full_data, is_ok, is_shown, is_shown_by}
use Rattle.star_report.specs.declared.wanted.Wanted.{Wanted}
use Rattle.star_report.proofs.Stores.{more_is}
use Rattle.star_outcome.specs.Views.{IsEnd, IsModule, ended_well}
use Rattle.star_outcome.specs.declared.module.Ended.{Ended}
use Rattle.star_outcome.specs.declared.module.Ended.TheVariants.{Static, Load as Unloaded, Stopped, Good}
use Rattle.star_outcome.specs.declared.module.Module.{Module}

-- ---- one module

-- a file with a first load that is not good is not good itself
bad_load : (plan : Plan) (n index : ℕ) → IsFirstBad plan (loaded plan n) index → IsGood plan n → ⊥
bad_load plan n index bad good = no_bad plan good.0 n good.1.0 index (good_is (result plan good.0 n) good.1.0 good.1.1) bad

-- data that show how a file ended are those of its module in the report
pub one_shown : (files : List File) (plan : Plan) (nexts : Nexts) (n : ℕ) (e : Ended) (v : Data) → IsPlanOf files plan → AreNextsOf plan nexts → IsReached plan n → IsEnd plan n e → IsShown files nexts n e v
    → (r : ReportEnded) × IsEnded plan n r × (v ≡ ended_data files (label_at files n) r) × (is_ok r ≡ ended_well e) × (calls_by r ≡ calls_of e)
one_shown files plan nexts n (Static f) v planned are reached is shown = (HadStatic (fault_of f), is, shown, refl, refl)
one_shown files plan nexts n (Unloaded index line) v planned are reached is shown =
    (HadLoad shown.0 line, (shown.1 files plan planned are reached (bad_load plan n index is.0), (index, is.1.0, is.0, is.1.1, is.1.2)), shown.2, refl, refl)
one_shown files plan nexts n (Stopped code line lines trail) v planned are reached is shown = (HadFault (record { code = code; line = line }) lines.items, is, shown, refl, refl)
one_shown files plan nexts n (Good body) v planned are reached is shown = (WentWell (arc_value (arc_value body).shown) (arc_value body).lines.items, (is.shelf, is.globals, is.outcome), shown, refl, refl)

-- ---- the modules that are kept

no_note : KeptView
no_note = record { number = 0; cell = 0; known = None }

pub module_at : (plan : Plan) (ks : List KeptView) (i : ℕ) (it : Module) → i < length ks → ((d : KeptView) → (slice_index_or ks i d).known ≡ Some it) → AreModules plan ks → (d : KeptView) → IsModule plan (slice_index_or ks i d).number it
module_at plan ks i it less known are d =
    let there = All-get_or (λ (k : KeptView). (m : Module) × (k.known ≡ Some m) × IsModule plan k.number m) ks i d less are.each in
    let both : Some there.0 ≡ Some it = sym there.1 ∙ known d in
    let same : there.0 ≡ it = cc in
    subst (IsModule plan (slice_index_or ks i d).number) same there.2

pub number_at : (plan : Plan) (ks : List KeptView) (i : ℕ) (it : Module) → i < length ks → ((d : KeptView) → (slice_index_or ks i d).known ≡ Some it) → AreModules plan ks → (d : KeptView) → (slice_index_or ks i d).number ≡ it.number
number_at plan ks i it less known are d = sym (module_at plan ks i it less known are d).number

pub own_module : (plan : Plan) (ks : List KeptView) (i : ℕ) (it : Module) → i < length ks → ((d : KeptView) → (slice_index_or ks i d).known ≡ Some it) → AreModules plan ks → IsModule plan it.number it
own_module plan ks i it less known are = subst (λ n. IsModule plan n it) (number_at plan ks i it less known are no_note) (module_at plan ks i it less known are no_note)

reached_at : (plan : Plan) (ks : List KeptView) (i : ℕ) (d : KeptView) → i < length ks → AreModules plan ks → IsReached plan (slice_index_or ks i d).number
reached_at plan ks i d less are =
    let n : ℕ = (slice_index_or ks i d).number in
    let long = length-map ks (λ (k : KeptView). k.number) in
    let is : get_or (map (λ (k : KeptView). k.number) ks) i n ≡ n = get_or-map (λ (k : KeptView). k.number) ks i d n less in
    (are.reached n).1 (i, omega (arith, less, long), is)

pub own_reached : (plan : Plan) (ks : List KeptView) (i : ℕ) (it : Module) → i < length ks → ((d : KeptView) → (slice_index_or ks i d).known ≡ Some it) → AreModules plan ks → IsReached plan it.number
own_reached plan ks i it less known are = subst (IsReached plan) (number_at plan ks i it less known are no_note) (reached_at plan ks i no_note less are)

-- ---- their values

pub shown_none : (wanted : Wanted) (files : List File) (plan : Plan) (ks : List KeptView) → AreShown wanted files plan (take 0 ks) [] [] []
shown_none wanted files plan ks = record {
  fulls = [];
  numbers = refl;
  each_ended = All-nil (λ (f : Full). IsEnded plan f.shown.file f.shown.ended);
  more = All-nil (λ (f : Full). AreMore wanted files plan f.shown.file f.more);
  data_are = refl;
  shown_are = refl;
  calls_are = refl;
}

pub shown_push : (wanted : Wanted) (files : List File) (plan : Plan) (ks : List KeptView) (ds : List Data) (bs : List Bool) (cs : List (List RecordedCall)) (k : KeptView) (d : Data) (b : Bool) (c : List RecordedCall) (r : ReportEnded) (ms : Members) → IsEnded plan k.number r → AreMore wanted files plan k.number ms → d ≡ ended_data files (label_at files k.number) r
    → b ≡ is_shown_by wanted plan.roots (is_ok r) k.number → c ≡ calls_by r → AreShown wanted files plan ks ds bs cs → AreShown wanted files plan (ks ++ k ∷ []) (ds ++ added ms d ∷ []) (bs ++ b ∷ []) (cs ++ c ∷ [])
shown_push wanted files plan ks ds bs cs k d b c r ms is more seen kept said was =
    let f : Full = record { shown = record { file = k.number; ended = r }; more = ms } in
    record {
      fulls = was.fulls ++ f ∷ [];
      numbers = map_push (λ (x : Full). x.shown.file) was.fulls f ∙ (ap (λ ns. ns ++ k.number ∷ []) was.numbers ∙ sym (map_push (λ (x : KeptView). x.number) ks k));
      each_ended = All-push (λ (x : Full). IsEnded plan x.shown.file x.shown.ended) was.fulls f was.each_ended is;
      more = All-push (λ (x : Full). AreMore wanted files plan x.shown.file x.more) was.fulls f was.more more;
      data_are = ap (λ xs. xs ++ added ms d ∷ []) was.data_are ∙ (ap (λ x. map (full_data files) was.fulls ++ added ms x ∷ []) seen ∙ sym (map_push (full_data files) was.fulls f));
      shown_are = ap (λ xs. xs ++ b ∷ []) was.shown_are ∙ (ap (λ x. map (is_shown wanted plan) was.fulls ++ x ∷ []) kept ∙ sym (map_push (is_shown wanted plan) was.fulls f));
      calls_are = ap (λ xs. xs ++ c ∷ []) was.calls_are ∙ (ap (λ x. map (λ (y : Full). calls_by y.shown.ended) was.fulls ++ x ∷ []) said ∙ sym (map_push (λ (y : Full). calls_by y.shown.ended) was.fulls f));
    }

pub shown_more : (wanted : Wanted) (files : List File) (row : Row) (plan : Plan) (nexts : Nexts) (ks : List KeptView) (i : ℕ) (ds : List Data) (bs : List Bool) (cs : List (List RecordedCall)) (it : Module) (loads : List Load) (v : Data) (b : Bool) → i < length ks → ((d : KeptView) → (slice_index_or ks i d).known ≡ Some it) → IsShown files nexts it.number it.ended v
    → b ≡ is_shown_by wanted plan.roots (ended_well it.ended) it.number
    → IsPlanOf files plan → readings row ≡ plan.reads → loads ≡ loads_at row it.number → AreModules plan ks → AreNextsOf plan nexts → AreShown wanted files plan (take i ks) ds bs cs → AreShown wanted files plan (take (i + 1) ks) (ds ++ added (more_of wanted files loads it) v ∷ []) (bs ++ b ∷ []) (cs ++ calls_of it.ended ∷ [])
shown_more wanted files row plan nexts ks i ds bs cs it loads v b less known shown kept planned read own_loads are nexts_are was =
    let k : KeptView = slice_index_or ks i no_note in
    let ms : Members = more_of wanted files loads it in
    let is : IsModule plan k.number it = module_at plan ks i it less known are no_note in
    let own : IsShown files nexts k.number it.ended v = subst (λ n. IsShown files nexts n it.ended v) is.number shown in
    let one = one_shown files plan nexts k.number it.ended v planned nexts_are (reached_at plan ks i no_note less are) is.ended own in
    let here : b ≡ is_shown_by wanted plan.roots (is_ok one.0) k.number =
    kept ∙ (ap (λ n. is_shown_by wanted plan.roots (ended_well it.ended) n) is.number ∙ ap (λ x. is_shown_by wanted plan.roots x k.number) (sym one.3)) in
    subst (λ xs. AreShown wanted files plan xs (ds ++ added ms v ∷ []) (bs ++ b ∷ []) (cs ++ calls_of it.ended ∷ [])) (sym (take_more ks i no_note less))
    (shown_push wanted files plan (take i ks) ds bs cs k v b (calls_of it.ended) one.0 ms one.1 (more_is wanted files row plan k.number it loads planned read own_loads is) one.2 here (sym one.4) was)

pub shown_all : (wanted : Wanted) (files : List File) (plan : Plan) (ks : List KeptView) (i : ℕ) (ds : List Data) (bs : List Bool) (cs : List (List RecordedCall)) → i ≡ length ks → AreShown wanted files plan (take i ks) ds bs cs → AreShown wanted files plan ks ds bs cs
shown_all wanted files plan ks i ds bs cs end was = subst (λ xs. AreShown wanted files plan xs ds bs cs) (take_all i ks (let e : i ≡ length ks = end in omega arith)) was

-- ---- the report

numbers_in : (fs : List Full) → map (λ (m : ReportModule). m.file) (map (λ (f : Full). f.shown) fs) ≡ map (λ (f : Full). f.shown.file) fs
numbers_in [] = refl
numbers_in (f ∷ fs) = ap (λ ns. f.shown.file ∷ ns) (numbers_in fs)

ends_in : (plan : Plan) (fs : List Full) → All (λ (f : Full). IsEnded plan f.shown.file f.shown.ended) fs → All (λ (m : ReportModule). IsEnded plan m.file m.ended) (map (λ (f : Full). f.shown) fs)
ends_in plan fs h = λ k d less. (
    let count = length-map fs (λ (f : Full). f.shown) in
    let f : Full = record { shown = d; more = no_members } in
    let inside : k < length fs = omega (arith, less, count) in
    subst (λ (m : ReportModule). IsEnded plan m.file m.ended) (sym (get_or-map (λ (x : Full). x.shown) fs k f d inside)) (h k f inside)
    )

pub report_shown : (wanted : Wanted) (files : List File) (plan : Plan) (ks : List KeptView) (ds : List Data) (bs : List Bool) (cs : List (List RecordedCall)) → AreModules plan ks → (shown : AreShown wanted files plan ks ds bs cs) → IsReport plan (length ks) (map (λ (f : Full). f.shown) shown.fulls)
report_shown wanted files plan ks ds bs cs are shown =
    let fs : List Full = shown.fulls in
    let ms : List ReportModule = map (λ (f : Full). f.shown) fs in
    let numbers : map (λ (m : ReportModule). m.file) ms ≡ map (λ (k : KeptView). k.number) ks = numbers_in fs ∙ shown.numbers in
    let count : length ks ≡ length ms = sym (length-map ks (λ (k : KeptView). k.number)) ∙ (ap length (sym numbers) ∙ length-map ms (λ (m : ReportModule). m.file)) in
    record {
      begun_are = count;
      in_order = subst IsStrictlyIncreasing (sym numbers) are.in_order;
      all = λ n. (λ r. subst (λ ns. Contains ns n) (sym numbers) ((are.reached n).0 r), λ h. (are.reached n).1 (subst (λ ns. Contains ns n) numbers h));
      each_ended = ends_in plan fs shown.each_ended;
    }
