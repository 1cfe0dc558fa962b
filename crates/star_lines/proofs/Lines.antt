-- The text of a report is a line that joins.
use Rattle.std.proofs.Common.{◌≡◌, ℕ, Bool, true, false, cond, not, ◌||◌, inl, List, [], ◌∷◌, ◌++◌, Option, Some, None, map, length, refl, ap, sym, ◌∙◌, subst}
use Rattle.std.specs.Prelude.{codes, decimal, nat_eq}
use Rattle.std.specs.List.{All, filter, list_any}
use Rattle.std.specs.Str.{bytes_eq}
use Rattle.std.specs.Ordering.{match_ordering, nat_cmp}
use Rattle.std.specs.declared.cmp.Ordering.{Ordering}
use Rattle.std.specs.declared.cmp.Ordering.TheVariants.{Less, Equal, Greater}
use Rattle.std.specs.Cmp.Lexicographic.{slice_cmp}
use Rattle.std.proofs.lemmas.List.{append_assoc, length-map}
use Rattle.std.proofs.lemmas.List.Elements.{All-cons, All-head, All-nil, All-tail}
use Rattle.std.proofs.lemmas.Map.Lookups.{exact_bytes}
use Rattle.json.specs.Print.{escape_byte}
use Rattle.serde_json.specs.Data.{Data, Members, array, member, no_members, number, object, put, string, unsigned, Items, item, no_items}
use Rattle.serde_json.specs.View.{items_of}
use Rattle.serde_json.specs.Written.{compact_text, items_text, members_text}
use Rattle.star_label.specs.Files.{File, label_at}
use Rattle.star_meaning.specs.Module.{Good, Stopped}
use Rattle.star_meaning.specs.declared.fault.FaultCode.{FaultCode}
use Rattle.star_plan.specs.Causes.{Culprit, Cycle}
use Rattle.star_plan.specs.Plan.{Plan}
use Rattle.star_plan.specs.Report.{Ended, HadFault, HadLoad, HadStatic, Module, WentWell}
use Rattle.star_plan.specs.Results.{Outcome, Ran, Static, Unloaded}
use Rattle.star_plan.specs.Text.{ended_data, module_data}
use Rattle.star_report.specs.Values.{value_members}
use Rattle.star_report.specs.Wanted.{AreMore, AreWanted, Full, HasLoads, HasSteps, HasStepsAs, HasValues, IsFullText, added, followed, full_data, full_text, is_ok, is_shown, loads_member, whole_text}
use Rattle.star_report.specs.declared.wanted.Wanted.{Wanted}
use Rattle.star_shards.specs.Data.{IsEntryOf, IsPlain, found_member}
use Rattle.star_shards.specs.Entries.{IsEntry, is_good, is_good_word, label_of}
use Rattle.star_shards.specs.Lines.{front, listed, more, report_text}
use Rattle.star_shards.proofs.Found.{objects_are_entries}
use Rattle.star_lines.specs.Lines.{HavePlainLabels, IsLine, ReportsAreLines, entry_text}

abbrev label_key : List ℕ
label_key = codes "label"

abbrev status_key : List ℕ
status_key = codes "status"

-- ---- members that are put beside others

module _ (key k : List ℕ) (d : Data) (other : bytes_eq k key ≡ false) where
  put_by : (o : Ordering) (l : List ℕ) (e : Data) (ms puts : Members) → (o ≡ Equal → bytes_eq l key ≡ false) → found_member key puts ≡ found_member key ms
      → found_member key (match_ordering o (member k d (member l e ms)) (member l d ms) (member l e puts)) ≡ found_member key (member l e ms)
  put_by Less l e ms puts f h = ap (λ b. cond b (Some d) (found_member key (member l e ms))) other
  put_by Equal l e ms puts f h = ap (λ b. cond b (Some d) (found_member key ms)) (f refl) ∙ sym (ap (λ b. cond b (Some e) (found_member key ms)) (f refl))
  put_by Greater l e ms puts f h = ap (λ o. cond (bytes_eq l key) (Some e) o) h

  put_keeps : (ms : Members) → found_member key (put k d ms) ≡ found_member key ms
  put_keeps no_members = ap (λ b. cond b (Some d) None) other
  put_keeps (member l e ms) =
      put_by (slice_cmp nat_cmp k l) l e ms (put k d ms) (λ same. subst (λ w. bytes_eq w key ≡ false) (exact_bytes k l same) other) (put_keeps ms)

-- members that are no label and no status
abbrev AllOther : Members → Type 0
AllOther no_members = Unit {0}
AllOther (member k d ms) = (bytes_eq k label_key ≡ false) × (bytes_eq k status_key ≡ false) × AllOther ms

-- an object with a label and a status
record Has (d : Data) (label status : List ℕ) : Type 0 where
  members : Members
  is : d ≡ object members
  label_is : found_member label_key members ≡ Some (string label)
  status_is : found_member status_key members ≡ Some (string status)

added_has : (others : Members) (d : Data) (label status : List ℕ) → AllOther others → Has d label status → Has (added others d) label status
added_has no_members d label status h has = has
added_has (member k e others) d label status h has =
    let own = has.members in
    subst (λ z. Has (added (member k e others) z) label status) (sym has.is)
    (added_has others (object (put k e own)) label status h.2 (record {
      members = put k e own;
      is = refl;
      label_is = put_keeps label_key k e h.0 own ∙ has.label_is;
      status_is = put_keeps status_key k e h.1 own ∙ has.status_is;
    }))

-- ---- modules

-- how a module ended, and its status
record HasStatus (files : List File) (m : Module) : Type 0 where
  status : List ℕ
  has : Has (module_data files m) (label_at files m.file) status
  plain : IsPlain status
  good : is_good_word status ≡ is_ok m.ended

module_has : (files : List File) (n : ℕ) (e : Ended) → HasStatus files (record { file = n; ended = e })
module_has files n (WentWell texts lines) = record { status = codes "ok"; has = record { members = _; is = refl; label_is = refl; status_is = refl }; plain = refl; good = refl }
module_has files n (HadFault f lines) = record { status = codes "fault"; has = record { members = _; is = refl; label_is = refl; status_is = refl }; plain = refl; good = refl }
module_has files n (HadStatic f) = record { status = codes "static"; has = record { members = _; is = refl; label_is = refl; status_is = refl }; plain = refl; good = refl }
module_has files n (HadLoad (Culprit k) line) = record { status = codes "load"; has = record { members = _; is = refl; label_is = refl; status_is = refl }; plain = refl; good = refl }
module_has files n (HadLoad (Cycle ns) line) = record { status = codes "load"; has = record { members = _; is = refl; label_is = refl; status_is = refl }; plain = refl; good = refl }

-- ---- further members

followed_other : (ms others : Members) → AllOther ms → AllOther others → AllOther (followed ms others)
followed_other no_members others h k = k
followed_other (member key d ms) others h k = (h.0, h.1, followed_other ms others h.2 k)

wanted_other : (b : Bool) (P : Members → Type 0) (ms : Members) → ((P ms) → AllOther ms) → AreWanted b P ms → AllOther ms
wanted_other true P ms f h = f h
wanted_other false P ms f h = subst AllOther (sym h) tt

steps_other : (plan : Plan) (n : ℕ) (o : Outcome) (ms : Members) → HasStepsAs plan n o ms → AllOther ms
steps_other plan n (Ran (Good shelf globals texts lines)) ms h = subst AllOther (sym h.2) (refl, refl, tt)
steps_other plan n (Ran (Stopped f lines)) ms h = subst AllOther (sym h) tt
steps_other plan n (Static f) ms h = subst AllOther (sym h) tt
steps_other plan n (Unloaded i) ms h = subst AllOther (sym h) tt

values_other : (o : Outcome) → AllOther (value_members o)
values_other (Ran (Good shelf globals texts lines)) = (refl, refl, (refl, refl, tt))
values_other (Ran (Stopped f lines)) = tt
values_other (Static f) = tt
values_other (Unloaded i) = tt

more_other : (wanted : Wanted) (files : List File) (plan : Plan) (n : ℕ) (ms : Members) → AreMore wanted files plan n ms → AllOther ms
more_other wanted files plan n ms (l, s, v, x, y, z, e) =
    let loads = wanted_other wanted.loads (HasLoads files plan n) l (λ h. subst AllOther (sym h) (refl, refl, tt)) x in
    let steps = wanted_other wanted.steps (HasSteps plan n) s (λ h. steps_other plan n h.0 s h.2) y in
    let values = wanted_other wanted.values (HasValues plan n) v (λ h. subst AllOther (sym h.2) (values_other h.0)) z in
    subst AllOther (sym e) (followed_other l (followed s v) loads (followed_other s v steps values))

-- ---- entries

record HasEntry (files : List File) (f : Full) : Type 0 where
  entry : IsEntry (entry_text files f)
  label_is : label_of (entry_text files f) ≡ label_at files f.shown.file
  good_is : is_good (entry_text files f) ≡ is_ok f.shown.ended

entry_has : (wanted : Wanted) (files : List File) (plan : Plan) (f : Full) → HavePlainLabels files → AreMore wanted files plan f.shown.file f.more → HasEntry files f
entry_has wanted files plan f labels h =
    let own = module_has files f.shown.file f.shown.ended in
    let label = label_at files f.shown.file in
    let has = added_has f.more (module_data files f.shown) label own.status (more_other wanted files plan f.shown.file f.more h) own.has in
    let it = objects_are_entries has.members label own.status has.label_is (labels f.shown.file) has.status_is own.plain in
    let whole = subst (λ d. IsEntryOf (compact_text d) label own.status) (sym has.is) it in
    record { entry = whole.entry; label_is = whole.label_is; good_is = whole.good_is ∙ own.good }

module _ (wanted : Wanted) (files : List File) (plan : Plan) (labels : HavePlainLabels files) where
  entries_are : (fulls : List Full) → All (λ f. AreMore wanted files plan f.shown.file f.more) fulls → All IsEntry (map (entry_text files) fulls)
  entries_are [] h = All-nil IsEntry
  entries_are (f ∷ fs) h = All-cons IsEntry (entry_text files f) (map (entry_text files) fs) (entry_has wanted files plan f labels (All-head (λ g. AreMore wanted files plan g.shown.file g.more) f fs h)).entry (entries_are fs (All-tail (λ g. AreMore wanted files plan g.shown.file g.more) f fs h))

  pub labels_are : (fulls : List Full) → All (λ f. AreMore wanted files plan f.shown.file f.more) fulls → map (λ f. label_of (entry_text files f)) fulls ≡ map (λ f. label_at files f.shown.file) fulls
  labels_are [] h = refl
  labels_are (f ∷ fs) h = let it = entry_has wanted files plan f labels (All-head (λ g. AreMore wanted files plan g.shown.file g.more) f fs h) in ap (λ w. w ∷ map (λ g. label_of (entry_text files g)) fs) it.label_is ∙ ap (λ ws. label_at files f.shown.file ∷ ws) (labels_are fs (All-tail (λ g. AreMore wanted files plan g.shown.file g.more) f fs h))

  goods_are : (fulls : List Full) → All (λ f. AreMore wanted files plan f.shown.file f.more) fulls → map (λ f. is_good (entry_text files f)) fulls ≡ map (λ f. is_ok f.shown.ended) fulls
  goods_are [] h = refl
  goods_are (f ∷ fs) h = let it = entry_has wanted files plan f labels (All-head (λ g. AreMore wanted files plan g.shown.file g.more) f fs h) in ap (λ w. w ∷ map (λ g. is_good (entry_text files g)) fs) it.good_is ∙ ap (λ ws. is_ok f.shown.ended ∷ ws) (goods_are fs (All-tail (λ g. AreMore wanted files plan g.shown.file g.more) f fs h))

-- ---- the text

later_items : (files : List File) (fulls : List Full) → items_text true (items_of (map (full_data files) fulls)) ≡ more (map (entry_text files) fulls) ++ 93 ∷ []
unfolding more
later_items files [] = refl
later_items files (f ∷ fs) =
    let rest = more (map (entry_text files) fs) in
    ap (λ w. 44 ∷ (entry_text files f ++ w)) (later_items files fs) ∙ ap (λ w. 44 ∷ w) (sym (append_assoc (entry_text files f) rest (93 ∷ [])))

all_items : (files : List File) (fulls : List Full) → items_text false (items_of (map (full_data files) fulls)) ≡ listed (map (entry_text files) fulls) ++ 93 ∷ []
unfolding listed
all_items files [] = refl
all_items files (f ∷ fs) =
    let rest = more (map (entry_text files) fs) in
    ap (λ w. entry_text files f ++ w) (later_items files fs) ∙ sym (append_assoc (entry_text files f) rest (93 ∷ []))

-- all modules are shown
all_shown : (wanted : Wanted) (plan : Plan) (fulls : List Full) → wanted.only_roots ≡ false → filter (is_shown wanted plan) fulls ≡ fulls
all_shown wanted plan [] h = refl
all_shown wanted plan (f ∷ fs) h =
    let rest = filter (is_shown wanted plan) fs in
    ap (λ b. cond (not b || (not (is_ok f.shown.ended) || list_any (nat_eq f.shown.file) plan.roots)) (f ∷ rest) rest) h ∙ ap (λ gs. f ∷ gs) (all_shown wanted plan fs h)

abbrev data_of : List File → ℕ → List Full → Data
data_of files begun fulls =
    object (member (codes "begun") (number (unsigned begun))
    (member (codes "modules") (array (items_of (map (full_data files) fulls))) no_members))

line_is : (files : List File) (begun : ℕ) (fulls : List Full) → compact_text (data_of files begun fulls) ≡ report_text (record { begun = begun; entries = map (entry_text files) fulls })
unfolding escape_byte
line_is files begun fulls =
    let a = codes "{\"begun\":" in
    let m = codes ",\"modules\":[" in
    let ents = listed (map (entry_text files) fulls) in
    let tail : items_text false (items_of (map (full_data files) fulls)) ++ 125 ∷ [] ≡ ents ++ codes "]}" = ap (λ w. w ++ 125 ∷ []) (all_items files fulls) ∙ append_assoc ents (93 ∷ []) (125 ∷ []) in
    ap (λ w. a ++ (decimal begun ++ (m ++ w))) tail
    ∙ ap (λ w. a ++ w) (sym (append_assoc (decimal begun) m (ents ++ codes "]}")))
    ∙ sym (append_assoc a (decimal begun ++ m) (ents ++ codes "]}"))

pub reports_are_lines : ReportsAreLines
unfolding full_text
reports_are_lines wanted files plan text whole labels x =
    let shown = all_shown wanted plan x.fulls whole.0 in
    let plainly = ap (λ b. whole_text b wanted files plan x.begun x.fulls) whole.1 in
    let line = compact_text (data_of files x.begun x.fulls) in
    let run : x.begun ≡ length (map (entry_text files) x.fulls) = x.report.begun_are ∙ length-map x.fulls (λ f. f.shown) ∙ sym (length-map x.fulls (entry_text files)) in
    record {
      line = line;
      text_is = x.text_is ∙ plainly ∙ ap (λ gs. compact_text (data_of files x.begun gs) ++ 10 ∷ []) shown;
      report = record { line_is = line_is files x.begun x.fulls; each = entries_are wanted files plan labels x.fulls x.more; whole = inl run };
      run = run;
      labels = labels_are wanted files plan labels x.fulls x.more;
      good = goods_are wanted files plan labels x.fulls x.more;
    }
