-- The text of a check, and its answer.
use Rattle.std.proofs.Common.{Ordering, Less, Equal, Greater, arith, ◌≡◌, ◌<◌, ◌+◌, ℕ, List, [], ◌∷◌, ◌++◌, Bool, true, false, ◌||◌, length, map, take, get_or, refl, ap, sym, subst, ◌∙◌}
use Rattle.std.specs.Prelude.{All, Contains, codes, filter}
use Rattle.std.specs.Ordering.{match_ordering, nat_cmp}
use Rattle.std.specs.Cmp.Lexicographic.{slice_cmp}
use Rattle.std.proofs.lemmas.List.{get_or-map, length-map}
use Rattle.std.proofs.lemmas.List.Elements.{All-contains, All-map, Contains-get_or}
use Rattle.serde_json.specs.Data.{Data, Members, array, boolean, member, no_items, no_members, null, number, object, put, string, unsigned}
use Rattle.serde_json.specs.View.{items_of}
use Rattle.serde_json.specs.Written.{compact_text, has_float, items_have_float, members_have_float}
use Rattle.star_label.specs.Files.{File, label_at}
use Rattle.star_plan.specs.Causes.{Cause, Culprit, Cycle}
use Rattle.star_plan.specs.Plan.{Plan}
use Rattle.star_plan.specs.Text.{load_data}
use Rattle.star_check.specs.Check.{AtFault, Fails, IsCheck, IsSound, IsVerdict, Module, Unrun, Verdict}
use Rattle.star_check.specs.Judged.{judged_view, shown_of, verdict_view}
use Rattle.star_check.specs.Text.{IsCheckAnswer, check_text, is_shown, is_unrun, module_data, verdict_data, with_no_calls}
use Rattle.star_check.specs.declared.verdict.Judged.{Judged}
use Rattle.star_check.proofs.Judgements.{fault_unsound, lack_unsound}

-- ---- it has no float

texts_plain : (ts : List (List ℕ)) → items_have_float (items_of (map string ts)) ≡ false
texts_plain [] = refl
texts_plain (t ∷ ts) = texts_plain ts

load_plain : (files : List File) (label : List ℕ) (cause : Cause) (line : ℕ) → has_float (load_data files label cause line) ≡ false
load_plain files label (Culprit n) line = refl
load_plain files label (Cycle ns) line = rw (texts_plain (map (label_at files) ns)) refl

verdict_plain : (files : List File) (label : List ℕ) (v : Verdict) → has_float (verdict_data files label v) ≡ false
verdict_plain files label (AtFault f) = refl
verdict_plain files label (Fails cause line) = load_plain files label cause line
verdict_plain files label Unrun = refl

neither_float : (a b : Bool) → (a || b) ≡ false → (a ≡ false) × (b ≡ false)
neither_float true b h = absurd (let no : ⊥ = cc in no)
neither_float false b h = (refl, h)

placed_plain : (o : Ordering) (d f : Data) (k l : List ℕ) (ms ns : Members) → has_float d ≡ false → has_float f ≡ false → members_have_float ms ≡ false → members_have_float ns ≡ false
    → members_have_float (match_ordering o (member k d (member l f ms)) (member l d ms) (member l f ns)) ≡ false
placed_plain Less d f k l ms ns hd hf hm hn = rw (hd, hf) hm
placed_plain Equal d f k l ms ns hd hf hm hn = rw hd hm
placed_plain Greater d f k l ms ns hd hf hm hn = rw hf hn

put_plain : (k : List ℕ) (d : Data) (ms : Members) → has_float d ≡ false → members_have_float ms ≡ false → members_have_float (put k d ms) ≡ false
put_plain k d no_members e h = rw e refl
put_plain k d (member l f ms) e h =
    let both = neither_float (has_float f) (members_have_float ms) h in
    placed_plain (slice_cmp nat_cmp k l) d f k l ms (put k d ms) e both.0 both.1 (put_plain k d ms e both.1)

none_plain : (calls : Bool) (d : Data) → has_float d ≡ false → has_float (with_no_calls calls d) ≡ false
none_plain true (object ms) h = put_plain (codes "calls") (array no_items) ms refl h
none_plain true null h = h
none_plain true (boolean b) h = h
none_plain true (number n) h = h
none_plain true (string t) h = h
none_plain true (array ds) h = h
none_plain false d h = h

pub modules_plain : (calls : Bool) (files : List File) (ms : List Module) → items_have_float (items_of (map (λ m. with_no_calls calls (module_data files m)) ms)) ≡ false
modules_plain calls files [] = refl
modules_plain calls files (m ∷ ms) = rw (none_plain calls (module_data files m) (verdict_plain files (label_at files m.file) m.verdict)) (modules_plain calls files ms)

-- ---- the answer

against : (plan : Plan) (n : ℕ) (v : Verdict) → IsVerdict plan n v → is_unrun v ≡ false → IsSound plan n → ⊥
against plan n (AtFault f) is not_unrun sane = fault_unsound plan n f is sane
against plan n (Fails cause line) (why, (i, l, lack, at, same)) not_unrun sane = lack_unsound plan n i lack sane
against plan n Unrun is not_unrun sane = let no : ⊥ = cc in no

unrun_sound : (plan : Plan) (n : ℕ) (v : Verdict) → IsVerdict plan n v → is_unrun v ≡ true → IsSound plan n
unrun_sound plan n (AtFault f) is e = absurd (let no : ⊥ = cc in no)
unrun_sound plan n (Fails cause line) is e = absurd (let no : ⊥ = cc in no)
unrun_sound plan n Unrun is e = is

file_of : (ms : List Module) (n : ℕ) → Contains (map (λ (m : Module). m.file) ms) n → (m : Module) × Contains ms m × (m.file ≡ n)
file_of [] n (k, less, e) = absurd (let no : ⊥ = omega (arith, less) in no)
file_of (x ∷ xs) n (k, less, e) =
    let d : Module = x in
    let inside : k < length (x ∷ xs) = (let l = length-map (x ∷ xs) (λ (m : Module). m.file) in omega (arith, less, l)) in
    let at : get_or (map (λ (m : Module). m.file) (x ∷ xs)) k n ≡ (get_or (x ∷ xs) k d).file = get_or-map (λ (m : Module). m.file) (x ∷ xs) k d n inside in
    (get_or (x ∷ xs) k d, held (x ∷ xs) k d inside, sym at ∙ e)
  where
    held : (ys : List Module) (i : ℕ) (z : Module) → i < length ys → Contains ys (get_or ys i z)
    held ys i z less = Contains-get_or ys i z less

file_in : (ms : List Module) (m : Module) → Contains ms m → Contains (map (λ (x : Module). x.file) ms) m.file
file_in ms m (k, less, e) = (k, (let l = length-map ms (λ (x : Module). x.file) in omega (arith, less, l)), get_or-map (λ (x : Module). x.file) ms k m m.file less ∙ ap (λ (x : Module). x.file) e)

view_in : (js : List Judged) (j : Judged) → Contains js j → Contains (map judged_view js) (judged_view j)
view_in js j (k, less, e) = (k, (let l = length-map js judged_view in omega (arith, less, l)), get_or-map judged_view js k j (judged_view j) less ∙ ap judged_view e)

pub answer_is : (plan : Plan) (js : List Judged) (ok : Bool) → IsCheck plan (map judged_view js) → (ok ≡ true → All (λ j. is_unrun (verdict_view j.verdict) ≡ true) js)
    → (ok ≡ false → (j : Judged) × Contains js j × (is_unrun (verdict_view j.verdict) ≡ false)) → IsCheckAnswer plan ok
answer_is plan js true is all_unrun some_not = (
  λ e n reached.
      let found = file_of (map judged_view js) n ((is.all n).0 reached) in
      let verdict = All-contains (λ (m : Module). IsVerdict plan m.file m.verdict) (map judged_view js) found.0 is.each found.1 in
      let unrun = All-contains (λ (m : Module). is_unrun m.verdict ≡ true) (map judged_view js) found.0 (All-map (λ (m : Module). is_unrun m.verdict ≡ true) judged_view js (all_unrun refl)) found.1 in
      subst (IsSound plan) found.2 (unrun_sound plan found.0.file found.0.verdict verdict unrun),
  λ all. refl,
)
answer_is plan js false is all_unrun some_not = (
  λ e. absurd (let f : ⊥ = cc in f),
  λ all.
      let bad = some_not refl in
      let here = view_in js bad.0 bad.1 in
      let m : Module = judged_view bad.0 in
      let reached = (is.all m.file).1 (file_in (map judged_view js) m here) in
      let verdict = All-contains (λ (x : Module). IsVerdict plan x.file x.verdict) (map judged_view js) m is.each here in
      absurd (against plan m.file m.verdict verdict bad.2 (all m.file reached)),
)

-- ---- the text

-- all were looked at
pub all_taken : (P : Judged → Type 0) (js : List Judged) (i : ℕ) → i ≡ length js → All P (take i js) → All P js
all_taken P js i end all = subst (All P) (ap (λ k. take k js) end ∙ take_length js) all
  where
    take_length : (xs : List Judged) → take (length xs) xs ≡ xs
    take_length [] = refl
    take_length (x ∷ xs) = ap (λ t. x ∷ t) (take_length xs)

abbrev pub data_of : List Data → Data
data_of modules = object (member (codes "begun") (number (unsigned 0)) (member (codes "modules") (array (items_of modules)) no_members))

pub text_is : (files : List File) (only calls : Bool) (roots : List ℕ) (js : List Judged) (value : Data) (modules : List Data) (bytes text : List ℕ) → value ≡ data_of modules → modules ≡ shown_of files only calls roots js
    → (has_float value ≡ false → bytes ≡ compact_text value) → text ≡ bytes ++ 10 ∷ [] → text ≡ check_text only calls files roots (map judged_view js)
unfolding check_text
text_is files only calls roots js value modules bytes text is were exact more =
    let same : value ≡ data_of (shown_of files only calls roots js) = is ∙ ap data_of were in
    let plain : has_float (data_of (shown_of files only calls roots js)) ≡ false = rw (modules_plain calls files (filter (is_shown only roots) (map judged_view js))) refl in
    more ∙ ap (λ b. b ++ 10 ∷ []) (exact (ap has_float same ∙ plain) ∙ ap compact_text same)
