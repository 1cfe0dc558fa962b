-- The text of a report is made of the texts of its modules.
use Rattle.std.proofs.Common.{arith, ◌≡◌, ◌<◌, ◌+◌, ◌≤◌, ℕ, zero, suc, Bool, true, false, ◌||◌, List, [], ◌∷◌, ◌++◌, map, take, length, get_or, Option, Some, None, IfOk, IfSome, IsSome, Result, Ok, Err, refl, ap, sym, subst, ◌∙◌, codes, Vec}
use Rattle.std.specs.Prelude.{All, decimal, filter, slice_index_or, if◌then◌else◌}
use Rattle.std.proofs.lemmas.Simd.{map-map}
use Rattle.std.proofs.lemmas.Bool.{or_parts, true≢false}
use Rattle.std.proofs.lemmas.List.{append-nil, append_assoc, length-map, length_push, get_or-map, map_push, take_all, take_more}
use Rattle.serde_json.proofs.OnLiterals.{serde_json_on_literals}
use Rattle.serde_json.specs.Data.{Data}
use Rattle.serde_json.specs.View.{items_of}
use Rattle.serde_json.specs.Written.{comma_if, compact_text, has_float, items_have_float, items_text}
use Rattle.star_cause.specs.Causes.{AreNextsOf}
use Rattle.star_cause.specs.Ways.{Nexts}
use Rattle.star_reading.specs.Readings.{Row, loads_at, readings}
use Rattle.star_scope.specs.declared.loads.Load.{Load}
use Rattle.star_label.specs.Files.{File}
use Rattle.star_plan.specs.Plan.{Plan}
use Rattle.star_plan.specs.Reading.{IsPlanOf}
use Rattle.star_outcome.specs.Kept.{AreModules, KeptView}
use Rattle.star_meaning.specs.declared.said.RecordedCall.{RecordedCall}
use Rattle.star_report.specs.Calls.{calls_by, calls_of, with_calls}
use Rattle.star_report.specs.Joined.{joined_text, listed}
use Rattle.star_report.specs.Pages.{AreWritten, HasItsLoads, IsTextOf, IsWholeTextOf, SaysShown, known_of, page_text, shown_texts_of, text_in}
use Rattle.star_report.specs.Shown.{AreShown, IsReportBut}
use Rattle.star_outcome.specs.declared.module.Module.{Module}
use Rattle.star_report.specs.declared.pages.Page.{Page}
use Rattle.star_report.specs.Shelf.{more_of}
use Rattle.star_report.specs.Wanted.{Full, added, full_data, full_row, full_text, is_shown, is_shown_by, whole_text}
use Rattle.star_outcome.specs.Views.{ended_well}
use Rattle.star_report.specs.declared.wanted.Wanted.{Wanted}
use Rattle.star_report.proofs.NoFloat.{fulls_none}
use Rattle.star_report.proofs.Shows.{report_shown, shown_all, shown_more, shown_none}

-- ---- texts with commas

-- one text more
later_more : (ts : List (List ℕ)) (t : List ℕ) → listed true (ts ++ t ∷ []) ≡ listed true ts ++ 44 ∷ t
later_more [] t = ap (λ x. 44 ∷ x) (append-nil t)
later_more (s ∷ ts) t = ap (λ x. 44 ∷ (s ++ x)) (later_more ts t) ∙ ap (λ x. 44 ∷ x) (sym (append_assoc s (listed true ts) (44 ∷ t)))

pub listed_more : (ts : List (List ℕ)) (t : List ℕ) (later : Bool) → (later ≡ true → 0 < length ts) → (later ≡ false → length ts ≡ 0) → listed false (ts ++ t ∷ []) ≡ listed false ts ++ (comma_if later ++ t)
listed_more [] t true some none = absurd (let no : ⊥ = omega (arith, some refl) in no)
listed_more [] t false some none = append-nil t
listed_more (s ∷ ts) t true some none = ap (λ x. s ++ x) (later_more ts t) ∙ sym (append_assoc s (listed true ts) (44 ∷ t))
listed_more (s ∷ ts) t false some none = absurd (let no : ⊥ = omega (arith, none refl) in no)

pub listed_on : (first : List ℕ) (ts : List (List ℕ)) (t old new : List ℕ) (later : Bool) → (later ≡ true → 0 < length ts) → (later ≡ false → length ts ≡ 0) → old ≡ first ++ listed false ts → new ≡ old ++ (comma_if later ++ t) → new ≡ first ++ listed false (ts ++ t ∷ [])
listed_on first ts t old new later some none was now =
    now ∙ (ap (λ x. x ++ (comma_if later ++ t)) was ∙ (append_assoc first (listed false ts) (comma_if later ++ t) ∙ ap (λ x. first ++ x) (sym (listed_more ts t later some none))))

-- the texts of the pages so far, whether there is one, and the text that was written for them
pub record SoFar (first : List ℕ) (ts : List (List ℕ)) (later : Bool) (all : List ℕ) : Type 0 where
  pub some : later ≡ true → 0 < length ts
  pub none : later ≡ false → length ts ≡ 0
  pub text : all ≡ first ++ listed false ts

pub page_more : (first : List ℕ) (ts : List (List ℕ)) (t old new : List ℕ) (later now shown : Bool) → SoFar first ts later old → now ≡ (later || shown) → new ≡ old ++ (if shown then comma_if later ++ t else []) → SoFar first (ts ++ (if shown then t ∷ [] else [])) now new
page_more first ts t old new later now true was is text =
    let longer : length (ts ++ t ∷ []) ≡ length ts + 1 = length_push ts t in
    record {
      some = λ h. omega (arith, longer);
      none = λ h. absurd (let no : ⊥ = never later now is h in no);
      text = listed_on first ts t old new later was.some was.none was.text text;
    }
  where
    never : (later now : Bool) → now ≡ (later || true) → now ≡ false → ⊥
    never true now is h = let no : true ≡ false = sym is ∙ h in let none : ⊥ = cc in none
    never false now is h = let no : true ≡ false = sym is ∙ h in let none : ⊥ = cc in none
page_more first ts t old new later now false was is text =
    let same : ts ++ [] ≡ ts = append-nil ts in
    let later_is : now ≡ later = is ∙ or_false later in
    record {
      some = λ h. subst (λ us. 0 < length us) (sym same) (was.some (sym later_is ∙ h));
      none = λ h. subst (λ us. length us ≡ 0) (sym same) (was.none (sym later_is ∙ h));
      text = text ∙ (append-nil old ∙ (was.text ∙ ap (λ us. first ++ listed false us) (sym same)));
    }
  where
    or_false : (b : Bool) → (b || false) ≡ b
    or_false true = refl
    or_false false = refl

-- the texts of one page more
pub shown_push : (ps : List Page) (p : Page) → shown_texts_of (ps ++ p ∷ []) ≡ shown_texts_of ps ++ (if p.shown then page_text p ∷ [] else [])
shown_push [] p = one p.shown
  where
    one : (b : Bool) → map page_text (if b then p ∷ [] else []) ≡ (if b then page_text p ∷ [] else [])
    one true = refl
    one false = refl
shown_push (q ∷ ps) p = by q.shown (shown_push ps p)
  where
    by : (b : Bool) → shown_texts_of (ps ++ p ∷ []) ≡ shown_texts_of ps ++ (if p.shown then page_text p ∷ [] else []) → map page_text (if b then q ∷ filter (λ (x : Page). x.shown) (ps ++ p ∷ []) else filter (λ (x : Page). x.shown) (ps ++ p ∷ [])) ≡ map page_text (if b then q ∷ filter (λ (x : Page). x.shown) ps else filter (λ (x : Page). x.shown) ps) ++ (if p.shown then page_text p ∷ [] else [])
    by true rest = ap (λ ts. page_text q ∷ ts) rest
    by false rest = rest

-- the text that is written for items
items_listed : (later : Bool) (ds : List Data) → items_text later (items_of ds) ≡ listed later (map compact_text ds) ++ 93 ∷ []
items_listed later [] = refl
items_listed later (d ∷ ds) =
    let rest : List ℕ = listed true (map compact_text ds) in
    ap (λ x. comma_if later ++ (compact_text d ++ x)) (items_listed true ds)
    ∙ (ap (λ x. comma_if later ++ x) (sym (append_assoc (compact_text d) rest (93 ∷ []))) ∙ sym (append_assoc (comma_if later) (compact_text d ++ rest) (93 ∷ [])))

-- the text of a report, by the texts of its modules
pub report_joined : (wanted : Wanted) (files : List File) (plan : Plan) (begun : ℕ) (fs : List Full) → full_text wanted files plan begun fs ≡ joined_text begun (map compact_text (map (full_data files) (filter (is_shown wanted plan) fs)))
unfolding serde_json_on_literals full_text
report_joined wanted files plan begun fs =
    let ds : List Data = map (full_data files) (filter (is_shown wanted plan) fs) in
    let all : List ℕ = listed false (map compact_text ds) in
    let items : List ℕ = items_text false (items_of ds) in
    let ends : (items ++ 125 ∷ []) ++ 10 ∷ [] ≡ all ++ codes "]}\n" = append_assoc items (125 ∷ []) (10 ∷ []) ∙ (ap (λ x. x ++ 125 ∷ 10 ∷ []) (items_listed false ds) ∙ append_assoc all (93 ∷ []) (125 ∷ 10 ∷ [])) in
    ap (λ x. codes "{\"begun\":" ++ x) (append_assoc (decimal begun) (codes ",\"modules\":[" ++ (items ++ 125 ∷ [])) (10 ∷ []) ∙ ap (λ x. decimal begun ++ (codes ",\"modules\":[" ++ x)) ends)

-- ---- the pages of modules

-- data whose texts these are, if they have no float, with the calls of each if they are wanted
abbrev Calls : Type 0
Calls = List (List RecordedCall)

abbrev AreTextsOf : Bool → List (List ℕ) → Calls → List Data → Type 0
AreTextsOf b [] [] [] = Unit {0}
AreTextsOf b (t ∷ ts) (c ∷ cs) (d ∷ ds) = (has_float d ≡ false → t ≡ with_calls b c (compact_text d)) × AreTextsOf b ts cs ds
AreTextsOf b _ _ _ = ⊥

texts_push : (b : Bool) (ts : List (List ℕ)) (cs : Calls) (ds : List Data) (t : List ℕ) (c : List RecordedCall) (d : Data) → AreTextsOf b ts cs ds → (has_float d ≡ false → t ≡ with_calls b c (compact_text d)) → AreTextsOf b (ts ++ t ∷ []) (cs ++ c ∷ []) (ds ++ d ∷ [])
texts_push b [] [] [] t c d are is = (is, tt)
texts_push b (s ∷ ts) (f ∷ cs) (e ∷ ds) t c d are is = (are.0, texts_push b ts cs ds t c d are.1 is)
texts_push b [] [] (e ∷ ds) t c d are is = absurd are
texts_push b [] (f ∷ cs) ds t c d are is = absurd are
texts_push b (s ∷ ts) [] ds t c d are is = absurd are
texts_push b (s ∷ ts) (f ∷ cs) [] t c d are is = absurd are

first_none : (d : Data) (ds : List Data) → items_have_float (items_of (d ∷ ds)) ≡ false → (has_float d ≡ false) × (items_have_float (items_of ds) ≡ false)
first_none d ds h = or_parts (has_float d) (items_have_float (items_of ds)) h

texts_are : (wanted : Wanted) (files : List File) (ts : List (List ℕ)) (fs : List Full) → AreTextsOf wanted.calls ts (map (λ (f : Full). calls_by f.shown.ended) fs) (map (full_data files) fs) → items_have_float (items_of (map (full_data files) fs)) ≡ false → ts ≡ map (full_row wanted files) fs
texts_are wanted files [] [] are none = refl
texts_are wanted files [] (f ∷ fs) are none = absurd are
texts_are wanted files (t ∷ ts) [] are none = absurd are
texts_are wanted files (t ∷ ts) (f ∷ fs) are none =
    let both = first_none (full_data files f) (map (full_data files) fs) none in
    ap (λ x. x ∷ ts) (are.0 both.0) ∙ ap (λ xs. full_row wanted files f ∷ xs) (texts_are wanted files ts fs are.1 both.1)

-- the text of a report, with the calls if they are wanted
rows_plain : (b : Bool) (wanted : Wanted) (files : List File) (fs : List Full) → wanted.calls ≡ b → b ≡ false → map (full_row wanted files) fs ≡ map compact_text (map (full_data files) fs)
rows_plain b wanted files [] is none = refl
rows_plain b wanted files (f ∷ fs) is none = ap (λ c. with_calls c (calls_by f.shown.ended) (compact_text (full_data files f)) ∷ map (full_row wanted files) fs) (is ∙ none) ∙ ap (λ ts. compact_text (full_data files f) ∷ ts) (rows_plain b wanted files fs is none)

whole_joined : (b : Bool) (wanted : Wanted) (files : List File) (plan : Plan) (begun : ℕ) (fs : List Full) → wanted.calls ≡ b → joined_text begun (map (full_row wanted files) (filter (is_shown wanted plan) fs)) ≡ whole_text b wanted files plan begun fs
whole_joined true wanted files plan begun fs is = refl
whole_joined false wanted files plan begun fs is = ap (joined_text begun) (rows_plain false wanted files (filter (is_shown wanted plan) fs) is refl) ∙ sym (report_joined wanted files plan begun fs)

-- the calls of the module of a page
abbrev page_calls : Page → List RecordedCall
page_calls p = calls_of p.about.now.ended

-- a page that has the text of its module
abbrev pub HasText : Wanted → List File → Nexts → Page → Type 0
HasText wanted files nexts p = IfSome p.text (λ s. IsWholeTextOf wanted files nexts p.loads.now p.about.now s.items) × IsSome p.text

in_page : {Z : Type 0} (wanted : Wanted) (files : List File) (nexts : Nexts) (loads : List Load) (m : Module) (o : Option (Vec ℕ Z)) → IfSome o (λ s. IsWholeTextOf wanted files nexts loads m s.items) → IsSome o → IsWholeTextOf wanted files nexts loads m (text_in o)
in_page wanted files nexts loads m None is some = absurd (true≢false (sym some))
in_page wanted files nexts loads m (Some s) is some = is

text_of_page : (wanted : Wanted) (files : List File) (nexts : Nexts) (p : Page) → HasText wanted files nexts p → IsWholeTextOf wanted files nexts p.loads.now p.about.now (page_text p)
text_of_page wanted files nexts p h = in_page wanted files nexts p.loads.now p.about.now p.text h.0 h.1

element : {X : Type 0} (xs : List X) (i : ℕ) → i < length xs → (x : X) × ((d : X) → get_or xs i d ≡ x)
element [] i less = absurd (let no : ⊥ = omega (arith, less) in no)
element (x ∷ xs) zero less = (x, λ d. refl)
element (x ∷ xs) (suc i) less = element xs i (omega (arith, less))

-- pages that were written know the modules that they knew
pub written_known : (wanted : Wanted) (files : List File) (nexts : Nexts) (old new : List Page) → AreWritten wanted files nexts old new → length new ≡ length old → map known_of new ≡ map known_of old
written_known wanted files nexts [] [] written long = refl
written_known wanted files nexts [] (q ∷ qs) written long = absurd (let no : ⊥ = omega (arith, long) in no)
written_known wanted files nexts (p ∷ ps) [] written long = absurd (let no : ⊥ = omega (arith, long) in no)
written_known wanted files nexts (p ∷ ps) (q ∷ qs) written long =
    ap (λ m. Some m.now ∷ map known_of qs) (written 0 p (omega arith)).same
    ∙ ap (λ x. known_of p ∷ x) (written_known wanted files nexts ps qs (λ i d less. written (suc i) d (omega (arith, less))) (omega (arith, long)))

-- pages that were written, and have texts, have the texts of their modules
pub written_have : (wanted : Wanted) (files : List File) (nexts : Nexts) (old new : List Page) → AreWritten wanted files nexts old new → length new ≡ length old → All (λ (p : Page). IsSome p.text) new → All (HasText wanted files nexts) new
written_have wanted files nexts old new written long some = λ i d less. ((written i d (omega (arith, less, long))).text, some i d less)

-- pages that were written still say right whether their modules are shown
written_says : (wanted : Wanted) (files : List File) (plan : Plan) (nexts : Nexts) (old new : List Page) → All (SaysShown wanted plan.roots) old → AreWritten wanted files nexts old new → length new ≡ length old → All (SaysShown wanted plan.roots) new
written_says wanted files plan nexts old new says written long = λ i d less. (
    let inside : i < length old = omega (arith, less, long) in
    let w = written i d inside in
    let was : SaysShown wanted plan.roots (slice_index_or old i d) = says i d inside in
    w.shown ∙ (was ∙ ap (λ m. is_shown_by wanted plan.roots (ended_well m.now.ended) m.now.number) (sym w.same))
    )

-- pages that were written still have the loads of their modules' files
written_loads : (wanted : Wanted) (files : List File) (row : Row) (nexts : Nexts) (old new : List Page) → All (HasItsLoads row) old → AreWritten wanted files nexts old new → length new ≡ length old → All (HasItsLoads row) new
written_loads wanted files row nexts old new has written long = λ i d less. (
    let inside : i < length old = omega (arith, less, long) in
    let w = written i d inside in
    ap (λ l. l.now) w.loads ∙ (has i d inside ∙ ap (λ m. loads_at row m.now.number) (sym w.same))
    )

-- two rows that are alike still are if the same items of both are kept
both_kept : {X Y Z : Type 0} (f : X → Z) (g : Y → Z) (x : X) (y : Y) (xs : List X) (ys : List Y) (b c : Bool) → b ≡ c → f x ≡ g y → map f xs ≡ map g ys → map f (if b then x ∷ xs else xs) ≡ map g (if c then y ∷ ys else ys)
both_kept f g x y xs ys true true e one rest = ap (λ z. z ∷ map f xs) one ∙ ap (λ zs. g y ∷ zs) rest
both_kept f g x y xs ys false false e one rest = rest
both_kept f g x y xs ys true false e one rest = absurd (let no : ⊥ = cc in no)
both_kept f g x y xs ys false true e one rest = absurd (let no : ⊥ = cc in no)

filtered : {X Y Z : Type 0} (f : X → Z) (p : X → Bool) (g : Y → Z) (q : Y → Bool) (xs : List X) (ys : List Y) → map f xs ≡ map g ys → map p xs ≡ map q ys → map f (filter p xs) ≡ map g (filter q ys)
filtered f p g q [] [] same kept = refl
filtered f p g q [] (y ∷ ys) same kept = absurd (let no : ⊥ = cc in no)
filtered f p g q (x ∷ xs) [] same kept = absurd (let no : ⊥ = cc in no)
filtered f p g q (x ∷ xs) (y ∷ ys) same kept =
    let one : f x ≡ g y = cc in
    let keeps : p x ≡ q y = cc in
    let tails : map f xs ≡ map g ys = cc in
    let kept_tails : map p xs ≡ map q ys = cc in
    both_kept f g x y (filter p xs) (filter q ys) (p x) (q y) keeps one (filtered f p g q xs ys tails kept_tails)

module _ (wanted : Wanted) (files : List File) (row : Row) (plan : Plan) (nexts : Nexts) (ks : List KeptView) (ps : List Page) where
  -- the modules of the first pages are shown, with their texts
  abbrev Shown : ℕ → Type 0
  Shown i = (ds : List Data) × AreShown wanted files plan (take i ks) ds (map (λ (p : Page). p.shown) (take i ps)) (map page_calls (take i ps)) × AreTextsOf wanted.calls (map page_text (take i ps)) (map page_calls (take i ps)) ds

  shown_next : map known_of ps ≡ map (λ (k : KeptView). k.known) ks → All (HasText wanted files nexts) ps → All (SaysShown wanted plan.roots) ps → All (HasItsLoads row) ps → IsPlanOf files plan → readings row ≡ plan.reads → AreModules plan ks → AreNextsOf plan nexts → (i : ℕ) → i < length ks → i < length ps → Shown i → Shown (i + 1)
  shown_next same has says loaded planned read are nexts_are i less inside before =
      let found = element ps i inside in
      let p : Page = found.0 in
      let it : Module = p.about.now in
      let known : (d : KeptView) → (slice_index_or ks i d).known ≡ Some it =
      λ d. sym (get_or-map (λ (k : KeptView). k.known) ks i d (Some it) less)
      ∙ (ap (λ xs. get_or xs i (Some it)) (sym same) ∙ (get_or-map known_of ps i p (Some it) inside ∙ ap known_of (found.1 p))) in
      let own : HasText wanted files nexts p = subst (HasText wanted files nexts) (found.1 p) (has i p inside) in
      let whole = text_of_page wanted files nexts p own in
      let text = whole.1 in
      let first : take (i + 1) ps ≡ take i ps ++ p ∷ [] = take_more ps i p inside ∙ ap (λ x. take i ps ++ x ∷ []) (found.1 p) in
      let ds : List Data = before.0 ++ added (more_of wanted files p.loads.now it) text.0 ∷ [] in
      let bs : map (λ (q : Page). q.shown) (take (i + 1) ps) ≡ map (λ (q : Page). q.shown) (take i ps) ++ p.shown ∷ [] = ap (map (λ (q : Page). q.shown)) first ∙ map_push (λ (q : Page). q.shown) (take i ps) p in
      let cs : map page_calls (take (i + 1) ps) ≡ map page_calls (take i ps) ++ page_calls p ∷ [] = ap (map page_calls) first ∙ map_push page_calls (take i ps) p in
      let ts : map page_text (take (i + 1) ps) ≡ map page_text (take i ps) ++ page_text p ∷ [] = ap (map page_text) first ∙ map_push page_text (take i ps) p in
      let own_text : has_float (added (more_of wanted files p.loads.now it) text.0) ≡ false → page_text p ≡ with_calls wanted.calls (page_calls p) (compact_text (added (more_of wanted files p.loads.now it) text.0)) =
      λ none. whole.2 ∙ ap (with_calls wanted.calls (page_calls p)) (text.2 none) in (
        ds,
        subst (λ xs. AreShown wanted files plan (take (i + 1) ks) ds xs (map page_calls (take (i + 1) ps))) (sym bs)
            (subst (AreShown wanted files plan (take (i + 1) ks) ds (map (λ (q : Page). q.shown) (take i ps) ++ p.shown ∷ [])) (sym cs)
            (shown_more wanted files row plan nexts ks i before.0 (map (λ (q : Page). q.shown) (take i ps)) (map page_calls (take i ps)) it p.loads.now text.0 p.shown less known text.1 (subst (SaysShown wanted plan.roots) (found.1 p) (says i p inside)) planned read (subst (HasItsLoads row) (found.1 p) (loaded i p inside)) are nexts_are before.1)),
        subst (λ xs. AreTextsOf wanted.calls xs (map page_calls (take (i + 1) ps)) ds) (sym ts)
            (subst (λ xs. AreTextsOf wanted.calls (map page_text (take i ps) ++ page_text p ∷ []) xs ds) (sym cs)
            (texts_push wanted.calls (map page_text (take i ps)) (map page_calls (take i ps)) before.0 (page_text p) (page_calls p) (added (more_of wanted files p.loads.now it) text.0) before.2 own_text)),
      )

  shown_to : map known_of ps ≡ map (λ (k : KeptView). k.known) ks → All (HasText wanted files nexts) ps → All (SaysShown wanted plan.roots) ps → All (HasItsLoads row) ps → IsPlanOf files plan → readings row ≡ plan.reads → AreModules plan ks → AreNextsOf plan nexts → (i : ℕ) → i ≤ length ks → i ≤ length ps → Shown i
  shown_to same has says loaded planned read are nexts_are zero le small = ([], shown_none wanted files plan ks, tt)
  shown_to same has says loaded planned read are nexts_are (suc i) le small =
      subst Shown (let on : i + 1 ≡ suc i = omega arith in on)
      (shown_next same has says loaded planned read are nexts_are i (omega (arith, le)) (omega (arith, small)) (shown_to same has says loaded planned read are nexts_are i (omega (arith, le)) (omega (arith, small))))

  -- the joined texts of all pages are the text of the report
  pub pages_report : map known_of ps ≡ map (λ (k : KeptView). k.known) ks → All (HasText wanted files nexts) ps → All (SaysShown wanted plan.roots) ps → All (HasItsLoads row) ps → IsPlanOf files plan → readings row ≡ plan.reads → AreModules plan ks → AreNextsOf plan nexts → (begun : ℕ) → IsReportBut wanted files plan (length ks) begun (joined_text begun (shown_texts_of ps))
  pages_report same has says loaded planned read are nexts_are begun =
      let long : length ps ≡ length ks = sym (length-map ps known_of) ∙ (ap length same ∙ length-map ks (λ (k : KeptView). k.known)) in
      let all = shown_to same has says loaded planned read are nexts_are (length ks) (omega arith) (omega (arith, long)) in
      let whole : take (length ks) ps ≡ ps = take_all (length ks) ps (omega (arith, long)) in
      let shown : AreShown wanted files plan ks all.0 (map (λ (p : Page). p.shown) ps) (map page_calls ps) =
      subst (λ qs. AreShown wanted files plan ks all.0 (map (λ (p : Page). p.shown) qs) (map page_calls qs)) whole (shown_all wanted files plan ks (length ks) all.0 (map (λ (p : Page). p.shown) (take (length ks) ps)) (map page_calls (take (length ks) ps)) refl all.1) in
      let fs : List Full = shown.fulls in
      let none : items_have_float (items_of (map (full_data files) fs)) ≡ false = fulls_none wanted files plan fs shown.more in
      let said : AreTextsOf wanted.calls (map page_text ps) (map page_calls ps) all.0 = subst (λ qs. AreTextsOf wanted.calls (map page_text qs) (map page_calls qs) all.0) whole all.2 in
      let all_said : AreTextsOf wanted.calls (map page_text ps) (map (λ (f : Full). calls_by f.shown.ended) fs) (map (full_data files) fs) =
      subst (AreTextsOf wanted.calls (map page_text ps) (map (λ (f : Full). calls_by f.shown.ended) fs)) shown.data_are (subst (λ cs. AreTextsOf wanted.calls (map page_text ps) cs all.0) shown.calls_are said) in
      let texts : map page_text ps ≡ map (full_row wanted files) fs = texts_are wanted files (map page_text ps) fs all_said none in
      let kept : shown_texts_of ps ≡ map (full_row wanted files) (filter (is_shown wanted plan) fs) =
      filtered page_text (λ (p : Page). p.shown) (full_row wanted files) (is_shown wanted plan) ps fs texts shown.shown_are in
      record { fulls = fs; report = report_shown wanted files plan ks all.0 (map (λ (p : Page). p.shown) ps) (map page_calls ps) are shown; more = shown.more; text_is = ap (joined_text begun) kept ∙ whole_joined wanted.calls wanted files plan begun fs refl }

-- the text that is written for the pages of a run's modules is the text of its report
pub pages_text : (wanted : Wanted) (files : List File) (row : Row) (plan : Plan) (nexts : Nexts) (ks : List KeptView) (old new : List Page) (begun : ℕ) (text : List ℕ) → map known_of old ≡ map (λ (k : KeptView). k.known) ks → All (SaysShown wanted plan.roots) old → All (HasItsLoads row) old → AreWritten wanted files nexts old new → length new ≡ length old
    → All (λ (p : Page). IsSome p.text) new → text ≡ joined_text begun (shown_texts_of new) → IsPlanOf files plan → readings row ≡ plan.reads → AreModules plan ks → AreNextsOf plan nexts → IsReportBut wanted files plan (length ks) begun text
pages_text wanted files row plan nexts ks old new begun text known says loaded written long some is planned read are nexts_are =
    let same : map known_of new ≡ map (λ (k : KeptView). k.known) ks = written_known wanted files nexts old new written long ∙ known in
    subst (IsReportBut wanted files plan (length ks) begun) (sym is)
    (pages_report wanted files row plan nexts ks new same (written_have wanted files nexts old new written long some) (written_says wanted files plan nexts old new says written long) (written_loads wanted files row nexts old new loaded written long) planned read are nexts_are begun)

pub both_ok : {X E : Type 0} (r : Result X E) (P Q : X → Type 0) → IfOk r P → IfOk r Q → IfOk r (λ x. P x × Q x)
both_ok (Ok x) P Q p q = (p, q)
both_ok (Err e) P Q p q = tt
