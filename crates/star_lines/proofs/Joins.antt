-- The join of reports is the report of all their roots.
use Rattle.std.proofs.Common.{◌≡◌, ◌<◌, ◌⊎◌, inl, inr, ℕ, zero, suc, Bool, true, false, ◌||◌, List, [], ◌∷◌, ◌++◌, get_or, map, length, refl, ap, sym, ◌∙◌, subst, arith}
use Rattle.std.specs.Prelude.{Contains}
use Rattle.std.specs.List.{All, AllByRecursion}
use Rattle.std.specs.List.Sorted.{IsStrictlyIncreasing, IsStrictlySortedBy}
use Rattle.std.specs.Cmp.Lexicographic.{slice_cmp}
use Rattle.std.specs.Ordering.{nat_cmp}
use Rattle.std.specs.declared.cmp.Ordering.{Ordering}
use Rattle.std.specs.declared.cmp.Ordering.TheVariants.{Less}
use Rattle.std.proofs.lemmas.List.{length-map}
use Rattle.std.proofs.lemmas.List.Elements.{All-contains, All-head, All-tail}
use Rattle.star_label.specs.Files.{File, IsOrdered, label_at}
use Rattle.star_plan.specs.Plan.{Plan, loaded}
use Rattle.star_plan.specs.Reached.{IsReached, load, root}
use Rattle.star_plan.specs.Reading.{IsPlanOf}
use Rattle.star_plan.specs.Report.{Module}
use Rattle.star_plan.proofs.Goodness.{reached_is_file}
use Rattle.star_plan.proofs.Walks.{least}
use Rattle.star_cache.specs.State.{Loads}
use Rattle.star_join.specs.Laws.{HasRootsAmong, file_of}
use Rattle.star_join.specs.Texts.{full_file}
use Rattle.star_join.proofs.Joins.{found}
use Rattle.star_join.proofs.More.{more_to}
use Rattle.star_join.proofs.Reached.{loaded_same, one_end, reached_too}
use Rattle.star_join.proofs.Reports.{Ends, ended_in, reached_in}
use Rattle.star_join.proofs.Rows.{Up, first, later, mapped, member, none, to_up}
use Rattle.star_join.proofs.Texts.{Is, modules_in, one_full, same_numbers}
use Rattle.star_report.specs.Wanted.{AreMore, Full, IsFullText}
use Rattle.star_report.specs.declared.wanted.Wanted.{Wanted}
use Rattle.star_shards.specs.Entries.{label_of}
use Rattle.star_shards.specs.Joined.{IsJoin, IsJoined, all_entries, is_among}
use Rattle.star_shards.specs.Lines.{IsCheck, IsRun, Report}
use Rattle.star_lines.specs.Joins.{AreOf, AreParts, HasRoot, IsOf, ReportsJoin}
use Rattle.star_lines.specs.Lines.{HavePlainLabels, entry_text}
use Rattle.star_lines.proofs.Lines.{labels_are}
use Rattle.star_lines.proofs.Unique.{among, here, one_row}

-- ---- texts among others

or_right : (a b : Bool) → b ≡ true → (a || b) ≡ true
or_right true b h = refl
or_right false b h = h

in_more : (t s : List ℕ) (ts : List (List ℕ)) → is_among ts s ≡ true → is_among (t ∷ ts) s ≡ true
in_more t s ts h = or_right _ (is_among ts s) h

in_left : (ts us : List (List ℕ)) (s : List ℕ) → is_among ts s ≡ true → is_among (ts ++ us) s ≡ true
in_left [] us s h = absurd (let no : ⊥ = cc in no)
in_left (t ∷ ts) us s h = by (λ k. in_left ts us s k) (among t s ts h)
  where
    by : (is_among ts s ≡ true → is_among (ts ++ us) s ≡ true) → ((s ≡ t) ⊎ (is_among ts s ≡ true)) → is_among (t ∷ (ts ++ us)) s ≡ true
    by rest (inl e) = subst (λ w. is_among (t ∷ (ts ++ us)) w ≡ true) (sym e) (here t (ts ++ us))
    by rest (inr k) = in_more t s (ts ++ us) (rest k)

in_right : (ts us : List (List ℕ)) (s : List ℕ) → is_among us s ≡ true → is_among (ts ++ us) s ≡ true
in_right [] us s h = h
in_right (t ∷ ts) us s h = in_more t s (ts ++ us) (in_right ts us s h)

in_either : (ts us : List (List ℕ)) (s : List ℕ) → is_among (ts ++ us) s ≡ true → (is_among ts s ≡ true) ⊎ (is_among us s ≡ true)
in_either [] us s h = inr h
in_either (t ∷ ts) us s h = by (λ k. in_either ts us s k) (among t s (ts ++ us) h)
  where
    at : ((is_among ts s ≡ true) ⊎ (is_among us s ≡ true)) → (is_among (t ∷ ts) s ≡ true) ⊎ (is_among us s ≡ true)
    at (inl k) = inl (in_more t s ts k)
    at (inr k) = inr k

    by : (is_among (ts ++ us) s ≡ true → (is_among ts s ≡ true) ⊎ (is_among us s ≡ true)) → ((s ≡ t) ⊎ (is_among (ts ++ us) s ≡ true)) → (is_among (t ∷ ts) s ≡ true) ⊎ (is_among us s ≡ true)
    by rest (inl e) = inl (subst (λ w. is_among (t ∷ ts) w ≡ true) (sym e) (here t ts))
    by rest (inr k) = at (rest k)

to_text : (files : List File) (fs : List Full) (f : Full) → Contains fs f → is_among (map (entry_text files) fs) (entry_text files f) ≡ true
to_text files [] f c = absurd (none f c)
to_text files (g ∷ fs) f c = by (λ k. to_text files fs f k) (member g fs f c)
  where
    by : (Contains fs f → is_among (map (entry_text files) fs) (entry_text files f) ≡ true) → ((g ≡ f) ⊎ Contains fs f) → is_among (map (entry_text files) (g ∷ fs)) (entry_text files f) ≡ true
    by rest (inl e) = subst (λ h. is_among (entry_text files g ∷ map (entry_text files) fs) (entry_text files h) ≡ true) e (here (entry_text files g) (map (entry_text files) fs))
    by rest (inr k) = in_more (entry_text files g) (entry_text files f) (map (entry_text files) fs) (rest k)

from_text : (files : List File) (fs : List Full) (t : List ℕ) → is_among (map (entry_text files) fs) t ≡ true → (f : Full) × Contains fs f × (t ≡ entry_text files f)
from_text files [] t h = absurd (let no : ⊥ = cc in no)
from_text files (g ∷ fs) t h = by (λ k. from_text files fs t k) (among (entry_text files g) t (map (entry_text files) fs) h)
  where
    on : ((f : Full) × Contains fs f × (t ≡ entry_text files f)) → (f : Full) × Contains (g ∷ fs) f × (t ≡ entry_text files f)
    on (f, c, e) = (f, later g f fs c, e)

    by : (is_among (map (entry_text files) fs) t ≡ true → (f : Full) × Contains fs f × (t ≡ entry_text files f)) → ((t ≡ entry_text files g) ⊎ (is_among (map (entry_text files) fs) t ≡ true)) → (f : Full) × Contains (g ∷ fs) f × (t ≡ entry_text files f)
    by rest (inl e) = (g, first g fs, e)
    by rest (inr k) = on (rest k)

-- ---- modules of a part

module _ (wanted : Wanted) (files : List File) (plan : Plan) (ordered : IsOrdered files) (also : IsPlanOf files plan) where
  -- one more part
  module _ (p : Plan) (is : IsPlanOf files p) (has : HasRootsAmong p plan) (a : List ℕ) (x : IsFullText wanted files p a) where
    reach : (n : ℕ) → IsReached p n → IsReached plan n
    reach = reached_too files p plan ordered is also has.prelude has.mode has.roots

    part_is : (f : Full) → Contains x.fulls f → Is wanted files plan f
    part_is f c =
        let m = mapped (λ (g : Full). g.shown) f x.fulls c in
        let at = reached_in p x.begun (modules_in x.fulls) x.report f.shown m in (
          (one_end files p plan ordered is also has.prelude has.mode f.shown.file at (reach f.shown.file at) f.shown.ended).0 (ended_in p x.begun (modules_in x.fulls) x.report f.shown m),
          more_to files p plan ordered is also has.prelude has.mode f.shown.file at (reach f.shown.file at) wanted f.more (All-contains (λ (g : Full). AreMore wanted files p g.shown.file g.more) x.fulls f x.more c),
        )

    part_reaches : (f : Full) → Contains x.fulls f → IsReached plan (full_file f)
    part_reaches f c = reach f.shown.file (reached_in p x.begun (modules_in x.fulls) x.report f.shown (mapped (λ (g : Full). g.shown) f x.fulls c))

    -- a module of the whole that the part reaches is the part's
    part_has : (f : Full) → Is wanted files plan f → IsReached p (full_file f) → Contains x.fulls f
    part_has f h at =
        found full_file (Is wanted files plan) (one_full wanted files plan) x.fulls f part_is h
        (subst (λ ns. Contains ns (full_file f)) (same_numbers x.fulls) ((x.report.all (full_file f)).0 at))

    step_in : (k m : ℕ) → IsReached p k → Loads (loaded plan) k m → IsReached p m
    step_in k m at step = load at (subst (λ xs. Contains xs m) (sym (loaded_same files p plan ordered is also has.prelude has.mode k at (reach k at))) step)

  -- the whole
  module _ (c : List ℕ) (z : IsFullText wanted files plan c) where
    whole_is : (f : Full) → Contains z.fulls f → Is wanted files plan f
    whole_is f h = (
      ended_in plan z.begun (modules_in z.fulls) z.report f.shown (mapped (λ (g : Full). g.shown) f z.fulls h),
      All-contains (λ (g : Full). AreMore wanted files plan g.shown.file g.more) z.fulls f z.more h,
    )

    whole_has : (f : Full) → Is wanted files plan f → IsReached plan (full_file f) → Contains z.fulls f
    whole_has f h at =
        found full_file (Is wanted files plan) (one_full wanted files plan) z.fulls f whole_is h
        (subst (λ ns. Contains ns (full_file f)) (same_numbers z.fulls) ((z.report.all (full_file f)).0 at))

    -- an entry of a part is one of the whole
    parts_in : (ps : List Plan) (rs : List Report) → AreParts files plan ps → AreOf wanted files ps rs → (t : List ℕ) → is_among (all_entries rs) t ≡ true
        → is_among (map (entry_text files) z.fulls) t ≡ true
    unfolding AreParts AreOf all_entries
    parts_in [] [] h k t g = absurd (let no : ⊥ = cc in no)
    parts_in [] (r ∷ rs) h k t g = absurd k
    parts_in (p ∷ ps) [] h k t g = absurd k
    parts_in (p ∷ ps) (r ∷ rs) h k t g =
        by (λ i. parts_in ps rs h.1 k.1 t i) (in_either (map (entry_text files) k.0.whole.fulls) (all_entries rs) t (subst (λ (w : Report). is_among (w.entries ++ all_entries rs) t ≡ true) k.0.report g))
      where
        x : IsFullText wanted files p k.0.text
        x = k.0.whole

        own : ((f : Full) × Contains x.fulls f × (t ≡ entry_text files f)) → is_among (map (entry_text files) z.fulls) t ≡ true
        own (f, i, e) =
            subst (λ w. is_among (map (entry_text files) z.fulls) w ≡ true) (sym e)
            (to_text files z.fulls f (whole_has f (part_is p h.0.0 h.0.1 k.0.text x f i) (part_reaches p h.0.0 h.0.1 k.0.text x f i)))

        by : (is_among (all_entries rs) t ≡ true → is_among (map (entry_text files) z.fulls) t ≡ true) → ((is_among (map (entry_text files) x.fulls) t ≡ true) ⊎ (is_among (all_entries rs) t ≡ true)) → is_among (map (entry_text files) z.fulls) t ≡ true
        by rest (inl i) = own (from_text files x.fulls t i)
        by rest (inr i) = rest i

  -- one of some plans reaches a file
  ReachedIn : List Plan → ℕ → Type 0
  ReachedIn [] n = ⊥
  ReachedIn (p ∷ ps) n = IsReached p n ⊎ ReachedIn ps n

  rooted : (ps : List Plan) (n : ℕ) → HasRoot ps n → ReachedIn ps n
  unfolding HasRoot ReachedIn
  rooted [] n h = h
  rooted (p ∷ ps) n (inl c) = inl (root c)
  rooted (p ∷ ps) n (inr h) = inr (rooted ps n h)

  stepped : (ps : List Plan) (rs : List Report) → AreParts files plan ps → AreOf wanted files ps rs → (k m : ℕ) → Loads (loaded plan) k m → ReachedIn ps k → ReachedIn ps m
  unfolding AreParts AreOf ReachedIn
  stepped [] [] h a k m step at = at
  stepped [] (r ∷ rs) h a k m step at = at
  stepped (p ∷ ps) [] h a k m step at = absurd a
  stepped (p ∷ ps) (r ∷ rs) h a k m step (inl at) = inl (step_in p h.0.0 h.0.1 a.0.text a.0.whole k m at step)
  stepped (p ∷ ps) (r ∷ rs) h a k m step (inr at) = inr (stepped ps rs h.1 a.1 k m step at)

  -- a module of the whole is in the part that reaches it
  in_part : (ps : List Plan) (rs : List Report) → AreParts files plan ps → AreOf wanted files ps rs → (f : Full) → Is wanted files plan f → ReachedIn ps (full_file f)
      → is_among (all_entries rs) (entry_text files f) ≡ true
  unfolding AreParts AreOf ReachedIn all_entries
  in_part [] rs h a f i at = absurd at
  in_part (p ∷ ps) [] h a f i at = absurd a
  in_part (p ∷ ps) (r ∷ rs) h a f i (inl at) =
      let x = a.0.whole in
      let own = to_text files x.fulls f (part_has p h.0.0 h.0.1 a.0.text x f i at) in
      subst (λ (w : Report). is_among (w.entries ++ all_entries rs) (entry_text files f) ≡ true) (sym a.0.report) (in_left (map (entry_text files) x.fulls) (all_entries rs) (entry_text files f) own)
  in_part (p ∷ ps) (r ∷ rs) h a f i (inr at) = in_right r.entries (all_entries rs) (entry_text files f) (in_part ps rs h.1 a.1 f i at)

  module _ (c : List ℕ) (z : IsFullText wanted files plan c) (ps : List Plan) (rs : List Report) (parts : AreParts files plan ps) (all : (n : ℕ) → Contains plan.roots n → HasRoot ps n) (of : AreOf wanted files ps rs) where
    whole_in : (t : List ℕ) → is_among (map (entry_text files) z.fulls) t ≡ true → is_among (all_entries rs) t ≡ true
    whole_in t h = by (from_text files z.fulls t h)
      where
        by : ((f : Full) × Contains z.fulls f × (t ≡ entry_text files f)) → is_among (all_entries rs) t ≡ true
        by (f, i, e) =
            let at : IsReached plan (full_file f) = reached_in plan z.begun (modules_in z.fulls) z.report f.shown (mapped (λ (g : Full). g.shown) f z.fulls i) in
            let part = least plan (ReachedIn ps) (λ k r. rooted ps k (all k r)) (λ k m s step. stepped ps rs parts of k m step s) (full_file f) at in
            subst (λ w. is_among (all_entries rs) w ≡ true) (sym e) (in_part ps rs parts of f (whole_is c z f i) part)

-- ---- the order of labels

abbrev cmp : List ℕ → List ℕ → Ordering
cmp = slice_cmp nat_cmp

at_index : {A : Type 0} (P : List ℕ → Type 0) (g : A → List ℕ) (xs : List A) (j : ℕ) (d : A) → AllByRecursion P (map g xs) → j < length xs → P (g (get_or xs j d))
at_index P g [] j d h less = absurd (let no : ⊥ = omega (arith, less) in no)
at_index P g (x ∷ xs) zero d h less = h.0
at_index P g (x ∷ xs) (suc j) d h less = at_index P g xs j d h.1 (omega (arith, less))

labels_rise : (files : List File) → IsStrictlySortedBy (slice_cmp nat_cmp) (map (λ f. f.0) files) → (i j : ℕ) → i < j → j < length files → cmp (label_at files i) (label_at files j) ≡ Less
unfolding IsStrictlySortedBy
labels_rise [] h i j less short = absurd (let no : ⊥ = omega (arith, short) in no)
labels_rise (f ∷ fs) h i zero less short = absurd (let no : ⊥ = omega (arith, less) in no)
labels_rise (f ∷ fs) h zero (suc j) less short = at_index (λ l. cmp f.0 l ≡ Less) (λ g. g.0) fs j ([], []) h.0 (omega (arith, short))
labels_rise (f ∷ fs) h (suc i) (suc j) less short = labels_rise fs h.1 i j (omega (arith, less)) (omega (arith, short))

module _ (files : List File) (ordered : IsOrdered files) where
  abbrev its_label : Full → List ℕ
  its_label f = label_at files f.shown.file

  above : (f : Full) (gs : List Full) → ((g : Full) → Contains gs g → full_file f < full_file g) → ((g : Full) → Contains gs g → full_file g < length files) → AllByRecursion (λ l. cmp (its_label f) l ≡ Less) (map its_label gs)
  above f [] low short = tt
  above f (g ∷ gs) low short =
      (labels_rise files ordered (full_file f) (full_file g) (low g (first g gs)) (short g (first g gs)), above f gs (λ h c. low h (later g h gs c)) (λ h c. short h (later g h gs c)))

  sorted : (fs : List Full) → Up full_file fs → ((g : Full) → Contains fs g → full_file g < length files) → IsStrictlySortedBy (slice_cmp nat_cmp) (map its_label fs)
  unfolding IsStrictlySortedBy
  sorted [] u short = tt
  sorted (f ∷ fs) u short = (above f fs u.0 (λ g c. short g (later f g fs c)), sorted fs u.1 (λ g c. short g (later f g fs c)))

twice : (files : List File) (fs : List Full) → map label_of (map (entry_text files) fs) ≡ map (λ f. label_of (entry_text files f)) fs
twice files [] = refl
twice files (f ∷ fs) = ap (λ ls. label_of (entry_text files f) ∷ ls) (twice files fs)

-- ---- reports of checks

no_length : {A : Type 0} (xs : List A) → length xs ≡ 0 → xs ≡ []
no_length [] h = refl
no_length (x ∷ xs) h = absurd (let no : ⊥ = omega (arith, h) in no)

none_among : (ts : List (List ℕ)) → ((t : List ℕ) → is_among ts t ≡ false) → ts ≡ []
none_among [] h = refl
none_among (t ∷ ts) h = absurd (let off = h t in let on = here t ts in let no : ⊥ = cc in no)

begun_is : (wanted : Wanted) (files : List File) (plan : Plan) (text : List ℕ) (x : IsFullText wanted files plan text) → x.begun ≡ length (map (entry_text files) x.fulls)
begun_is wanted files plan text x = x.report.begun_are ∙ length-map x.fulls (λ f. f.shown) ∙ sym (length-map x.fulls (entry_text files))

checks_empty : (wanted : Wanted) (files : List File) (ps : List Plan) (rs : List Report) → AreOf wanted files ps rs → All IsCheck rs → all_entries rs ≡ []
unfolding AreOf all_entries
checks_empty wanted files [] [] a h = refl
checks_empty wanted files [] (r ∷ rs) a h = absurd a
checks_empty wanted files (p ∷ ps) [] a h = refl
checks_empty wanted files (p ∷ ps) (r ∷ rs) a h =
    let x = a.0.whole in
    let zero_begun : r.begun ≡ 0 = All-head IsCheck r rs h in
    let its : r.begun ≡ x.begun = ap (λ (w : Report). w.begun) a.0.report in
    let size : length (map (entry_text files) x.fulls) ≡ 0 = sym (begun_is wanted files p a.0.text x) ∙ sym its ∙ zero_begun in
    let own : r.entries ≡ [] = ap (λ (w : Report). w.entries) a.0.report ∙ no_length (map (entry_text files) x.fulls) size in
    ap (λ es. es ++ all_entries rs) own ∙ checks_empty wanted files ps rs a.1 (All-tail IsCheck r rs h)

pub reports_join : ReportsJoin
reports_join wanted files ps rs plan whole joined shown labels ordered also parts all of is j =
    ap (λ n. let w : Report = record { begun = n; entries = joined.entries } in w) begun ∙ ap (λ es. let w : Report = record { begun = z.begun; entries = es } in w) entries ∙ sym is.report
  where
    z : IsFullText wanted files plan is.text
    z = is.whole

    short : (g : Full) → Contains z.fulls g → full_file g < length files
    short g c = reached_is_file files plan also (full_file g) (reached_in plan z.begun (modules_in z.fulls) z.report g.shown (mapped (λ (f : Full). f.shown) g z.fulls c))

    rising : IsStrictlyIncreasing (map full_file z.fulls)
    rising = subst IsStrictlyIncreasing (same_numbers z.fulls) z.report.in_order

    in_order : IsStrictlySortedBy (slice_cmp nat_cmp) (map label_of (map (entry_text files) z.fulls))
    in_order =
        subst (IsStrictlySortedBy (slice_cmp nat_cmp)) (sym (twice files z.fulls ∙ labels_are wanted files plan labels z.fulls z.more))
        (sorted files ordered z.fulls (to_up full_file z.fulls rising) short)

    entries : joined.entries ≡ map (entry_text files) z.fulls
    entries =
        one_row joined.entries (map (entry_text files) z.fulls) j.entries.in_order in_order
        (λ t h. parts_in wanted files plan ordered also is.text z ps rs parts of t (sym (j.entries.all t) ∙ h))
        (λ t h. j.entries.all t ∙ whole_in wanted files plan ordered also is.text z ps rs parts all of t h)

    checked : All IsCheck rs → map (entry_text files) z.fulls ≡ []
    checked h = sym entries ∙ none_among joined.entries (λ t. j.entries.all t ∙ ap (λ es. is_among es t) (checks_empty wanted files ps rs of h))

    begun_by : ((All IsRun rs × IsRun joined) ⊎ (All IsCheck rs × IsCheck joined)) → joined.begun ≡ z.begun
    begun_by (inl h) = h.1 ∙ ap length entries ∙ sym (begun_is wanted files plan is.text z)
    begun_by (inr h) = h.1 ∙ sym (begun_is wanted files plan is.text z ∙ ap length (checked h.0))

    begun : joined.begun ≡ z.begun
    begun = begun_by j.begun
