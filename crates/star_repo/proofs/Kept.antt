-- The files that were read, one after another.
use Rattle.std.proofs.Common.{◌≡◌, ◌⊎◌, inl, inr, ℕ, List, [], ◌∷◌, ◌++◌, map, Option, Some, None, refl, ap, sym, ◌∙◌, subst, String, string_bytes}
use Rattle.std.specs.Prelude.{◌↔◌, All}
use Rattle.std.specs.BTreeMap.{insert_entry}
use Rattle.std.specs.List.{AllByRecursion}
use Rattle.std.specs.List.Sorted.{IsStrictlySortedBy}
use Rattle.std.specs.Map.{keys_of, values_of}
use Rattle.std.specs.Ordering.{match_ordering, ordering_reverse}
use Rattle.std.specs.declared.alloc.Global.{Global}
use Rattle.std.specs.declared.cmp.Ordering.TheVariants.{Less, Greater}
use Rattle.std.proofs.lemmas.Cmp.{nat_list_cmp_total}
use Rattle.star_label.specs.declared.label.Label.{Label}
use Rattle.star_label.specs.contracts.label.LabelOrd.TheImpl.{cmp-value}
use Rattle.star_label.specs.Files.{File, IsOrdered, file_of}
use Rattle.star_label.specs.View.{text_of}
use Rattle.star_repo.specs.declared.found.ReadFile.{ReadFile}
use Rattle.star_repo.specs.Parsed.{AreParsed}
use Rattle.star_reading.specs.Parsed.{IsParsed, ParsedView}
use Rattle.star_words.specs.Rows.{IsIn}
use Rattle.star_repo.specs.Views.{IsAfter, IsKept, IsRead, answer_of, labels_of}
use Rattle.star_repo.specs.Way.{Answer, IsBelow}
use Rattle.star_repo.proofs.Inserted.{all_of, each_of}
use Rattle.star_repo.proofs.Labels.{Entry, in_back, in_either, in_front, in_map, of_map}
use Rattle.star_repo.proofs.Rows.{R}
use Rattle.star_repo.proofs.Settled.{zip_push}
use Rattle.star_repo.proofs.Steps.{Fresh}

-- a label after all others is put at the end
pub put_last : (es : List Fresh) (l : Label) (t : String Global) → IsAfter l es → insert_entry cmp-value.it es l t ≡ es ++ (l, t) ∷ []
put_last [] l t h = refl
put_last (e ∷ es) l t h =
    let turned : R (text_of l) (text_of e.0) ≡ Greater = nat_list_cmp_total.antisymm (text_of l) (text_of e.0) ∙ ap ordering_reverse (h (file_of e) (inl refl)) in
    ap (λ o. match_ordering o ((l, t) ∷ e ∷ es) ((e.0, t) ∷ es) (e ∷ insert_entry cmp-value.it es l t)) turned
    ∙ ap (λ r. e ∷ r) (put_last es l t (λ f i. h f (inr i)))

sorted_last : (fs : List File) (f : File) → IsOrdered fs → ((g : File) → IsIn g fs → R g.0 f.0 ≡ Less) → IsOrdered (fs ++ f ∷ [])
unfolding IsStrictlySortedBy
sorted_last [] f s h = (tt, tt)
sorted_last (g ∷ fs) f s h = (all_last g.0 fs s.0 (h g (inl refl)), sorted_last fs f s.1 (λ k i. h k (inr i)))
  where
    all_last : (a : List ℕ) (fs : List File) → AllByRecursion (λ l. R a l ≡ Less) (map (λ g. g.0) fs) → R a f.0 ≡ Less → AllByRecursion (λ l. R a l ≡ Less) (map (λ g. g.0) (fs ++ f ∷ []))
    all_last a [] h e = (e, tt)
    all_last a (g ∷ fs) h e = (h.0, all_last a fs h.1 e)

file_last : (texts : List Fresh) (x : Fresh) → map file_of (texts ++ x ∷ []) ≡ map file_of texts ++ file_of x ∷ []
file_last [] x = refl
file_last (y ∷ texts) x = ap (λ fs. file_of y ∷ fs) (file_last texts x)

-- how far the files are kept: these texts are kept, and these entries are left
pub record AreKept (first : List Entry) (texts : List Fresh) (parses : List ParsedView) (left : List Entry) : Type 0 where
  pub files : (l t : List ℕ) → IsIn (l, Some t) (map answer_of first) ↔ (IsIn (l, t) (map file_of texts) ⊎ IsIn (l, Some t) (map answer_of left))
  pub before : (f : File) → IsIn f (map file_of texts) → (a : Answer) → IsIn a (map answer_of left) → R f.0 a.0 ≡ Less
  pub ordered : IsOrdered (map file_of texts)
  pub parsed : All IsRead (values_of first) → All IsRead (values_of left) × AreParsed texts parses

pub kept_first : (first : List Entry) → AreKept first [] [] first
unfolding IsStrictlySortedBy
kept_first first = record {
  files = λ l t. ((λ h. inr h), (λ h. elim h [ inl i ↦ absurd i | inr i ↦ i ]));
  before = λ f h. absurd h;
  ordered = tt;
  parsed = λ all. (all, tt);
}

pub after_kept : (first : List Entry) (texts : List Fresh) (parses : List ParsedView) (label : Label) (v : Option ReadFile) (left : List Entry) → AreKept first texts parses ((label, v) ∷ left) → IsAfter label texts
after_kept first texts parses label v left k f i = k.before f i (answer_of (label, v)) (inl refl)

tail_read : (v : Option ReadFile) (left : List Entry) → All IsRead (v ∷ values_of left) → All IsRead (values_of left)
tail_read v left all = all_of IsRead (values_of left) (λ x i. each_of IsRead (v ∷ values_of left) all x (inr i))

pub kept_more : (first : List Entry) (texts more : List Fresh) (parses others : List ParsedView) (label : Label) (v : Option ReadFile) (left : List Entry)
    → AreKept first texts parses ((label, v) ∷ left) → IsBelow (text_of label) (labels_of (keys_of left)) → IsKept texts parses label v more others → AreKept first more others left
kept_more first texts more parses others label None left k below h =
    subst (λ ts. AreKept first ts others left) (sym h.0) (subst (λ ps. AreKept first texts ps left) (sym h.1) (record {
      files = λ l t. (
        (λ i. elim ((k.files l t).0 i) [
          | inl j ↦ inl j
          | inr (inl e) ↦ absurd (no_text l t e)
          | inr (inr j) ↦ inr j
        ]),
        (λ i. (k.files l t).1 (elim i [ inl j ↦ inl j | inr j ↦ inr (inr j) ])),
      );
      before = λ f i a j. k.before f i a (inr j);
      ordered = k.ordered;
      parsed = λ all. let r = k.parsed all in (tail_read None left r.0, r.1);
    }))
  where
    no_text : (l t : List ℕ) → answer_of (label, None) ≡ (l, Some t) → ⊥
    no_text l t e = let no : None ≡ Some t = ap (λ (a : Answer). a.1) e in cc
kept_more first texts more parses others label (Some file) left k below h =
    subst (λ ts. AreKept first ts others left) (sym h.0) (subst (λ ps. AreKept first grown ps left) (sym h.1) (record {
      files = λ l t. (
        (λ i. elim ((k.files l t).0 i) [
          | inl j ↦ inl (grown_front (l, t) j)
          | inr (inl e) ↦ inl (subst (λ (f : File). IsIn f (map file_of grown)) (as_file l t e) grown_last)
          | inr (inr j) ↦ inr j
        ]),
        (λ i. (k.files l t).1 (elim i [
          | inl j ↦ elim (grown_either (l, t) j) [ inl m ↦ inl m | inr e ↦ inr (inl (ap (λ (f : File). (f.0, Some f.1)) e)) ]
          | inr j ↦ inr (inr j)
        ])),
      );
      before = λ f i a j. elim (grown_either f i) [
        | inl m ↦ k.before f m a (inr j)
        | inr e ↦ subst (λ (g : File). R g.0 a.0 ≡ Less) e (let b = of_map answer_of left a j in subst (λ x. R (text_of label) x ≡ Less) (ap (λ (a : Answer). a.0) b.2) (below (text_of b.0.0) (label_in b.0 b.1)))
      ];
      ordered = subst IsOrdered (sym (file_last texts (label, file.text))) (sorted_last (map file_of texts) (file_of (label, file.text)) k.ordered (λ g i. k.before g i (answer_of (label, Some file)) (inl refl)));
      parsed = λ all. let r = k.parsed all in (tail_read (Some file) left r.0, zip_push (λ f p. IsParsed (string_bytes f.1) p) texts (label, file.text) parses file.parsed r.1 (each_of IsRead (Some file ∷ values_of left) r.0 (Some file) (inl refl)));
    }))
  where
    grown : List Fresh
    grown = texts ++ (label, file.text) ∷ []

    grown_front : (f : File) → IsIn f (map file_of texts) → IsIn f (map file_of (texts ++ (label, file.text) ∷ []))
    grown_front f i = let g = of_map file_of texts f i in subst (λ x. IsIn x (map file_of (texts ++ (label, file.text) ∷ []))) g.2 (in_map file_of (texts ++ (label, file.text) ∷ []) g.0 (in_front _ texts _ g.1))

    grown_last : IsIn (file_of (label, file.text)) (map file_of (texts ++ (label, file.text) ∷ []))
    grown_last = in_map file_of (texts ++ (label, file.text) ∷ []) (label, file.text) (in_back _ texts _ (inl refl))

    grown_either : (f : File) → IsIn f (map file_of (texts ++ (label, file.text) ∷ [])) → IsIn f (map file_of texts) ⊎ (file_of (label, file.text) ≡ f)
    grown_either f i = let g = of_map file_of (texts ++ (label, file.text) ∷ []) f i in elim (in_either g.0 texts ((label, file.text) ∷ []) g.1) [
      | inl m ↦ inl (subst (λ x. IsIn x (map file_of texts)) g.2 (in_map file_of texts g.0 m))
      | inr (inl e) ↦ inr (ap file_of e ∙ g.2)
      | inr (inr m) ↦ absurd m
    ]

    some_same : (a b : List ℕ) → Some a ≡ Some b → a ≡ b
    some_same a b e = cc

    as_file : (l t : List ℕ) → ◌≡◌ {A = Answer} (answer_of (label, Some file)) (l, Some t) → ◌≡◌ {A = File} (file_of (label, file.text)) (l, t)
    as_file l t e = ap (λ x. (x, string_bytes file.text)) (ap (λ (a : Answer). a.0) e) ∙ ap (λ x. (l, x)) (some_same (string_bytes file.text) t (ap (λ (a : Answer). a.1) e))

    label_in : (e : Entry) → IsIn e left → IsIn (text_of e.0) (labels_of (keys_of left))
    label_in e i = in_map text_of (keys_of left) e.0 (in_map (λ (x : Entry). x.0) left e i)
