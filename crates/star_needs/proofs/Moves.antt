-- Readings depend on the labels, on the file's own text and on the names of the prelude.
use Rattle.std.proofs.Common.{arith, ◌≡◌, ◌<◌, ◌≤◌, ◌⊎◌, ℕ, zero, suc, Bool, true, List, [], ◌∷◌, length, map, Option, Some, None, Ok, Err, refl, ap, sym, subst, ◌∙◌, inl, inr}
use Rattle.std.proofs.lemmas.Bool.{cases_order}
use Rattle.star_label.specs.Files.{File, label_at, text_at}
use Rattle.star_label.specs.Label.{package_of}
use Rattle.star_parser.specs.Sources.{Parses}
use Rattle.star_parser.proofs.Once.{one_answer}
use Rattle.star_scope.specs.declared.error.ScopeFault.{ScopeFault}
use Rattle.star_scope.specs.declared.loads.LoadTarget.{LoadTarget}
use Rattle.star_scope.specs.declared.loads.LoadTarget.TheVariants as lead
use Rattle.star_scope.specs.declared.program.Prelude.{Prelude}
use Rattle.star_scope.specs.declared.program.Program.{Program}
use Rattle.star_scope.specs.Loads.{AllLead, LeadsTo, Read}
use Rattle.star_scope.specs.Resolve.{AreReadIn, Outside, Resolves, prelude_names}
use Rattle.star_tree.specs.declared.tree.Statement.{Statement}
use Rattle.star_plan.specs.Plan.{Faulty, OfNames, OfText, Reading, Sound}
use Rattle.star_plan.specs.Reading.{IsPrelude, IsRead, statements_in}
use Rattle.star_needs.specs.Ends.{HaveSame}

abbrev pub labels_of : List File → List (List ℕ)
labels_of files = map (λ f. f.0) files

pub label_same : (files others : List File) → labels_of files ≡ labels_of others → (n : ℕ) → label_at files n ≡ label_at others n
label_same [] [] e n = refl
label_same [] (y ∷ ys) e n = absurd (let no : ⊥ = cc in no)
label_same (x ∷ xs) [] e n = absurd (let no : ⊥ = cc in no)
label_same (x ∷ xs) (y ∷ ys) e zero = let same : x.0 ≡ y.0 = cc in same
label_same (x ∷ xs) (y ∷ ys) e (suc n) = let rest : labels_of xs ≡ labels_of ys = cc in label_same xs ys rest n

pub length_same : (files others : List File) → labels_of files ≡ labels_of others → length files ≡ length others
length_same [] [] e = refl
length_same [] (y ∷ ys) e = absurd (let no : ⊥ = cc in no)
length_same (x ∷ xs) [] e = absurd (let no : ⊥ = cc in no)
length_same (x ∷ xs) (y ∷ ys) e = let rest : labels_of xs ≡ labels_of ys = cc in ap suc (length_same xs ys rest)

-- as many files, with the same label at each number, have the same labels in order
labels_by_number : (files others : List File) → length files ≡ length others → ((n : ℕ) → n < length files → label_at files n ≡ label_at others n) → labels_of files ≡ labels_of others
labels_by_number [] [] e h = refl
labels_by_number [] (y ∷ ys) e h = absurd (let no : ⊥ = cc in no)
labels_by_number (x ∷ xs) [] e h = absurd (let no : ⊥ = cc in no)
labels_by_number (x ∷ xs) (y ∷ ys) e h =
    let size : length xs ≡ length ys = cc in
    ap (λ z. z ∷ labels_of xs) (h 0 (omega arith)) ∙ ap (λ zs. y.0 ∷ zs) (labels_by_number xs ys size (λ n less. h (suc n) (omega (arith, less))))

-- beyond the files there is no text
pub no_text : (files : List File) (n : ℕ) → length files ≤ n → text_at files n ≡ []
no_text [] n h = refl
no_text (x ∷ xs) zero h = absurd (let no : ⊥ = omega (arith, h) in no)
no_text (x ∷ xs) (suc n) h = no_text xs n (omega (arith, h))

-- so it is enough to compare the labels and the texts at the numbers of files
pub same_by_number : (files others : List File) (prelude : Option ℕ) (is_in : ℕ → Bool) → length files ≡ length others
    → ((n : ℕ) → n < length files → label_at files n ≡ label_at others n)
    → ((n : ℕ) → n < length files → is_in n ≡ true → text_at files n ≡ text_at others n)
    → ((q : ℕ) → prelude ≡ Some q → text_at files q ≡ text_at others q) → HaveSame is_in prelude files others
same_by_number files others prelude is_in size labels texts prelude_text = record { labels = labels_by_number files others size labels; texts = λ n h. at n h (cases_order n (length files)); prelude_text = prelude_text }
  where
    beyond : (n : ℕ) → length files ≤ n → text_at files n ≡ text_at others n
    beyond n far = no_text files n far ∙ sym (no_text others n (omega (arith, size, far)))

    at : (n : ℕ) → is_in n ≡ true → ((n ≡ length files) ⊎ ((n < length files) ⊎ (length files < n))) → text_at files n ≡ text_at others n
    at n h (inl same) = beyond n (omega (arith, same))
    at n h (inr (inl less)) = texts n less h
    at n h (inr (inr more)) = beyond n (omega (arith, more))

module _ (files others : List File) (labels : labels_of files ≡ labels_of others) where
  lead_to : (here text : List ℕ) (l : LoadTarget) → LeadsTo files here text l → LeadsTo others here text l
  lead_to here text (lead.File n) (p, m, a, less, at) = (p, m, a, subst (λ k. n < k) (length_same files others labels) less, sym (label_same files others labels n) ∙ at)
  lead_to here text lead.NoFile (p, m, a, none) = (p, m, a, λ n less at. none n (subst (λ k. n < k) (sym (length_same files others labels)) less) (label_same files others labels n ∙ at))
  lead_to here text lead.BadLabel bad = bad

  leads_to : (here : List ℕ) (rs : List Read) → AllLead files here rs → AllLead others here rs
  leads_to here [] a = a
  leads_to here (r ∷ rs) a = (lead_to here r.0.module_string.text r.1 a.0, leads_to here rs a.1)

  reads_to : (n : ℕ) (ss : List Statement) (rs : List Read) → AreReadIn files n ss rs → AreReadIn others n ss rs
  reads_to n ss rs (are, leads) = (are, subst (λ l. AllLead others (package_of l) rs) (label_same files others labels n) (leads_to (package_of (label_at files n)) rs leads))

  pub resolved_to : (n : ℕ) (o : Outside) (ss : List Statement) (p : Program) → Resolves files n o ss (Ok p) → Resolves others n o ss (Ok p)
  resolved_to n o ss p (rs, are, none, is) = (rs, reads_to n ss rs are, none, is)

  refused_to : (n : ℕ) (o : Outside) (ss : List Statement) (e : ScopeFault) → Resolves files n o ss (Err e) → Resolves others n o ss (Err e)
  refused_to n o ss e (inl memory) = inl memory
  refused_to n o ss e (inr (rs, are, first)) = inr (rs, reads_to n ss rs are, first)

  pub read_to : (o : Outside) (n : ℕ) (r : Reading) → text_at files n ≡ text_at others n → IsRead files o n r → IsRead others o n r
  read_to o n (Faulty (OfText e)) text (parses, other) = (subst (λ t. Parses t (Err e)) text parses, other)
  read_to o n (Faulty (OfNames e)) text (tree, parses, resolves, other) = (tree, subst (λ t. Parses t (Ok tree)) text parses, refused_to n o tree.statements e resolves, other)
  read_to o n (Sound ss loads) text (tree, parses, are, (p, resolves, is)) = (tree, subst (λ t. Parses t (Ok tree)) text parses, are, (p, resolved_to n o ss p resolves, is))

pub prelude_to : (files others : List File) (o : Option ℕ) (p : Option Prelude) → ((q : ℕ) → o ≡ Some q → text_at files q ≡ text_at others q) → IsPrelude files o p → IsPrelude others o p
prelude_to files others None p text e = e
prelude_to files others (Some q) p text (answer, parses, other, is) = (answer, subst (λ t. Parses t answer) (text q refl) parses, other, is)

-- files have one prelude
pub one_prelude : (files : List File) (o : Option ℕ) (a b : Option Prelude) → IsPrelude files o a → IsPrelude files o b → a ≡ b
one_prelude files None a b x y = x ∙ sym y
one_prelude files (Some n) a b (r, parses, other, is) (t, also, another, at) =
    let same : r ≡ t = one_answer (text_at files n) r t other another parses also in
    is ∙ (ap (λ z. let q : Prelude = record { file = n; names = prelude_names (statements_in z) } in Some q) same ∙ sym at)
