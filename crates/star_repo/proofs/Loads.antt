-- Which labels load statements name.
use Rattle.std.proofs.Common.{◌≡◌, ◌⊎◌, inl, inr, ℕ, List, [], ◌++◌, subst, sym, ap, Ok, Err}
use Rattle.std.specs.Prelude.{◌↔◌, Result}
pub use Rattle.star_label.proofs.Colons.{one_label}
use Rattle.star_lex.specs.declared.token.SyntaxFault.{SyntaxFault}
use Rattle.star_lex.specs.declared.token.SyntaxFault.TheVariants.{Memory}
use Rattle.star_parser.specs.Sources.{Parses}
use Rattle.star_parser.proofs.Once.{one_answer}
use Rattle.star_tree.specs.declared.tree.Tree.{Tree}
use Rattle.star_scope.specs.Loads.{Written, written}
use Rattle.star_label.specs.declared.label.Label.{Label}
use Rattle.star_label.specs.Label.{package_of}
use Rattle.star_repo.specs.Loading.{AreLoads, LoadsLabel}
use Rattle.star_words.specs.Rows.{IsIn}
use Rattle.star_repo.specs.Views.{GainsLabels, IsNamed, labels_of}
use Rattle.star_repo.proofs.Labels.{in_back, in_either, in_front}
use Rattle.star_repo.proofs.Rows.{from_in, to_in}

pub named_either : (here : List ℕ) (xs ys : List Written) (m : List ℕ) → IsNamed here (xs ++ ys) m → IsNamed here xs m ⊎ IsNamed here ys m
named_either here xs ys m h = elim (in_either h.0 xs ys h.1) [ inl j ↦ inl (h.0, j, h.2, h.3, h.4, h.5) | inr j ↦ inr (h.0, j, h.2, h.3, h.4, h.5) ]

pub named_front : (here : List ℕ) (xs ys : List Written) (m : List ℕ) → IsNamed here xs m → IsNamed here (xs ++ ys) m
named_front here xs ys m h = (h.0, in_front h.0 xs ys h.1, h.2, h.3, h.4, h.5)

pub named_back : (here : List ℕ) (xs ys : List Written) (m : List ℕ) → IsNamed here ys m → IsNamed here (xs ++ ys) m
named_back here xs ys m h = (h.0, in_back h.0 xs ys h.1, h.2, h.3, h.4, h.5)

one_tree : (text : List ℕ) (a b : Tree) → Parses text (Ok a) → Parses text (Ok b) → a ≡ b
one_tree text a b h k =
    let same = one_answer text (Ok a) (Ok b) (λ e. let no : ⊥ = cc in no) (λ e. let no : ⊥ = cc in no) h k in
    cc

-- a text that parses loads the labels that the load statements of its tree name
pub loads_of_tree : (here text : List ℕ) (tree : Tree) (m : List ℕ) → Parses text (Ok tree) → IsNamed here (written tree.statements) m ↔ LoadsLabel here text m
loads_of_tree here text tree m parses = (
  (λ h. (tree, parses, h.0, from_in (written tree.statements) h.0 h.1, h.2, h.3, h.4, h.5)),
  (λ h. let same : h.0 ≡ tree = one_tree text h.0 tree h.1 parses in
      (h.2, subst (λ (t : Tree). IsIn h.2 (written t.statements)) same (to_in (written h.0.statements) h.2 h.3), h.4, h.5, h.6, h.7)),
)

-- a text that does not parse loads nothing
pub no_loads : (here text : List ℕ) (fault : SyntaxFault) (m : List ℕ) → Parses text (Err fault) → (fault ≡ Memory → ⊥) → LoadsLabel here text m → ⊥
no_loads here text fault m parses named h =
    let same = one_answer text (Ok h.0) (Err fault) (λ e. let no : ⊥ = cc in no) (λ e. named (err_same fault Memory e)) h.1 parses in
    let no : ⊥ = cc in no
  where
    err_same : (a b : SyntaxFault) → ◌≡◌ {A = Result Tree SyntaxFault} (Err a) (Err b) → a ≡ b
    err_same a b e = cc

in_none : (m : List ℕ) (old : List Label) → old ≡ [] → IsIn m (labels_of old) → ⊥
in_none m old e i = subst (λ ls. IsIn m (labels_of ls)) e i

-- the labels that the load statements of a text's tree name, put to none, are those that it loads
pub loads_of_text : (label text here : List ℕ) (tree : Tree) (old new : List Label) → here ≡ package_of label → old ≡ [] → Parses text (Ok tree)
    → GainsLabels old new (IsNamed here (written tree.statements)) → AreLoads label text (labels_of new)
loads_of_text label text here tree old new place none parses gains m =
    let both = loads_of_tree (package_of label) text tree m parses in (
      (λ i. elim ((gains m).0 i) [ inl j ↦ absurd (in_none m old none j) | inr n ↦ both.0 (subst (λ h. IsNamed h (written tree.statements) m) place n) ]),
      (λ l. (gains m).1 (inr (subst (λ h. IsNamed h (written tree.statements) m) (sym place) (both.1 l)))),
    )

-- a text that does not parse loads none
pub loads_of_none : (label text : List ℕ) (fault : SyntaxFault) (old : List Label) → old ≡ [] → Parses text (Err fault) → (fault ≡ Memory → ⊥)
    → AreLoads label text (labels_of old)
loads_of_none label text fault old none parses other m =
    ((λ i. absurd (in_none m old none i)), (λ l. absurd (no_loads (package_of label) text fault m parses other l)))
