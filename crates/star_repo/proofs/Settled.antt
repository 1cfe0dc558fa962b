-- A fresh file is set beside its parse.
use Rattle.std.proofs.Common.{◌≡◌, ◌⊎◌, inl, inr, ℕ, List, [], ◌∷◌, ◌++◌, map, Option, Some, refl, ap, sym, ◌∙◌, subst, String, string_bytes}
use Rattle.std.specs.Prelude.{◌↔◌, OnOk, Result, Ok, Err}
use Rattle.std.specs.List.{AllZip}
use Rattle.std.specs.declared.alloc.Global.{Global}
use Rattle.star_label.specs.declared.label.Label.{Label}
use Rattle.star_label.specs.Files.{File, file_of}
use Rattle.star_label.specs.Label.{package_of}
use Rattle.star_label.specs.View.{text_of}
use Rattle.star_repo.specs.declared.found.ReadFile.{ReadFile}
use Rattle.star_repo.specs.Loading.{LoadsLabel}
use Rattle.star_words.specs.Rows.{IsIn}
use Rattle.star_repo.specs.Views.{answer_of, answers_in, fresh_answer}
use Rattle.star_repo.specs.Way.{Answer, IsLoadedBy}
use Rattle.star_repo.proofs.Labels.{Entry, entry_from, entry_to, in_back, in_either, in_front, in_map, of_map}
use Rattle.star_repo.proofs.Steps.{Fresh, ins}

pub on_ok : {A E : Type 0} (P Q : Type 0) (r : Result A E) → OnOk r P → (P → Q) → OnOk r Q
on_ok P Q (Ok x) h k = k h
on_ok P Q (Err e) h k = tt

-- ---- two lists, element by element

no_more : {X Y : Type 0} (R : X → Y → Type 0) (xs : List X) (x : X) → AllZip R (xs ++ x ∷ []) [] → ⊥
no_more R [] x h = h
no_more R (z ∷ xs) x h = h

none_left : {X Y : Type 0} (R : X → Y → Type 0) (ys : List Y) (y : Y) → AllZip R [] (ys ++ y ∷ []) → ⊥
none_left R [] y h = h
none_left R (z ∷ ys) y h = h

pub zip_last : {X Y : Type 0} (R : X → Y → Type 0) (xs : List X) (x : X) (ys : List Y) (y : Y) → AllZip R (xs ++ x ∷ []) (ys ++ y ∷ []) → AllZip R xs ys × R x y
zip_last R [] x [] y h = (tt, h.0)
zip_last R [] x (z ∷ ys) y h = absurd (none_left R ys y h.1)
zip_last R (w ∷ xs) x [] y h = absurd (no_more R xs x h.1)
zip_last R (w ∷ xs) x (z ∷ ys) y h = let r = zip_last R xs x ys y h.1 in ((h.0, r.0), r.1)

pub zip_push : {X Y : Type 0} (R : X → Y → Type 0) (xs : List X) (x : X) (ys : List Y) (y : Y) → AllZip R xs ys → R x y → AllZip R (xs ++ x ∷ []) (ys ++ y ∷ [])
zip_push R [] x [] y h r = (r, tt)
zip_push R [] x (z ∷ ys) y h r = absurd h
zip_push R (w ∷ xs) x [] y h r = absurd h
zip_push R (w ∷ xs) x (z ∷ ys) y h r = (h.0, zip_push R xs x ys y h.1 r)

pub zip_append : {X Y : Type 0} (R : X → Y → Type 0) (xs vs : List X) (ys ws : List Y) → AllZip R xs ys → AllZip R vs ws → AllZip R (xs ++ vs) (ys ++ ws)
zip_append R [] vs [] ws h k = k
zip_append R [] vs (y ∷ ys) ws h k = absurd h
zip_append R (x ∷ xs) vs [] ws h k = absurd h
zip_append R (x ∷ xs) vs (y ∷ ys) ws h k = (h.0, zip_append R xs vs ys ws h.1 k)

-- ---- the answers stay

abbrev pub Once : List Answer → Type 0
Once answers = (k : List ℕ) (o p : Option (List ℕ)) → IsIn (k, o) answers → IsIn (k, p) answers → o ≡ p

abbrev pub Same : List Answer → List Answer → Type 0
Same xs ys = (y : Answer) → IsIn y xs ↔ IsIn y ys

module _ (fresh : List Fresh) (l : Label) (file : ReadFile) (looked : List Entry) (once : Once (answers_in (fresh ++ (l, file.text) ∷ []) looked)) where
  abbrev more : List Fresh
  more = fresh ++ (l, file.text) ∷ []

  here : IsIn (fresh_answer (l, file.text)) (answers_in more looked)
  here = in_front _ (map fresh_answer more) _ (in_map fresh_answer more (l, file.text) (in_back _ fresh _ (inl refl)))

  one : (o : Option (List ℕ)) → IsIn (text_of l, o) (map answer_of looked) → o ≡ Some (string_bytes file.text)
  one o i = once (text_of l) o (Some (string_bytes file.text)) (in_back _ (map fresh_answer more) _ i) here

  to : (y : Answer) → IsIn y (answers_in more looked) → IsIn y (answers_in fresh (ins looked l (Some file)))
  to y i = elim (in_either y (map fresh_answer more) (map answer_of looked) i) [
    | inl j ↦ let f = of_map fresh_answer more y j in elim (in_either f.0 fresh ((l, file.text) ∷ []) f.1) [
      | inl k ↦ in_front y (map fresh_answer fresh) _ (subst (λ x. IsIn x (map fresh_answer fresh)) f.2 (in_map fresh_answer fresh f.0 k))
      | inr (inl e) ↦ in_back y (map fresh_answer fresh) _ (entry_to looked l (Some file) y one (inl (ap fresh_answer e ∙ f.2)))
      | inr (inr k) ↦ absurd k
    ]
    | inr j ↦ in_back y (map fresh_answer fresh) _ (entry_to looked l (Some file) y one (inr j))
  ]

  from : (y : Answer) → IsIn y (answers_in fresh (ins looked l (Some file))) → IsIn y (answers_in more looked)
  from y i = elim (in_either y (map fresh_answer fresh) (map answer_of (ins looked l (Some file))) i) [
    | inl j ↦ let f = of_map fresh_answer fresh y j in in_front y (map fresh_answer more) _ (subst (λ x. IsIn x (map fresh_answer more)) f.2 (in_map fresh_answer more f.0 (in_front _ fresh _ f.1)))
    | inr j ↦ elim (entry_from looked l (Some file) y j) [
      | inl e ↦ subst (λ x. IsIn x (answers_in more looked)) e here
      | inr k ↦ in_back y (map fresh_answer more) _ k
    ]
  ]

  pub stays : Same (answers_in more looked) (answers_in fresh (ins looked l (Some file)))
  stays y = (to y, from y)

pub same_on : (xs ys zs : List Answer) → Same xs ys → Same ys zs → Same xs zs
same_on xs ys zs a b y = ((λ h. (b y).0 ((a y).0 h)), (λ h. (a y).1 ((b y).1 h)))

pub once_too : (xs ys : List Answer) → Same xs ys → Once xs → Once ys
once_too xs ys a once k o p h i = once k o p ((a (k, o)).1 h) ((a (k, p)).1 i)

-- ---- their loads

pub loaded_more : (l : Label) (text : String Global) (moved : List Fresh) (before after : List (List ℕ))
    → ((m : List ℕ) → IsIn m before ↔ IsLoadedBy (map file_of moved) m)
    → ((m : List ℕ) → IsIn m after ↔ (IsIn m before ⊎ LoadsLabel (package_of (text_of l)) (string_bytes text) m))
    → (m : List ℕ) → IsIn m after ↔ IsLoadedBy (map file_of ((l, text) ∷ moved)) m
loaded_more l text moved before after old new m = (
  (λ h. elim ((new m).0 h) [
    | inl i ↦ let b = (old m).0 i in (b.0, b.1, inr b.2, b.3)
    | inr loads ↦ (text_of l, string_bytes text, inl refl, loads)
  ]),
  (λ (k, t, i, loads). (new m).1 (elim i [
    | inl e ↦ inr (subst (λ (f : File). LoadsLabel (package_of f.0) f.1 m) (sym e) loads)
    | inr j ↦ inl ((old m).1 (k, t, j, loads))
  ])),
)
