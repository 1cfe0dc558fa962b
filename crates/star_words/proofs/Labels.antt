-- Labels among texts.
use Rattle.std.proofs.Common.{◌≡◌, ◌⊎◌, inl, inr, ℕ, ◌+◌, ◌<◌, List, [], ◌∷◌, ◌++◌, String, Global, get_or, length, take, string_bytes, true, Some, None, ap, subst, sym, ◌∙◌}
use Rattle.std.specs.Prelude.{◌↔◌}
use Rattle.star_bundle.specs.Bundle.{is_label}
use Rattle.star_words.specs.Named.{AllLabels, AreAsked, Names, AreNamed, texts_of}
use Rattle.star_words.specs.Rows.{IsIn}
use Rattle.star_words.proofs.Members.{in_back, in_either, in_front, texts_more}

-- one text more
pub all_more : (ts : List (List ℕ)) (t : List ℕ) → AllLabels ts → is_label t ≡ true → AllLabels (ts ++ t ∷ [])
all_more ts t all is u h = elim (in_either u ts (t ∷ []) h) [
  | inl i ↦ all u i
  | inr i ↦ elim i [
    | inl e ↦ ap is_label (sym e) ∙ is
    | inr k ↦ absurd k
  ]
]

-- the same of a label among labels
pub are_more : (ls ms ts : List (List ℕ)) (t : List ℕ) → ((m : List ℕ) → IsIn m ls ↔ IsIn m ts) → ((m : List ℕ) → IsIn m ms ↔ (IsIn m ls ⊎ (m ≡ t))) → (m : List ℕ) → IsIn m ms ↔ IsIn m (ts ++ t ∷ [])
are_more ls ms ts t same more m = (
  (λ i. elim ((more m).0 i) [
    | inl j ↦ in_front m ts (t ∷ []) ((same m).0 j)
    | inr e ↦ in_back m ts (t ∷ []) (inl (sym e))
  ]),
  (λ i. (more m).1 (elim (in_either m ts (t ∷ []) i) [
    | inl j ↦ inl ((same m).1 j)
    | inr j ↦ elim j [ inl e ↦ inr (sym e) | inr k ↦ absurd k ]
  ])),
)

-- .. and the text is the next word
pub all_next : (words : List (String Global)) (i : ℕ) (word : String Global) → i < length words → word ≡ get_or words i word → AllLabels (texts_of (take i words)) → is_label (string_bytes word) ≡ true → AllLabels (texts_of (take (i + 1) words))
all_next words i word low at all is = subst AllLabels (sym (texts_more words i word low at)) (all_more (texts_of (take i words)) (string_bytes word) all is)

pub are_next : (words : List (String Global)) (i : ℕ) (word : String Global) → i < length words → word ≡ get_or words i word → (ls ms : List (List ℕ)) → ((m : List ℕ) → IsIn m ls ↔ IsIn m (texts_of (take i words))) → ((m : List ℕ) → IsIn m ms ↔ (IsIn m ls ⊎ (m ≡ string_bytes word))) → (m : List ℕ) → IsIn m ms ↔ IsIn m (texts_of (take (i + 1) words))
are_next words i word low at ls ms same more = subst (λ ts. (m : List ℕ) → IsIn m ms ↔ IsIn m ts) (sym (texts_more words i word low at)) (are_more ls ms (texts_of (take i words)) (string_bytes word) same more)

-- the labels that are asked for without a prelude, and with one
pub without_prelude : (ts ls : List (List ℕ)) → AllLabels ts → ((m : List ℕ) → IsIn m ls ↔ IsIn m ts) → AreAsked ts None ls
without_prelude ts ls all same = record {
  are = (all, λ p e. absurd (let no : ⊥ = cc in no));
  labels_are = λ l. (
    (λ i. inl ((same l).0 i)),
    (λ h. elim h [ inl i ↦ (same l).1 i | inr e ↦ absurd (let no : ⊥ = cc in no) ]),
  );
}

some_is : (p q : List ℕ) → Some p ≡ Some q → p ≡ q
some_is p q e = cc

pub with_prelude : (ts ls ms : List (List ℕ)) (t : List ℕ) → AllLabels ts → is_label t ≡ true → ((m : List ℕ) → IsIn m ls ↔ IsIn m ts) → ((m : List ℕ) → IsIn m ms ↔ (IsIn m ls ⊎ (m ≡ t))) → AreAsked ts (Some t) ms
with_prelude ts ls ms t all is same more = record {
  are = (all, λ p e. ap is_label (sym (some_is t p e)) ∙ is);
  labels_are = λ l. (
    (λ i. elim ((more l).0 i) [ inl j ↦ inl ((same l).0 j) | inr e ↦ inr (ap (λ x. Some x) (sym e)) ]),
    (λ h. (more l).1 (elim h [ inl i ↦ inl ((same l).1 i) | inr e ↦ inr (sym (some_is t l e)) ])),
  );
}

-- one word more is named
pub named_more : (here : List ℕ) (ws ls : List (List ℕ)) (w l : List ℕ) → AreNamed here ws ls → Names here w (Some l) → AreNamed here (ws ++ w ∷ []) (ls ++ l ∷ [])
named_more here [] [] w l h n = (n, tt)
named_more here (v ∷ vs) (k ∷ ks) w l h n = (h.0, named_more here vs ks w l h.1 n)
named_more here [] (k ∷ ks) w l h n = absurd h
named_more here (v ∷ vs) [] w l h n = absurd h
