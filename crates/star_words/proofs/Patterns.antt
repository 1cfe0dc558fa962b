-- The patterns among lines.
use Rattle.std.proofs.Common.{◌≡◌, ◌<◌, ◌+◌, inl, inr, ℕ, List, [], ◌∷◌, ◌++◌, Bor, String, Global, get_or, length, map, refl, string_bytes, take, true, false, ap, subst, sym, ◌∙◌}
use Rattle.std.specs.List.{filter}
use Rattle.std.specs.Str.{trim}
use Rattle.std.proofs.lemmas.List.{map-append, take_more}
use Rattle.std.proofs.lemmas.List.Elements.{filter-append}
use Rattle.star_words.specs.Excluded.{is_pattern}
use Rattle.star_words.specs.Named.{texts_of}
use Rattle.star_words.specs.Rows.{IsIn}
use Rattle.star_words.proofs.Members.{in_either, texts_more}

abbrev pub texts : List (Bor (List ℕ)) → List (List ℕ)
texts ls = map (λ l. l.now) ls

abbrev pub kept : List (Bor (List ℕ)) → List (List ℕ)
kept ls = filter is_pattern (map trim (texts ls))

kept_more : (ls : List (Bor (List ℕ))) (x : Bor (List ℕ)) → kept (ls ++ x ∷ []) ≡ kept ls ++ filter is_pattern (trim x.now ∷ [])
kept_more ls x =
    ap (λ ts. filter is_pattern (map trim ts)) (map-append (λ l. l.now) ls (x ∷ [])) ∙ ap (filter is_pattern) (map-append trim (texts ls) (x.now ∷ []))
    ∙ filter-append is_pattern (map trim (texts ls)) (trim x.now ∷ [])

pub kept_next : (ls : List (Bor (List ℕ))) (i : ℕ) (x : Bor (List ℕ)) → i < length ls → x ≡ get_or ls i x → kept (take (i + 1) ls) ≡ kept (take i ls) ++ filter is_pattern (trim x.now ∷ [])
kept_next ls i x low is = ap kept (take_more ls i x low ∙ ap (λ y. take i ls ++ y ∷ []) (sym is)) ∙ kept_more (take i ls) x

pub one_kept : (t : List ℕ) → is_pattern t ≡ true → filter is_pattern (t ∷ []) ≡ t ∷ []
one_kept t e = rw e refl

pub none_kept : (t : List ℕ) → is_pattern t ≡ false → filter is_pattern (t ∷ []) ≡ []
none_kept t e = rw e refl

-- ---- one of them

abbrev One : (List ℕ → Type 0) → List (List ℕ) → Type 0
One P ts = (t : List ℕ) × IsIn t ts × P t

-- none of the first texts is so, and the next one is not
pub none_more : (P : List ℕ → Type 0) (ps : List (String Global)) (i : ℕ) (p : String Global) → i < length ps → p ≡ get_or ps i p → (One P (texts_of (take i ps)) → ⊥) → (P (string_bytes p) → ⊥) → One P (texts_of (take (i + 1) ps)) → ⊥
none_more P ps i p low is none not (t, there, holds) =
    elim (in_either t (texts_of (take i ps)) (string_bytes p ∷ []) (subst (IsIn t) (texts_more ps i p low is) there)) [
      | inl j ↦ none (t, j, holds)
      | inr j ↦ elim j [ inl e ↦ not (subst P (sym e) holds) | inr k ↦ k ]
    ]

-- ---- the last byte

no_last : (xs : List ℕ) (x : ℕ) → [] ≡ xs ++ x ∷ [] → ⊥
no_last [] x e = cc
no_last (y ∷ xs) x e = cc

tail_is : (x y : ℕ) (xs ys : List ℕ) → x ∷ xs ≡ y ∷ ys → xs ≡ ys
tail_is x y xs ys e = cc

pub same_last : (xs ys : List ℕ) (x y : ℕ) → xs ++ x ∷ [] ≡ ys ++ y ∷ [] → (xs ≡ ys) × (x ≡ y)
same_last [] [] x y e = (refl, cc)
same_last [] (b ∷ ys) x y e = absurd (no_last ys y (tail_is x b [] (ys ++ y ∷ []) e))
same_last (a ∷ xs) [] x y e = absurd (no_last xs x (sym (tail_is a y (xs ++ x ∷ []) [] e)))
same_last (a ∷ xs) (b ∷ ys) x y e =
    let more = same_last xs ys x y (tail_is a b (xs ++ x ∷ []) (ys ++ y ∷ []) e) in
    let first : a ≡ b = cc in
    ((let all : a ∷ xs ≡ b ∷ ys = cc in all), more.1)
