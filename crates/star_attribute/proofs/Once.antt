-- Names that are put at their places in byte order, one after the other.
use Rattle.std.proofs.Common.{arith, ◌≡◌, ◌<◌, ◌-◌, ◌+◌, ℕ, zero, suc, List, [], ◌∷◌, ◌++◌, length, drop, get_or, Some, refl, ap, sym, ◌∙◌}
use denote.Ref.{Bor}
use Rattle.std.specs.Prelude.{slice_get}
use Rattle.std.specs.List.{insert}
use Rattle.std.specs.declared.cmp.Ordering.{Ordering}
use Rattle.std.specs.declared.cmp.Ordering.TheVariants.{Less, Equal, Greater}
use Rattle.std.specs.Ordering.{nat_cmp}
use Rattle.std.specs.Cmp.Lexicographic.{slice_cmp}
use Rattle.std.proofs.lemmas.List.{drop_more}
use Rattle.star_meaning.specs.Attributes.{beside, names_once, put_name}
use Rattle.star_attribute.specs.Attributes.{shown_names}

-- the name comes after the first i names
abbrev pub After : List ℕ → List (Bor (List ℕ)) → ℕ → Type 0
After k es zero = Unit {0}
After k [] (suc i) = ⊥
After k (e ∷ es) (suc i) = (slice_cmp nat_cmp k e.now ≡ Greater) × After k es i

module _ (k : Bor (List ℕ)) where
  turned : (e : Bor (List ℕ)) (es : List (Bor (List ℕ))) (o : Ordering) → slice_cmp nat_cmp k.now e.now ≡ o → put_name k.now (shown_names (e ∷ es)) ≡ beside o k.now e.now (shown_names es) (put_name k.now (shown_names es))
  turned e es o is = ap (λ r. beside r k.now e.now (shown_names es) (put_name k.now (shown_names es))) is

  pub after_more : (es : List (Bor (List ℕ))) (i : ℕ) (x : Bor (List ℕ)) → After k.now es i → slice_get es i ≡ Some x → slice_cmp nat_cmp k.now x.now ≡ Greater → After k.now es (suc i)
  after_more [] i x was at is = absurd (let no : ⊥ = cc in no)
  after_more (e ∷ es) zero x was at is = (let same : e ≡ x = cc in ap (λ (z : Bor (List ℕ)). slice_cmp nat_cmp k.now z.now) same ∙ is, tt)
  after_more (e ∷ es) (suc i) x was at is = (was.0, after_more es i x was.1 at is)

  pub put_before : (es : List (Bor (List ℕ))) (i : ℕ) (x : Bor (List ℕ)) → After k.now es i → slice_get es i ≡ Some x → slice_cmp nat_cmp k.now x.now ≡ Less → shown_names (insert es i k) ≡ put_name k.now (shown_names es)
  put_before [] i x was at is = absurd (let no : ⊥ = cc in no)
  put_before (e ∷ es) zero x was at is = sym (turned e es Less (let same : e ≡ x = cc in ap (λ (z : Bor (List ℕ)). slice_cmp nat_cmp k.now z.now) same ∙ is))
  put_before (e ∷ es) (suc i) x was at is = ap (λ ns. e.now ∷ ns) (put_before es i x was.1 at is) ∙ sym (turned e es Greater was.0)

  pub put_there : (es : List (Bor (List ℕ))) (i : ℕ) (x : Bor (List ℕ)) → After k.now es i → slice_get es i ≡ Some x → slice_cmp nat_cmp k.now x.now ≡ Equal → shown_names es ≡ put_name k.now (shown_names es)
  put_there [] i x was at is = absurd (let no : ⊥ = cc in no)
  put_there (e ∷ es) zero x was at is = sym (turned e es Equal (let same : e ≡ x = cc in ap (λ (z : Bor (List ℕ)). slice_cmp nat_cmp k.now z.now) same ∙ is))
  put_there (e ∷ es) (suc i) x was at is = ap (λ ns. e.now ∷ ns) (put_there es i x was.1 at is) ∙ sym (turned e es Greater was.0)

  pub put_last : (es : List (Bor (List ℕ))) (i : ℕ) → After k.now es i → i ≡ length es → shown_names (es ++ k ∷ []) ≡ put_name k.now (shown_names es)
  put_last [] i was e = refl
  put_last (x ∷ es) zero was e = absurd (let no : ⊥ = omega arith in no)
  put_last (x ∷ es) (suc i) was e = ap (λ ns. x.now ∷ ns) (put_last es i was.1 (omega arith)) ∙ sym (turned x es Greater was.0)

abbrev pub no_name : Bor (List ℕ)
no_name = record { ref_ptr = (0, 0); now = [] }

pub one_back : (ns : List (Bor (List ℕ))) (i : ℕ) → 0 < i → i - 1 < length ns → names_once (shown_names (drop (i - 1) ns)) ≡ put_name (get_or ns (i - 1) no_name).now (names_once (shown_names (drop i ns)))
one_back ns i some less =
    ap (λ es. names_once (shown_names es)) (drop_more ns (i - 1) no_name less)
    ∙ ap (λ j. put_name (get_or ns (i - 1) no_name).now (names_once (shown_names (drop j ns)))) (let e : i - 1 + 1 ≡ i = omega (arith, some) in e)

pub at_place : {A : Type 0} (xs : List A) (i : ℕ) (d : A) → i < length xs → slice_get xs i ≡ Some (get_or xs i d)
at_place [] i d less = absurd (let no : ⊥ = omega arith in no)
at_place (x ∷ xs) zero d less = refl
at_place (x ∷ xs) (suc i) d less = at_place xs i d (omega arith)
