-- A row of entries, one entry after the other.
use Rattle.std.proofs.Common.{◌≡◌, ℕ, Bool, true, false, List, [], ◌∷◌, ◌++◌, length, refl, ap, sym, ◌∙◌, subst, arith}
use Rattle.std.specs.Prelude.{All, codes}
use Rattle.std.proofs.lemmas.List.{append_assoc, append-nil, append_cancel_left}
use Rattle.std.proofs.lemmas.List.Elements.{All-cons, All-head, All-nil, All-tail}
use Rattle.star_shards.specs.Entries.{IsEntry}
use Rattle.star_shards.specs.Lines.{listed, more}
use Rattle.star_shards.specs.Read.{IsRow}
use Rattle.star_shards.proofs.Entries.{one_entry}

-- the entries so far, and a rest that begins with an entry, make up a row
pub record Goes (content : List ℕ) (ts : List (List ℕ)) (rest : List ℕ) : Type 0 where
  pub onward : (u : List ℕ) (us : List (List ℕ)) → IsRow rest (u ∷ us) → IsRow content (ts ++ u ∷ us)
  pub back : (us : List (List ℕ)) → IsRow content us → (v : List ℕ) × (vs : List (List ℕ)) × (us ≡ ts ++ v ∷ vs) × IsRow rest (v ∷ vs)

-- the row without entries
pub empty_row : (content : List ℕ) → content ≡ codes "]}" → IsRow content []
unfolding listed
empty_row content e = record { each = All-nil IsEntry; content_is = e }

pub first_goes : (content : List ℕ) → (content ≡ codes "]}" → ⊥) → Goes content [] content
unfolding listed
first_goes content other = record { onward = λ u us row. row; back = begins }
  where
    begins : (us : List (List ℕ)) → IsRow content us → (v : List ℕ) × (vs : List (List ℕ)) × (us ≡ [] ++ v ∷ vs) × IsRow content (v ∷ vs)
    begins [] row = absurd (other row.content_is)
    begins (v ∷ vs) row = (v, vs, refl, row)

row_splits : (rest v : List ℕ) (vs : List (List ℕ)) → IsRow rest (v ∷ vs) → rest ≡ v ++ (more vs ++ codes "]}")
unfolding listed
row_splits rest v vs row = row.content_is ∙ append_assoc v (more vs) (codes "]}")

-- no entry stands at the front of the rest
pub no_row : (content rest : List ℕ) (ts us : List (List ℕ)) → Goes content ts rest → ((t after : List ℕ) → IsEntry t → rest ≡ t ++ after → ⊥) → IsRow content us → ⊥
no_row content rest ts us goes none row =
    let found = goes.back us row in
    none found.0 (more found.1 ++ codes "]}") (All-head IsEntry found.0 found.1 found.3.each) (row_splits rest found.0 found.1 found.3)

-- an entry stands there, and this comes after it
record Splits (rest e after v : List ℕ) (vs : List (List ℕ)) : Type 0 where
  same : v ≡ e
  others : more vs ++ codes "]}" ≡ after

splits : (rest e after v : List ℕ) (vs : List (List ℕ)) → IsEntry e → rest ≡ e ++ after → IsRow rest (v ∷ vs) → Splits rest e after v vs
splits rest e after v vs entry front row =
    let cut = row_splits rest v vs row in
    let is : v ≡ e = one_entry v e (more vs ++ codes "]}") after (All-head IsEntry v vs row.each) entry (sym cut ∙ front) in
    record { same = is; others = append_cancel_left e (more vs ++ codes "]}") after (ap (λ w. w ++ (more vs ++ codes "]}")) (sym is) ∙ sym cut ∙ front) }

ends_there : (vs : List (List ℕ)) (after : List ℕ) → more vs ++ codes "]}" ≡ after → (after ≡ codes "]}" → ⊥) → ((x : List ℕ) → after ≡ 44 ∷ x → ⊥) → ⊥
unfolding more
ends_there [] after e end comma = end (sym e)
ends_there (w ∷ ws) after e end comma = comma ((w ++ more ws) ++ codes "]}") (sym e)

-- neither a comma nor the end comes after the entry
pub no_more : (content rest e after : List ℕ) (ts us : List (List ℕ)) → Goes content ts rest → IsEntry e → rest ≡ e ++ after → (after ≡ codes "]}" → ⊥)
    → ((x : List ℕ) → after ≡ 44 ∷ x → ⊥) → IsRow content us → ⊥
no_more content rest e after ts us goes entry front end comma row =
    let found = goes.back us row in
    ends_there found.1 after (splits rest e after found.0 found.1 entry front found.3).others end comma

-- the end comes after it
pub last_entry : (content rest e after : List ℕ) (ts : List (List ℕ)) → Goes content ts rest → IsEntry e → rest ≡ e ++ after → after ≡ codes "]}" → IsRow content (ts ++ e ∷ [])
unfolding listed more
last_entry content rest e after ts goes entry front end =
    goes.onward e [] (record { each = All-cons IsEntry e [] entry (All-nil IsEntry); content_is = front ∙ ap (λ w. e ++ w) end ∙ ap (λ w. w ++ codes "]}") (sym (append-nil e)) })

row_more : (rest e next u : List ℕ) (us : List (List ℕ)) → IsEntry e → rest ≡ e ++ 44 ∷ next → IsRow next (u ∷ us) → IsRow rest (e ∷ u ∷ us)
unfolding listed more
row_more rest e next u us entry front row = record {
  each = All-cons IsEntry e (u ∷ us) entry row.each;
  content_is = front ∙ ap (λ w. e ++ 44 ∷ w) row.content_is ∙ sym (append_assoc e (44 ∷ (u ++ more us)) (codes "]}"));
}

pushed : (ts us : List (List ℕ)) (e u : List ℕ) → ts ++ e ∷ u ∷ us ≡ (ts ++ e ∷ []) ++ u ∷ us
pushed ts us e u = sym (append_assoc ts (e ∷ []) (u ∷ us))

tail_is : (x y : ℕ) (xs ys : List ℕ) → (x ∷ xs) ≡ (y ∷ ys) → xs ≡ ys
tail_is x y xs ys h = cc

bracket_comma : (x : List ℕ) → codes "]}" ≡ 44 ∷ x → ⊥
bracket_comma x h = let bytes : ◌≡◌ {A = List ℕ} (93 ∷ 125 ∷ []) (44 ∷ x) = h in let e : ◌≡◌ {A = ℕ} 93 44 = cc in absurd (omega (arith, e))

row_after : (next : List ℕ) (vs : List (List ℕ)) → All IsEntry vs → more vs ++ codes "]}" ≡ 44 ∷ next → (w : List ℕ) × (ws : List (List ℕ)) × (vs ≡ w ∷ ws) × IsRow next (w ∷ ws)
unfolding listed more
row_after next [] each e = absurd (bracket_comma next e)
row_after next (w ∷ ws) each e = (w, ws, refl, record { each = each; content_is = tail_is 44 44 next ((w ++ more ws) ++ codes "]}") (sym e) })

-- a comma comes after it
pub one_goes : (content rest e after next : List ℕ) (ts : List (List ℕ)) → Goes content ts rest → IsEntry e → rest ≡ e ++ after → after ≡ 44 ∷ next → Goes content (ts ++ e ∷ []) next
one_goes content rest e after next ts goes entry front comma = record {
  onward = λ u us row. subst (IsRow content) (pushed ts us e u) (goes.onward e (u ∷ us) (row_more rest e next u us entry (front ∙ ap (λ w. e ++ w) comma) row));
  back = λ us row.
      let found = goes.back us row in
      let cut = splits rest e after found.0 found.1 entry front found.3 in
      let later = row_after next found.1 (All-tail IsEntry found.0 found.1 found.3.each) (cut.others ∙ comma) in
      (later.0, later.1, found.2 ∙ ap (λ w. ts ++ w ∷ found.1) cut.same ∙ ap (λ ws. ts ++ e ∷ ws) later.2 ∙ pushed ts later.1 e later.0, later.3);
}

-- ---- a text is at most one row

one_more : (ts us : List (List ℕ)) → All IsEntry ts → All IsEntry us → more ts ++ codes "]}" ≡ more us ++ codes "]}" → ts ≡ us
unfolding more
one_more [] [] each others e = refl
one_more [] (u ∷ us) each others e = absurd (bracket_comma ((u ++ more us) ++ codes "]}") e)
one_more (t ∷ ts) [] each others e = absurd (bracket_comma ((t ++ more ts) ++ codes "]}") (sym e))
one_more (t ∷ ts) (u ∷ us) each others e =
    let cut : t ++ (more ts ++ codes "]}") ≡ u ++ (more us ++ codes "]}") =
    sym (append_assoc t (more ts) (codes "]}")) ∙ tail_is 44 44 ((t ++ more ts) ++ codes "]}") ((u ++ more us) ++ codes "]}") e ∙ append_assoc u (more us) (codes "]}") in
    let same : t ≡ u = one_entry t u (more ts ++ codes "]}") (more us ++ codes "]}") (All-head IsEntry t ts each) (All-head IsEntry u us others) cut in
    let later = append_cancel_left u (more ts ++ codes "]}") (more us ++ codes "]}") (ap (λ w. w ++ (more ts ++ codes "]}")) (sym same) ∙ cut) in
    ap (λ w. w ∷ ts) same ∙ ap (λ ws. u ∷ ws) (one_more ts us (All-tail IsEntry t ts each) (All-tail IsEntry u us others) later)

brace_bracket : (t x : List ℕ) → IsEntry t → codes "]}" ≡ t ++ x → ⊥
brace_bracket t x entry h =
    let first : codes "]}" ≡ 123 ∷ ((entry.object.inside ++ 125 ∷ []) ++ x) = h ∙ ap (λ w. w ++ x) entry.object.text_is in
    let bytes : ◌≡◌ {A = List ℕ} (93 ∷ 125 ∷ []) (123 ∷ ((entry.object.inside ++ 125 ∷ []) ++ x)) = first in
    let e : ◌≡◌ {A = ℕ} 93 123 = cc in
    absurd (omega (arith, e))

pub one_row : (content : List ℕ) (ts us : List (List ℕ)) → IsRow content ts → IsRow content us → ts ≡ us
unfolding listed more
one_row content [] [] row other = refl
one_row content [] (u ∷ us) row other = absurd (brace_bracket u (more us ++ codes "]}") (All-head IsEntry u us other.each) (sym row.content_is ∙ row_splits content u us other))
one_row content (t ∷ ts) [] row other = absurd (brace_bracket t (more ts ++ codes "]}") (All-head IsEntry t ts row.each) (sym other.content_is ∙ row_splits content t ts row))
one_row content (t ∷ ts) (u ∷ us) row other =
    let comma : ◌≡◌ {A = List ℕ} (44 ∷ ((t ++ more ts) ++ codes "]}")) (44 ∷ ((u ++ more us) ++ codes "]}")) = ap (λ w. 44 ∷ w) (sym row.content_is ∙ other.content_is) in
    one_more (t ∷ ts) (u ∷ us) row.each other.each comma
