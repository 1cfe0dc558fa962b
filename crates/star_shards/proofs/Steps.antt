-- One step of a look over members, and its end.
use Rattle.std.proofs.Common.{◌≡◌, ℕ, suc, ◌+◌, ◌<◌, ◌≤◌, Bool, true, false, cond, ◌&&◌, List, [], ◌∷◌, Option, Some, None, length, get_or, drop, refl, ap, sym, ◌∙◌, arith, zero-add}
use Rattle.std.specs.List.{starts_with}
use Rattle.std.specs.Prelude.{nat_eq}
use Rattle.std.specs.Option.{option_or}
use Rattle.std.proofs.lemmas.List.{at_drop_more, at_drop_all}
use Rattle.star_shards.specs.Places.{after, end_from, ends, front_end, later_from, separates, start}
use Rattle.star_shards.specs.declared.place.Place.{Place}

pub end_step : (p : Place) (i : ℕ) (xs : List ℕ) → i < length xs → ends p (get_or xs i 0) ≡ false → end_from p i (drop i xs) ≡ end_from (after p (get_or xs i 0)) (i + 1) (drop (i + 1) xs)
unfolding end_from
end_step p i xs lt off =
    let next = end_from (after p (get_or xs i 0)) (i + 1) (drop (i + 1) xs) in
    let here : end_from p i (drop i xs) ≡ cond (ends p (get_or xs i 0)) (Some i) next = at_drop_more (end_from p i) xs i 0 lt in
    here ∙ ap (λ t. cond t (Some i) next) off

pub end_here : (p : Place) (i : ℕ) (xs : List ℕ) → i < length xs → ends p (get_or xs i 0) ≡ true → end_from p i (drop i xs) ≡ Some i
unfolding end_from
end_here p i xs lt on =
    let next = end_from (after p (get_or xs i 0)) (i + 1) (drop (i + 1) xs) in
    let here : end_from p i (drop i xs) ≡ cond (ends p (get_or xs i 0)) (Some i) next = at_drop_more (end_from p i) xs i 0 lt in
    here ∙ ap (λ t. cond t (Some i) next) on

pub end_past : (p : Place) (i : ℕ) (xs : List ℕ) → length xs ≤ i → end_from p i (drop i xs) ≡ None
unfolding end_from
end_past p i xs le = at_drop_all (end_from p i) xs i le

later_at : (f : List ℕ) (p : Place) (i : ℕ) (xs : List ℕ) → i < length xs
    → later_from f p i (drop i xs) ≡ cond (ends p (get_or xs i 0)) None (cond (separates p (get_or xs i 0) && starts_with nat_eq (drop (i + 1) xs) f) (Some (i + 1 + length f)) (later_from f (after p (get_or xs i 0)) (i + 1) (drop (i + 1) xs)))
unfolding later_from
later_at f p i xs lt = at_drop_more (later_from f p i) xs i 0 lt

pub later_here : (f : List ℕ) (p : Place) (i : ℕ) (xs : List ℕ) → i < length xs → ends p (get_or xs i 0) ≡ true → later_from f p i (drop i xs) ≡ None
later_here f p i xs lt on =
    later_at f p i xs lt ∙ ap (λ t. cond t None (cond (separates p (get_or xs i 0) && starts_with nat_eq (drop (i + 1) xs) f) (Some (i + 1 + length f)) (later_from f (after p (get_or xs i 0)) (i + 1) (drop (i + 1) xs)))) on

pub later_step : (f : List ℕ) (p : Place) (i : ℕ) (xs : List ℕ) → i < length xs → ends p (get_or xs i 0) ≡ false → separates p (get_or xs i 0) ≡ false
    → later_from f p i (drop i xs) ≡ later_from f (after p (get_or xs i 0)) (i + 1) (drop (i + 1) xs)
later_step f p i xs lt off other =
    let next = later_from f (after p (get_or xs i 0)) (i + 1) (drop (i + 1) xs) in
    let starts = starts_with nat_eq (drop (i + 1) xs) f in
    later_at f p i xs lt
    ∙ ap (λ t. cond t None (cond (separates p (get_or xs i 0) && starts) (Some (i + 1 + length f)) next)) off
    ∙ ap (λ t. cond (t && starts) (Some (i + 1 + length f)) next) other

pub later_comma : (f : List ℕ) (p : Place) (i : ℕ) (xs : List ℕ) → i < length xs → ends p (get_or xs i 0) ≡ false → separates p (get_or xs i 0) ≡ true
    → later_from f p i (drop i xs) ≡ cond (starts_with nat_eq (drop (i + 1) xs) f) (Some (i + 1 + length f)) (later_from f (after p (get_or xs i 0)) (i + 1) (drop (i + 1) xs))
later_comma f p i xs lt off comma =
    let next = later_from f (after p (get_or xs i 0)) (i + 1) (drop (i + 1) xs) in
    let starts = starts_with nat_eq (drop (i + 1) xs) f in
    later_at f p i xs lt
    ∙ ap (λ t. cond t None (cond (separates p (get_or xs i 0) && starts) (Some (i + 1 + length f)) next)) off
    ∙ ap (λ t. cond (t && starts) (Some (i + 1 + length f)) next) comma

pub or_none : (o : Option ℕ) → option_or o None ≡ o
or_none None = refl
or_none (Some n) = refl

pub or_later : (o : Option ℕ) (s : Bool) (n : ℕ) (r : Option ℕ) → option_or (option_or o (cond s (Some n) None)) r ≡ option_or o (cond s (Some n) r)
or_later None true n r = refl
or_later None false n r = refl
or_later (Some m) s n r = refl

-- ---- the invariant of the look

pub end_kept : (p q : Place) (i : ℕ) (xs : List ℕ) (whole : Option ℕ) → i < length xs → ends p (get_or xs i 0) ≡ false → q ≡ after p (get_or xs i 0)
    → end_from p i (drop i xs) ≡ whole → end_from q (i + 1) (drop (i + 1) xs) ≡ whole
end_kept p q i xs whole lt off is e = ap (λ t. end_from t (i + 1) (drop (i + 1) xs)) is ∙ sym (end_step p i xs lt off) ∙ e

pub key_kept : (f : List ℕ) (p q : Place) (i : ℕ) (xs : List ℕ) (old new whole : Option ℕ) → i < length xs → ends p (get_or xs i 0) ≡ false
    → separates p (get_or xs i 0) ≡ false → q ≡ after p (get_or xs i 0) → new ≡ old
    → option_or old (later_from f p i (drop i xs)) ≡ whole → option_or new (later_from f q (i + 1) (drop (i + 1) xs)) ≡ whole
key_kept f p q i xs old new whole lt off other is same e =
    ap (λ o. option_or o (later_from f q (i + 1) (drop (i + 1) xs))) same
    ∙ ap (λ t. option_or old (later_from f t (i + 1) (drop (i + 1) xs))) is
    ∙ ap (option_or old) (sym (later_step f p i xs lt off other)) ∙ e

pub key_noted : (f : List ℕ) (p q : Place) (i : ℕ) (xs : List ℕ) (old new whole : Option ℕ) → i < length xs → ends p (get_or xs i 0) ≡ false
    → separates p (get_or xs i 0) ≡ true → q ≡ after p (get_or xs i 0)
    → new ≡ option_or old (cond (starts_with nat_eq (drop (i + 1) xs) f) (Some (i + 1 + length f)) None)
    → option_or old (later_from f p i (drop i xs)) ≡ whole → option_or new (later_from f q (i + 1) (drop (i + 1) xs)) ≡ whole
key_noted f p q i xs old new whole lt off comma is noted e =
    let starts = starts_with nat_eq (drop (i + 1) xs) f in
    ap (λ o. option_or o (later_from f q (i + 1) (drop (i + 1) xs))) noted
    ∙ ap (λ t. option_or (option_or old (cond starts (Some (i + 1 + length f)) None)) (later_from f t (i + 1) (drop (i + 1) xs))) is
    ∙ or_later old starts (i + 1 + length f) (later_from f (after p (get_or xs i 0)) (i + 1) (drop (i + 1) xs))
    ∙ ap (option_or old) (sym (later_comma f p i xs lt off comma)) ∙ e

pub key_found : (f : List ℕ) (p : Place) (i : ℕ) (xs : List ℕ) (old whole : Option ℕ) → i < length xs → ends p (get_or xs i 0) ≡ true
    → option_or old (later_from f p i (drop i xs)) ≡ whole → old ≡ whole
key_found f p i xs old whole lt on e = sym (or_none old) ∙ ap (option_or old) (sym (later_here f p i xs lt on)) ∙ e
