-- Strings, cut at a byte.
use Rattle.std.proofs.Common.{◌≡◌, ℕ, ◌+◌, ◌<◌, List, ◌∷◌, ◌++◌, length, take, drop, get_or, Bool, true, false, ◌&&◌, add-one, refl, ap, sym, ◌∙◌}
use Rattle.std.specs.List.{list_all}
use Rattle.std.proofs.Math.Seq.{drop-cons}
use Rattle.std.proofs.lemmas.List.{take-append-drop}
use Rattle.std.proofs.lemmas.List.Folds.{list_all_more}
use Rattle.star_machine.specs.Cuts.{is_neither}

pub cut_whole : (t : List ℕ) (at : ℕ) → at < length t → t ≡ take at t ++ get_or t at 0 ∷ drop (at + 1) t
cut_whole t at h = rw add-one (sym (take-append-drop at t) ∙ ap (λ u. take at t ++ u) (drop-cons t at 0 h))

and_true : (p q : Bool) → p ≡ true → q ≡ true → (p && q) ≡ true
and_true true true h k = refl
and_true true false h k = k
and_true false q h k = h

pub all_more : (a b : ℕ) (t : List ℕ) (at : ℕ) → at < length t → list_all (is_neither a b) (take at t) ≡ true → is_neither a b (get_or t at 0) ≡ true → list_all (is_neither a b) (take (at + 1) t) ≡ true
all_more a b t at h k j = list_all_more (is_neither a b) t at 0 h ∙ and_true (list_all (is_neither a b) (take at t)) (is_neither a b (get_or t at 0)) k j
