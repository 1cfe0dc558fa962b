-- The numbers that digits write, as places among values.
use Rattle.std.proofs.Common.{◌≡◌, ℕ, ◌+◌, ◌-◌, ◌*◌, ◌≤◌, ◌<◌, List, [], ◌∷◌, None, length, drop, get_or, slice_get, add-one, refl, sym, ap, ◌∙◌, arith}
use Rattle.std.proofs.Math.Seq.{drop-cons}
use Rattle.std.proofs.lemmas.List.{drop_all}
use Rattle.std.proofs.lemmas.Option.{slice_get_past}
use Rattle.star_store.specs.declared.values.Value.{Value}
use Rattle.star_meaning.specs.Spelling.{number_from}

-- more digits make no smaller number
number_grows : (n : ℕ) (bs : List ℕ) → n ≤ number_from n bs
number_grows n [] = omega arith
number_grows n (b ∷ bs) = let h = number_grows (n * 10 + (b - 48)) bs in omega arith

number_next : (n i : ℕ) (bs : List ℕ) → i < length bs → number_from n (drop i bs) ≡ number_from (n * 10 + (get_or bs i 0 - 48)) (drop (i + 1) bs)
number_next n i bs h = rw (add-one, drop-cons bs i 0) refl

-- a place that is beyond all values stays so
pub place_beyond : (xs : List Value) (n i : ℕ) (bs : List ℕ) → i < length bs → number_from n (drop i bs) ≡ number_from 0 bs → length xs ≤ n * 10 + (get_or bs i 0 - 48) → None ≡ slice_get xs (number_from 0 bs)
place_beyond xs n i bs h e k =
    let g = number_grows (n * 10 + (get_or bs i 0 - 48)) (drop (i + 1) bs) in
    let m = sym e ∙ number_next n i bs h in
    sym (slice_get_past xs (number_from 0 bs) (rw m (omega arith)))

-- after the last digit
pub place_whole : (n i : ℕ) (bs : List ℕ) → length bs ≤ i → number_from n (drop i bs) ≡ number_from 0 bs → n ≡ number_from 0 bs
place_whole n i bs h e = ap (number_from n) (sym (drop_all i bs h)) ∙ e
