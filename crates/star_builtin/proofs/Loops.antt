-- Loops over lists go on item by item.
use Rattle.std.proofs.Common.{◌≡◌, ℕ, ◌+◌, ◌<◌, List, [], ◌∷◌, ◌++◌, length, drop, get_or, min, add-one, refl, ap, sym, ◌∙◌, append_assoc, arith}
use Rattle.std.proofs.Math.Seq.{drop-cons}
use Rattle.star_meaning.specs.BuiltIns.{least}
use Rattle.star_meaning.specs.Texts.{joined}

least_two : (m n : ℕ) (ns : List ℕ) → least (min m n ∷ ns) ≡ least (m ∷ n ∷ ns)
least_two m n [] = refl
least_two m n (k ∷ ks) = let l = least (k ∷ ks) in let e : min (min m n) l ≡ min m (min n l) = omega arith in e

pub least_next : (m i : ℕ) (ns : List ℕ) → i < length ns → least (min m (get_or ns i 0) ∷ drop (i + 1) ns) ≡ least (m ∷ drop i ns)
least_next m i ns h = least_two m (get_or ns i 0) (drop (i + 1) ns) ∙ sym (rw (add-one, drop-cons ns i 0) refl)

joined_two : (by t u : List ℕ) (ts : List (List ℕ)) → joined by (((t ++ by) ++ u) ∷ ts) ≡ joined by (t ∷ u ∷ ts)
joined_two by t u [] = refl
joined_two by t u (v ∷ vs) = ap (λ xs. xs ++ joined by (v ∷ vs)) (append_assoc (t ++ by) u by) ∙ append_assoc (t ++ by) (u ++ by) (joined by (v ∷ vs))

pub joined_next : (by t : List ℕ) (i : ℕ) (d : List ℕ) (ts : List (List ℕ)) → i < length ts → joined by (((t ++ by) ++ get_or ts i d) ∷ drop (i + 1) ts) ≡ joined by (t ∷ drop i ts)
joined_next by t i d ts h = joined_two by t (get_or ts i d) (drop (i + 1) ts) ∙ sym (rw (add-one, drop-cons ts i d) refl)

pub joined_end : (by t y : List ℕ) (ys : List (List ℕ)) → joined by (t ∷ (ys ++ (y ∷ []))) ≡ (joined by (t ∷ ys) ++ by) ++ y
joined_end by t y [] = refl
joined_end by t y (u ∷ us) = ap (λ z. (t ++ by) ++ z) (joined_end by u y us) ∙ sym (append_assoc (t ++ by) (joined by (u ∷ us) ++ by) y) ∙ ap (λ z. z ++ y) (sym (append_assoc (t ++ by) (joined by (u ∷ us)) by))
