-- Strings with another one between them.
use Rattle.std.proofs.Common.{◌≡◌, ℕ, List, [], ◌∷◌, ◌++◌, ap, sym, ◌∙◌, append_assoc, append-nil}
use Rattle.star_meaning.specs.Texts.{joined}
use Rattle.star_method.specs.Ends.{each_after}

pub joined_is : (by u : List ℕ) (us : List (List ℕ)) → joined by (u ∷ us) ≡ u ++ each_after by us
joined_is by u [] = sym (append-nil u)
joined_is by u (v ∷ us) = ap (λ z. u ++ by ++ z) (joined_is by v us) ∙ append_assoc u by (v ++ each_after by us) ∙ ap (λ z. u ++ z) (sym (append_assoc by v (each_after by us)))
