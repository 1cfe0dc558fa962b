-- The members of an object, one after another.
use Rattle.std.proofs.Common.{◌≡◌, ℕ, List, [], ◌∷◌, ◌++◌, Option, Some, None, refl, ap, sym, append_assoc, length, ◌<◌, true, false, arith}
use Rattle.std.specs.Prelude.{option_map}
use Rattle.std.proofs.lemmas.List.{append-nil}
use Rattle.serde_json.specs.Find.{as_str}
use Rattle.serde_json.specs.Data.{Data, Members, member, no_members}
use Rattle.star_label.specs.Files.{File}
use Rattle.star_bundle.specs.Bundle.{texts_of}

onto : (front : List File) (f : File) (o : Option (List File)) → option_map (λ fs. front ++ fs) (option_map (λ fs. f ∷ fs) o) ≡ option_map (λ fs. (front ++ f ∷ []) ++ fs) o
onto front f None = refl
onto front f (Some fs) = ap Some (sym (append_assoc front (f ∷ []) fs))

-- a text, and the members after it
pub texts_next : (front : List File) (k t : List ℕ) (d : Data) (ms : Members) → as_str d ≡ Some t
    → option_map (λ fs. front ++ fs) (texts_of (member k d ms)) ≡ option_map (λ fs. (front ++ (k, t) ∷ []) ++ fs) (texts_of ms)
unfolding texts_of
texts_next front k t d ms h = rw h (onto front (k, t) (texts_of ms))

-- a member that is not a text
pub texts_stop : (k : List ℕ) (d : Data) (ms : Members) → as_str d ≡ None → texts_of (member k d ms) ≡ None
unfolding texts_of
texts_stop k d ms h = rw h refl

pub nothing_left : {A : Type 0} (es : List A) → (0 < length es → false ≡ true) → es ≡ []
nothing_left [] h = refl
nothing_left (e ∷ es) h = let wrong : false ≡ true = h (omega arith) in cc

-- all members were texts
pub texts_done : (front : List File) → option_map (λ fs. front ++ fs) (texts_of no_members) ≡ Some front
unfolding texts_of
texts_done front = ap Some (append-nil front)
