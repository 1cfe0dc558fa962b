-- The text of the file at a label, by its number.
use Rattle.std.proofs.Common.{◌≡◌, ◌<◌, ℕ, zero, suc, List, [], ◌∷◌, Bool, true, false, Option, Some, None, length, take, refl, ap, ◌∙◌, arith}
use Rattle.std.specs.Str.{bytes_eq}
use Rattle.std.proofs.lemmas.Slice.Eq.{bytes_eq-Decides}
use Rattle.star_label.specs.Files.{File, label_at, text_at}
use Rattle.star_repo.specs.Held.{Said, TellsFront}
use Rattle.star_session.specs.Changes.{Change}
use Rattle.star_session.specs.Folders.{known_at, text_named, told}

-- the label is the label of the first file, or it is not
here : (f : File) (fs : List File) (l : List ℕ) → f.0 ≡ l → text_named l (f ∷ fs) ≡ Some f.1
here f fs l e = let same : bytes_eq f.0 l ≡ true = (bytes_eq-Decides f.0 l).1 e in rw same refl

onward : (f : File) (fs : List File) (l : List ℕ) → (f.0 ≡ l → ⊥) → text_named l (f ∷ fs) ≡ text_named l fs
onward f fs l differs = by (bytes_eq f.0 l) refl
  where
    by : (b : Bool) → bytes_eq f.0 l ≡ b → text_named l (f ∷ fs) ≡ text_named l fs
    by true e = absurd (differs ((bytes_eq-Decides f.0 l).0 e))
    by false e = rw e refl

one_less : (m n : ℕ) → suc m ≡ suc n → m ≡ n
one_less m n e = omega (arith, e)

none_less : (n : ℕ) → zero ≡ suc n → ⊥
none_less n e = omega (arith, e)

pub named_at : (files : List File) (l : List ℕ) (n : ℕ) → n < length files → label_at files n ≡ l → ((m : ℕ) → m < length files → label_at files m ≡ l → m ≡ n) → text_named l files ≡ Some (text_at files n)
named_at [] l n low is each = absurd (omega (arith, low))
named_at (f ∷ fs) l zero low is each = here f fs l is
named_at (f ∷ fs) l (suc n) low is each =
    onward f fs l (λ e. none_less n (each zero (omega arith) e))
    ∙ named_at fs l n (omega (arith, low)) is (λ m small e. one_less m n (each (suc m) (omega (arith, small)) e))

pub named_not : (files : List File) (l : List ℕ) → ((m : ℕ) → m < length files → label_at files m ≡ l → ⊥) → text_named l files ≡ None
named_not [] l without = refl
named_not (f ∷ fs) l without =
    onward f fs l (λ e. without zero (omega arith) e)
    ∙ named_not fs l (λ m small e. without (suc m) (omega (arith, small)) e)

pub only_there : (o : Option ℕ) (n m : ℕ) → o ≡ Some n → o ≡ Some m → m ≡ n
only_there o n m e f = cc

pub not_there : (o : Option ℕ) (m : ℕ) → o ≡ None → o ≡ Some m → ⊥
not_there o m e f = cc

-- the text of a file that is known and has not changed is the known one, and another file is as the folder tells it
pub told_known : (said : Said) (known : List File) (changes : List Change) (l t front : List ℕ) → known_at known changes l ≡ Some t → front ≡ take 1048577 t → TellsFront (told said known changes l) (Some front)
told_known said known changes l t front h e = rw h (ap Some e)

pub told_new : (said : Said) (known : List File) (changes : List Change) (l : List ℕ) (found : Option (List ℕ)) → known_at known changes l ≡ None → TellsFront (said l) found → TellsFront (told said known changes l) found
told_new said known changes l found h e = rw h e
