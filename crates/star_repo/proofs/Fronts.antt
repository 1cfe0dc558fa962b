-- What is told of the file of a label, by the calls of a disk.
use Rattle.std.proofs.Common.{◌≡◌, ℕ, zero, suc, ◌≤◌, List, [], ◌∷◌, Bool, true, false, Option, Some, None, length, take, drop, length-take, if◌then◌else◌, refl, sym, ap, subst, Ok, Err, ◌∙◌, arith, option_map}
use Rattle.std.proofs.lemmas.List.{drop-take}
use Rattle.std.specs.Prelude.{IfOk, Result}
use Rattle.std.specs.Str.{bytes_eq}
use Rattle.star_folder.specs.Drive.{ReadsFirst, TellsSize}
use Rattle.star_folder.specs.Folder.{Says}
use Rattle.star_repo.specs.Below.{belongs, there}
use Rattle.star_repo.specs.Held.{TellsFront, mark, unmarked}
use Rattle.star_repo.specs.declared.top.Links.{Links}

some_same : {A : Type 0} (a b : A) → Some a ≡ Some b → a ≡ b
some_same a b e = cc

some_none : {A : Type 0} (a : A) → Some a ≡ None → ⊥
some_none a e = cc

pub if_ok : {A E : Type 0} (P Q : A → Type 0) (r : Result A E) → IfOk r P → ((x : A) → P x → Q x) → IfOk r Q
if_ok P Q (Ok x) h k = k x h
if_ok P Q (Err e) h k = tt

take_more : (n m : ℕ) (xs : List ℕ) → n ≤ m → take n (take m xs) ≡ take n xs
take_more zero m xs h = refl
take_more (suc n) zero xs h = absurd (omega (arith, h))
take_more (suc n) (suc m) [] h = refl
take_more (suc n) (suc m) (x ∷ xs) h = ap (λ r. x ∷ r) (take_more n m xs (omega (arith, h)))

by_mark : (all : List ℕ) (b : Bool) → take 1048577 (if b then drop 3 (take 1048580 all) else take 1048580 all) ≡ take 1048577 (if b then drop 3 all else all)
by_mark all true = ap (λ r. take 1048577 r) (drop-take 3 1048577 all) ∙ take_more 1048577 1048577 (drop 3 all) (omega arith)
by_mark all false = take_more 1048577 1048580 all (omega arith)

-- the front of a text, by so many of its file's first bytes
front : (all : List ℕ) → take 1048577 (unmarked (take 1048580 all)) ≡ take 1048577 (unmarked all)
front all =
    let same : take 3 (take 1048580 all) ≡ take 3 all = take_more 3 1048580 all (omega arith) in
    subst (λ h. take 1048577 (if bytes_eq h mark then drop 3 (take 1048580 all) else take 1048580 all) ≡ take 1048577 (unmarked all)) (sym same) (by_mark all (bytes_eq (take 3 all) mark))

-- of what is no file no size is told
pub sizeless : (file : Option (Option (List ℕ))) → TellsSize file None → TellsFront (option_map (option_map unmarked) file) None
sizeless None h = tt
sizeless (Some None) h = refl
sizeless (Some (Some all)) h = absurd (some_none h.0 (sym h.1))

-- the text of a file is told by its first bytes
pub read_so : (file : Option (Option (List ℕ))) (bytes text : List ℕ) → ReadsFirst 1048580 file bytes → text ≡ take 1048577 (unmarked bytes) → TellsFront (option_map (option_map unmarked) file) (Some text)
read_so None bytes text h t = omega (arith, ap length t, length-take 1048577 (unmarked bytes))
read_so (Some None) bytes text h t = absurd h
read_so (Some (Some all)) bytes text h t = ap Some (t ∙ ap (λ b. take 1048577 (unmarked b)) h ∙ front all)

-- what is told so is short in any case
short : (file : Option (Option (List ℕ))) (found : Option (List ℕ)) → TellsFront (option_map (option_map unmarked) file) found → TellsFront None found
short file None h = tt
short None (Some text) h = h
short (Some None) (Some text) h = absurd (some_none text h)
short (Some (Some all)) (Some text) h = let is : text ≡ take 1048577 (unmarked all) = some_same text (take 1048577 (unmarked all)) h in omega (arith, ap length is, length-take 1048577 (unmarked all))

module _ (links : Links) (folder inner : List ℕ) where
  -- a path that leads to nothing leads to no file
  pub leads_nowhere : (real file : Option (Option (List ℕ))) → Says real None → TellsFront (there links folder inner real file) None
  leads_nowhere None file s = tt
  leads_nowhere (Some None) file s = refl
  leads_nowhere (Some (Some r)) file s = absurd (some_none r (sym s))

  -- nor does one that leads to what is not of the folder
  pub lies_apart : (real file : Option (Option (List ℕ))) (r : List ℕ) → Says real (Some r) → belongs links folder inner r ≡ false → TellsFront (there links folder inner real file) None
  lies_apart None file r s b = tt
  lies_apart (Some None) file r s b = absurd (some_none r s)
  lies_apart (Some (Some q)) file r s b =
      let apart : belongs links folder inner q ≡ false = subst (λ p. belongs links folder inner p ≡ false) (some_same r q s) b in
      subst (λ c. TellsFront (if c then option_map (option_map unmarked) file else Some None) None) (sym apart) refl

  -- what is of the folder is read
  pub lies_there : (real file : Option (Option (List ℕ))) (r : List ℕ) (found : Option (List ℕ)) → Says real (Some r) → belongs links folder inner r ≡ true → TellsFront (option_map (option_map unmarked) file) found → TellsFront (there links folder inner real file) found
  lies_there None file r found s b h = short file found h
  lies_there (Some None) file r found s b h = absurd (some_none r s)
  lies_there (Some (Some q)) file r found s b h =
      let of : belongs links folder inner q ≡ true = subst (λ p. belongs links folder inner p ≡ true) (some_same r q s) b in
      subst (λ c. TellsFront (if c then option_map (option_map unmarked) file else Some None) found) (sym of) h
