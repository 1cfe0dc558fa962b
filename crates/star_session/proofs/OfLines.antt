-- The lines of a text, from its front.
use Rattle.std.proofs.Common.{◌≡◌, ◌≢◌, ℕ, suc, List, [], ◌∷◌, ◌++◌, Bool, true, false, cond, map, refl, ap, ◌∙◌, append_assoc, arith}
use Rattle.std.specs.List.{All, concat, onto_first, slice_split}
use Rattle.std.proofs.lemmas.List.Splits.{slice_split_at, slice_split_none}
use Rattle.star_session.specs.Lines.{IsOneLine, is_end, lines_of, without_last}
use Rattle.star_session.specs.Session.{ended}

-- a row of parts has a first one
record Begun (parts : List (List ℕ)) : Type 0 where
  first : List ℕ
  others : List (List ℕ)
  are : parts ≡ first ∷ others

begun : (text : List ℕ) → Begun (slice_split is_end text)
begun [] = record { first = []; others = []; are = refl }
begun (x ∷ xs) = by (is_end x) (begun xs)
  where
    by : (b : Bool) → Begun (slice_split is_end xs) → Begun (cond b ([] ∷ slice_split is_end xs) (onto_first x (slice_split is_end xs)))
    by true h = record { first = []; others = slice_split is_end xs; are = refl }
    by false h = record { first = x ∷ h.first; others = h.others; are = ap (onto_first x) h.are }

first_stays : (l : List ℕ) (parts : List (List ℕ)) → Begun parts → without_last (l ∷ parts) ≡ l ∷ without_last parts
first_stays [] parts h = rw h.are refl
first_stays (x ∷ xs) parts h = rw h.are refl

pub next_line : (l rest : List ℕ) → IsOneLine l → lines_of (ended l ++ rest) ≡ l ∷ lines_of rest
unfolding lines_of
next_line l rest one =
    ap (λ t. without_last (slice_split is_end t)) (append_assoc l (10 ∷ []) rest)
    ∙ ap without_last (slice_split_at is_end l 10 rest one refl)
    ∙ first_stays l (slice_split is_end rest) (begun rest)

pub all_first : {A : Type 0} (P : A → Type 0) (x : A) (xs : List A) → All P (x ∷ xs) → P x
all_first P x xs h = h 0 x (omega arith)

pub all_others : {A : Type 0} (P : A → Type 0) (x : A) (xs : List A) → All P (x ∷ xs) → All P xs
all_others P x xs h k d s = h (suc k) d (omega (arith, s))

-- lines with their line ends, and the text after them
pub first_lines : (ls : List (List ℕ)) (rest : List ℕ) → All IsOneLine ls → lines_of (concat (map ended ls) ++ rest) ≡ ls ++ lines_of rest
first_lines [] rest h = refl
first_lines (l ∷ ls) rest h =
    ap lines_of (append_assoc (ended l) (concat (map ended ls)) rest)
    ∙ next_line l (concat (map ended ls) ++ rest) (all_first IsOneLine l ls h)
    ∙ ap (λ ms. l ∷ ms) (first_lines ls rest (all_others IsOneLine l ls h))

-- the text after the last line end
pub last_line : (l : List ℕ) → IsOneLine l → l ≢ [] → lines_of l ≡ l ∷ []
unfolding lines_of
last_line [] one some = absurd (some refl)
last_line (x ∷ xs) one some = ap without_last (slice_split_none is_end (x ∷ xs) one)

pub no_line : lines_of [] ≡ []
unfolding lines_of
no_line = refl
