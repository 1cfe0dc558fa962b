-- The labels that roots reach.
use Rattle.std.proofs.Common.{◌≡◌, inl, inr, ℕ, zero, suc, List, Option, Some, None, sym, ◌∙◌}
use Rattle.star_repo.specs.Held.{Held, Tells}
use Rattle.star_repo.specs.Reach.{IsReachedOf, Words, root, prelude, load}
use Rattle.star_repo.specs.Refusal.{ReachedIn}
use Rattle.star_repo.specs.Laws.{OneMap, OneMapOfSaid, OthersChangeNothing, ReachedByRounds, ReachedIsLeast, SameWhereReached}
use Rattle.star_repo.proofs.Rows.{from_in, same_rows, to_in}

pub least : ReachedIsLeast
least held words is_in roots given loads l (root c) = roots l c
least held words is_in roots given loads l (prelude e) = given l e
least held words is_in roots given loads l (load {l = k} {text = text} r e h) = loads k l text (least held words is_in roots given loads k r) e h

pub in_rounds : (held : Held) (words : Words) (l : List ℕ) → IsReachedOf held words l → (d : ℕ) × ReachedIn held words d l
in_rounds held words l (root c) = (0, inl c)
in_rounds held words l (prelude e) = (0, inr e)
in_rounds held words l (load {l = k} {text = text} r e h) = let b = in_rounds held words k r in (suc b.0, (k, text, b.1, e, h))

pub from_round : (held : Held) (words : Words) (d : ℕ) (l : List ℕ) → ReachedIn held words d l → IsReachedOf held words l
from_round held words zero l (inl c) = root c
from_round held words zero l (inr e) = prelude e
from_round held words (suc d) l h = load (from_round held words d h.0 h.2) h.3 h.4

pub by_rounds : ReachedByRounds
by_rounds held words l = (in_rounds held words l, λ h. from_round held words h.0 l h.1)

pub one_map : OneMap
one_map held words files others a b =
    same_rows files others a.ordered b.ordered (λ f h. to_in others f ((b.are f.0 f.1).1 ((a.are f.0 f.1).0 (from_in files f h)))) (λ f h. to_in files f ((a.are f.0 f.1).1 ((b.are f.0 f.1).0 (from_in others f h))))

-- one folder reaches the labels of another that has the same files at the reached labels
also : (held other : Held) (words : Words) → ((l : List ℕ) → IsReachedOf held words l → held l ≡ other l) → (l : List ℕ) → IsReachedOf held words l → IsReachedOf other words l
also held other words same l (root c) = root c
also held other words same l (prelude e) = prelude e
also held other words same l (load {l = k} r e h) = load (also held other words same k r) (sym (same k r) ∙ e) h

no_more : (held other : Held) (words : Words) → ((l : List ℕ) → IsReachedOf held words l → held l ≡ other l) → (l : List ℕ) → IsReachedOf other words l → IsReachedOf held words l
no_more held other words same l (root c) = root c
no_more held other words same l (prelude e) = prelude e
no_more held other words same l (load {l = k} r e h) = let b = no_more held other words same k r in load b (same k b ∙ e) h

pub others : OthersChangeNothing
others held other words same files a = record {
  ordered = a.ordered;
  are = λ l text. ((λ c. let is = (a.are l text).0 c in (also held other words same l is.0, sym (same l is.0) ∙ is.1)), (λ is. let r = no_more held other words same l is.0 in (a.are l text).1 (r, same l r ∙ is.1)));
}

said_so : (o : Option (Option (List ℕ))) (x a b : Option (List ℕ)) → o ≡ Some x → Tells o a → Tells o b → a ≡ b
said_so None x a b e h k = absurd (let no : ⊥ = cc in no)
said_so (Some y) x a b e h k = h ∙ sym k

pub one_map_of_said : OneMapOfSaid
one_map_of_said said all held other fits suits words files rest a b =
    one_map other words files rest (others held other words (λ l r. said_so (said l) (all l).0 (held l) (other l) (all l).1 (fits l) (suits l)) files a) b

pub same_there : SameWhereReached
same_there held words whole part all some l text r = ((λ c. (some.are l text).1 (r, (all.are l text).0 c)), (λ c. (all.are l text).1 ((some.are l text).0 c).1))
