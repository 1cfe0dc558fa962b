-- The line of the last statement is the line of the item at the last place.
use Rattle.std.proofs.Common.{◌≡◌, ℕ, zero, suc, ◌+◌, ◌-◌, List, [], ◌∷◌, length, slice_get, Option, Some, None, refl, ap, sym, ◌∙◌, subst, arith}
use Rattle.star_tree.specs.declared.tree.Statement.{Statement}
use Rattle.star_outline.specs.Syntax.{position_of}
use Rattle.star_meaning.specs.Module.{last_line}

last_from : (line : ℕ) (s : Statement) (ss : List (Statement)) (x : Statement) → slice_get (s ∷ ss) (length ss) ≡ Some x → (position_of x).line ≡ last_line line (s ∷ ss)
last_from line s [] x h = let e : s ≡ x = cc in ap (λ y. (position_of y).line) (sym e)
last_from line s (t ∷ ss) x h = last_from (position_of s).line t ss x h

pub last_is : (line : ℕ) (ss : List (Statement)) (x : Statement) → slice_get ss (length ss - 1) ≡ Some x → (position_of x).line ≡ last_line line ss
last_is line [] x h = cc
last_is line (s ∷ ss) x h = last_from line s ss x (subst (λ n. slice_get (s ∷ ss) n ≡ Some x) (let e : suc (length ss) - 1 ≡ length ss = omega arith in e) h)

there : (s : Statement) (ss : List (Statement)) → slice_get (s ∷ ss) (length ss) ≡ None → ⊥
there s [] h = cc
there s (t ∷ ss) h = there t ss h

pub none_last : (line : ℕ) (ss : List (Statement)) → slice_get ss (length ss - 1) ≡ None → line ≡ last_line line ss
none_last line [] h = refl
none_last line (s ∷ ss) h = absurd (there s ss (subst (λ n. slice_get (s ∷ ss) n ≡ None) (let e : suc (length ss) - 1 ≡ length ss = omega arith in e) h))
