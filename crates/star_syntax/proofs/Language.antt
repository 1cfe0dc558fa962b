-- The grammar is sound: its rounds take leaves, and it comes back to itself only after a leaf or at a lower rank.
use Rattle.std.proofs.Common.{◌≡◌, ℕ, ◌+◌, ◌*◌, ◌<◌, ◌≤◌, true, List, length, [], ◌∷◌, Some, None, refl, ap, sym, ◌∙◌, subst, append-nil, arith}
use Rattle.star_syntax.specs.declared.leaf.ValuedToken.{ValuedToken}
use Rattle.star_tree.specs.declared.tree.Statement.{Statement}
use Rattle.star_syntax.specs.Sorts.{Sort, list, Val}
use Rattle.star_syntax.specs.Sorts as sorts
use Rattle.star_syntax.specs.Grammar.{Rule, level, statement, Answer, Reads, Spells, step, run}
use Rattle.star_syntax.proofs.Soundness.{cost, safe, Sound}
use Rattle.star_syntax.specs.Statements.{file}
use Rattle.star_syntax.specs.Language.{rule, Reading}
use Rattle.star_syntax.proofs.Ranks.{rank}
use Rattle.star_syntax.proofs.Reading.{spelled, step-reads, agrees, computed, only_one}
use Rattle.star_syntax.proofs.ExpressionTable.{level-costs, level-safe}
use Rattle.star_syntax.proofs.StatementTable.{statement-cost, statement-safe, file-safe}

costs : (r : Rule) → 1 ≤ cost (rule r)
costs (level l) = level-costs l
costs statement = statement-cost

all-safe : (r : Rule) → safe rank 2 (rank r) (rule r) ≡ true
all-safe (level l) = level-safe l
all-safe statement = statement-safe

below : (r : Rule) → rank r < 2
below (level l) = omega arith
below statement = omega arith

pub sound : Sound rule rank 2
sound = record { below = below; costs = costs; safe' = all-safe }

pub file-reads : (d : ℕ) (ts : List ValuedToken) → length ts * 2 + 2 ≤ d → Reads rule (list sorts.statement) file ts (step (run rule d) file ts)
file-reads d ts b = step-reads rule rank 2 sound (run rule d) d (computed rule rank 2 sound d) file 2 ts file-safe b

pub file-only : (d : ℕ) (ts : List ValuedToken) (a : Answer (Val (list sorts.statement))) → length ts * 2 + 2 ≤ d → Reads rule (list sorts.statement) file ts a → a ≡ step (run rule d) file ts
file-only d ts a b e = agrees rule rank 2 sound (run rule d) d (only_one rule rank 2 sound d) e 2 file-safe b

nil : (ts : List ValuedToken) → length ts ≡ 0 → ts ≡ []
nil [] e = refl
nil (t ∷ ts) e = absurd (omega arith)

pub answered : (d : ℕ) (ts : List ValuedToken) (found : List Statement) (rest : List ValuedToken) → length ts * 2 + 2 ≤ d → step (run rule d) file ts ≡ Some (found, rest) → length rest ≡ 0 → Reading found ts
answered d ts found rest b some e =
    let P : Answer (Val (list sorts.statement)) → Type 0 = λ a. Reads rule (list sorts.statement) file ts a in
    let g : Reads rule (list sorts.statement) file ts (Some (found, [])) = subst P (some ∙ ap (λ (z : List ValuedToken). Some (found, z)) (nil rest e)) (file-reads d ts b) in
    let k = spelled rule g in
    let S : List ValuedToken → Type 0 = λ z. Spells rule (list sorts.statement) file found z in
    record { spells = subst S (sym (k.1 ∙ append-nil k.0)) k.2; greedy = g }

abbrev rest_of : Answer (List Statement) → List ValuedToken
rest_of None = []
rest_of (Some p) = p.1

pub refused : (d : ℕ) (ts : List ValuedToken) (found : List Statement) (rest : List ValuedToken) → length ts * 2 + 2 ≤ d → step (run rule d) file ts ≡ Some (found, rest) → 0 < length rest → (tree : List Statement) → Reading tree ts → ⊥
refused d ts found rest b some l tree r =
    let only = file-only d ts (Some (tree, [])) b r.greedy ∙ some in
    let none : [] ≡ rest = ap rest_of only in
    let len : length rest ≡ 0 = rw (← none) refl in
    omega arith

pub refused_none : (d : ℕ) (ts : List ValuedToken) → length ts * 2 + 2 ≤ d → step (run rule d) file ts ≡ None → (tree : List Statement) → Reading tree ts → ⊥
refused_none d ts b none tree r = let only = file-only d ts (Some (tree, [])) b r.greedy ∙ none in cc
