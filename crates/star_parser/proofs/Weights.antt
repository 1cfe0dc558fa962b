-- A token adds at most 1 to each number of a state.
use Rattle.std.proofs.Common.{◌≡◌, ℕ, ◌+◌, ◌-◌, ◌≤◌, nat_lt, false, List, [], ◌∷◌, drop, length, Option, refl, sym, ap, ◌∙◌, arith}
use Rattle.std.proofs.Math.ListN.{get_or}
use Rattle.std.proofs.lemmas.Bool.{le-ltb}
use Rattle.star_lex.specs.declared.token.Token.{Token}
use Rattle.star_parser.specs.declared.nest.Effect.{Effect}
use Rattle.star_parser.specs.declared.nest.Effect.TheVariants as e
use Rattle.star_parser.specs.Nesting.{State, of_kind, passes, after_token, innermost, outer, raised, semicolon, Each, Within}

each-more : (m n : ℕ) (rs : List ℕ) → m ≤ n → Each m rs → Each n rs
each-more m n [] h k = tt
each-more m n (r ∷ rs) h k = (omega arith, each-more m n rs h k.1)

pub within-more : (m n : ℕ) (s : State) → m ≤ n → Within m s → Within n s
within-more m n s h k =
    let a = k.weight in
    let b = k.indents in
    record { weight = omega arith; remembered = each-more m n s.remembered h k.remembered; indents = omega arith }

each-outer : (n : ℕ) (rs : List ℕ) → Each n rs → Each n (outer rs)
each-outer n [] k = tt
each-outer n (r ∷ rs) k = k.1

each-raised : (n : ℕ) (rs : List ℕ) → Each n rs → Each (n + 1) (raised rs)
each-raised n [] k = tt
each-raised n (r ∷ rs) k = let a = k.0 in (omega arith, each-more n (n + 1) rs (omega arith) k.1)

innermost-within : (n w : ℕ) (rs : List ℕ) → w ≤ n → Each n rs → innermost w rs ≤ n
innermost-within n w [] h k = h
innermost-within n w (r ∷ rs) h k = k.0

semicolon-within : (n : ℕ) (s : State) (rs : List ℕ) → s.remembered ≡ rs → Within n s → semicolon s ≤ n
semicolon-within n s [] e k = rw e k.indents
semicolon-within n s (r ∷ rs) e k = rw e k.weight

pub within-after-token : (n : ℕ) (x : Effect) (s : State) → Within n s → Within (n + 1) (after_token x s)
within-after-token n e.Nothing s k = within-more n (n + 1) s (omega arith) k
within-after-token n e.Adds s k =
    let a = k.weight in let b = k.indents in
    record { weight = omega arith; remembered = each-more n (n + 1) s.remembered (omega arith) k.remembered; indents = omega arith }
within-after-token n e.Opens s k =
    let a = k.weight in let b = k.indents in
    record { weight = omega arith; remembered = (omega arith, each-more n (n + 1) s.remembered (omega arith) k.remembered); indents = omega arith }
within-after-token n e.Closes s k =
    let a = innermost-within n s.weight s.remembered k.weight k.remembered in let b = k.indents in
    record { weight = omega arith; remembered = each-more n (n + 1) (outer s.remembered) (omega arith) (each-outer n s.remembered k.remembered); indents = omega arith }
within-after-token n e.Comma s k =
    let a = innermost-within n s.weight s.remembered k.weight k.remembered in let b = k.indents in
    record { weight = omega arith; remembered = each-more n (n + 1) s.remembered (omega arith) k.remembered; indents = omega arith }
within-after-token n e.Lambda s k =
    let a = k.weight in let b = k.indents in
    record { weight = omega arith; remembered = each-raised n s.remembered k.remembered; indents = omega arith }
within-after-token n e.Semicolon s k =
    let a = semicolon-within n s s.remembered refl k in let b = k.indents in
    record { weight = omega arith; remembered = each-more n (n + 1) s.remembered (omega arith) k.remembered; indents = omega arith }
within-after-token n e.Newline s k =
    let b = k.indents in
    record { weight = omega arith; remembered = each-more n (n + 1) s.remembered (omega arith) k.remembered; indents = omega arith }
within-after-token n e.Indent s k =
    let b = k.indents in
    record { weight = omega arith; remembered = each-more n (n + 1) s.remembered (omega arith) k.remembered; indents = omega arith }
within-after-token n e.Outdent s k =
    let b = k.indents in
    record { weight = omega arith; remembered = each-more n (n + 1) s.remembered (omega arith) k.remembered; indents = omega arith }

pub within-next : (all left next : ℕ) (x : Effect) (s t : State) → t ≡ after_token x s → next + 1 ≡ left → left ≤ all → Within (all - left) s → Within (all - next) t
within-next all left next x s t e h l k =
    let a : all - next ≡ all - left + 1 = omega arith in
    rw (e, a) (within-after-token (all - left) x s k)

-- a token that leaves the weight within the limit is passed
pub passed : (whole : Option ℕ) (s t : State) (x : Effect) (d : Token) (ts : List Token) → 1 ≤ length ts → whole ≡ passes s ts
    → x ≡ of_kind (get_or ts 0 d).kind → t ≡ after_token x s → t.weight ≤ 100 → whole ≡ passes t (drop 1 ts)
passed whole s t x d [] some e k b l = absurd (omega arith)
passed whole s t x d (y ∷ ts) some e k b l =
    let z : after_token (of_kind y.kind) s ≡ t = ap (λ o. after_token o s) (sym k) ∙ sym b in
    let v : nat_lt 100 t.weight ≡ false = le-ltb 100 t.weight l in
    e ∙ rw (z, v) refl
