-- Members in the order of their keys.
use Rattle.std.proofs.Common.{arith, ◌≡◌, ◌≤◌, ℕ, suc, List, Option, Some, None, refl, ap, sym, subst, ◌∙◌}
use Rattle.std.specs.Cmp.{IsTotalOrder}
use Rattle.std.specs.Cmp.Lexicographic.{slice_cmp}
use Rattle.std.specs.Ordering.{match_ordering, nat_cmp, ordering_reverse}
use Rattle.std.specs.declared.cmp.Ordering.{Ordering}
use Rattle.std.specs.declared.cmp.Ordering.TheVariants.{Less, Equal, Greater}
use Rattle.std.proofs.lemmas.Cmp.{nat_list_cmp_total}
use Rattle.std.proofs.lemmas.Map.Lookups.{exact_bytes}
use Rattle.serde_json.specs.Data.{Data, Members, member, no_members, put}
use Rattle.serde_json.specs.Find.{get_member}
use Rattle.star_data.specs.Counts.{member_count}

-- a key is below all keys
abbrev pub IsBelow : List ℕ → Members → Type 0
IsBelow k no_members = Unit {0}
IsBelow k (member l d ms) = (slice_cmp nat_cmp k l ≡ Less) × IsBelow k ms

-- each key is below the later ones
abbrev pub Rises : Members → Type 0
Rises no_members = Unit {0}
Rises (member k d ms) = IsBelow k ms × Rises ms

abbrev cmp : List ℕ → List ℕ → Ordering
cmp = slice_cmp nat_cmp

total : IsTotalOrder (slice_cmp nat_cmp)
total = nat_list_cmp_total

its_own : (o : Ordering) → o ≡ ordering_reverse o → o ≡ Equal
its_own Less e = absurd (let no : ⊥ = cc in no)
its_own Equal e = refl
its_own Greater e = absurd (let no : ⊥ = cc in no)

pub equal_bytes : (s : List ℕ) → slice_cmp nat_cmp s s ≡ Equal
equal_bytes s = its_own (slice_cmp nat_cmp s s) (total.antisymm s s)

turned : (k l : List ℕ) → slice_cmp nat_cmp k l ≡ Greater → slice_cmp nat_cmp l k ≡ Less
turned k l e = total.antisymm l k ∙ ap ordering_reverse e

-- ---- one more member

below_all : (k l : List ℕ) (ms : Members) → slice_cmp nat_cmp k l ≡ Less → IsBelow l ms → IsBelow k ms
below_all k l no_members less h = tt
below_all k l (member m d ms) less h = (total.trans k l m less h.0, below_all k l ms less h.1)

below_put : (k l : List ℕ) (d : Data) (ms : Members) → slice_cmp nat_cmp k l ≡ Less → IsBelow k ms → IsBelow k (put l d ms)
below_put k l d no_members less h = (less, tt)
below_put k l d (member m e ms) less h = turn (slice_cmp nat_cmp l m) (below_put k l d ms less h.1)
  where
    turn : (o : Ordering) → IsBelow k (put l d ms) → IsBelow k (match_ordering o (member l d (member m e ms)) (member m d ms) (member m e (put l d ms)))
    turn Less rest = (less, h)
    turn Equal rest = h
    turn Greater rest = (h.0, rest)

pub rises_put : (k : List ℕ) (d : Data) (ms : Members) → Rises ms → Rises (put k d ms)
rises_put k d no_members h = (tt, tt)
rises_put k d (member l e ms) h = turn (slice_cmp nat_cmp k l) refl (rises_put k d ms h.1)
  where
    turn : (o : Ordering) → slice_cmp nat_cmp k l ≡ o → Rises (put k d ms) → Rises (match_ordering o (member k d (member l e ms)) (member l d ms) (member l e (put k d ms)))
    turn Less is rest = ((is, below_all k l ms is h.0), h)
    turn Equal is rest = h
    turn Greater is rest = (below_put l k d ms (turned k l is) h.0, rest)

pub count_put : (k : List ℕ) (d : Data) (ms : Members) → member_count (put k d ms) ≤ suc (member_count ms)
count_put k d no_members = omega arith
count_put k d (member l e ms) = turn (slice_cmp nat_cmp k l) (count_put k d ms)
  where
    turn : (o : Ordering) → member_count (put k d ms) ≤ suc (member_count ms) → member_count (match_ordering o (member k d (member l e ms)) (member l d ms) (member l e (put k d ms))) ≤ suc (suc (member_count ms))
    turn Less more = omega arith
    turn Equal more = omega arith
    turn Greater more = omega (arith, more)

pub count_new : (k : List ℕ) (d : Data) (ms : Members) → get_member k ms ≡ None → member_count (put k d ms) ≡ suc (member_count ms)
count_new k d no_members none = refl
count_new k d (member l e ms) none = turn (slice_cmp nat_cmp k l) none (count_new k d ms)
  where
    turn : (o : Ordering) → match_ordering o (get_member k ms) (Some e) (get_member k ms) ≡ None → (get_member k ms ≡ None → member_count (put k d ms) ≡ suc (member_count ms)) → member_count (match_ordering o (member k d (member l e ms)) (member l d ms) (member l e (put k d ms))) ≡ suc (suc (member_count ms))
    turn Less is rest = refl
    turn Equal is rest = absurd (let no : ⊥ = cc in no)
    turn Greater is rest = ap suc (rest is)

-- ---- a member by its key

first_member : (k : List ℕ) (d : Data) (ms : Members) → get_member k (member k d ms) ≡ Some d
first_member k d ms = ap (λ o. match_ordering o (get_member k ms) (Some d) (get_member k ms)) (equal_bytes k)

later_member : (t l : List ℕ) (e : Data) (ns : Members) → (t ≡ l → ⊥) → get_member t (member l e ns) ≡ get_member t ns
later_member t l e ns other = turn (slice_cmp nat_cmp t l) refl
  where
    turn : (o : Ordering) → slice_cmp nat_cmp t l ≡ o → match_ordering o (get_member t ns) (Some e) (get_member t ns) ≡ get_member t ns
    turn Less is = refl
    turn Equal is = absurd (other (exact_bytes t l is))
    turn Greater is = refl

differ : (k l : List ℕ) → slice_cmp nat_cmp k l ≡ Less → k ≡ l → ⊥
differ k l less same =
    let both : Less ≡ Equal = sym less ∙ (ap (λ x. slice_cmp nat_cmp x l) same ∙ equal_bytes l) in
    let no : ⊥ = cc in
    no

not_below : (k : List ℕ) (ms : Members) → IsBelow k ms → get_member k ms ≡ None
not_below k no_members h = refl
not_below k (member l d ms) h = later_member k l d ms (differ k l h.0) ∙ not_below k ms h.1

-- each member is among others too
abbrev pub StandsToo : Members → Members → Type 0
StandsToo ms ns = (t : List ℕ) (d : Data) → get_member t ms ≡ Some d → get_member t ns ≡ Some d

none_some : {A : Type 0} (o : Option A) (x : A) → o ≡ None → o ≡ Some x → ⊥
none_some o x e g = let both : None ≡ Some x = sym e ∙ g in let no : ⊥ = cc in no

-- all but the first
rest_too : (k : List ℕ) (d : Data) (ms ns : Members) → IsBelow k ms → StandsToo (member k d ms) ns → StandsToo ms ns
rest_too k d ms ns below all t c is =
    all t c (later_member t k d ms (λ e. none_some (get_member k ms) c (not_below k ms below) (ap (λ x. get_member x ms) (sym e) ∙ is)) ∙ is)

-- among all but one that is below them
past_first : (l : List ℕ) (e : Data) (ms ns : Members) → IsBelow l ms → StandsToo ms (member l e ns) → StandsToo ms ns
past_first l e ms ns below all t c is =
    sym (later_member t l e ns (λ same. none_some (get_member l ms) c (not_below l ms below) (ap (λ x. get_member x ms) (sym same) ∙ is))) ∙ all t c is

-- no first member is below all others
not_less : (k l : List ℕ) (d e : Data) (ms ns : Members) → Rises (member l e ns) → StandsToo (member k d ms) (member l e ns) → slice_cmp nat_cmp k l ≡ Less → ⊥
not_less k l d e ms ns rises all less =
    none_some (get_member k (member l e ns)) d (not_below k (member l e ns) (less, below_all k l ns less rises.0)) (all k d (first_member k d ms))

fewer : (ms ns : Members) → Rises ms → Rises ns → StandsToo ms ns → member_count ms ≤ member_count ns
fewer no_members ns p q all = omega arith
fewer (member k d ms) no_members p q all = absurd (let h : None ≡ Some d = all k d (first_member k d ms) in let no : ⊥ = cc in no)
fewer (member k d ms) (member l e ns) p q all = turn (slice_cmp nat_cmp k l) refl (fewer ms ns p.1 q.1) (fewer (member k d ms) ns p q.1)
  where
    turn : (o : Ordering) → slice_cmp nat_cmp k l ≡ o → (StandsToo ms ns → member_count ms ≤ member_count ns) → (StandsToo (member k d ms) ns → suc (member_count ms) ≤ member_count ns) → suc (member_count ms) ≤ suc (member_count ns)
    turn Less is both one = absurd (not_less k l d e ms ns q all is)
    turn Equal is both one =
        let same : k ≡ l = exact_bytes k l is in
        let less = both (past_first l e ms ns (subst (λ x. IsBelow x ms) same p.0) (rest_too k d ms (member l e ns) p.0 all)) in
        omega (arith, less)
    turn Greater is both one =
        let up = turned k l is in
        let less = one (past_first l e (member k d ms) ns (up, below_all l k ms up p.0) all) in
        omega (arith, less)

-- rising members that are all among others are the same as the others, if these are no more
pub same_members : (ms ns : Members) → Rises ms → Rises ns → StandsToo ms ns → member_count ns ≤ member_count ms → ms ≡ ns
same_members no_members no_members p q all no_more = refl
same_members no_members (member l e ns) p q all no_more = absurd (let no : ⊥ = omega (arith, no_more) in no)
same_members (member k d ms) no_members p q all no_more = absurd (let h : None ≡ Some d = all k d (first_member k d ms) in let no : ⊥ = cc in no)
same_members (member k d ms) (member l e ns) p q all no_more = turn (slice_cmp nat_cmp k l) refl (same_members ms ns p.1 q.1)
  where
    turn : (o : Ordering) → slice_cmp nat_cmp k l ≡ o → (StandsToo ms ns → member_count ns ≤ member_count ms → ms ≡ ns) → member k d ms ≡ member l e ns
    turn Less is rest = absurd (not_less k l d e ms ns q all is)
    turn Equal is rest_same =
        let same : k ≡ l = exact_bytes k l is in
        let both : Some d ≡ Some e = sym (all k d (first_member k d ms)) ∙ (ap (λ x. get_member x (member l e ns)) same ∙ first_member l e ns) in
        let same_data : d ≡ e = cc in
        let rest : ms ≡ ns = rest_same (past_first l e ms ns (subst (λ x. IsBelow x ms) same p.0) (rest_too k d ms (member l e ns) p.0 all)) (omega (arith, no_more)) in
        ap (λ x. member x d ms) same ∙ (ap (λ x. member l x ms) same_data ∙ ap (member l e) rest)
    turn Greater is rest_same =
        let up = turned k l is in
        let less = fewer (member k d ms) ns p q.1 (past_first l e (member k d ms) ns (up, below_all l k ms up p.0) all) in
        absurd (let no : ⊥ = omega (arith, less, no_more) in no)
