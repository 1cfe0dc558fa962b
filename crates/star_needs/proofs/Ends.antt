-- The end of a file depends on the labels, on the texts of all that it needs and on the prelude's text.
use Rattle.std.proofs.Common.{◌≡◌, ℕ, zero, suc, ◌+◌, Bool, true, false, ◌&&◌, List, [], ◌∷◌, arith, length, map, Option, Some, None, refl, ap, sym, subst, ◌∙◌, ◌⊎◌, inl, inr}
use Rattle.std.specs.Prelude.{Contains, slice_get, is_some}
use Rattle.std.specs.List.Sorted.{IsStrictlySortedBy}
use Rattle.std.specs.Cmp.Lexicographic.{slice_cmp}
use Rattle.std.specs.Ordering.{nat_cmp}
use Rattle.std.specs.Option.{option_flatten}
use Rattle.star_dialect.specs.declared.Mode.{Mode}
use Rattle.star_cache.specs.State.{Loads}
use Rattle.star_label.specs.Files.{File, IsOrdered}
use Rattle.star_scope.specs.Resolve.{outside}
use Rattle.star_plan.specs.Plan.{Plan, Reading, loaded, loads_in, read_of}
use Rattle.star_plan.specs.Reached.{IsReached, load, root}
use Rattle.star_plan.specs.Reading.{IsPlanOf, IsPrelude, IsRead}
use Rattle.star_plan.proofs.Causes.{here, there}
use Rattle.star_plan.proofs.Follow.{first_or}
use Rattle.star_plan.proofs.Plans.{one-reading}
use Rattle.star_plan.proofs.Walks.{readings_make_plans}
use Rattle.star_outcome.specs.Views.{IsBody, IsEnd}
use Rattle.star_needs.specs.Agree.{AgreeAmong}
use Rattle.star_needs.specs.Ends.{HaveSame, InEachPlan, IsClosed}
use Rattle.star_needs.specs.Laws.{Among}
use Rattle.star_needs.specs.Texts.{BodiesForAllRoots, BodiesStay, EndsForAllRoots, EndsStay, LoadsForAllRoots, LoadsInPlans, LoadsStay, OneEndByTexts, OneReadingByTexts, ReadingsStay, Stays}
use Rattle.star_needs.proofs.Among.{in_common, kept, to_common}
use Rattle.star_needs.proofs.Bodies.{ends_by_needs, one_body_by_needs, one_module_end_by_needs}
use Rattle.star_needs.proofs.Moves.{labels_of, length_same, one_prelude, prelude_to, read_to}

-- ---- readings

pub same_back : (is_in : ℕ → Bool) (prelude : Option ℕ) (files others : List File) → HaveSame is_in prelude files others → HaveSame is_in prelude others files
same_back is_in prelude files others same = record { labels = sym same.labels; texts = λ n h. sym (same.texts n h); prelude_text = λ q e. sym (same.prelude_text q e) }

pub readings_stay : ReadingsStay
readings_stay files others prelude is_in same p d n r h is read =
    (prelude_to files others prelude p same.prelude_text is, read_to files others same.labels (outside p d) n r (same.texts n h) read)

pub loads_stay : LoadsStay
loads_stay files others prelude mode is_in same n loads h are p r is read =
    let back = readings_stay others files prelude is_in (same_back is_in prelude files others same) p mode.language n r h is read in
    are p r back.0 back.1

pub ordered_to : (files others : List File) → labels_of files ≡ labels_of others → IsOrdered files → IsOrdered others
ordered_to files others labels ordered = subst (λ (ls : List (List ℕ)). IsStrictlySortedBy (slice_cmp nat_cmp) ls) labels ordered

module _ (files others : List File) (p q : Plan) (is_in : ℕ → Bool) (ordered : IsOrdered files) (is : IsPlanOf files p) (also : IsPlanOf others q) (prelude : p.prelude ≡ q.prelude) (languages : p.mode.language ≡ q.mode.language) (same : HaveSame is_in p.prelude files others) where
  one_read : (n : ℕ) (r s : Reading) → is_in n ≡ true → read_of p n ≡ Some r → read_of q n ≡ Some s → r ≡ s
  one_read n r s h x y =
      let moved = readings_stay files others p.prelude is_in same is.prelude p.mode.language n r h is.prelude_is (is.right n r x) in
      let preludes : is.prelude ≡ also.prelude = one_prelude others q.prelude is.prelude also.prelude (subst (λ o. IsPrelude others o is.prelude) prelude moved.0) also.prelude_is in
      let right : IsRead others (outside also.prelude q.mode.language) n r = subst (λ d. IsRead others (outside also.prelude d) n r) languages (subst (λ o. IsRead others (outside o p.mode.language) n r) preludes moved.1) in
      one-reading others (outside also.prelude q.mode.language) n (ordered_to files others same.labels ordered) r s right (also.right n s y)

  pub reading_by_texts : (n : ℕ) → is_in n ≡ true → IsReached p n → IsReached q n → read_of p n ≡ read_of q n
  reading_by_texts n h x y =
      let one = (is.reached n).0 x in
      let other = (also.reached n).0 y in
      one.1 ∙ (ap Some (one_read n one.0 other.0 h one.1 other.1) ∙ sym other.1)

pub one_reading_by_texts : OneReadingByTexts
one_reading_by_texts files others p q is_in ordered is also prelude languages same n h x y = reading_by_texts files others p q is_in ordered is also prelude languages same n h x y

pub loads_for_all_roots : LoadsForAllRoots
loads_for_all_roots files plan ordered is n reached p r prelude_is read =
    let own = (is.reached n).0 reached in
    let preludes : p ≡ is.prelude = one_prelude files plan.prelude p is.prelude prelude_is is.prelude_is in
    let one : r ≡ own.0 = one-reading files (outside is.prelude plan.mode.language) n ordered r own.0 (subst (λ o. IsRead files (outside o plan.mode.language) n r) preludes read) (is.right n own.0 own.1) in
    ap (λ z. map (λ l. l.file) (loads_in z)) (ap Some one ∙ sym own.1)

pub loads_in_plans : LoadsInPlans
loads_in_plans files prelude mode n loads are plan is prelude_is mode_is reached =
    let read = (is.reached n).0 reached in
    let there : IsPrelude files prelude is.prelude = subst (λ o. IsPrelude files o is.prelude) prelude_is is.prelude_is in
    let right = subst (λ (m : Mode). IsRead files (outside is.prelude m.language) n read.0) mode_is (is.right n read.0 read.1) in
    sym (are is.prelude read.0 there right) ∙ ap (λ z. map (λ l. l.file) (loads_in z)) (sym read.1)

-- ---- two plans that both reach files of the set

and_both : (a b : Bool) → (a && b) ≡ true → (a ≡ true) × (b ≡ true)
and_both true b e = (refl, e)
and_both false b e = absurd (let no : ⊥ = cc in no)

and_all : (a b : Bool) → a ≡ true → b ≡ true → (a && b) ≡ true
and_all true b x y = y
and_all false b x y = x

there_by : (o : Option Reading) → is_some o ≡ true → (r : Reading) × (o ≡ Some r)
there_by None e = absurd (let no : ⊥ = cc in no)
there_by (Some r) e = (r, refl)

abbrev pub both : (ℕ → Bool) → Plan → Plan → ℕ → Bool
both is_in p q n = is_in n && (is_some (read_of p n) && is_some (read_of q n))

pub record InBoth (is_in : ℕ → Bool) (p q : Plan) (n : ℕ) : Type 0 where
  pub within : is_in n ≡ true
  pub one : (r : Reading) × (read_of p n ≡ Some r)
  pub other : (r : Reading) × (read_of q n ≡ Some r)

pub in_both : (is_in : ℕ → Bool) (p q : Plan) (n : ℕ) → both is_in p q n ≡ true → InBoth is_in p q n
in_both is_in p q n e =
    let x = and_both (is_in n) (is_some (read_of p n) && is_some (read_of q n)) e in
    let y = and_both (is_some (read_of p n)) (is_some (read_of q n)) x.1 in
    record { within = x.0; one = there_by (read_of p n) y.0; other = there_by (read_of q n) y.1 }

pub to_both : (is_in : ℕ → Bool) (p q : Plan) (n : ℕ) (r s : Reading) → is_in n ≡ true → read_of p n ≡ Some r → read_of q n ≡ Some s → both is_in p q n ≡ true
to_both is_in p q n r s h x y = and_all (is_in n) _ h (and_all (is_some (read_of p n)) (is_some (read_of q n)) (ap is_some x) (ap is_some y))

module _ (files others : List File) (p q : Plan) (is_in : ℕ → Bool) (ordered : IsOrdered files) (is : IsPlanOf files p) (also : IsPlanOf others q) (prelude : p.prelude ≡ q.prelude) (mode : p.mode ≡ q.mode) (same : HaveSame is_in p.prelude files others) (closed : (n m : ℕ) → is_in n ≡ true → Loads (loaded p) n m → is_in m ≡ true) where
  reads_same : (n : ℕ) → InBoth is_in p q n → read_of p n ≡ read_of q n
  reads_same n b = reading_by_texts files others p q is_in ordered is also prelude (ap (λ (m : Mode). m.language) mode) same n b.within ((is.reached n).1 b.one) ((also.reached n).1 b.other)

  loads_in_both : (n m : ℕ) → InBoth is_in p q n → Loads (loaded p) n m → both is_in p q m ≡ true
  loads_in_both n m b step =
      let too : Loads (loaded q) n m = subst (λ r. Contains (map (λ l. l.file) (loads_in r)) m) (reads_same n b) step in
      let one = (is.reached m).0 (load ((is.reached n).1 b.one) step) in
      let other = (also.reached m).0 (load ((also.reached n).1 b.other) too) in
      to_both is_in p q m one.0 other.0 (closed n m b.within step) one.1 other.1

  pub agree_by_texts : AgreeAmong (both is_in p q) p q
  agree_by_texts = record {
    mode = mode;
    prelude = prelude;
    reads = λ n h. reads_same n (in_both is_in p q n h);
    closed = λ n m h step. loads_in_both n m (in_both is_in p q n h) step;
    read = λ n h. (in_both is_in p q n h).one;
  }

  pub agree_at : (n : ℕ) → is_in n ≡ true → IsReached p n → IsReached q n → both is_in p q n ≡ true
  agree_at n h x y =
      let one = (is.reached n).0 x in
      let other = (also.reached n).0 y in
      to_both is_in p q n one.0 other.0 h one.1 other.1

pub one_end_by_texts : OneEndByTexts
one_end_by_texts files others p q is_in ordered is also prelude mode same closed n h x y e =
    one_module_end_by_needs files others p q is also (both is_in p q) (agree_by_texts files others p q is_in ordered is also prelude mode same closed) n (agree_at files others p q is_in ordered is also prelude mode same closed n h x y) e

-- a fact that depends only on needs holds in each plan of files if it holds in one
for_all_roots : (P : Plan → ℕ → Type 0) → Among (λ p q n. P p n → P q n) → (files : List File) (plan : Plan) → IsOrdered files → IsPlanOf files plan → (n : ℕ) → IsReached plan n → P plan n → InEachPlan files plan.prelude plan.mode n (λ q. P q n)
for_all_roots P by_needs files plan ordered is n reached ended q also prelude mode too =
    let same : HaveSame (λ k. true) plan.prelude files files = record { labels = refl; texts = λ k h. refl; prelude_text = λ k h. refl } in
    let agree = agree_by_texts files files plan q (λ k. true) ordered is also (sym prelude) (sym mode) same (λ k m h step. refl) in
    by_needs files files plan q is also (both (λ k. true) plan q) agree n (agree_at files files plan q (λ k. true) ordered is also (sym prelude) (sym mode) same (λ k m h step. refl) n refl reached too) ended

pub ends_for_all_roots : EndsForAllRoots
ends_for_all_roots files plan ordered is n e reached ended = for_all_roots (λ p k. IsEnd p k e) (ends_by_needs e) files plan ordered is n reached ended

pub bodies_for_all_roots : BodiesForAllRoots
bodies_for_all_roots files plan ordered is n b reached body = for_all_roots (λ p k. IsBody p k b) (one_body_by_needs b) files plan ordered is n reached body

-- ---- a plan of the files before: its roots are the files of the set that a plan of the files after has read

-- the numbers of these readings, from the number i on
abbrev pub numbers : ℕ → List (Option Reading) → List ℕ
numbers i [] = []
numbers i (None ∷ rs) = numbers (i + 1) rs
numbers i (Some r ∷ rs) = i ∷ numbers (i + 1) rs

from_numbers : (i : ℕ) (rs : List (Option Reading)) (n : ℕ) → Contains (numbers i rs) n → (k : ℕ) × (n ≡ i + k) × ((r : Reading) × (option_flatten (slice_get rs k) ≡ Some r))
from_numbers i [] n c = absurd (let no : ⊥ = omega (arith, c.1) in no)
from_numbers i (None ∷ rs) n c =
    let more = from_numbers (i + 1) rs n c in
    (suc more.0, (let same : n ≡ (i + 1) + more.0 = more.1 in omega (arith, same)), more.2)
from_numbers i (Some r ∷ rs) n c = turn (λ h. from_numbers (i + 1) rs n h) (first_or i n (numbers (i + 1) rs) c)
  where
    turn : (Contains (numbers (i + 1) rs) n → (k : ℕ) × (n ≡ (i + 1) + k) × ((s : Reading) × (option_flatten (slice_get rs k) ≡ Some s))) → ((i ≡ n) ⊎ Contains (numbers (i + 1) rs) n) → (k : ℕ) × (n ≡ i + k) × ((s : Reading) × (option_flatten (slice_get (Some r ∷ rs) k) ≡ Some s))
    turn others (inl same) = (0, (let z : n ≡ i + 0 = omega (arith, same) in z), (r, refl))
    turn others (inr h) =
        let more = others h in
        (suc more.0, (let same : n ≡ (i + 1) + more.0 = more.1 in omega (arith, same)), more.2)

to_numbers : (i : ℕ) (rs : List (Option Reading)) (k : ℕ) (r : Reading) → option_flatten (slice_get rs k) ≡ Some r → Contains (numbers i rs) (i + k)
to_numbers i [] k r e = absurd (let no : ⊥ = cc in no)
to_numbers i (None ∷ rs) zero r e = absurd (let no : ⊥ = cc in no)
to_numbers i (None ∷ rs) (suc k) r e =
    let next : (i + 1) + k ≡ i + suc k = omega arith in
    subst (λ n. Contains (numbers (i + 1) rs) n) next (to_numbers (i + 1) rs k r e)
to_numbers i (Some s ∷ rs) zero r e =
    let first : i ≡ i + 0 = omega arith in
    subst (λ n. Contains (i ∷ numbers (i + 1) rs) n) first (here i (numbers (i + 1) rs))
to_numbers i (Some s ∷ rs) (suc k) r e =
    let next : (i + 1) + k ≡ i + suc k = omega arith in
    there i (i + suc k) (numbers (i + 1) rs) (subst (λ n. Contains (numbers (i + 1) rs) n) next (to_numbers (i + 1) rs k r e))

kept_length : (is_in : ℕ → Bool) (i : ℕ) (rs : List (Option Reading)) → length (kept is_in i rs) ≡ length rs
kept_length is_in i [] = refl
kept_length is_in i (r ∷ rs) = ap suc (kept_length is_in (i + 1) rs)

abbrev pub own : (ℕ → Bool) → Plan → Plan
own is_in q = record q { roots = numbers 0 (kept is_in 0 q.reads); reads = kept is_in 0 q.reads }

pub root_there : (is_in : ℕ → Bool) (q : Plan) (n : ℕ) (r : Reading) → read_of (own is_in q) n ≡ Some r → IsReached (own is_in q) n
root_there is_in q n r e =
    let same : 0 + n ≡ n = omega arith in
    root (subst (λ k. Contains (numbers 0 (kept is_in 0 q.reads)) k) same (to_numbers 0 (kept is_in 0 q.reads) n r e))

root_read : (is_in : ℕ → Bool) (q : Plan) (n : ℕ) → Contains (own is_in q).roots n → (r : Reading) × (read_of (own is_in q) n ≡ Some r)
root_read is_in q n c =
    let from = from_numbers 0 (kept is_in 0 q.reads) n c in
    let same : n ≡ from.0 = (let e : n ≡ 0 + from.0 = from.1 in omega (arith, e)) in
    (from.2.0, ap (read_of (own is_in q)) same ∙ from.2.1)

module _ (files others : List File) (q : Plan) (is_in : ℕ → Bool) (also : IsPlanOf others q) (same : HaveSame is_in q.prelude files others) (closed : IsClosed files q.prelude q.mode is_in) where
  before : (n : ℕ) (r : Reading) → is_in n ≡ true → read_of q n ≡ Some r → IsPrelude files q.prelude also.prelude × IsRead files (outside also.prelude q.mode.language) n r
  before n r h e = readings_stay others files q.prelude is_in (same_back is_in q.prelude files others same) also.prelude q.mode.language n r h also.prelude_is (also.right n r e)

  load_within : (n m : ℕ) (r : Reading) → read_of (own is_in q) n ≡ Some r → Loads (loaded (own is_in q)) n m → is_in m ≡ true
  load_within n m r e step =
      let is = in_common is_in q n r e in
      let was = before n r is.0 is.1 in
      let all = closed n is.0 in
      let loads : map (λ l. l.file) (loads_in (read_of (own is_in q) n)) ≡ all.0 = ap (λ z. map (λ l. l.file) (loads_in z)) e ∙ all.1 also.prelude r was.0 was.1 in
      all.2 m (subst (λ xs. Contains xs m) loads step)

  pub within_own : (n m : ℕ) → is_in n ≡ true → Loads (loaded (own is_in q)) n m → is_in m ≡ true
  within_own n m h step = turn (read_of (own is_in q) n) refl
    where
      turn : (o : Option Reading) → read_of (own is_in q) n ≡ o → is_in m ≡ true
      turn None e = absurd (let c : Contains [] m = subst (λ z. Contains (map (λ l. l.file) (loads_in z)) m) e step in let no : ⊥ = omega (arith, c.1) in no)
      turn (Some r) e = load_within n m r e step

  load_read : (n m : ℕ) (r : Reading) → read_of (own is_in q) n ≡ Some r → Loads (loaded (own is_in q)) n m → (x : Reading) × (read_of (own is_in q) m ≡ Some x)
  load_read n m r e step =
      let is = in_common is_in q n r e in
      let too : Loads (loaded q) n m = subst (λ z. Contains (map (λ l. l.file) (loads_in z)) m) (e ∙ sym is.1) step in
      let other = (also.reached m).0 (load ((also.reached n).1 (r, is.1)) too) in
      (other.0, to_common is_in q m (load_within n m r e step) ∙ other.1)

  own_right : (n : ℕ) (r : Reading) → read_of (own is_in q) n ≡ Some r → IsRead files (outside also.prelude q.mode.language) n r × IsReached (own is_in q) n
  own_right n r e =
      let is = in_common is_in q n r e in
      ((before n r is.0 is.1).1, root_there is_in q n r e)

  pub own_is : IsPlanOf files (own is_in q)
  own_is = readings_make_plans files (own is_in q) also.prelude (prelude_to others files q.prelude also.prelude (λ k e. sym (same.prelude_text k e)) also.prelude_is) (kept_length is_in 0 q.reads ∙ (also.size ∙ sym (length_same files others same.labels))) own_right (root_read is_in q) load_read

stay : (P : Plan → ℕ → Type 0) → Among (λ p q n. P p n → P q n) → Stays (λ files prelude mode n. InEachPlan files prelude mode n (λ q. P q n))
stay P by_needs files others prelude mode is_in ordered same closed n h ended q also prelude_is mode_is reached =
    let here_same : HaveSame is_in q.prelude files others = subst (λ o. HaveSame is_in o files others) (sym prelude_is) same in
    let here_closed : IsClosed files q.prelude q.mode is_in = subst (λ (m : Mode). IsClosed files q.prelude m is_in) (sym mode_is) (subst (λ o. IsClosed files o mode is_in) (sym prelude_is) closed) in
    let p : Plan = own is_in q in
    let is : IsPlanOf files p = own_is files others q is_in also here_same here_closed in
    let within : (k m : ℕ) → is_in k ≡ true → Loads (loaded p) k m → is_in m ≡ true = within_own files others q is_in also here_same here_closed in
    let read = (also.reached n).0 reached in
    let there : IsReached p n = root_there is_in q n read.0 (to_common is_in q n h ∙ read.1) in
    by_needs files others p q is also (both is_in p q) (agree_by_texts files others p q is_in ordered is also refl refl here_same within) n (agree_at files others p q is_in ordered is also refl refl here_same within n h there reached) (ended p is prelude_is mode_is there)

pub ends_stay : EndsStay
ends_stay e = stay (λ p k. IsEnd p k e) (ends_by_needs e)

pub bodies_stay : BodiesStay
bodies_stay b = stay (λ p k. IsBody p k b) (one_body_by_needs b)
