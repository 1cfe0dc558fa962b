-- Outcomes that stay, and outcomes that a run leaves.
use Rattle.std.proofs.Common.{◌≡◌, ◌&&◌, ℕ, zero, suc, ◌<◌, Bool, true, false, List, [], ◌∷◌, length, map, Contains, Option, Some, get_or, slice_get, slice_index_or, refl, sym, subst, ap, ◌∙◌, arith}
use Rattle.std.specs.Arc.{arc_value}
use Rattle.std.specs.List.{list_all}
use Rattle.std.specs.Prelude.{slice_set}
use Rattle.std.proofs.lemmas.List.{get_or-set_other}
use Rattle.star_dialect.specs.declared.Mode.{Mode}
use Rattle.star_label.specs.Files.{File, IsOrdered, label_at, text_at}
use Rattle.star_reading.proofs.Finds.{by_cases, same_or_not}
use Rattle.star_cache.specs.State.{Loads}
use Rattle.star_cache.specs.Walk.{Walk}
use Rattle.star_plan.specs.Plan.{Plan, loaded}
use Rattle.star_plan.specs.Reached.{IsReached, load}
use Rattle.star_plan.specs.Reading.{IsPlanOf}
use Rattle.star_outcome.specs.GoodEnds.{AreGoodEndsOf, AreReachedEnds}
use Rattle.star_outcome.specs.declared.good_end.GoodEnd.{GoodEnd}
use Rattle.star_outcome.proofs.GoodEnds.{fresh_body, good_by}
use Rattle.star_needs.specs.Ends.{AreLoadsUnder, HaveSame, IsClosed}
use Rattle.star_needs.proofs.Among.{to_common}
use Rattle.star_needs.proofs.Ends.{bodies_for_all_roots, bodies_stay, loads_for_all_roots, loads_in_plans, loads_stay, own, own_is, root_there, same_back}
use Rattle.star_memo.specs.Lasting.{AreEndsNow, IsEndNow}
use Rattle.star_memo.specs.Outcomes.{AreMarkedOf, AreOutcomes, AreStaying, HasRun, HaveLabels, IsOutcome, IsStaying, is_marked}

both : (a b : Bool) → (a && b) ≡ true → (a ≡ true) × (b ≡ true)
both true b h = (refl, h)
both false b h = cc

one_at : (p : ℕ → Bool) (ns : List ℕ) (n k : ℕ) → k < length ns → slice_index_or ns k n ≡ n → list_all p ns ≡ true → p n ≡ true
one_at p [] n k less e h = absurd (omega (arith, less))
one_at p (m ∷ ms) n zero less e h = ap p (sym e) ∙ (both (p m) (list_all p ms) h).0
one_at p (m ∷ ms) n (suc k) less e h = one_at p ms n k (omega (arith, less)) e (both (p m) (list_all p ms) h).1

one_of : (p : ℕ → Bool) (ns : List ℕ) (n : ℕ) → list_all p ns ≡ true → Contains ns n → p n ≡ true
one_of p ns n h c = one_at p ns n c.0 c.1 c.2 h

-- the marked files have the same texts in both rows, and among them all that they load
same : (files others : List File) (prelude : Option ℕ) (all : List (Option GoodEnd)) (marks : List Bool) → HaveLabels files others → ((q : ℕ) → prelude ≡ Some q → text_at files q ≡ text_at others q) → AreStaying files others all marks → HaveSame (is_marked marks) prelude files others
same files others prelude all marks l p h = record { labels = l; texts = λ n m. (h n m).text; prelude_text = p }

closed : (files others : List File) (prelude : Option ℕ) (mode : Mode) (all : List (Option GoodEnd)) (marks : List Bool) → AreOutcomes files prelude mode all → AreStaying files others all marks → IsClosed files prelude mode (is_marked marks)
closed files others prelude mode all marks are h = λ n m.
    let s = h n m in (
      s.end.loads.items,
      (are n s.end s.kept).loads,
      λ k c. one_of (is_marked marks) s.end.loads.items k s.loads c,
    )

-- Whatever a marked file needs is marked, so all texts that it needs are as they were. In each plan of the files these
-- are the texts of all files that it leads to by loads.
pub texts_stay : (files others : List File) (prelude : Option ℕ) (mode : Mode) (all : List (Option GoodEnd)) (marks : List Bool) → AreOutcomes files prelude mode all → AreStaying files others all marks
    → (plan : Plan) → IsPlanOf files plan → plan.prelude ≡ prelude → plan.mode ≡ mode
    → (k n m : ℕ) → Walk (Loads (loaded plan)) k n m → IsReached plan n → is_marked marks n ≡ true → (is_marked marks m ≡ true) × (text_at files m ≡ text_at others m)
texts_stay files others prelude mode all marks are h plan planned p s zero n m w reached marked = subst (λ i. (is_marked marks i ≡ true) × (text_at files i ≡ text_at others i)) w (marked, (h n marked).text)
texts_stay files others prelude mode all marks are h plan planned p s (suc k) n m (u, first, rest) reached marked =
    let stay = h n marked in
    let loads : stay.end.loads.items ≡ loaded plan n = loads_in_plans files prelude mode n stay.end.loads.items (are n stay.end stay.kept).loads plan planned p s reached in
    let among : Contains stay.end.loads.items u = subst (λ ns. Contains ns u) (sym loads) first in
    texts_stay files others prelude mode all marks are h plan planned p s k u m rest (load reached first) (one_of (is_marked marks) stay.end.loads.items u stay.loads among)

-- so they are closed among the files that take their place
closed_too : (files others : List File) (prelude : Option ℕ) (mode : Mode) (is_in : ℕ → Bool) → HaveSame is_in prelude files others → IsClosed files prelude mode is_in → IsClosed others prelude mode is_in
closed_too files others prelude mode is_in s c = λ n h.
    let own_loads = c n h in (own_loads.0, loads_stay files others prelude mode is_in s n own_loads.0 h own_loads.1, own_loads.2)

-- a run that reaches a marked file has one of the files that take their place
run_stays : (files others : List File) (prelude : Option ℕ) (mode : Mode) (is_in : ℕ → Bool) → HaveSame is_in prelude files others → IsClosed files prelude mode is_in → (n : ℕ) → is_in n ≡ true → HasRun files prelude mode n → HasRun others prelude mode n
run_stays files others prelude mode is_in s c n m (p, is, at, paid, reached) =
    let back : HaveSame is_in p.prelude others files = subst (λ o. HaveSame is_in o others files) (sym at) (same_back is_in prelude files others s) in
    let again : IsClosed others p.prelude p.mode is_in = subst (λ (m : Mode). IsClosed others p.prelude m is_in) (sym paid) (subst (λ o. IsClosed others o mode is_in) (sym at) (closed_too files others prelude mode is_in s c)) in
    let one = (is.reached n).0 reached in
    (own is_in p, own_is others files p is_in is back again, at, paid, root_there is_in p n one.0 (to_common is_in p n m ∙ one.1))

stays : (files others : List File) (prelude : Option ℕ) (mode : Mode) (all : List (Option GoodEnd)) (marks : List Bool) → IsOrdered files → HaveLabels files others → ((q : ℕ) → prelude ≡ Some q → text_at files q ≡ text_at others q) → AreOutcomes files prelude mode all → AreStaying files others all marks → (n : ℕ) (e : GoodEnd) → is_marked marks n ≡ true → slice_get all n ≡ Some (Some e) → IsOutcome others prelude mode n e
stays files others prelude mode all marks ordered l p are h n e m k =
    let s = same files others prelude all marks l p h in
    let c = closed files others prelude mode all marks are h in
    let o = are n e k in
    record {
      loads = loads_stay files others prelude mode (is_marked marks) s n e.loads.items m o.loads;
      body = bodies_stay (arc_value e.body) files others prelude mode (is_marked marks) ordered s c n m o.body;
      run = run_stays files others prelude mode (is_marked marks) s c n m o.run;
      fresh = o.fresh;
    }

-- the outcomes that are left stay right if the files change so
pub all_stay : (files others : List File) (prelude : Option ℕ) (mode : Mode) (before after : List (Option GoodEnd)) (marks : List Bool) → IsOrdered files → HaveLabels files others → ((q : ℕ) → prelude ≡ Some q → text_at files q ≡ text_at others q) → AreOutcomes files prelude mode before → AreStaying files others before marks → AreMarkedOf marks before after → AreOutcomes others prelude mode after
all_stay files others prelude mode before after marks ordered l p are h of = λ n e k.
    let o = of n e k in stays files others prelude mode before marks ordered l p are h n e o.0 o.1

-- an outcome is an end as it is now
pub outcome_now : (files : List File) (prelude : Option ℕ) (mode : Mode) (n : ℕ) (e : GoodEnd) → IsOutcome files prelude mode n e → IsEndNow files prelude mode n e
outcome_now files prelude mode n e o = record {
  loads = o.loads;
  end = λ plan planned p s reached. good_by plan n e (loads_in_plans files prelude mode n e.loads.items o.loads plan planned p s reached) (o.body plan planned p s reached);
}

pub outcomes_now : (files : List File) (prelude : Option ℕ) (mode : Mode) (all : List (Option GoodEnd)) → AreOutcomes files prelude mode all → AreEndsNow files prelude mode all
outcomes_now files prelude mode all are = λ n e k. outcome_now files prelude mode n e (are n e k)

-- ends as they are now are good ends in each plan of the files, whatever its roots
pub ends_of_now : (files : List File) (roots : List ℕ) (prelude : Option ℕ) (mode : Mode) (all : List (Option GoodEnd)) → AreEndsNow files prelude mode all → AreGoodEndsOf files roots prelude mode all
ends_of_now files roots prelude mode all are = λ plan planned r p s n e k reached. (are n e k).end plan planned p s reached

-- so are outcomes
pub ends_of : (files : List File) (roots : List ℕ) (prelude : Option ℕ) (mode : Mode) (all : List (Option GoodEnd)) → AreOutcomes files prelude mode all → AreGoodEndsOf files roots prelude mode all
ends_of files roots prelude mode all are = ends_of_now files roots prelude mode all (outcomes_now files prelude mode all are)

-- the good ends that a run leaves are outcomes of the files, whatever its roots were
pub left_by : (files : List File) (plan : Plan) (all : List (Option GoodEnd)) → IsOrdered files → IsPlanOf files plan → AreReachedEnds plan all → AreOutcomes files plan.prelude plan.mode all
left_by files plan all ordered planned are = λ n e k.
    let o = are n e k in
    record {
      loads = subst (λ ns. AreLoadsUnder files plan.prelude plan.mode n ns) (sym o.1.loads) (loads_for_all_roots files plan ordered planned n o.0);
      body = bodies_for_all_roots files plan ordered planned n (arc_value e.body) o.0 (fresh_body plan n e o.1 o.2);
      run = (plan, planned, refl, refl, o.0);
      fresh = o.2;
    }

-- as many files, with the same label at each number, have the same labels in order
pub labels_to : (files others : List File) → length files ≡ length others → ((n : ℕ) → n < length files → label_at files n ≡ label_at others n) → HaveLabels files others
labels_to [] [] e h = refl
labels_to [] (y ∷ ys) e h = absurd (let no : ⊥ = cc in no)
labels_to (x ∷ xs) [] e h = absurd (let no : ⊥ = cc in no)
labels_to (x ∷ xs) (y ∷ ys) e h =
    let size : length xs ≡ length ys = cc in
    ap (λ z. z ∷ map (λ (f : File). f.0) xs) (h 0 (omega arith)) ∙ ap (λ zs. y.0 ∷ zs) (labels_to xs ys size (λ n less. h (suc n) (omega (arith, less))))

-- one more mark

pub more_marked : (marks : List Bool) (n k : ℕ) → is_marked marks k ≡ true → is_marked (slice_set marks n true) k ≡ true
more_marked [] n k h = h
more_marked (m ∷ ms) zero zero h = refl
more_marked (m ∷ ms) zero (suc k) h = h
more_marked (m ∷ ms) (suc n) zero h = h
more_marked (m ∷ ms) (suc n) (suc k) h = more_marked ms n k h

all_marked : (marks : List Bool) (n : ℕ) (ns : List ℕ) → list_all (is_marked marks) ns ≡ true → list_all (is_marked (slice_set marks n true)) ns ≡ true
all_marked marks n [] h = refl
all_marked marks n (k ∷ ks) h =
    let b = both (is_marked marks k) (list_all (is_marked marks) ks) h in
    let one = more_marked marks n k b.0 in
    let rest = all_marked marks n ks b.1 in
    cc

still_staying : (files others : List File) (all : List (Option GoodEnd)) (marks : List Bool) (n k : ℕ) → IsStaying files others all marks k → IsStaying files others all (slice_set marks n true) k
still_staying files others all marks n k s = record {
  text = s.text;
  end = s.end;
  kept = s.kept;
  loads = all_marked marks n s.end.loads.items s.loads;
}

pub one_marked : (files others : List File) (all : List (Option GoodEnd)) (marks : List Bool) (n : ℕ) → AreStaying files others all marks → IsStaying files others all marks n → AreStaying files others all (slice_set marks n true)
one_marked files others all marks n are s = λ k h. by_cases (same_or_not k n)
    (λ e. subst (λ i. IsStaying files others all (slice_set marks n true) i) (sym e) (still_staying files others all marks n n s))
    (λ ne. still_staying files others all marks n k (are k (sym (get_or-set_other marks n k true false ne) ∙ h)))

-- an item at its place
pub in_place : (all : List (Option GoodEnd)) (n : ℕ) (d : Option GoodEnd) (e : GoodEnd) → n < length all → get_or all n d ≡ Some e → slice_get all n ≡ Some (Some e)
in_place [] n d e less h = absurd (omega (arith, less))
in_place (x ∷ xs) zero d e less h = ap Some h
in_place (x ∷ xs) (suc n) d e less h = in_place xs n d e (omega (arith, less)) h
