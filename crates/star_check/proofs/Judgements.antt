-- Why files fail that have not run.
use Rattle.std.proofs.Common.{arith, ◌≡◌, ◌<◌, ℕ, zero, suc, List, [], ◌∷◌, length, map, get_or, Option, Some, None, refl, sym, subst, ◌∙◌}
use Rattle.std.specs.Prelude.{Contains, slice_get}
use Rattle.std.specs.Option.{option_flatten, option_map}
use Rattle.std.proofs.lemmas.Option.{get_or_from_slice_get, slice_get-get_or, slice_get-map, slice_get_within}
use Rattle.star_label.specs.Files.{File}
use Rattle.star_scope.specs.declared.loads.Load.{Load}
use Rattle.star_plan.specs.Causes.{Cause, Culprit, Cycle}
use Rattle.star_plan.specs.Plan.{Faulty, Plan, Reading, Sound, StaticFault, loaded, loads_in, read_of, tree_in}
use Rattle.star_plan.specs.Reached.{IsReached, load}
use Rattle.star_plan.specs.Reading.{IsPlanOf}
use Rattle.star_plan.specs.Results.{IsGoodAt, result}
use Rattle.star_plan.proofs.Causes.{lead_end}
use Rattle.star_plan.proofs.Outcomes.{below, never}
use Rattle.star_plan.proofs.Seen.{result-sound}
use Rattle.star_plan.proofs.Stay.{good_is}
use Rattle.star_tree.specs.declared.tree.Statement.{Statement}
use Rattle.star_cause.specs.Ways.{EndsIn, Goes, Nexts, Way}
use Rattle.star_sound.specs.Sound as sound
use Rattle.star_sound.specs.declared.sound.Prospect.{Prospect}
use Rattle.star_sound.specs.declared.sound.Prospect.TheVariants as prospect
use Rattle.star_check.specs.Check.{FailsBy, GoodIsSound, IsCause, IsFirstLack, IsSound, Lead, needs, needs_in}

contained : (xs : List ℕ) (i x : ℕ) → slice_get xs i ≡ Some x → Contains xs x
contained xs i x at = (i, slice_get_within xs i x at, get_or_from_slice_get xs i x x at)

-- ---- the needs of a plan's files

need_at : (plan : Plan) (n : ℕ) → slice_get (needs plan) n ≡ option_map needs_in (slice_get plan.reads n)
need_at plan n = slice_get-map needs_in plan.reads n

loads_needed : (o : Option (Option Reading)) (ns : List ℕ) → option_map needs_in o ≡ Some (Some ns) → ns ≡ map (λ (l : Load). l.file) (loads_in (option_flatten o))
loads_needed None ns e = absurd (let no : ⊥ = cc in no)
loads_needed (Some None) ns e = absurd (let no : ⊥ = cc in no)
loads_needed (Some (Some (Faulty f))) ns e = absurd (let no : ⊥ = cc in no)
loads_needed (Some (Some (Sound ss ls))) ns e = let same : map (λ (l : Load). l.file) ls ≡ ns = cc in sym same

-- a file needs the files that it loads
pub needs_loaded : (plan : Plan) (n : ℕ) (ns : List ℕ) → sound.NeedsAll (needs plan) n ns → ns ≡ loaded plan n
needs_loaded plan n ns has = loads_needed (slice_get plan.reads n) ns (sym (need_at plan n) ∙ has)

barred_needs : (o : Option (Option Reading)) (f : StaticFault) (ns : List ℕ) → option_flatten o ≡ Some (Faulty f) → option_map needs_in o ≡ Some (Some ns) → ⊥
barred_needs None f ns at e = let no : ⊥ = cc in no
barred_needs (Some None) f ns at e = let no : ⊥ = cc in no
barred_needs (Some (Some (Faulty g))) f ns at e = let no : ⊥ = cc in no
barred_needs (Some (Some (Sound ss ls))) f ns at e = let no : ⊥ = cc in no

-- one with a static fault is barred
pub faulty_barred : (plan : Plan) (n : ℕ) (f : StaticFault) (ns : List ℕ) → read_of plan n ≡ Some (Faulty f) → sound.NeedsAll (needs plan) n ns → ⊥
faulty_barred plan n f ns at has = barred_needs (slice_get plan.reads n) f ns at (sym (need_at plan n) ∙ has)

sound_needs : (o : Option (Option Reading)) (r : Reading) → option_flatten o ≡ Some r → ((f : StaticFault) → r ≡ Faulty f → ⊥) → (ns : List ℕ) × (option_map needs_in o ≡ Some (Some ns))
sound_needs None r at none = absurd (let no : ⊥ = cc in no)
sound_needs (Some None) r at none = absurd (let no : ⊥ = cc in no)
sound_needs (Some (Some (Faulty g))) r at none = absurd (none g (let same : Faulty g ≡ r = cc in sym same))
sound_needs (Some (Some (Sound ss ls))) r at none = (map (λ (l : Load). l.file) ls, refl)

-- one that was read and has no static fault is not
pub unbarred : (plan : Plan) (n : ℕ) (r : Reading) → read_of plan n ≡ Some r → ((f : StaticFault) → r ≡ Faulty f → ⊥) → (ns : List ℕ) × sound.NeedsAll (needs plan) n ns
unbarred plan n r at none = let found = sound_needs (slice_get plan.reads n) r at none in (found.0, need_at plan n ∙ found.1)

-- ---- files that are not sound

same_needs : (plan : Plan) (n : ℕ) (ns ms : List ℕ) → sound.NeedsAll (needs plan) n ns → sound.NeedsAll (needs plan) n ms → ns ≡ ms
same_needs plan n ns ms a b =
    let both : Some (Some ns) ≡ Some (Some ms) = sym a ∙ b in
    let same : ns ≡ ms = cc in
    same

lack_with : (plan : Plan) (n : ℕ) → IsSound plan n → (ms : List ℕ) (i : ℕ) → sound.NeedsAll (needs plan) n ms → sound.IsFirstLack (needs plan) ms i → ⊥
lack_with plan n (sound.sound {ns = ns} has each) ms i its first =
    let same : ms ≡ ns = same_needs plan n ms ns its has in
    first.lacks (each first.file (contained ns i first.file (subst (λ l. slice_get l i ≡ Some first.file) same first.there)))

-- a file that has a load which is not sound is not sound
pub lack_unsound : (plan : Plan) (n i : ℕ) → IsFirstLack plan n i → IsSound plan n → ⊥
lack_unsound plan n i (ms, its, first) is = lack_with plan n is ms i its first

fault_with : (plan : Plan) (n : ℕ) (f : StaticFault) → read_of plan n ≡ Some (Faulty f) → IsSound plan n → ⊥
fault_with plan n f at (sound.sound {ns = ns} has each) = faulty_barred plan n f ns at has

pub fault_unsound : (plan : Plan) (n : ℕ) (f : StaticFault) → read_of plan n ≡ Some (Faulty f) → IsSound plan n → ⊥
fault_unsound plan n f at is = fault_with plan n f at is

-- the file by which another fails is not sound, and it is reached if the other one is
fails_unsound : (plan : Plan) (n k : ℕ) → FailsBy plan n k → IsSound plan k → ⊥
fails_unsound plan n k (i, (ms, its, first), at) is =
    let here : slice_get (loaded plan n) i ≡ Some first.file = subst (λ l. slice_get l i ≡ Some first.file) (needs_loaded plan n ms its) first.there in
    let both : Some first.file ≡ Some k = sym here ∙ at in
    let same : first.file ≡ k = cc in
    first.lacks (subst (IsSound plan) (sym same) is)

fails_reached : (plan : Plan) (n k : ℕ) → FailsBy plan n k → IsReached plan n → IsReached plan k
fails_reached plan n k (i, lack, at) reached = load reached (contained (loaded plan n) i k at)

end_reached : (plan : Plan) (n m : ℕ) (xs : List ℕ) → Lead plan n xs m → IsReached plan n → IsReached plan m
end_reached plan = lead_end (FailsBy plan) (IsReached plan) (fails_reached plan)

end_unsound : (plan : Plan) (n m : ℕ) (xs : List ℕ) → Lead plan n xs m → (IsSound plan n → ⊥) → IsSound plan m → ⊥
end_unsound plan = lead_end (FailsBy plan) (λ x. IsSound plan x → ⊥) (λ j k fails bad. fails_unsound plan j k fails)

-- ---- causes

lead_of : (plan : Plan) (nexts : Nexts) → ((n m : ℕ) → Goes nexts n m → FailsBy plan n m) → (n m : ℕ) (xs : List ℕ) → Way nexts n xs m → Lead plan n xs m
lead_of plan nexts are n m [] way = way
lead_of plan nexts are n m (x ∷ xs) way = (way.0, (way.1.0, are n way.1.0 way.1.1, lead_of plan nexts are way.1.0 m xs way.1.2))

module _ (files : List File) (plan : Plan) (nexts : Nexts) (ps : List Prospect) (planned : IsPlanOf files plan) (sized : length ps ≡ length plan.reads)
    (are_ps : (n : ℕ) (p : Prospect) → slice_get ps n ≡ Some p → sound.IsProspect (needs plan) n p)
    (right : (n m : ℕ) → Goes nexts n m → FailsBy plan n m)
    (all : (n i : ℕ) → slice_get ps n ≡ Some (prospect.Lacks i) → (m : ℕ) × Goes nexts n m) where
  reading_within : (n : ℕ) (o : Option (Option Reading)) (r : Reading) → slice_get plan.reads n ≡ o → option_flatten o ≡ Some r → n < length plan.reads
  reading_within n None r at e = absurd (let no : ⊥ = cc in no)
  reading_within n (Some x) r at e = slice_get_within plan.reads n x at

  by_prospect : (m : ℕ) (r : Reading) → read_of plan m ≡ Some r → ((k : ℕ) → Goes nexts m k → ⊥) → (IsSound plan m → ⊥) → (p : Prospect) → slice_get ps m ≡ Some p → (f : StaticFault) × (read_of plan m ≡ Some (Faulty f))
  by_prospect m (Faulty f) at last bad p has = (f, at)
  by_prospect m (Sound ss ls) at last bad prospect.Barred has =
      let its = unbarred plan m (Sound ss ls) at (λ f e. let no : ⊥ = cc in no) in
      absurd (are_ps m prospect.Barred has its.0 its.1)
  by_prospect m (Sound ss ls) at last bad prospect.Sound has = absurd (bad (are_ps m prospect.Sound has))
  by_prospect m (Sound ss ls) at last bad (prospect.Lacks i) has = let go = all m i has in absurd (last go.0 go.1)

  own_fault : (m : ℕ) → IsReached plan m → ((k : ℕ) → Goes nexts m k → ⊥) → (IsSound plan m → ⊥) → (f : StaticFault) × (read_of plan m ≡ Some (Faulty f))
  own_fault m reached last bad =
      let read = (planned.reached m).0 reached in
      let inside : m < length plan.reads = reading_within m (slice_get plan.reads m) read.0 refl read.1 in
      let d : Prospect = prospect.Barred in
      by_prospect m read.0 read.1 last bad (get_or ps m d) (slice_get-get_or ps m d (omega (arith, inside, sized)))

  pub cause_is : (n : ℕ) (cause : Cause) → EndsIn nexts n cause → IsReached plan n → (IsSound plan n → ⊥) → IsCause plan n cause
  cause_is n (Culprit m) (way, leads, last) reached bad =
      let lead : Lead plan n way m = lead_of plan nexts right n m way leads in
      (way, lead, own_fault m (end_reached plan n m way lead reached) last (end_unsound plan n m way lead bad))
  cause_is n (Cycle []) ends reached bad = absurd ends
  cause_is n (Cycle (m ∷ ms)) (way, leads, ring, differ) reached bad = (way, lead_of plan nexts right n m way leads, lead_of plan nexts right m m (m ∷ ms) ring, differ)

-- ---- files that become ok in a run

tree_needs : (o : Option (Option Reading)) (ss : List Statement) → tree_in (option_flatten o) ≡ Some ss → option_map needs_in o ≡ Some (Some (map (λ (l : Load). l.file) (loads_in (option_flatten o))))
tree_needs None ss e = absurd (let no : ⊥ = cc in no)
tree_needs (Some None) ss e = absurd (let no : ⊥ = cc in no)
tree_needs (Some (Some (Faulty f))) ss e = absurd (let no : ⊥ = cc in no)
tree_needs (Some (Some (Sound xs ls))) ss e = refl

good_at : (plan : Plan) (d n : ℕ) → IsGoodAt plan d n → IsSound plan n
good_at plan zero n good = absurd (never plan n good)
good_at plan (suc d) n (m, good) =
    let found = result-sound plan (suc d) n m (good_is (result plan (suc d) n) m good) in
    let has : sound.NeedsAll (needs plan) n (loaded plan n) = need_at plan n ∙ tree_needs (slice_get plan.reads n) found.0 found.1 in
    sound.sound has (λ k c. good_at plan d k (below plan d n k (m, good) c))

pub good_sound : GoodIsSound
good_sound plan n (d, good) = good_at plan d n good
