-- What a plan reaches that has the roots of two others, and how its files end.
use Rattle.std.proofs.Common.{◌≡◌, ◌⊎◌, ◌↔◌, ℕ, Bool, true, List, map, refl, ap, sym, subst, inl, inr}
use Rattle.std.specs.Prelude.{Contains}
use Rattle.std.proofs.lemmas.List.Elements.{Contains-append_cases, Contains-append_left, Contains-append_right}
use Rattle.star_cache.specs.State.{Loads}
use Rattle.star_label.specs.Files.{File, IsOrdered}
use Rattle.star_plan.specs.Plan.{Plan, loaded, loads_in}
use Rattle.star_plan.specs.Reached.{IsReached, load, root}
use Rattle.star_plan.specs.Reading.{IsPlanOf}
use Rattle.star_plan.specs.Report.{Ended, IsEnded}
use Rattle.star_plan.proofs.Walks.{least}
use Rattle.star_needs.specs.Agree.{AgreeAmong}
use Rattle.star_needs.specs.Ends.{HaveSame}
use Rattle.star_needs.proofs.Among.{one_end_by_needs}
use Rattle.star_needs.proofs.Ends.{agree_at, agree_by_texts, both}
use Rattle.star_join.specs.Laws.{HasRootsOf, RootsReach}
use Rattle.star_join.proofs.Rows.{either}

abbrev pub every : ℕ → Bool
every k = true

same_files : (files : List File) (o : _) → HaveSame every o files files
same_files files o = record { labels = refl; texts = λ k h. refl; prelude_text = λ k h. refl }

module _ (files : List File) (p r : Plan) (ordered : IsOrdered files) (is : IsPlanOf files p) (also : IsPlanOf files r) (prelude : p.prelude ≡ r.prelude) (mode : p.mode ≡ r.mode) where
  -- the plans agree on all that both reach
  pub agreed : AgreeAmong (both every p r) p r
  agreed = agree_by_texts files files p r every ordered is also prelude mode (same_files files p.prelude) (λ k m h step. refl)

  pub in_agreed : (n : ℕ) → IsReached p n → IsReached r n → both every p r n ≡ true
  in_agreed n x y = agree_at files files p r every ordered is also prelude mode (same_files files p.prelude) (λ k m h step. refl) n refl x y

  pub loaded_same : (n : ℕ) → IsReached p n → IsReached r n → loaded p n ≡ loaded r n
  loaded_same n x y = ap (λ o. map (λ l. l.file) (loads_in o)) (agreed.reads n (in_agreed n x y))

  pub one_end : (n : ℕ) → IsReached p n → IsReached r n → (e : Ended) → IsEnded p n e ↔ IsEnded r n e
  one_end n x y e = one_end_by_needs files files p r is also (both every p r) agreed n (in_agreed n x y) e

  -- a plan reaches what another does, if it has its roots
  pub reached_too : ((n : ℕ) → Contains p.roots n → Contains r.roots n) → (n : ℕ) → IsReached p n → IsReached r n
  reached_too roots n x = (least p (λ k. IsReached p k × IsReached r k) (λ k c. (root c, root (roots k c))) (λ k m h step. (load h.0 step, load h.1 (subst (λ xs. Contains xs m) (loaded_same k h.0 h.1) step))) n x).1

module _ (files : List File) (p q r : Plan) (ordered : IsOrdered files) (is : IsPlanOf files p) (too : IsPlanOf files q) (also : IsPlanOf files r) (has : HasRootsOf p q r) where
  pub left_reached : (n : ℕ) → IsReached p n → IsReached r n
  left_reached n x = reached_too files p r ordered is also has.preludes.0 has.modes.0 (λ k c. subst (λ rs. Contains rs k) (sym has.roots) (Contains-append_left p.roots q.roots k c)) n x

  pub right_reached : (n : ℕ) → IsReached q n → IsReached r n
  right_reached n x = reached_too files q r ordered too also has.preludes.1 has.modes.1 (λ k c. subst (λ rs. Contains rs k) (sym has.roots) (Contains-append_right p.roots q.roots k c)) n x

  stepped : (k m : ℕ) → Loads (loaded r) k m → (IsReached p k ⊎ IsReached q k) → IsReached p m ⊎ IsReached q m
  stepped k m step (inl x) = inl (load x (subst (λ xs. Contains xs m) (sym (loaded_same files p r ordered is also has.preludes.0 has.modes.0 k x (left_reached k x))) step))
  stepped k m step (inr x) = inr (load x (subst (λ xs. Contains xs m) (sym (loaded_same files q r ordered too also has.preludes.1 has.modes.1 k x (right_reached k x))) step))

  rooted : (k : ℕ) → (Contains p.roots k ⊎ Contains q.roots k) → IsReached p k ⊎ IsReached q k
  rooted k (inl c) = inl (root c)
  rooted k (inr c) = inr (root c)

  pub from_either : (n : ℕ) → IsReached r n → IsReached p n ⊎ IsReached q n
  from_either n x = least r (λ k. IsReached p k ⊎ IsReached q k) (λ k c. rooted k (Contains-append_cases p.roots q.roots k (subst (λ rs. Contains rs k) has.roots c))) (λ k m h step. stepped k m step h) n x

pub roots_reach : RootsReach
roots_reach files p q r ordered is too also has n =
    (from_either files p q r ordered is too also has n, either (left_reached files p q r ordered is too also has n) (right_reached files p q r ordered is too also has n))
