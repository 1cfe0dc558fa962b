-- The report for the roots of two reports is their join.
use Rattle.std.proofs.Common.{arith, ◌≡◌, ◌⊎◌, ◌↔◌, ◌+◌, ℕ, List, length, map, ap, sym, subst, ◌∙◌, inl, inr}
use Rattle.std.specs.Prelude.{Contains}
use Rattle.std.proofs.lemmas.List.Elements.{All-contains}
use Rattle.star_label.specs.Files.{File, IsOrdered}
use Rattle.star_plan.specs.Plan.{Plan}
use Rattle.star_plan.specs.Reached.{IsReached}
use Rattle.star_plan.specs.Reading.{IsPlanOf}
use Rattle.star_plan.specs.Report.{IsEnded, IsReport, Module}
use Rattle.star_plan.proofs.Reports.{one-ended}
use Rattle.star_join.specs.Join.{Agree, join, shared}
use Rattle.star_join.specs.Laws.{HasRootsOf, RootsAreASet, RootsGrow, RootsJoin, file_of}
use Rattle.star_join.proofs.Joins.{counts, facts_agree, facts_join, found, join_is}
use Rattle.star_join.proofs.Reached.{from_either, left_reached, one_end, reached_too, right_reached}
use Rattle.star_join.proofs.Rows.{mapped, same_up, to_up}

abbrev pub Ends : Plan → Module → Type 0
Ends plan m = IsEnded plan m.file m.ended

pub same_module : (plan : Plan) (m k : Module) → m.file ≡ k.file → Ends plan m → Ends plan k → m ≡ k
same_module plan m k files own its =
    let ends : m.ended ≡ k.ended = one-ended plan m.file m.ended k.ended own (subst (λ z. IsEnded plan z k.ended) (sym files) its) in
    ap (λ z. let r : Module = record { file = z; ended = m.ended } in r) files ∙ ap (λ z. let r : Module = record { file = k.file; ended = z } in r) ends

pub reached_in : (plan : Plan) (b : ℕ) (ms : List Module) → IsReport plan b ms → (m : Module) → Contains ms m → IsReached plan m.file
reached_in plan b ms h m c = (h.all m.file).1 (mapped file_of m ms c)

pub ended_in : (plan : Plan) (b : ℕ) (ms : List Module) → IsReport plan b ms → (m : Module) → Contains ms m → Ends plan m
ended_in plan b ms h m c = All-contains (Ends plan) ms m h.each_ended c

module _ (files : List File) (p q r : Plan) (ordered : IsOrdered files) (is : IsPlanOf files p) (too : IsPlanOf files q) (also : IsPlanOf files r) (has : HasRootsOf p q r) (b c d : ℕ) (ms ks js : List Module) (x : IsReport p b ms) (y : IsReport q c ks) (z : IsReport r d js) where
  pub left_ends : (m : Module) → Contains ms m → Ends r m
  left_ends m h =
      let at = reached_in p b ms x m h in
      (one_end files p r ordered is also has.preludes.0 has.modes.0 m.file at (left_reached files p q r ordered is too also has m.file at) m.ended).0 (ended_in p b ms x m h)

  pub right_ends : (m : Module) → Contains ks m → Ends r m
  right_ends m h =
      let at = reached_in q c ks y m h in
      (one_end files q r ordered too also has.preludes.1 has.modes.1 m.file at (right_reached files p q r ordered is too also has m.file at) m.ended).0 (ended_in q c ks y m h)

  in_one : (n : ℕ) → (IsReached p n ⊎ IsReached q n) → Contains (map file_of ms) n ⊎ Contains (map file_of ks) n
  in_one n (inl h) = inl ((x.all n).0 h)
  in_one n (inr h) = inr ((y.all n).0 h)

  in_joint : (n : ℕ) → (Contains (map file_of ms) n ⊎ Contains (map file_of ks) n) → IsReached r n
  in_joint n (inl h) = left_reached files p q r ordered is too also has n ((x.all n).1 h)
  in_joint n (inr h) = right_reached files p q r ordered is too also has n ((y.all n).1 h)

  pub numbers : (n : ℕ) → Contains (map file_of js) n ↔ (Contains (map file_of ms) n ⊎ Contains (map file_of ks) n)
  numbers n = (λ h. in_one n (from_either files p q r ordered is too also has n ((z.all n).1 h)), λ h. (z.all n).0 (in_joint n h))

  pub agree : Agree file_of ms ks
  agree = facts_agree file_of (Ends r) (same_module r) ms ks left_ends right_ends

  pub joined : js ≡ join file_of ms ks
  joined = join_is file_of ms ks js x.in_order y.in_order agree (facts_join file_of (Ends r) (same_module r) ms ks js z.in_order left_ends right_ends (ended_in r d js z) numbers)

  pub begun : d + shared file_of ms ks ≡ b + c
  begun =
      let own = z.begun_are in
      let mine = x.begun_are in
      let yours = y.begun_are in
      let long : length js ≡ length (join file_of ms ks) = ap length joined in
      let all = counts file_of ms ks (to_up file_of ms x.in_order) (to_up file_of ks y.in_order) in
      omega (arith, own, mine, yours, long, all)

pub roots_join : RootsJoin
roots_join files p q r ordered is too also has b c d ms ks js x y z =
    (agree files p q r ordered is too also has b c d ms ks js x y z, joined files p q r ordered is too also has b c d ms ks js x y z, begun files p q r ordered is too also has b c d ms ks js x y z)

-- ---- more roots

pub roots_grow : RootsGrow
roots_grow files p r ordered is also has b d ms js x z m h =
    let reach : (n : ℕ) → IsReached p n → IsReached r n = reached_too files p r ordered is also has.prelude has.mode has.roots in
    let ends : (k : Module) → Contains ms k → Ends r k = λ k c. (let at = reached_in p b ms x k c in (one_end files p r ordered is also has.prelude has.mode k.file at (reach k.file at) k.ended).0 (ended_in p b ms x k c)) in
    found file_of (Ends r) (same_module r) js m (ended_in r d js z) (ends m h) ((z.all m.file).0 (reach m.file (reached_in p b ms x m h)))

pub roots_are_a_set : RootsAreASet
roots_are_a_set files p q ordered is too has back b c ms ks x y =
    let same : ms ≡ ks = same_up file_of ms ks (to_up file_of ms x.in_order) (to_up file_of ks y.in_order) (roots_grow files p q ordered is too has b c ms ks x y) (roots_grow files q p ordered too is back c b ks ms y x) in
    (x.begun_are ∙ (ap length same ∙ sym y.begun_are), same)
