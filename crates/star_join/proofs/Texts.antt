-- The text for the roots of two reports has the join of their modules.
use Rattle.std.proofs.Common.{arith, ◌≡◌, ◌⊎◌, ◌↔◌, ◌||◌, ℕ, suc, Bool, true, not, List, [], ◌∷◌, length, map, refl, ap, sym, subst, ◌∙◌, inl, inr}
use Rattle.std.specs.Prelude.{Contains, nat_eq}
use Rattle.std.specs.List.{list_any}
use Rattle.std.specs.List.Sorted.{IsStrictlyIncreasing}
use Rattle.std.proofs.lemmas.List.Elements.{All-contains}
use Rattle.star_label.specs.Files.{File, IsOrdered}
use Rattle.star_plan.specs.Plan.{Plan}
use Rattle.star_plan.specs.Reached.{root}
use Rattle.star_plan.specs.Reading.{IsPlanOf}
use Rattle.star_plan.specs.Report.{Module}
use Rattle.star_report.specs.Wanted.{AreMore, Full, IsFullText, is_ok, is_shown, whole_text}
use Rattle.star_report.specs.declared.wanted.Wanted.{Wanted}
use Rattle.star_report.proofs.OneText.{one_more}
use Rattle.star_join.specs.Join.{Agree, InOrder, IsJoin, join}
use Rattle.star_join.specs.Laws.{HasRootsOf, file_of}
use Rattle.star_join.specs.Texts.{AreJoined, TextsJoin, full_file, told}
use Rattle.star_join.proofs.Joins.{counts, facts_agree, facts_join, found, join_is}
use Rattle.star_join.proofs.More.{more_to}
use Rattle.star_join.proofs.Reached.{left_reached, right_reached}
use Rattle.star_join.proofs.Reports.{Ends, ended_in, left_ends, numbers, reached_in, right_ends, same_module}
use Rattle.star_join.proofs.Rows.{mapped, to_up}
use Rattle.star_join.proofs.Shown.{any_both, any_there, filter_join, left_or, or_left, or_right, or_true, order_filter, right_or, there}

abbrev pub modules_in : List Full → List Module
modules_in fs = map (λ (f : Full). f.shown) fs

pub same_numbers : (fs : List Full) → map file_of (modules_in fs) ≡ map full_file fs
same_numbers [] = refl
same_numbers (f ∷ fs) = ap (λ ns. f.shown.file ∷ ns) (same_numbers fs)

same_length : (fs : List Full) → length (modules_in fs) ≡ length fs
same_length [] = refl
same_length (f ∷ fs) = ap suc (same_length fs)

-- what a module with its further members is in a plan
abbrev pub Is : Wanted → List File → Plan → Full → Type 0
Is wanted files plan f = Ends plan f.shown × AreMore wanted files plan f.shown.file f.more

pub one_full : (wanted : Wanted) (files : List File) (plan : Plan) (f g : Full) → full_file f ≡ full_file g → Is wanted files plan f → Is wanted files plan g → f ≡ g
one_full wanted files plan f g e h k =
    let shown : f.shown ≡ g.shown = same_module plan f.shown g.shown e h.0 k.0 in
    let more : f.more ≡ g.more = one_more wanted files plan f.shown.file f.more g.more h.1 (subst (λ n. AreMore wanted files plan n g.more) (sym e) k.1) in
    ap (λ m. let x : Full = record { shown = m; more = f.more } in x) shown ∙ ap (λ m. let x : Full = record { shown = g.shown; more = m } in x) more

module _ (wanted : Wanted) (files : List File) (p q r : Plan) (ordered : IsOrdered files) (is : IsPlanOf files p) (too : IsPlanOf files q) (also : IsPlanOf files r) (has : HasRootsOf p q r) (a b c : List ℕ) (x : IsFullText wanted files p a) (y : IsFullText wanted files q b) (z : IsFullText wanted files r c) where
  in_left : (f : Full) → Contains x.fulls f → Contains (modules_in x.fulls) f.shown
  in_left f h = mapped (λ (g : Full). g.shown) f x.fulls h

  in_right : (f : Full) → Contains y.fulls f → Contains (modules_in y.fulls) f.shown
  in_right f h = mapped (λ (g : Full). g.shown) f y.fulls h

  lefts : (f : Full) → Contains x.fulls f → Is wanted files r f
  lefts f h =
      let at = reached_in p x.begun (modules_in x.fulls) x.report f.shown (in_left f h) in (
        left_ends files p q r ordered is too also has x.begun y.begun z.begun (modules_in x.fulls) (modules_in y.fulls) (modules_in z.fulls) x.report y.report z.report f.shown (in_left f h),
        more_to files p r ordered is also has.preludes.0 has.modes.0 f.shown.file at (left_reached files p q r ordered is too also has f.shown.file at) wanted f.more (All-contains (λ (g : Full). AreMore wanted files p g.shown.file g.more) x.fulls f x.more h),
      )

  rights : (f : Full) → Contains y.fulls f → Is wanted files r f
  rights f h =
      let at = reached_in q y.begun (modules_in y.fulls) y.report f.shown (in_right f h) in (
        right_ends files p q r ordered is too also has x.begun y.begun z.begun (modules_in x.fulls) (modules_in y.fulls) (modules_in z.fulls) x.report y.report z.report f.shown (in_right f h),
        more_to files q r ordered too also has.preludes.1 has.modes.1 f.shown.file at (right_reached files p q r ordered is too also has f.shown.file at) wanted f.more (All-contains (λ (g : Full). AreMore wanted files q g.shown.file g.more) y.fulls f y.more h),
      )

  joints : (f : Full) → Contains z.fulls f → Is wanted files r f
  joints f h = (
    ended_in r z.begun (modules_in z.fulls) z.report f.shown (mapped (λ (g : Full). g.shown) f z.fulls h),
    All-contains (λ (g : Full). AreMore wanted files r g.shown.file g.more) z.fulls f z.more h,
  )

  order_left : InOrder full_file x.fulls
  order_left = subst IsStrictlyIncreasing (same_numbers x.fulls) x.report.in_order

  order_right : InOrder full_file y.fulls
  order_right = subst IsStrictlyIncreasing (same_numbers y.fulls) y.report.in_order

  order_joint : InOrder full_file z.fulls
  order_joint = subst IsStrictlyIncreasing (same_numbers z.fulls) z.report.in_order

  full_numbers : (n : ℕ) → Contains (map full_file z.fulls) n ↔ (Contains (map full_file x.fulls) n ⊎ Contains (map full_file y.fulls) n)
  full_numbers n =
      subst (λ ns. Contains ns n ↔ (Contains (map full_file x.fulls) n ⊎ Contains (map full_file y.fulls) n)) (same_numbers z.fulls)
      (subst (λ ns. Contains (map file_of (modules_in z.fulls)) n ↔ (Contains ns n ⊎ Contains (map full_file y.fulls) n)) (same_numbers x.fulls)
      (subst (λ ns. Contains (map file_of (modules_in z.fulls)) n ↔ (Contains (map file_of (modules_in x.fulls)) n ⊎ Contains ns n)) (same_numbers y.fulls)
      (numbers files p q r ordered is too also has x.begun y.begun z.begun (modules_in x.fulls) (modules_in y.fulls) (modules_in z.fulls) x.report y.report z.report n)))

  agree : Agree full_file x.fulls y.fulls
  agree = facts_agree full_file (Is wanted files r) (one_full wanted files r) x.fulls y.fulls lefts rights

  is_join : IsJoin full_file x.fulls y.fulls z.fulls
  is_join = facts_join full_file (Is wanted files r) (one_full wanted files r) x.fulls y.fulls z.fulls order_joint lefts rights joints full_numbers

  joined : z.fulls ≡ join full_file x.fulls y.fulls
  joined = join_is full_file x.fulls y.fulls z.fulls order_left order_right agree is_join

  -- a root of one report is among its modules
  root_left : (f : Full) → Is wanted files r f → list_any (nat_eq f.shown.file) p.roots ≡ true → Contains x.fulls f
  root_left f h e =
      let at : Contains (map file_of (modules_in x.fulls)) f.shown.file = (x.report.all f.shown.file).0 (root (any_there f.shown.file p.roots e)) in
      found full_file (Is wanted files r) (one_full wanted files r) x.fulls f lefts h (subst (λ ns. Contains ns f.shown.file) (same_numbers x.fulls) at)

  root_right : (f : Full) → Is wanted files r f → list_any (nat_eq f.shown.file) q.roots ≡ true → Contains y.fulls f
  root_right f h e =
      let at : Contains (map file_of (modules_in y.fulls)) f.shown.file = (y.report.all f.shown.file).0 (root (any_there f.shown.file q.roots e)) in
      found full_file (Is wanted files r) (one_full wanted files r) y.fulls f rights h (subst (λ ns. Contains ns f.shown.file) (same_numbers y.fulls) at)

  abbrev one_root : Full → Bool
  one_root f = list_any (nat_eq f.shown.file) p.roots

  abbrev other_root : Full → Bool
  other_root f = list_any (nat_eq f.shown.file) q.roots

  roots_any : (f : Full) → list_any (nat_eq f.shown.file) r.roots ≡ (one_root f || other_root f)
  roots_any f = ap (list_any (nat_eq f.shown.file)) has.roots ∙ any_both f.shown.file p.roots q.roots

  shown_as : (f : Full) → is_shown wanted r f ≡ (not wanted.only_roots || (not (is_ok f.shown.ended) || (one_root f || other_root f)))
  shown_as f = ap (λ t. not wanted.only_roots || (not (is_ok f.shown.ended) || t)) (roots_any f)

  from_left : (f : Full) → Contains x.fulls f → is_shown wanted r f ≡ true → (is_shown wanted p f ≡ true) ⊎ (Contains y.fulls f × (is_shown wanted q f ≡ true))
  from_left f h e = turn (left_or wanted.only_roots (is_ok f.shown.ended) (one_root f) (other_root f) (sym (shown_as f) ∙ e))
    where
      turn : ((is_shown wanted p f ≡ true) ⊎ (other_root f ≡ true)) → (is_shown wanted p f ≡ true) ⊎ (Contains y.fulls f × (is_shown wanted q f ≡ true))
      turn (inl t) = inl t
      turn (inr t) = inr (root_right f (lefts f h) t, or_true wanted.only_roots (is_ok f.shown.ended) (other_root f) t)

  from_right : (f : Full) → Contains y.fulls f → is_shown wanted r f ≡ true → (is_shown wanted q f ≡ true) ⊎ (Contains x.fulls f × (is_shown wanted p f ≡ true))
  from_right f h e = turn (right_or wanted.only_roots (is_ok f.shown.ended) (one_root f) (other_root f) (sym (shown_as f) ∙ e))
    where
      turn : ((is_shown wanted q f ≡ true) ⊎ (one_root f ≡ true)) → (is_shown wanted q f ≡ true) ⊎ (Contains x.fulls f × (is_shown wanted p f ≡ true))
      turn (inl t) = inl t
      turn (inr t) = inr (root_left f (rights f h) t, or_true wanted.only_roots (is_ok f.shown.ended) (one_root f) t)

  told_join : told wanted r z.fulls ≡ join full_file (told wanted p x.fulls) (told wanted q y.fulls)
  told_join =
      join_is full_file (told wanted p x.fulls) (told wanted q y.fulls) (told wanted r z.fulls) (order_filter full_file (is_shown wanted p) x.fulls order_left) (order_filter full_file (is_shown wanted q) y.fulls order_right)
      (λ f g h k e. agree f g (there (is_shown wanted p) x.fulls f h) (there (is_shown wanted q) y.fulls g k) e)
      (filter_join full_file (is_shown wanted p) (is_shown wanted q) (is_shown wanted r) x.fulls y.fulls z.fulls is_join from_left from_right
      (λ f t. shown_as f ∙ or_left wanted.only_roots (is_ok f.shown.ended) (one_root f) (other_root f) t)
      (λ f t. shown_as f ∙ or_right wanted.only_roots (is_ok f.shown.ended) (one_root f) (other_root f) t))

  begun_is : z.begun ≡ length (join full_file x.fulls y.fulls)
  begun_is = z.report.begun_are ∙ (same_length z.fulls ∙ ap length joined)

  pub are_joined : AreJoined wanted files p q r x.begun y.begun z.begun x.fulls y.fulls z.fulls c
  are_joined = record {
    agree = agree;
    joined = joined;
    begun_is = begun_is;
    begun = (let own = begun_is in
        let mine = x.report.begun_are ∙ same_length x.fulls in
        let yours = y.report.begun_are ∙ same_length y.fulls in
        let all = counts full_file x.fulls y.fulls (to_up full_file x.fulls order_left) (to_up full_file y.fulls order_right) in
        omega (arith, own, mine, yours, all));
    shown = told_join;
    text_is = z.text_is ∙ (ap (λ n. whole_text wanted.calls wanted files r n z.fulls) begun_is ∙ ap (whole_text wanted.calls wanted files r (length (join full_file x.fulls y.fulls))) joined);
  }

pub texts_join : TextsJoin
texts_join wanted files p q r ordered is too also has a b c x y z = are_joined wanted files p q r ordered is too also has a b c x y z
