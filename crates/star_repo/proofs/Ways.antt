-- The reading of a run, step by step.
use Rattle.std.proofs.Common.{◌≡◌, ◌<◌, ◌≤◌, ◌+◌, ◌⊎◌, inl, inr, ℕ, zero, suc, List, [], ◌∷◌, length, Bool, true, false, Option, Some, None, refl, ap, sym, ◌∙◌, subst, arith}
use Rattle.std.specs.Prelude.{◌↔◌, Contains, if◌then◌else◌}
use Rattle.std.specs.List.Sorted.{IsStrictlySortedBy}
use Rattle.std.specs.Str.{IsUtf8, bytes_eq}
use Rattle.std.specs.declared.cmp.Ordering.TheVariants.{Less}
use Rattle.std.proofs.lemmas.Cmp.{nat_list_cmp_total}
use native.Mathlib.Decide.{dec_lt}
use Rattle.star_label.specs.Files.{File, IsOrdered}
use Rattle.star_label.specs.Label.{package_of}
use Rattle.star_bundle.specs.declared.error.ServeError.{ServeError}
use Rattle.star_bundle.specs.declared.error.ServeError.TheVariants.{BadFile}
use Rattle.star_repo.specs.Held.{Fits, Held, Said, Tells}
use Rattle.star_repo.specs.Loading.{LoadsLabel}
use Rattle.star_repo.specs.Reach.{AreReachedFiles, IsReachedOf, Words}
use Rattle.star_repo.specs.Refusal.{AreBefore, ComesFirst, IsRefusedAt, IsRound, Pass, ReachedIn, Refuses, Stands, size_of}
use Rattle.star_words.specs.Rows.{IsIn}
use Rattle.star_repo.specs.Way.{Agrees, Answer, IsAtRound, IsBelow, IsDone, IsEarlier, IsLoadedBy, IsLooked, IsWay}
use Rattle.star_repo.proofs.Reached.{from_round, in_rounds}
use Rattle.star_repo.proofs.Inserted.{all_of, bytes_same, bytes_self, each_of, put, put_from, put_length, put_ordered, put_size, put_to}
use Rattle.star_repo.proofs.Rows.{R, from_in, never_less, to_in}

-- ---- the possible contents of a folder that agree with the found files

abbrev default_of : Option (Option (List ℕ)) → Option (List ℕ)
default_of None = None
default_of (Some o) = o

abbrev pub held_of : Said → List Answer → Held
held_of said [] l = default_of (said l)
held_of said (a ∷ answers) l = if bytes_eq a.0 l then a.1 else held_of said answers l

default_tells : (o : Option (Option (List ℕ))) → Tells o (default_of o)
default_tells None = tt
default_tells (Some o) = refl

pub held_fits : (said : Said) (answers : List Answer) → ((l : List ℕ) (o : Option (List ℕ)) → IsIn (l, o) answers → Tells (said l) o) → Fits said (held_of said answers)
held_fits said [] fits l = default_tells (said l)
held_fits said ((k, o) ∷ answers) fits l = by (held_fits said answers (λ m p h. fits m p (inr h)) l) (bytes_eq k l) refl
  where
    by : Tells (said l) (held_of said answers l) → (b : Bool) → bytes_eq k l ≡ b → Tells (said l) (if b then o else held_of said answers l)
    by more true e = subst (λ x. Tells (said x) o) (bytes_same k l e) (fits k o (inl refl))
    by more false e = more

pub held_agrees : (said : Said) (answers : List Answer) → ((l : List ℕ) (o p : Option (List ℕ)) → IsIn (l, o) answers → IsIn (l, p) answers → o ≡ p) → Agrees (held_of said answers) answers
held_agrees said [] once l o h = absurd h
held_agrees said ((k, p) ∷ answers) once l o (inl e) =
    let k_is : k ≡ l = ap (λ (a : Answer). a.0) e in
    let p_is : p ≡ o = ap (λ (a : Answer). a.1) e in
    rw (k_is, bytes_self l) p_is
held_agrees said ((k, p) ∷ answers) once l o (inr h) =
    by (held_agrees said answers (λ m x y i j. once m x y (inr i) (inr j)) l o h) (bytes_eq k l) refl
  where
    by : held_of said answers l ≡ o → (b : Bool) → bytes_eq k l ≡ b → (if b then p else held_of said answers l) ≡ o
    by more true e = once l p o (inl (ap (λ x. (x, p)) (bytes_same k l e))) (inr h)
    by more false e = more

-- ---- one label more

-- a label that waits and was not looked up is one of this round
pub round_of : (held : Held) (words : Words) (d : ℕ) (answers : List Answer) (fresh : List File) (rest : List (List ℕ)) (l : List ℕ)
    → IsAtRound held words d answers fresh (l ∷ rest) → (IsLooked l answers → ⊥) → IsRound held words d l
round_of held words d answers fresh rest l at new = record {
  reached = at.waiting l (inl refl);
  fewest = λ e h. elim (dec_lt e d) [ yes low ↦ absurd (new (at.all_before e l low h)) | no high ↦ omega (arith, high) ];
}

-- a label that was looked up waits no more
pub skipped_at : (held : Held) (words : Words) (d : ℕ) (answers : List Answer) (fresh : List File) (rest : List (List ℕ)) (l : List ℕ)
    → IsAtRound held words d answers fresh (l ∷ rest) → IsLooked l answers → IsAtRound held words d answers fresh rest
skipped_at held words d answers fresh rest l at looked = record {
  met = λ m o h. elim (at.met m o h) [
    | inl e ↦ inl e
    | inr done ↦ inr (record { round = done.round; below = λ r i. done.below r (inr i); is_fresh = done.is_fresh })
  ];
  fresh_are = at.fresh_are;
  waiting = λ m h. at.waiting m (inr h);
  all_now = λ m h. elim (at.all_now m h) [
    | inl (inl e) ↦ inr (subst (λ x. IsLooked x answers) e looked)
    | inl (inr i) ↦ inl i
    | inr i ↦ inr i
  ];
  all_before = at.all_before;
}

-- a label is looked up
pub looked_at : (held : Held) (words : Words) (d : ℕ) (answers : List Answer) (fresh more : List File) (rest : List (List ℕ)) (l : List ℕ) (o : Option (List ℕ))
    → IsAtRound held words d answers fresh (l ∷ rest) → (IsLooked l answers → ⊥) → IsBelow l rest
    → ((f : File) → IsIn f fresh → IsIn f more) → ((t : List ℕ) → o ≡ Some t → IsIn (l, t) more)
    → ((k t : List ℕ) → IsIn (k, t) more → IsIn (k, t) fresh ⊎ ((l ≡ k) × (o ≡ Some t)))
    → IsAtRound held words d ((l, o) ∷ answers) more rest
looked_at held words d answers fresh more rest l o at new below keeps holds only = record {
  met = met;
  fresh_are = λ k t h. elim (only k t h) [
    | inl i ↦ let a = at.fresh_are k t i in (inr a.0, a.1)
    | inr (k_is, o_is) ↦ (inl (ap (λ x. (x, o)) k_is ∙ ap (λ x. (k, x)) o_is), subst (IsRound held words d) k_is here)
  ];
  waiting = λ m h. at.waiting m (inr h);
  all_now = λ m h. elim (at.all_now m h) [
    | inl (inl e) ↦ inr (o, inl (ap (λ x. (x, o)) e))
    | inl (inr i) ↦ inl i
    | inr i ↦ inr (i.0, inr i.1)
  ];
  all_before = λ e m low h. let i = at.all_before e m low h in (i.0, inr i.1);
}
  where
    here : IsRound held words d l
    here = round_of held words d answers fresh rest l at new

    met : (m : List ℕ) (p : Option (List ℕ)) → IsIn (m, p) ((l, o) ∷ answers) → IsEarlier held words d m ⊎ IsDone held words d more rest m p
    met m p (inl e) =
        let m_is : l ≡ m = ap (λ (a : Answer). a.0) e in
        let p_is : o ≡ p = ap (λ (a : Answer). a.1) e in
        inr (record {
          round = subst (IsRound held words d) m_is here;
          below = subst (λ x. IsBelow x rest) m_is below;
          is_fresh = λ t h. subst (λ x. IsIn (x, t) more) m_is (holds t (p_is ∙ h));
        })
    met m p (inr h) = elim (at.met m p h) [
      | inl e ↦ inl e
      | inr done ↦ inr (record { round = done.round; below = λ r i. done.below r (inr i); is_fresh = λ t e. keeps (m, t) (done.is_fresh t e) })
    ]

-- ---- the end of a round

abbrev earlier_than : (held : Held) (words : Words) (d : ℕ) (l : List ℕ) (o : Option (List ℕ)) (fresh : List File)
    → IsEarlier held words d l ⊎ IsDone held words d fresh [] l o → IsEarlier held words (suc d) l
earlier_than held words d l o fresh (inl (e, low, round)) = (e, omega (arith, low), round)
earlier_than held words d l o fresh (inr done) = (d, omega arith, done.round)

pub turned_at : (held : Held) (words : Words) (d : ℕ) (answers : List Answer) (fresh : List File) (next : List (List ℕ))
    → Agrees held answers → IsAtRound held words d answers fresh [] → ((m : List ℕ) → IsIn m next ↔ IsLoadedBy fresh m)
    → IsAtRound held words (suc d) answers [] next
turned_at held words d answers fresh next agrees at loaded = record {
  met = λ l o h. inl (earlier_than held words d l o fresh (at.met l o h));
  fresh_are = λ l t h. absurd h;
  waiting = λ m h. let w = (loaded m).0 h in let a = at.fresh_are w.0 w.1 w.2 in (w.0, w.1, a.1.reached, agrees w.0 (Some w.1) a.0, w.3);
  all_now = λ m h. now m h.0 h.1 h.2 h.3 h.4;
  all_before = before;
}
  where
    before : (e : ℕ) (l : List ℕ) → e < suc d → ReachedIn held words e l → IsLooked l answers
    before e l low h = elim (dec_lt e d) [
      | yes lower ↦ at.all_before e l lower h
      | no high ↦ let same : e ≡ d = omega (arith, low, high) in elim (at.all_now l (subst (λ x. ReachedIn held words x l) same h)) [ inl i ↦ absurd i | inr i ↦ i ]
    ]

    now : (m l t : List ℕ) → ReachedIn held words d l → held l ≡ Some t → LoadsLabel (package_of l) t m → IsIn m next ⊎ IsLooked m answers
    now m l t reached stands loads =
        let looked = before d l (omega arith) reached in
        let o_is : looked.0 ≡ Some t = sym (agrees l looked.0 looked.1) ∙ stands in
        elim (at.met l looked.0 looked.1) [
          | inl (e, low, round) ↦ inr (before (suc e) m (omega (arith, low)) (l, t, round.reached, stands, loads))
          | inr done ↦ inl ((loaded m).1 (l, t, done.is_fresh t o_is, loads))
        ]

-- ---- the files

-- the rest of a way does not depend on the order of its answers
abbrev Same : {X : Type 0} → List X → List X → Type 0
Same {X} xs ys = (x : X) → IsIn x xs ↔ IsIn x ys

pub same_at : (held : Held) (words : Words) (d : ℕ) (answers others : List Answer) (fresh more : List File) (rest : List (List ℕ))
    → Same answers others → Same fresh more → IsAtRound held words d answers fresh rest → IsAtRound held words d others more rest
same_at held words d answers others fresh more rest a f at = record {
  met = λ l o h. elim (at.met l o ((a (l, o)).1 h)) [
    | inl e ↦ inl e
    | inr done ↦ inr (record { round = done.round; below = done.below; is_fresh = λ t e. (f (l, t)).0 (done.is_fresh t e) })
  ];
  fresh_are = λ l t h. let i = at.fresh_are l t ((f (l, t)).1 h) in ((a (l, Some t)).0 i.0, i.1);
  waiting = at.waiting;
  all_now = λ l h. elim (at.all_now l h) [ inl i ↦ inl i | inr i ↦ inr (i.0, (a (l, i.0)).0 i.1) ];
  all_before = λ e l low h. let i = at.all_before e l low h in (i.0, (a (l, i.0)).0 i.1);
}

pub same_way : (said : Said) (words : Words) (d : ℕ) (answers others : List Answer) (fresh more : List File) (rest : List (List ℕ)) (count size : ℕ)
    → Same answers others → Same fresh more → IsWay said words d answers fresh rest count size → IsWay said words d others more rest count size
same_way said words d answers others fresh more rest count size a f way = record {
  fits = λ l o h. way.fits l o ((a (l, o)).1 h);
  once = λ l o p h k. way.once l o p ((a (l, o)).1 h) ((a (l, p)).1 k);
  at_round = λ held agrees. same_at held words d answers others fresh more rest a f (way.at_round held (λ l o h. agrees l o ((a (l, o)).0 h)));
  files = way.files;
  ordered = way.ordered;
  are = λ l t. ((λ h. (a (l, Some t)).0 ((way.are l t).0 h)), (λ h. (way.are l t).1 ((a (l, Some t)).1 h)));
  passed = way.passed;
  counted = way.counted;
  sized = way.sized;
}

-- nothing was looked up
pub begins : (said : Said) (words : Words) (rest : List (List ℕ)) → ((l : List ℕ) → IsIn l rest ↔ (Contains words.roots l ⊎ (words.prelude ≡ Some l)))
    → IsWay said words 0 [] [] rest 0 0
unfolding IsStrictlySortedBy
begins said words rest first = record {
  fits = λ l o h. absurd h;
  once = λ l o p h k. absurd h;
  at_round = λ held agrees. record {
    met = λ l o h. absurd h;
    fresh_are = λ l t h. absurd h;
    waiting = λ l h. (first l).0 h;
    all_now = λ l h. inl ((first l).1 h);
    all_before = λ e l low h. absurd (omega (arith, low));
  };
  files = [];
  ordered = tt;
  are = λ l t. ((λ h. h), (λ h. h));
  passed = record { texts = all_of _ [] (λ x h. absurd h); few = omega arith; small = omega arith };
  counted = refl;
  sized = refl;
}

-- the same answers and files at another place of the search
moved : (said : Said) (words : Words) (d e : ℕ) (answers : List Answer) (fresh now : List File) (rest next : List (List ℕ)) (count size : ℕ)
    → ((held : Held) → Agrees held answers → IsAtRound held words e answers now next) → IsWay said words d answers fresh rest count size → IsWay said words e answers now next count size
moved said words d e answers fresh now rest next count size at way =
    record { fits = way.fits; once = way.once; at_round = at; files = way.files; ordered = way.ordered; are = way.are; passed = way.passed; counted = way.counted; sized = way.sized }

pub skips : (said : Said) (words : Words) (d : ℕ) (answers : List Answer) (fresh : List File) (rest : List (List ℕ)) (count size : ℕ) (l : List ℕ)
    → IsLooked l answers → IsWay said words d answers fresh (l ∷ rest) count size → IsWay said words d answers fresh rest count size
skips said words d answers fresh rest count size l looked way =
    moved said words d d answers fresh fresh (l ∷ rest) rest count size (λ held agrees. skipped_at held words d answers fresh rest l (way.at_round held agrees) looked) way

once_more : (answers : List Answer) (l : List ℕ) (o : Option (List ℕ)) → (IsLooked l answers → ⊥)
    → ((m : List ℕ) (x y : Option (List ℕ)) → IsIn (m, x) answers → IsIn (m, y) answers → x ≡ y)
    → (m : List ℕ) (x y : Option (List ℕ)) → IsIn (m, x) ((l, o) ∷ answers) → IsIn (m, y) ((l, o) ∷ answers) → x ≡ y
once_more answers l o new once m x y (inl e) (inl f) = ap (λ (a : Answer). a.1) (sym e ∙ f)
once_more answers l o new once m x y (inl e) (inr k) = absurd (new (subst (λ z. IsLooked z answers) (sym (ap (λ (a : Answer). a.0) e)) (y, k)))
once_more answers l o new once m x y (inr h) (inl f) = absurd (new (subst (λ z. IsLooked z answers) (sym (ap (λ (a : Answer). a.0) f)) (x, h)))
once_more answers l o new once m x y (inr h) (inr k) = once m x y h k

fits_more : (said : Said) (answers : List Answer) (l : List ℕ) (o : Option (List ℕ)) → Tells (said l) o
    → ((m : List ℕ) (x : Option (List ℕ)) → IsIn (m, x) answers → Tells (said m) x)
    → (m : List ℕ) (x : Option (List ℕ)) → IsIn (m, x) ((l, o) ∷ answers) → Tells (said m) x
fits_more said answers l o told fits m x (inl e) =
    subst (λ (a : Answer). Tells (said a.0) a.1) e told
fits_more said answers l o told fits m x (inr h) = fits m x h

-- there is no file at a label
pub misses : (said : Said) (words : Words) (d : ℕ) (answers : List Answer) (fresh : List File) (rest : List (List ℕ)) (count size : ℕ) (l : List ℕ)
    → (IsLooked l answers → ⊥) → IsBelow l rest → Tells (said l) None → IsWay said words d answers fresh (l ∷ rest) count size
    → IsWay said words d ((l, None) ∷ answers) fresh rest count size
misses said words d answers fresh rest count size l new below told way = record {
  fits = fits_more said answers l None told way.fits;
  once = once_more answers l None new way.once;
  at_round = λ held agrees. looked_at held words d answers fresh fresh rest l None (way.at_round held (λ m o h. agrees m o (inr h))) new below (λ f h. h) (λ t e. absurd (let no : ⊥ = cc in no)) (λ k t h. inl h);
  files = way.files;
  ordered = way.ordered;
  are = λ m t. ((λ h. inr ((way.are m t).0 h)), (λ h. elim h [ inl e ↦ absurd (none_some t (ap (λ (a : Answer). a.1) e)) | inr i ↦ (way.are m t).1 i ]));
  passed = way.passed;
  counted = way.counted;
  sized = way.sized;
}
  where
    none_some : (t : List ℕ) → None ≡ Some t → ⊥
    none_some t e = cc

-- there is a file, and it passes
pub finds : (said : Said) (words : Words) (d : ℕ) (answers : List Answer) (fresh : List File) (rest : List (List ℕ)) (count size : ℕ) (l t : List ℕ)
    → (IsLooked l answers → ⊥) → IsBelow l rest → Tells (said l) (Some t) → count < 10000 → length t ≤ 1048576 → IsUtf8 t → size + length t ≤ 268435456
    → IsWay said words d answers fresh (l ∷ rest) count size → IsWay said words d ((l, Some t) ∷ answers) ((l, t) ∷ fresh) rest (count + 1) (size + length t)
finds said words d answers fresh rest count size l t new below told few short is_text small way = record {
  fits = fits_more said answers l (Some t) told way.fits;
  once = once_more answers l (Some t) new way.once;
  at_round = λ held agrees. looked_at held words d answers fresh ((l, t) ∷ fresh) rest l (Some t) (way.at_round held (λ m o h. agrees m o (inr h))) new below (λ f h. inr h)
      (λ u e. inl (ap (λ x. (l, x)) (same t u e))) (λ k u h. elim h [ inl e ↦ inr (ap (λ (f : File). f.0) e, ap (λ (f : File). Some f.1) e) | inr i ↦ inl i ]);
  files = put way.files l t;
  ordered = put_ordered way.files l t apart way.ordered;
  are = λ m u. (
    (λ h. elim (put_from way.files l t apart (m, u) h) [
      | inl e ↦ inl (ap (λ (f : File). (f.0, Some f.1)) e)
      | inr i ↦ inr ((way.are m u).0 i)
    ]),
    (λ h. put_to way.files l t apart (m, u) (elim h [
      | inl e ↦ inl (of_answer m u e)
      | inr i ↦ inr ((way.are m u).1 i)
    ])),
  );
  passed = record {
    texts = all_of _ (put way.files l t) (λ f h. elim (put_from way.files l t apart f h) [
      | inl e ↦ subst (λ (x : File). (length x.1 ≤ 1048576) × IsUtf8 x.1) e (short, is_text)
      | inr i ↦ each_of (λ (x : File). (length x.1 ≤ 1048576) × IsUtf8 x.1) way.files way.passed.texts f i
    ]);
    few = omega (arith, put_length way.files l t apart, way.counted, few);
    small = omega (arith, put_size way.files l t apart, way.sized, small);
  };
  counted = put_length way.files l t apart ∙ ap (λ n. n + 1) way.counted;
  sized = put_size way.files l t apart ∙ ap (λ n. n + length t) way.sized;
}
  where
    same : (x y : List ℕ) → Some x ≡ Some y → x ≡ y
    same x y e = cc

    apart : (u : List ℕ) → IsIn (l, u) way.files → ⊥
    apart u h = new (Some u, (way.are l u).0 h)

    of_answer : (m u : List ℕ) → ◌≡◌ {A = Answer} (l, Some t) (m, Some u) → ◌≡◌ {A = File} (l, t) (m, u)
    of_answer m u e = ap (λ x. (x, t)) (ap (λ (a : Answer). a.0) e) ∙ ap (λ x. (m, x)) (same t u (ap (λ (a : Answer). a.1) e))

-- the next round begins
pub turns : (said : Said) (words : Words) (d : ℕ) (answers : List Answer) (fresh : List File) (next : List (List ℕ)) (count size : ℕ)
    → ((m : List ℕ) → IsIn m next ↔ IsLoadedBy fresh m) → IsWay said words d answers fresh [] count size → IsWay said words (suc d) answers [] next count size
turns said words d answers fresh next count size loaded way =
    moved said words d (suc d) answers fresh [] [] next count size (λ held agrees. turned_at held words d answers fresh next agrees (way.at_round held agrees) loaded) way

-- ---- the end

module _ (held : Held) (words : Words) (d : ℕ) (answers : List Answer) (agrees : Agrees held answers) (at : IsAtRound held words d answers [] []) where
  -- no round up to this one was left out
  up_to : (e : ℕ) (l : List ℕ) → e < suc d → ReachedIn held words e l → IsLooked l answers
  up_to e l low h = elim (dec_lt e d) [
    | yes lower ↦ at.all_before e l lower h
    | no high ↦ let same : e ≡ d = omega (arith, low, high) in elim (at.all_now l (subst (λ x. ReachedIn held words x l) same h)) [ inl i ↦ absurd i | inr i ↦ i ]
  ]

  onward : (m l t : List ℕ) → IsLooked l answers → held l ≡ Some t → LoadsLabel (package_of l) t m → IsLooked m answers
  onward m l t (o, i) stands loads = elim (at.met l o i) [
    | inl (e, low, round) ↦ up_to (suc e) m (omega (arith, low)) (l, t, round.reached, stands, loads)
    | inr done ↦ absurd (done.is_fresh t (sym (agrees l o i) ∙ stands))
  ]

  -- nor is there a later one
  all_looked : (e : ℕ) (l : List ℕ) → ReachedIn held words e l → IsLooked l answers
  all_looked zero l h = up_to zero l (omega arith) h
  all_looked (suc e) m (l, t, reached, stands, loads) = onward m l t (all_looked e l reached) stands loads

  looked_reached : (l : List ℕ) (o : Option (List ℕ)) → IsIn (l, o) answers → IsReachedOf held words l
  looked_reached l o i = elim (at.met l o i) [
    | inl (e, low, round) ↦ from_round held words e l round.reached
    | inr done ↦ from_round held words d l done.round.reached
  ]

  pub ends_at : (files : List File) → IsOrdered files → ((l t : List ℕ) → IsIn (l, t) files ↔ IsIn (l, Some t) answers) → AreReachedFiles held words files
  ends_at files ordered are = record {
    ordered = ordered;
    are = λ l t. (
      (λ c. let i = (are l t).0 (to_in files (l, t) c) in (looked_reached l (Some t) i, agrees l (Some t) i)),
      (λ h.
          let r = in_rounds held words l h.0 in
          let looked = all_looked r.0 l r.1 in
          let o_is : looked.0 ≡ Some t = sym (agrees l looked.0 looked.1) ∙ h.1 in
          from_in files (l, t) ((are l t).1 (subst (λ o. IsIn (l, o) answers) o_is looked.1))),
    );
  }

-- the files of the run are those that were found
pub ends : (said : Said) (words : Words) (d : ℕ) (answers : List Answer) (count size : ℕ) (way : IsWay said words d answers [] [] count size)
    → (held : Held) × Fits said held × AreReachedFiles held words way.files × Pass way.files
ends said words d answers count size way =
    let held = held_of said answers in
    let agrees = held_agrees said answers way.once in
    (held, held_fits said answers way.fits, ends_at held words d answers agrees (way.at_round held agrees) way.files way.ordered way.are, way.passed)

-- ---- a refusal

module _ (held : Held) (words : Words) (d : ℕ) (answers : List Answer) (fresh : List File) (rest : List (List ℕ)) (l : List ℕ) (agrees : Agrees held answers) (at : IsAtRound held words d answers fresh (l ∷ rest)) where
  -- the labels that were looked up come before the one that is next
  comes_first : (m : List ℕ) (o : Option (List ℕ)) → IsIn (m, o) answers → (e : ℕ) × IsRound held words e m × ComesFirst e m d l
  comes_first m o i = elim (at.met m o i) [
    | inl (e, low, round) ↦ (e, round, inl low)
    | inr done ↦ (d, done.round, inr (refl, done.below l (inl refl)))
  ]

  looked_first : IsBelow l rest → (m : List ℕ) (e : ℕ) → IsRound held words e m → ComesFirst e m d l → IsLooked m answers
  looked_first below m e round (inl low) = at.all_before e m low round.reached
  looked_first below m e round (inr (same, less)) = elim (at.all_now m (subst (λ x. ReachedIn held words x m) same round.reached)) [
    | inl (inl l_is) ↦ absurd (never_less m (subst (λ x. R m x ≡ Less) l_is less))
    | inl (inr i) ↦ absurd (never_less m (nat_list_cmp_total.trans m l m less (below m i)))
    | inr looked ↦ looked
  ]

  pub before_at : IsBelow l rest → (files : List File) → IsOrdered files → ((m t : List ℕ) → IsIn (m, t) files ↔ IsIn (m, Some t) answers) → AreBefore held words d l files
  before_at below files ordered are = record {
    ordered = ordered;
    are = λ m t. (
      (λ c. let i = (are m t).0 (to_in files (m, t) c) in let first = comes_first m (Some t) i in (first.0, first.1, first.2, agrees m (Some t) i)),
      (λ h.
          let looked = looked_first below m h.0 h.1 h.2 in
          let o_is : looked.0 ≡ Some t = sym (agrees m looked.0 looked.1) ∙ h.3 in
          from_in files (m, t) ((are m t).1 (subst (λ o. IsIn (m, o) answers) o_is looked.1))),
    );
  }

-- the file at the next label is refused
pub refuses : (said : Said) (words : Words) (d : ℕ) (answers : List Answer) (fresh : List File) (rest : List (List ℕ)) (count size : ℕ) (l bytes : List ℕ) (e : ServeError)
    → (IsLooked l answers → ⊥) → IsBelow l rest → Tells (said l) (Some bytes) → IsWay said words d answers fresh (l ∷ rest) count size
    → Refuses count size bytes e → ((held : Held) → held l ≡ Some bytes → Stands held l bytes e)
    → (held : Held) × Fits said held × IsRefusedAt held words l e
refuses said words d answers fresh rest count size l bytes e new below told way refused stands =
    let more = (l, Some bytes) ∷ answers in
    let held = held_of said more in
    let agrees = held_agrees said more (once_more answers l (Some bytes) new way.once) in
    let before : Agrees held answers = λ m o h. agrees m o (inr h) in
    let at = way.at_round held before in (
      held,
      held_fits said more (fits_more said answers l (Some bytes) told way.fits),
      record {
        rounds = d;
        bytes = bytes;
        front = way.files;
        round = round_of held words d answers fresh rest l at new;
        there = stands held (agrees l (Some bytes) (inl refl));
        before = before_at held words d answers fresh rest l before at below way.files way.ordered way.are;
        passed = way.passed;
        refused = subst (λ n. Refuses n (size_of way.files) bytes e) (sym way.counted) (subst (λ n. Refuses count n bytes e) (sym way.sized) refused);
      },
    )

-- its read failed
pub fails : (said : Said) (words : Words) (d : ℕ) (answers : List Answer) (fresh : List File) (rest : List (List ℕ)) (count size : ℕ) (l : List ℕ)
    → (IsLooked l answers → ⊥) → IsBelow l rest → IsWay said words d answers fresh (l ∷ rest) count size
    → (held : Held) × Fits said held × IsRefusedAt held words l BadFile
fails said words d answers fresh rest count size l new below way =
    let held = held_of said answers in
    let agrees = held_agrees said answers way.once in
    let at = way.at_round held agrees in (
      held,
      held_fits said answers way.fits,
      record {
        rounds = d;
        bytes = [];
        front = way.files;
        round = round_of held words d answers fresh rest l at new;
        there = tt;
        before = before_at held words d answers fresh rest l agrees at below way.files way.ordered way.are;
        passed = way.passed;
        refused = tt;
      },
    )

-- a label that waits is not the label of a fresh file
pub not_fresh : (said : Said) (words : Words) (d : ℕ) (answers : List Answer) (fresh : List File) (rest : List (List ℕ)) (count size : ℕ) (l t : List ℕ)
    → IsWay said words d answers fresh (l ∷ rest) count size → IsIn (l, t) fresh → ⊥
not_fresh said words d answers fresh rest count size l t way h =
    let held = held_of said answers in
    let at = way.at_round held (held_agrees said answers way.once) in
    let a = at.fresh_are l t h in
    elim (at.met l (Some t) a.0) [
      | inl (e, low, round) ↦ let late = a.1.fewest e round.reached in omega (arith, low, late)
      | inr done ↦ never_less l (done.below l (inl refl))
    ]
