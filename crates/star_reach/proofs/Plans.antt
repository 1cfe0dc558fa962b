-- The files that a plan of all files of a folder reaches.
use Rattle.std.proofs.Common.{◌≡◌, ◌<◌, ◌⊎◌, inl, inr, ℕ, List, [], ◌∷◌, ◌++◌, map, length, Option, Some, None, refl, ap, sym, ◌∙◌, subst, arith}
use Rattle.std.specs.Prelude.{Contains, option_map}
use Rattle.std.specs.List.{flat_map}
use Rattle.std.proofs.lemmas.List.{get_or-map, length-map}
use Rattle.std.proofs.lemmas.List.Elements.{Contains-get_or}
use Rattle.star_label.specs.Files.{File, label_at, text_at}
use Rattle.star_label.specs.Label.{package_of}
use Rattle.star_scope.specs.declared.loads.Load.{Load}
use Rattle.star_scope.specs.declared.loads.LoadTarget.TheVariants as lead
use Rattle.star_scope.specs.declared.program.Prelude.{Prelude}
use Rattle.star_scope.specs.Loads.{AllLead, LeadsTo, Read, Written, load_of, prelude_loads, written}
use Rattle.star_scope.specs.Resolve.{outside, seen_by}
use Rattle.std.specs.Bool.{nat_eq}
use Rattle.std.specs.Prelude.{Bool, true, false, if◌then◌else◌}
use Rattle.star_plan.specs.Plan.{Faulty, Plan, Reading, Sound, loads_in}
use Rattle.star_plan.specs.Reached.{IsReached, root, load}
use Rattle.star_plan.specs.Reading.{IsPlanOf, IsPrelude, IsRead}
use Rattle.star_plan.proofs.Goodness.{reached_is_file}
use Rattle.star_repo.specs.Held.{Held}
use Rattle.star_repo.specs.Reach.{IsReachedOf, root as is_root, prelude as is_prelude, load as is_load}
use Rattle.star_repo.specs.Laws.{AreAllFiles}
use Rattle.star_reach.specs.Laws.{PlansReachNoMore, words_of}
use Rattle.star_words.specs.Rows.{IsIn}
use Rattle.star_repo.proofs.Rows.{from_in, to_in}

abbrev pub file : Load → ℕ
file l = l.file

in_parts : (m : ℕ) (xs ys : List Load) → IsIn m (map file (xs ++ ys)) → IsIn m (map file xs) ⊎ IsIn m (map file ys)
in_parts m [] ys h = inr h
in_parts m (x ∷ xs) ys (inl e) = inl (inl e)
in_parts m (x ∷ xs) ys (inr h) = elim (in_parts m xs ys h) [ inl k ↦ inl (inr k) | inr k ↦ inr k ]

of_prelude : (m : ℕ) (o : Option ℕ) → IsIn m (map file (prelude_loads o)) → o ≡ Some m
of_prelude m None h = absurd h
of_prelude m (Some k) (inl e) = ap Some e
of_prelude m (Some k) (inr h) = absurd h

abbrev file_of_prelude : Prelude → ℕ
file_of_prelude q = q.file

pub some_same : {A : Type 0} (a b : A) → Some a ≡ Some b → a ≡ b
some_same a b e = cc

-- the prelude that a file sees is the prelude of the plan
seen : (files : List File) (n m : ℕ) (given : Option ℕ) (p : Option Prelude) → IsPrelude files given p → option_map (λ q. q.file) (seen_by n p) ≡ Some m → given ≡ Some m
seen files n m None p is e = absurd (let none : option_map (λ (q : Prelude). q.file) (seen_by n None) ≡ Some m = subst (λ (o : Option Prelude). option_map (λ q. q.file) (seen_by n o) ≡ Some m) is e in let no : ⊥ = cc in no)
seen files n m (Some k) None is e = absurd (let no : ⊥ = cc in no)
seen files n m (Some k) (Some p) is e =
    let same : p.file ≡ k = (let it = is.3 in ap file_of_prelude (some_same _ _ it)) in
    by (nat_eq p.file n) e same
  where
    by : (b : Bool) → option_map (λ (q : Prelude). q.file) (if b then None else Some p) ≡ Some m → p.file ≡ k → Some k ≡ Some m
    by true e s = absurd (let no : ⊥ = cc in no)
    by false e s = ap Some (sym s) ∙ e

-- the statement of a load that leads to a file
of_read : (files : List File) (here : List ℕ) (m : ℕ) (reads : List Read) → AllLead files here reads → IsIn m (map file (flat_map load_of reads)) → (w : Written) × IsIn w (map (λ r. r.0) reads) × LeadsTo files here w.module_string.text (lead.File m)
of_read files here m [] a h = absurd h
of_read files here m ((w, lead.File k) ∷ rs) a (inl e) = (w, inl refl, subst (λ j. LeadsTo files here w.module_string.text (lead.File j)) e a.0)
of_read files here m ((w, lead.File k) ∷ rs) a (inr h) = let r = of_read files here m rs a.1 h in (r.0, inr r.1, r.2)
of_read files here m ((w, lead.NoFile) ∷ rs) a h = let r = of_read files here m rs a.1 h in (r.0, inr r.1, r.2)
of_read files here m ((w, lead.BadLabel) ∷ rs) a h = let r = of_read files here m rs a.1 h in (r.0, inr r.1, r.2)

label_there : (files : List File) (ns : List ℕ) (n : ℕ) → Contains ns n → Contains (map (label_at files) ns) (label_at files n)
label_there files ns n c = (c.0, (omega (arith, c.1, length-map ns (label_at files))), get_or-map (label_at files) ns c.0 n (label_at files n) c.1 ∙ ap (label_at files) c.2)

module _ (held : Held) (files : List File) (plan : Plan) (all : AreAllFiles held files) (is : IsPlanOf files plan) where
  abbrev Reached : ℕ → Type 0
  Reached n = IsReachedOf held (words_of files plan) (label_at files n)

  -- a load leads to the prelude or to a file that a load statement names
  onward : (n m : ℕ) (r : Reading) → n < length files → IsRead files (outside is.prelude plan.mode.language) n r → Contains (map file (loads_in (Some r))) m → Reached n → Reached m
  onward n m (Faulty f) low right c so = absurd (to_in [] m c)
  onward n m (Sound ss loads) low right c so =
      let resolved = right.3.1 in
      let are : loads ≡ prelude_loads (option_map (λ q. q.file) (seen_by n is.prelude)) ++ flat_map load_of resolved.0 = sym right.3.2 ∙ resolved.3.loads in
      let there : IsIn m (map file (prelude_loads (option_map (λ q. q.file) (seen_by n is.prelude)) ++ flat_map load_of resolved.0)) = subst (λ (ls : List Load). IsIn m (map file ls)) are (to_in _ m c) in
      elim (in_parts m (prelude_loads (option_map (λ q. q.file) (seen_by n is.prelude))) (flat_map load_of resolved.0) there) [
        | inl h ↦ is_prelude (ap (option_map (label_at files)) (seen files n m plan.prelude is.prelude is.prelude_is (of_prelude m _ h)))
        | inr h ↦ named (of_read files (package_of (label_at files n)) m resolved.0 resolved.1.1 h)
      ]
    where
      text_there : held (label_at files n) ≡ Some (text_at files n)
      text_there = (all.are (label_at files n) (text_at files n)).0 (Contains-get_or files n ([], []) low)

      named : ((w : Written) × IsIn w (map (λ r. r.0) right.3.1.0) × LeadsTo files (package_of (label_at files n)) w.module_string.text (lead.File m)) → Reached m
      named it =
          let stands : IsIn it.0 (written right.0.statements) = subst (λ (ws : List Written). IsIn it.0 ws) (right.3.1.1.0 ∙ ap written (sym right.2)) it.1 in
          is_load so text_there (right.0, right.1, it.0, from_in _ it.0 stands, it.2.0, it.2.1, it.2.2, it.2.4)

  reach : (n : ℕ) → IsReached plan n → Reached n
  reach n (root c) = is_root (label_there files plan.roots n c)
  reach n (load {n = k} r l) =
      let read = (is.reached k).0 r in
      onward k n read.0 (reached_is_file files plan is k r) (is.right k read.0 read.1) (subst (λ (o : Option Reading). Contains (map file (loads_in o)) n) read.1 l) (reach k r)

pub reach_no_more : PlansReachNoMore
reach_no_more held files plan all is n r = reach held files plan all is n r
