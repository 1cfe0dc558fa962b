-- The files that are reached in a folder are reached by a plan of all its files, if no reached file has a static fault.
use Rattle.std.proofs.Common.{◌≡◌, ◌<◌, ◌⊎◌, inl, inr, ℕ, List, [], ◌∷◌, ◌++◌, map, length, get_or, true, false, Option, Some, None, Ok, refl, ap, sym, ◌∙◌, subst, arith}
use Rattle.std.specs.Prelude.{Contains, option_map}
use Rattle.std.specs.Bool.{nat_eq}
use Rattle.std.specs.List.{flat_map}
use Rattle.std.proofs.lemmas.List.{get_or-map, get_or_default, length-map}
use Rattle.std.proofs.lemmas.List.Elements.{Contains-get_or}
use Rattle.std.proofs.lemmas.Bool.Decides.{eqb_tells}
use Rattle.star_label.specs.Files.{File, label_at, text_at}
use Rattle.star_label.specs.Label.{Reads, label_text, package_of}
use Rattle.star_parser.specs.Sources.{Parses}
use Rattle.star_parser.proofs.Once.{one_answer}
use Rattle.star_tree.specs.declared.tree.Statement.{Statement}
use Rattle.star_tree.specs.declared.tree.Tree.{Tree}
use Rattle.star_scope.specs.declared.loads.Load.{Load}
use Rattle.star_scope.specs.declared.loads.LoadTarget.TheVariants as lead
use Rattle.star_scope.specs.declared.program.Prelude.{Prelude}
use Rattle.star_scope.specs.Loads.{AllLead, LeadsTo, Read, Written, load_of, prelude_loads, written}
use Rattle.star_scope.specs.Resolve.{seen_by}
use Rattle.star_plan.specs.Plan.{Plan, Reading, Sound, loads_in, read_of}
use Rattle.star_plan.specs.Reached.{IsReached, root, load}
use Rattle.star_plan.specs.Reading.{IsPlanOf, IsPrelude}
use Rattle.star_plan.proofs.Goodness.{reached_is_file}
use Rattle.star_repo.specs.Held.{Held}
use Rattle.star_repo.specs.Loading.{LoadsLabel}
use Rattle.star_repo.specs.Reach.{IsReachedOf, root as is_root, prelude as is_prelude, load as is_load}
use Rattle.star_repo.specs.Laws.{AreAllFiles}
use Rattle.star_reach.specs.Laws.{AllSound, PlansReachAll, words_of}
use Rattle.star_words.specs.Rows.{IsIn}
use Rattle.star_repo.proofs.Loads.{one_label}
use Rattle.star_repo.proofs.Rows.{from_in, to_in}
use Rattle.star_reach.proofs.Plans.{file, some_same}

one_tree : (text : List ℕ) (a b : Tree) → Parses text (Ok a) → Parses text (Ok b) → a ≡ b
one_tree text a b h k =
    let same = one_answer text (Ok a) (Ok b) (λ e. let no : ⊥ = cc in no) (λ e. let no : ⊥ = cc in no) h k in
    cc

in_right : (m : ℕ) (xs ys : List Load) → IsIn m (map file ys) → IsIn m (map file (xs ++ ys))
in_right m [] ys h = h
in_right m (x ∷ xs) ys h = inr (in_right m xs ys h)

in_left : (m : ℕ) (xs ys : List Load) → IsIn m (map file xs) → IsIn m (map file (xs ++ ys))
in_left m [] ys h = absurd h
in_left m (x ∷ xs) ys (inl e) = inl e
in_left m (x ∷ xs) ys (inr h) = inr (in_left m xs ys h)

-- a load statement that names the label of a file leads to one with this label
of_write : (files : List File) (here : List ℕ) (w : Written) (p q : List ℕ) (i : ℕ) → i < length files → label_at files i ≡ label_text p q → Reads here w.module_string.text p q → (reads : List Read) → AllLead files here reads → IsIn w (map (λ r. r.0) reads)
    → (j : ℕ) × IsIn j (map file (flat_map load_of reads)) × (label_at files j ≡ label_text p q)
of_write files here w p q i low at names [] a h = absurd h
of_write files here w p q i low at names ((v, lead.File k) ∷ rs) a (inl e) =
    let there : LeadsTo files here w.module_string.text (lead.File k) = subst (λ (u : Written). LeadsTo files here u.module_string.text (lead.File k)) e a.0 in
    (k, inl refl, there.4 ∙ one_label here w.module_string.text there.0 there.1 p q there.2 names)
of_write files here w p q i low at names ((v, lead.File k) ∷ rs) a (inr h) = let r = of_write files here w p q i low at names rs a.1 h in (r.0, inr r.1, r.2)
of_write files here w p q i low at names ((v, lead.NoFile) ∷ rs) a (inl e) =
    let there : LeadsTo files here w.module_string.text lead.NoFile = subst (λ (u : Written). LeadsTo files here u.module_string.text lead.NoFile) e a.0 in
    absurd (there.3 i low (at ∙ one_label here w.module_string.text p q there.0 there.1 names there.2))
of_write files here w p q i low at names ((v, lead.NoFile) ∷ rs) a (inr h) = of_write files here w p q i low at names rs a.1 h
of_write files here w p q i low at names ((v, lead.BadLabel) ∷ rs) a (inl e) =
    let there : LeadsTo files here w.module_string.text lead.BadLabel = subst (λ (u : Written). LeadsTo files here u.module_string.text lead.BadLabel) e a.0 in
    absurd (there p q names)
of_write files here w p q i low at names ((v, lead.BadLabel) ∷ rs) a (inr h) = of_write files here w p q i low at names rs a.1 h

-- the file at one of these labels
number_of : (files : List File) (ns : List ℕ) (l : List ℕ) → Contains (map (label_at files) ns) l → (n : ℕ) × Contains ns n × (label_at files n ≡ l)
number_of files ns l c =
    let low : c.0 < length ns = omega (arith, c.1, length-map ns (label_at files)) in
    (get_or ns c.0 0, Contains-get_or ns c.0 0 low, sym (get_or-map (label_at files) ns c.0 0 l low) ∙ c.2)

module _ (held : Held) (files : List File) (plan : Plan) (all : AreAllFiles held files) (is : IsPlanOf files plan) (sound : AllSound plan) where
  abbrev There : List ℕ → Type 0
  There l = (n : ℕ) × (n < length files) × (label_at files n ≡ l) × IsReached plan n

  there : (n : ℕ) (l : List ℕ) → label_at files n ≡ l → IsReached plan n → There l
  there n l e r = (n, reached_is_file files plan is n r, e, r)

  abbrev before : ℕ → List Load
  before n = prelude_loads (option_map (λ q. q.file) (seen_by n is.prelude))

  -- the loads of a sound file
  to_load : (n m : ℕ) (ss : List Statement) (loads : List Load) → read_of plan n ≡ Some (Sound ss loads) → IsReached plan n → IsIn m (map file loads) → IsReached plan m
  to_load n m ss loads e r h = load r (subst (λ (o : Option Reading). Contains (map file (loads_in o)) m) (sym e) (from_in (map file loads) m h))

  -- the number of the file at a label
  standing : (l text : List ℕ) → held l ≡ Some text → (i : ℕ) × (i < length files) × (label_at files i ≡ l)
  standing l text e =
      let c = (all.are l text).1 e in
      let at : label_at files c.0 ≡ l = ap (λ (f : File). f.0) (get_or_default files c.0 ([], []) (l, text) c.1 ∙ c.2) in
      (c.0, c.1, at)

  -- the prelude is loaded by each root but itself
  prelude_reached : (r k : ℕ) (p : Option Prelude) → is.prelude ≡ p → IsPrelude files (Some k) p → IsReached plan r → IsReached plan k
  prelude_reached r k None e h root_is = absurd (let no : ⊥ = cc in no)
  prelude_reached r k (Some p) e h root_is = by (eqb_tells p.file r)
    where
      same : p.file ≡ k
      same = ap (λ (q : Prelude). q.file) (some_same _ _ h.3)

      sees : nat_eq p.file r ≡ false → option_map (λ (q : Prelude). q.file) (seen_by r (Some p)) ≡ Some k
      sees f = rw f (ap Some same)

      loads_it : nat_eq p.file r ≡ false → IsReached plan k
      loads_it f =
          let it = sound r root_is in
          let right = is.right r (Sound it.0 it.1) it.2 in
          let reads = right.3.1.0 in
          let are : it.1 ≡ before r ++ flat_map load_of reads = sym right.3.2 ∙ right.3.1.3.loads in
          let seen : option_map (λ (q : Prelude). q.file) (seen_by r is.prelude) ≡ Some k = subst (λ (o : Option Prelude). option_map (λ q. q.file) (seen_by r o) ≡ Some k) (sym e) (sees f) in
          let first : IsIn k (map file (before r)) = subst (λ (o : Option ℕ). IsIn k (map file (prelude_loads o))) (sym seen) (inl refl) in
          to_load r k it.0 it.1 it.2 root_is (subst (λ (ls : List Load). IsIn k (map file ls)) (sym are) (in_left k (before r) (flat_map load_of reads) first))

      by : ((nat_eq p.file r ≡ true) × (p.file ≡ r)) ⊎ ((nat_eq p.file r ≡ false) × (p.file ≡ r → ⊥)) → IsReached plan k
      by (inl (t, here)) = subst (IsReached plan) (sym here ∙ same) root_is
      by (inr (f, apart)) = loads_it f

  given : (r : ℕ) → IsReached plan r → (l : List ℕ) (o : Option ℕ) → plan.prelude ≡ o → option_map (label_at files) o ≡ Some l → There l
  given r root_is l None e h = absurd (let no : ⊥ = cc in no)
  given r root_is l (Some k) e h = there k l (some_same (label_at files k) l h) (prelude_reached r k is.prelude refl (subst (λ (o : Option ℕ). IsPrelude files o is.prelude) e is.prelude_is) root_is)

  -- a load of a text in the folder
  onward : (b t m text : List ℕ) → There b → held b ≡ Some t → LoadsLabel (package_of b) t m → held m ≡ Some text → There m
  onward b t m text (n, low, at, r) e (tree, parses, w, c, p, q, names, m_is) f =
      let it = sound n r in
      let right = is.right n (Sound it.0 it.1) it.2 in
      let reads = right.3.1.0 in
      let are : it.1 ≡ before n ++ flat_map load_of reads = sym right.3.2 ∙ right.3.1.3.loads in
      let own : held (label_at files n) ≡ Some (text_at files n) = (all.are (label_at files n) (text_at files n)).0 (Contains-get_or files n ([], []) low) in
      let t_is : t ≡ text_at files n = some_same t (text_at files n) (sym e ∙ (ap held (sym at) ∙ own)) in
      let tree_is : tree ≡ right.0 = one_tree (text_at files n) tree right.0 (subst (λ x. Parses x (Ok tree)) t_is parses) right.1 in
      let here_is : package_of b ≡ package_of (label_at files n) = ap package_of (sym at) in
      let named : Reads (package_of (label_at files n)) w.module_string.text p q = subst (λ x. Reads x w.module_string.text p q) here_is names in
      let stands : IsIn w (map (λ r. r.0) reads) = subst (λ (ws : List Written). IsIn w ws) (ap written (ap (λ (x : Tree). x.statements) tree_is ∙ right.2) ∙ sym right.3.1.1.0) (to_in (written tree.statements) w c) in
      let i = standing m text f in
      let j = of_write files (package_of (label_at files n)) w p q i.0 i.1 (i.2 ∙ m_is) named reads right.3.1.1.1 stands in
      let inside : IsIn j.0 (map file it.1) = subst (λ (ls : List Load). IsIn j.0 (map file ls)) (sym are) (in_right j.0 (before n) (flat_map load_of reads) j.1) in
      there j.0 m (j.2 ∙ sym m_is) (to_load n j.0 it.0 it.1 it.2 r inside)

  reach_all : (r : ℕ) → IsReached plan r → (l text : List ℕ) → IsReachedOf held (words_of files plan) l → held l ≡ Some text → There l
  reach_all r root_is l text (is_root c) e = let n = number_of files plan.roots l c in there n.0 l n.2 (root n.1)
  reach_all r root_is l text (is_prelude h) e = given r root_is l plan.prelude refl h
  reach_all r root_is l text (is_load {l = b} {text = t} so f h) e = onward b t l text (reach_all r root_is b t so f) f h e

pub reach_all_too : PlansReachAll
reach_all_too held files plan all is sound r c l text so e = reach_all held files plan all is sound r (root c) l text so e
