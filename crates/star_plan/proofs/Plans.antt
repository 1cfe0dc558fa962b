-- One plan for files.
use Rattle.std.proofs.Common.{◌≡◌, ◌≢◌, ℕ, List, [], ◌∷◌, ◌++◌, map, Option, Some, None, Ok, Err, refl, ap, sym, subst, ◌∙◌, inl, inr}
use Rattle.std.specs.Prelude.{Contains}
use Rattle.std.specs.List.{flat_map}
use Rattle.std.specs.Option.{option_map}
use Rattle.star_label.specs.Files.{File, IsOrdered, label_at, text_at}
use Rattle.star_label.specs.Label.{package_of}
use Rattle.star_label.proofs.Colons.{one_label}
use Rattle.star_label.proofs.Ordered.{one_file}
use Rattle.star_lex.specs.declared.token.SyntaxFault.{SyntaxFault}
use Rattle.star_lex.specs.declared.token.SyntaxFault.TheVariants as syntax_fault
use Rattle.star_tree.specs.declared.tree.Statement.{Statement}
use Rattle.star_tree.specs.declared.tree.Tree.{Tree}
use Rattle.star_parser.specs.Sources.{Parses}
use Rattle.star_parser.proofs.Once.{one_answer}
use Rattle.star_scope.specs.declared.error.ScopeFault.{ScopeFault}
use Rattle.star_scope.specs.declared.error.ScopeFault.TheVariants as fault
use Rattle.star_scope.specs.declared.loads.LoadTarget.{LoadTarget}
use Rattle.star_scope.specs.declared.loads.LoadTarget.TheVariants as lead
use Rattle.star_scope.specs.declared.program.Prelude.{Prelude}
use Rattle.star_scope.specs.declared.program.Program.{Program}
use Rattle.star_scope.specs.Faults.{first}
use Rattle.star_scope.specs.Loads.{AllLead, LeadsTo, Read, load_of, prelude_loads}
use Rattle.star_scope.specs.Resolve.{AreReadIn, Outside, Resolves, faults_in, outside, prelude_names, seen_by}
use Rattle.star_plan.proofs.Rows.{same_rows}
use Rattle.star_plan.specs.Plan.{Plan, Reading, OfText, OfNames, Sound, Faulty, loaded, loads_in, read_of}
use Rattle.star_plan.specs.Reached.{IsReached, root, load}
use Rattle.star_plan.specs.Reading.{IsPlanOf, IsPrelude, IsRead, statements_in}

one_lead : (files : List File) (here text : List ℕ) → IsOrdered files → (l k : LoadTarget) → LeadsTo files here text l → LeadsTo files here text k → l ≡ k
one_lead files here text ordered (lead.File n) (lead.File m) (p, s, a, less, at) (q, t, b, short, is) = ap lead.File (one_file files n m ordered less short (at ∙ (one_label here text p s q t a b ∙ sym is)))
one_lead files here text ordered (lead.File n) lead.NoFile (p, s, a, less, at) (q, t, b, none) = absurd (none n less (at ∙ one_label here text p s q t a b))
one_lead files here text ordered (lead.File n) lead.BadLabel (p, s, a, less, at) bad = absurd (bad p s a)
one_lead files here text ordered lead.NoFile (lead.File m) (p, s, a, none) (q, t, b, short, is) = absurd (none m short (is ∙ one_label here text q t p s b a))
one_lead files here text ordered lead.NoFile lead.NoFile x y = refl
one_lead files here text ordered lead.NoFile lead.BadLabel (p, s, a, none) bad = absurd (bad p s a)
one_lead files here text ordered lead.BadLabel (lead.File m) bad (q, t, b, short, is) = absurd (bad q t b)
one_lead files here text ordered lead.BadLabel lead.NoFile bad (q, t, b, none) = absurd (bad q t b)
one_lead files here text ordered lead.BadLabel lead.BadLabel x y = refl

same_reads : (files : List File) (here : List ℕ) → IsOrdered files → (rs qs : List Read) → map (λ r. r.0) rs ≡ map (λ r. r.0) qs → AllLead files here rs → AllLead files here qs → rs ≡ qs
same_reads files here ordered [] [] e a b = refl
same_reads files here ordered [] (q ∷ qs) e a b = absurd (let no : ⊥ = cc in no)
same_reads files here ordered (r ∷ rs) [] e a b = absurd (let no : ⊥ = cc in no)
same_reads files here ordered (r ∷ rs) (q ∷ qs) e a b =
    let same : r.0 ≡ q.0 = cc in
    let others : map (λ x. x.0) rs ≡ map (λ x. x.0) qs = cc in
    let leads : r.1 ≡ q.1 = one_lead files here r.0.module_string.text ordered r.1 q.1 a.0 (subst (λ w. LeadsTo files here w.module_string.text q.1) (sym same) b.0) in
    let heads : r ≡ q = ap (λ w. let x : Read = (w, r.1) in x) same ∙ ap (λ l. let x : Read = (q.0, l) in x) leads in
    let rest : rs ≡ qs = same_reads files here ordered rs qs others a.1 b.1 in
    ap (λ x. x ∷ rs) heads ∙ ap (λ xs. q ∷ xs) rest

one_row : (files : List File) (n : ℕ) (ss : List Statement) → IsOrdered files → (rs qs : List Read) → AreReadIn files n ss rs → AreReadIn files n ss qs → rs ≡ qs
one_row files n ss ordered rs qs a b = same_reads files (package_of (label_at files n)) ordered rs qs (a.0 ∙ sym b.0) a.1 b.1

one_loads : (files : List File) (n : ℕ) (o : Outside) (ss : List Statement) → IsOrdered files → (p q : Program) → Resolves files n o ss (Ok p) → Resolves files n o ss (Ok q) → p.loads.items ≡ q.loads.items
one_loads files n o ss ordered p q (rs, a, none, is) (qs, b, nothing, also) =
    let same : rs ≡ qs = one_row files n ss ordered rs qs a b in
    is.loads ∙ (ap (λ x. prelude_loads (option_map (λ z. z.file) (seen_by n o.prelude)) ++ flat_map load_of x) same ∙ sym also.loads)

no_clash : (files : List File) (n : ℕ) (o : Outside) (ss : List Statement) → IsOrdered files → (p : Program) (e : ScopeFault) → Resolves files n o ss (Ok p) → Resolves files n o ss (Err e) → e ≢ fault.Memory → ⊥
no_clash files n o ss ordered p e a (inl memory) other = other memory
no_clash files n o ss ordered p e (rs, a, none, is) (inr (qs, b, (r, some, at))) other =
    let same : rs ≡ qs = one_row files n ss ordered rs qs a b in
    let both : None ≡ Some r = sym none ∙ (ap (λ x. first (faults_in n o ss x)) same ∙ some) in
    let no : ⊥ = cc in no

one_fault : (files : List File) (n : ℕ) (o : Outside) (ss : List Statement) → IsOrdered files → (e f : ScopeFault) → Resolves files n o ss (Err e) → Resolves files n o ss (Err f) → e ≢ fault.Memory → f ≢ fault.Memory → e ≡ f
one_fault files n o ss ordered e f (inl memory) b x y = absurd (x memory)
one_fault files n o ss ordered e f (inr a) (inl memory) x y = absurd (y memory)
one_fault files n o ss ordered e f (inr (rs, a, (r, some, at))) (inr (qs, b, (q, also, is))) x y =
    let same : rs ≡ qs = one_row files n ss ordered rs qs a b in
    let both : Some r ≡ Some q = sym some ∙ (ap (λ z. first (faults_in n o ss z)) same ∙ also) in
    let refusals : r ≡ q = cc in
    at ∙ (ap (λ z. z.fault) refusals ∙ sym is)

one_tree : (text : List ℕ) (t u : Tree) → Parses text (Ok t) → Parses text (Ok u) → t ≡ u
one_tree text t u a b = let same : Ok t ≡ Ok u = one_answer text (Ok t) (Ok u) (λ h. let no : ⊥ = cc in no) (λ h. let no : ⊥ = cc in no) a b in cc

no_tree : (text : List ℕ) (t : Tree) (e : SyntaxFault) → Parses text (Ok t) → Parses text (Err e) → e ≢ syntax_fault.Memory → ⊥
no_tree text t e a b other = let same : Ok t ≡ Err e = one_answer text (Ok t) (Err e) (λ h. let no : ⊥ = cc in no) (λ h. other (let is : e ≡ syntax_fault.Memory = cc in is)) a b in let no : ⊥ = cc in no

pub one-reading : (files : List File) (o : Outside) (n : ℕ) → IsOrdered files → (a b : Reading) → IsRead files o n a → IsRead files o n b → a ≡ b
one-reading files o n ordered (Faulty (OfText e)) (Faulty (OfText f)) x y =
    let same : Err e ≡ Err f = one_answer (text_at files n) (Err e) (Err f) (λ h. x.1 (let is : e ≡ syntax_fault.Memory = cc in is)) (λ h. y.1 (let is : f ≡ syntax_fault.Memory = cc in is)) x.0 y.0 in
    let faults : e ≡ f = cc in
    ap (λ z. Faulty (OfText z)) faults
one-reading files o n ordered (Faulty (OfText e)) (Faulty (OfNames f)) x y = absurd (no_tree (text_at files n) y.0 e y.1 x.0 x.1)
one-reading files o n ordered (Faulty (OfText e)) (Sound ss ls) x y = absurd (no_tree (text_at files n) y.0 e y.1 x.0 x.1)
one-reading files o n ordered (Faulty (OfNames e)) (Faulty (OfText f)) x y = absurd (no_tree (text_at files n) x.0 f x.1 y.0 y.1)
one-reading files o n ordered (Sound ss ls) (Faulty (OfText f)) x y = absurd (no_tree (text_at files n) x.0 f x.1 y.0 y.1)
one-reading files o n ordered (Faulty (OfNames e)) (Faulty (OfNames f)) (t, parses, resolves, other) (u, also, so, another) =
    let same : u ≡ t = one_tree (text_at files n) u t also parses in
    let moved : Resolves files n o t.statements (Err f) = subst (λ z. Resolves files n o z.statements (Err f)) same so in
    ap (λ z. Faulty (OfNames z)) (one_fault files n o t.statements ordered e f resolves moved other another)
one-reading files o n ordered (Faulty (OfNames e)) (Sound ss ls) (t, parses, resolves, other) (u, also, are, (p, so, is)) =
    let same : ss ≡ t.statements = sym are ∙ ap (λ z. z.statements) (one_tree (text_at files n) u t also parses) in
    absurd (no_clash files n o t.statements ordered p e (subst (λ z. Resolves files n o z (Ok p)) same so) resolves other)
one-reading files o n ordered (Sound ss ls) (Faulty (OfNames e)) (u, also, are, (p, so, is)) (t, parses, resolves, other) =
    let same : ss ≡ t.statements = sym are ∙ ap (λ z. z.statements) (one_tree (text_at files n) u t also parses) in
    absurd (no_clash files n o t.statements ordered p e (subst (λ z. Resolves files n o z (Ok p)) same so) resolves other)
one-reading files o n ordered (Sound ss ls) (Sound us ms) (t, parses, are, (p, so, is)) (u, also, were, (q, too, at)) =
    let same : us ≡ ss = sym were ∙ (ap (λ z. z.statements) (one_tree (text_at files n) u t also parses) ∙ are) in
    let loads : ls ≡ ms = sym is ∙ (one_loads files n o ss ordered p q so (subst (λ z. Resolves files n o z (Ok q)) same too) ∙ at) in
    ap (λ z. Sound z ls) (sym same) ∙ ap (Sound us) loads

one-prelude : (files : List File) (o : Option ℕ) (a b : Option Prelude) → IsPrelude files o a → IsPrelude files o b → a ≡ b
one-prelude files None a b x y = x ∙ sym y
one-prelude files (Some n) a b (r, parses, other, is) (t, also, another, at) =
    let same : r ≡ t = one_answer (text_at files n) r t other another parses also in
    is ∙ (ap (λ z. let q : Prelude = record { file = n; names = prelude_names (statements_in z) } in Some q) same ∙ sym at)

module _ (files : List File) (ordered : IsOrdered files) (p q : Plan) (a : IsPlanOf files p) (b : IsPlanOf files q) (roots : p.roots ≡ q.roots) (preludes : a.prelude ≡ b.prelude) (modes : p.mode ≡ q.mode) where
  same_read : (n : ℕ) (r s : Reading) → read_of p n ≡ Some r → read_of q n ≡ Some s → r ≡ s
  same_read n r s x y = one-reading files (outside b.prelude q.mode.language) n ordered r s
      (subst (λ m. IsRead files (outside b.prelude m.language) n r) modes (subst (λ o. IsRead files (outside o p.mode.language) n r) preludes (a.right n r x))) (b.right n s y)

  reached_too : (n : ℕ) → IsReached p n → IsReached q n
  reached_too n (root h) = root (subst (λ rs. Contains rs n) roots h)
  reached_too m (load {n = k} h step) =
      let before : IsReached q k = reached_too k h in
      let one = (a.reached k).0 h in
      let other = (b.reached k).0 before in
      let reads : read_of p k ≡ read_of q k = one.1 ∙ (ap Some (same_read k one.0 other.0 one.1 other.1) ∙ sym other.1) in
      let loads : loaded p k ≡ loaded q k = ap (λ r. map (λ l. l.file) (loads_in r)) reads in
      load before (subst (λ ns. Contains ns m) loads step)

  read_too : (n : ℕ) (r : Reading) → read_of p n ≡ Some r → read_of q n ≡ Some r
  read_too n r x =
      let other = (b.reached n).0 (reached_too n ((a.reached n).1 (r, x))) in
      other.1 ∙ ap Some (sym (same_read n r other.0 x other.1))

pub one-plan : (files : List File) → IsOrdered files → (p q : Plan) → IsPlanOf files p → IsPlanOf files q → p.roots ≡ q.roots → p.prelude ≡ q.prelude → p.mode ≡ q.mode → p ≡ q
one-plan files ordered p q a b roots prelude mode =
    let preludes : a.prelude ≡ b.prelude = one-prelude files q.prelude a.prelude b.prelude (subst (λ o. IsPrelude files o a.prelude) prelude a.prelude_is) b.prelude_is in
    let rows : p.reads ≡ q.reads = same_rows p.reads q.reads (a.size ∙ sym b.size) (read_too files ordered p q a b roots preludes mode) (read_too files ordered q p b a (sym roots) (sym preludes) (sym mode)) in
    ap (λ z. let r : Plan = record { roots = z; prelude = p.prelude; mode = p.mode; reads = p.reads } in r) roots
    ∙ (ap (λ z. let r : Plan = record { roots = q.roots; prelude = z; mode = p.mode; reads = p.reads } in r) prelude
    ∙ (ap (λ z. let r : Plan = record { roots = q.roots; prelude = q.prelude; mode = z; reads = p.reads } in r) mode
    ∙ ap (λ z. let r : Plan = record { roots = q.roots; prelude = q.prelude; mode = q.mode; reads = z } in r) rows))
