-- A fact of each value that a part of the grammar reads, from the same fact of the values of its own parts.
use Rattle.std.proofs.Common.{◌≡◌, ℕ, ℤ, zero, suc, List, [], ◌∷◌, ◌++◌, length, Option, Some, None, refl, ap, sym, ◌∙◌, subst}
use Rattle.star_syntax.specs.declared.leaf.TokenValue.{TokenValue}
use Rattle.star_syntax.specs.declared.leaf.TokenValue.TheVariants as word
use Rattle.star_syntax.specs.declared.leaf.ValuedToken.{ValuedToken}
use Rattle.star_tree.specs.declared.tree.Position.{Position}
use Rattle.star_tree.specs.declared.tree.Expression.{Expression}
use Rattle.star_tree.specs.declared.tree.Expression.TheVariants as e
use Rattle.star_syntax.specs.Sorts.{Sort, Val, both, maybe, list}
use Rattle.star_syntax.specs.Sorts as sorts
use Rattle.star_syntax.specs.Grammar.{Part, terminal, seq, alt, fold, act, when, placed, Answer, Readers, step, rounds, first, before_rest, located, and_then, or_else}
use Rattle.star_syntax.specs.Expressions.{atom_of, single, snoc, opt, rep, after, before}

-- each value that the part reads, with a knot for the parts that hold themselves
pub record Makes (k : Readers) (s : Sort) (g : Part s) (P : Val s → Type 0) : Type 0 where
  pub holds : (ts : List ValuedToken) (x : Val s) (us : List ValuedToken) → step k g ts ≡ Some (x, us) → P x

-- each item of a list
abbrev pub Each : {A : Type 0} → (A → Type 0) → List A → Type 0
Each P [] = Unit {0}
Each P (x ∷ xs) = P x × Each P xs

-- the value, if there is one
abbrev pub Maybe : {A : Type 0} → (A → Type 0) → Option A → Type 0
Maybe P None = Unit {0}
Maybe P (Some x) = P x

pub each-snoc : {A : Type 0} (P : A → Type 0) (xs : List A) (x : A) → Each P xs → P x → Each P (xs ++ x ∷ [])
each-snoc P [] x k l = (l, tt)
each-snoc P (y ∷ ys) x k l = (k.0, each-snoc P ys x k.1 l)

pub each-append : {A : Type 0} (P : A → Type 0) (xs ys : List A) → Each P xs → Each P ys → Each P (xs ++ ys)
each-append P [] ys k l = l
each-append P (x ∷ xs) ys k l = (k.0, each-append P xs ys k.1 l)

-- ---- answers

abbrev value_or : {A : Type 0} → A → Answer A → A
value_or x None = x
value_or x (Some p) = p.0

abbrev read_as : {A : Type 0} → A → List ValuedToken → Answer A
read_as x us = Some (x, us)

same_value : {A : Type 0} (x y : A) (us vs : List ValuedToken) → read_as x us ≡ read_as y vs → x ≡ y
same_value x y us vs e = ap (value_or x) e

abbrev found : {A : Type 0} → Option A → Type 0
found None = ⊥
found (Some x) = Unit {0}

pub nothing-found : {A : Type 0} (x : A) → None ≡ Some x → ⊥
nothing-found x e = subst found (sym e) tt

abbrev some_or : {A : Type 0} → A → Option A → A
some_or x None = x
some_or x (Some y) = y

pub same_some : {A : Type 0} (x y : A) → Some x ≡ Some y → x ≡ y
same_some x y e = ap (some_or x) e

-- a fact of each word that is an atom: a name, an int or a string
pub by-atom : (P : TokenValue → Expression → Type 0) (p : Position) → ((text : List ℕ) → P (word.Name text) (e.Name (record { text = text; position = p })))
    → ((value : ℤ) → P (word.Int value) (e.Int value)) → ((text : List ℕ) → P (word.Text text) (e.Text text)) → (w : TokenValue) (x : Expression) → atom_of p w ≡ Some x → P w x
by-atom P p on-name on-int on-text (word.Name text) x is = subst (P (word.Name text)) (same_some _ x is) (on-name text)
by-atom P p on-name on-int on-text (word.Int value) x is = subst (P (word.Int value)) (same_some _ x is) (on-int value)
by-atom P p on-name on-int on-text (word.Text text) x is = subst (P (word.Text text)) (same_some _ x is) (on-text text)
by-atom P p on-name on-int on-text (word.Keyword keyword) x is = absurd (nothing-found x is)
by-atom P p on-name on-int on-text (word.Punctuator sign) x is = absurd (nothing-found x is)
by-atom P p on-name on-int on-text word.Newline x is = absurd (nothing-found x is)
by-atom P p on-name on-int on-text word.Indent x is = absurd (nothing-found x is)
by-atom P p on-name on-int on-text word.Outdent x is = absurd (nothing-found x is)
by-atom P p on-name on-int on-text word.End x is = absurd (nothing-found x is)

parted : {A B : Type 0} (r : Answer A) (f : A → List ValuedToken → Answer B) (p : B × List ValuedToken) → and_then r f ≡ Some p → (q : A × List ValuedToken) × (r ≡ Some q) × (f q.0 q.1 ≡ Some p)
parted None f p e = absurd (nothing-found p e)
parted (Some q) f p e = (q, refl, e)

kept : {A : Type 0} (o : Option A) (ts us : List ValuedToken) (x : A) → before_rest o ts ≡ Some (x, us) → o ≡ Some x
kept None ts us x e = absurd (nothing-found (x, us) e)
kept (Some y) ts us x e = ap Some (same_value y x ts us e)

abbrev Answers : {A : Type 0} → Answer A → A → List ValuedToken → Type 0
Answers r x us = r ≡ Some (x, us)

module _ (k : Readers) where
  pub makes-any : {s : Sort} {g : Part s} → Makes k s g (λ x. Unit {0})
  makes-any = record { holds = λ ts x us e. tt }

  pub makes-so : {s : Sort} {g : Part s} {P Q : Val s → Type 0} → ((x : Val s) → P x → Q x) → Makes k s g P → Makes k s g Q
  makes-so f m = record { holds = λ ts x us e. f x (m.holds ts x us e) }

  pub makes-one : {a : Sort} {p : ValuedToken → Option (Val a)} {P : Val a → Type 0} → ((t : ValuedToken) (x : Val a) → p t ≡ Some x → P x) → Makes k a (terminal p) P
  makes-one {a = a} {p = p} {P = P} f = record { holds = go }
    where
      go : (ts : List ValuedToken) (x : Val a) (us : List ValuedToken) → first p ts ≡ Some (x, us) → P x
      go [] x us e = absurd (nothing-found (x, us) e)
      go (t ∷ ts) x us e = f t x (kept (p t) ts us x e)

  pub makes-seq : {a b : Sort} {g : Part a} {h : Part b} {P : Val a → Type 0} {Q : Val b → Type 0} → Makes k a g P → Makes k b h Q → Makes k (both a b) (seq g h) (λ p. P p.0 × Q p.1)
  makes-seq {a = a} {b = b} {g = g} {h = h} {P = P} {Q = Q} m n = record { holds = go }
    where
      go : (ts : List ValuedToken) (x : Val a × Val b) (us : List ValuedToken) → and_then (step k g ts) (λ y vs. and_then (step k h vs) (λ z ws. Some ((y, z), ws))) ≡ Some (x, us) → P x.0 × Q x.1
      go ts x us e =
          let i = parted (step k g ts) (λ y vs. and_then (step k h vs) (λ z ws. Some ((y, z), ws))) (x, us) e in
          let j = parted (step k h i.0.1) (λ z ws. Some ((i.0.0, z), ws)) (x, us) i.2 in
          let same = same_value (i.0.0, j.0.0) x j.0.1 us j.2 in
          subst (λ p. P p.0 × Q p.1) same (m.holds ts i.0.0 i.0.1 i.1, n.holds i.0.1 j.0.0 j.0.1 j.1)

  pub makes-alt : {a : Sort} {g h : Part a} {P : Val a → Type 0} → Makes k a g P → Makes k a h P → Makes k a (alt g h) P
  makes-alt {a = a} {g = g} {h = h} {P = P} m n = record { holds = λ ts x us e. go ts x us (step k g ts) refl e }
    where
      go : (ts : List ValuedToken) (x : Val a) (us : List ValuedToken) (r : Answer (Val a)) → step k g ts ≡ r → or_else r (step k h ts) ≡ Some (x, us) → P x
      go ts x us None is e = n.holds ts x us e
      go ts x us (Some p) is e = m.holds ts x us (is ∙ e)

  pub makes-act : {a b : Sort} {f : Val a → Val b} {g : Part a} {P : Val a → Type 0} {Q : Val b → Type 0} → ((x : Val a) → P x → Q (f x)) → Makes k a g P → Makes k b (act f g) Q
  makes-act {a = a} {b = b} {f = f} {g = g} {P = P} {Q = Q} s m = record { holds = go }
    where
      go : (ts : List ValuedToken) (y : Val b) (us : List ValuedToken) → and_then (step k g ts) (λ x vs. Some (f x, vs)) ≡ Some (y, us) → Q y
      go ts y us e =
          let i = parted (step k g ts) (λ x vs. Some (f x, vs)) (y, us) e in
          subst Q (same_value (f i.0.0) y i.0.1 us i.2) (s i.0.0 (m.holds ts i.0.0 i.0.1 i.1))

  pub makes-when : {a b : Sort} {f : Val a → Option (Val b)} {g : Part a} {P : Val a → Type 0} {Q : Val b → Type 0} → ((x : Val a) (y : Val b) → P x → f x ≡ Some y → Q y) → Makes k a g P → Makes k b (when f g) Q
  makes-when {a = a} {b = b} {f = f} {g = g} {P = P} {Q = Q} s m = record { holds = go }
    where
      go : (ts : List ValuedToken) (y : Val b) (us : List ValuedToken) → and_then (step k g ts) (λ x vs. before_rest (f x) vs) ≡ Some (y, us) → Q y
      go ts y us e =
          let i = parted (step k g ts) (λ x vs. before_rest (f x) vs) (y, us) e in
          s i.0.0 y (m.holds ts i.0.0 i.0.1 i.1) (kept (f i.0.0) i.0.1 us y i.2)

  pub makes-placed : {a : Sort} {g : Part a} {P : Val a → Type 0} → Makes k a g P → Makes k (both sorts.position a) (placed g) (λ p. P p.1)
  makes-placed {a = a} {g = g} {P = P} m = record { holds = go }
    where
      go : (ts : List ValuedToken) (x : Position × Val a) (us : List ValuedToken) → located ts (step k g ts) ≡ Some (x, us) → P x.1
      go [] x us e = absurd (nothing-found (x, us) e)
      go (t ∷ ts) x us e =
          let i = parted (step k g (t ∷ ts)) (λ y vs. Some ((t.position, y), vs)) (x, us) e in
          subst (λ p. P p.1) (same_value (t.position, i.0.0) x i.0.1 us i.2) (m.holds (t ∷ ts) i.0.0 i.0.1 i.1)

  module _ (a b : Sort) (f : Val a → Val b → Val a) (h : Part b) (P : Val a → Type 0) (Q : Val b → Type 0) (s : (x : Val a) (y : Val b) → P x → Q y → P (f x y)) (m : Makes k b h Q) where
    all-rounds : (n : ℕ) (x z : Val a) (ts us : List ValuedToken) → P x → rounds f (step k h) n x ts ≡ Some (z, us) → P z
    unfolding rounds
    all-rounds zero x z ts us p e = subst P (same_value x z ts us e) p
    all-rounds (suc n) x z ts us p e = go (λ y vs l. all-rounds n (f x y) z vs us l) (step k h ts) refl e
      where
        go : ((y : Val b) (vs : List ValuedToken) → P (f x y) → rounds f (step k h) n (f x y) vs ≡ Some (z, us) → P z) → (o : Answer (Val b)) → step k h ts ≡ o
            → Answers (elim o [ None ↦ Some (x, ts) | Some q ↦ rounds f (step k h) n (f x q.0) q.1 ]) z us → P z
        go next None is e = subst P (same_value x z ts us e) p
        go next (Some q) is e = next q.0 q.1 (s x q.0 p (m.holds ts q.0 q.1 is)) e

  pub makes-fold : {a b : Sort} {f : Val a → Val b → Val a} {g : Part a} {h : Part b} {P : Val a → Type 0} {Q : Val b → Type 0} → ((x : Val a) (y : Val b) → P x → Q y → P (f x y)) → Makes k a g P → Makes k b h Q → Makes k a (fold f g h) P
  makes-fold {a = a} {b = b} {f = f} {g = g} {h = h} {P = P} {Q = Q} s m n = record { holds = go }
    where
      go : (ts : List ValuedToken) (x : Val a) (us : List ValuedToken) → and_then (step k g ts) (λ y vs. rounds f (step k h) (length vs) y vs) ≡ Some (x, us) → P x
      go ts x us e =
          let i = parted (step k g ts) (λ y vs. rounds f (step k h) (length vs) y vs) (x, us) e in
          all-rounds a b f h P Q s n (length i.0.1) i.0.0 x i.0.1 us (m.holds ts i.0.0 i.0.1 i.1) i.2

  -- ---- the words for productions

  pub makes-after : {a b : Sort} {g : Part a} {h : Part b} {P : Val b → Type 0} → Makes k b h P → Makes k b (after g h) P
  makes-after m = makes-act (λ x p. p.1) (makes-seq makes-any m)

  pub makes-before : {a b : Sort} {g : Part a} {h : Part b} {P : Val a → Type 0} → Makes k a g P → Makes k a (before g h) P
  makes-before m = makes-act (λ x p. p.0) (makes-seq m makes-any)

  pub makes-opt : {a : Sort} {g : Part a} {P : Val a → Type 0} → Makes k a g P → Makes k (maybe a) (opt g) (Maybe P)
  makes-opt m = makes-alt (makes-act (λ x p. p) m) (makes-act (λ x p. tt) makes-any)

  pub makes-list : {a : Sort} {g h : Part a} {P : Val a → Type 0} → Makes k a g P → Makes k a h P → Makes k (list a) (fold snoc (act single g) h) (Each P)
  makes-list {P = P} m n = makes-fold (λ xs x p q. each-snoc P xs x p q) (makes-act (λ x p. (p, tt)) m) n

  pub makes-rep : {a : Sort} {g : Part a} {P : Val a → Type 0} → Makes k a g P → Makes k (list a) (rep g) (Each P)
  makes-rep {P = P} m = makes-fold (λ xs x p q. each-snoc P xs x p q) (makes-act (λ x p. tt) makes-any) m
