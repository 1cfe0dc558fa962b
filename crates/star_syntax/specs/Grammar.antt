-- Grammars as data, with their spelling and reading. They are parsing expression grammars: of several alternatives the
-- first that reads is taken, and a repetition takes as many rounds as it can.
use Rattle.std.specs.Prelude.{◌≡◌, ℕ, zero, suc, List, [], ◌∷◌, ◌++◌, length, Option, Some, None}
use Rattle.star_syntax.specs.declared.leaf.ValuedToken.{ValuedToken}
use Rattle.star_tree.specs.declared.tree.Position.{Position}
use Rattle.star_syntax.specs.declared.level.Level.{Level}
use Rattle.star_syntax.specs.Sorts.{Sort, Val, both}
use Rattle.star_syntax.specs.Sorts as sorts

-- the parts of the grammar that hold themselves
pub data Rule : Type 0 where
  level : Level → Rule
  statement : Rule

abbrev pub sort : Rule → Sort
sort (level l) = sorts.expression
sort statement = sorts.list sorts.statement

pub data Part : Sort → Type 0 where
  -- one leaf that has a value here
  terminal : {a : Sort} → (ValuedToken → Option (Val a)) → Part a
  empty : Part sorts.nothing
  seq : {a b : Sort} → Part a → Part b → Part (both a b)
  -- the first that reads
  alt : {a : Sort} → Part a → Part a → Part a
  -- the first part, then rounds of the second as long as one reads, each joined from the left
  fold : {a b : Sort} → (Val a → Val b → Val a) → Part a → Part b → Part a
  act : {a b : Sort} → (Val a → Val b) → Part a → Part b
  -- only values that the function maps to one
  when : {a b : Sort} → (Val a → Option (Val b)) → Part a → Part b
  -- a part that takes a leaf at least, with the position of its first leaf
  placed : {a : Sort} → Part a → Part (both sorts.position a)
  nonterminal : (r : Rule) → Part (sort r)

abbrev pub Answer : Type 0 → Type 0
Answer A = Option (A × List ValuedToken)

-- ---- the spelling of a part

pub data Spells (rule : (r : Rule) → Part (sort r)) : (s : Sort) → Part s → Val s → List ValuedToken → Type 0 where
  terminal' : {a : Sort} {p : ValuedToken → Option (Val a)} {x : Val a} {t : ValuedToken} → p t ≡ Some x → Spells rule _ (terminal p) x (t ∷ [])
  empty' : Spells rule _ empty tt []
  seq' : {a b : Sort} {g : Part a} {h : Part b} {x : Val a} {y : Val b} {xs ys : List ValuedToken} → Spells rule _ g x xs
      → Spells rule _ h y ys → Spells rule _ (seq g h) (x, y) (xs ++ ys)
  left' : {a : Sort} {g h : Part a} {x : Val a} {xs : List ValuedToken} → Spells rule _ g x xs → Spells rule _ (alt g h) x xs
  right' : {a : Sort} {g h : Part a} {x : Val a} {xs : List ValuedToken} → Spells rule _ h x xs → Spells rule _ (alt g h) x xs
  start' : {a b : Sort} {f : Val a → Val b → Val a} {g : Part a} {h : Part b} {x : Val a} {xs : List ValuedToken}
      → Spells rule _ g x xs → Spells rule _ (fold f g h) x xs
  round' : {a b : Sort} {f : Val a → Val b → Val a} {g : Part a} {h : Part b} {x : Val a} {y : Val b} {xs ys : List ValuedToken}
      → Spells rule _ (fold f g h) x xs → Spells rule _ h y ys → Spells rule _ (fold f g h) (f x y) (xs ++ ys)
  act' : {a b : Sort} {f : Val a → Val b} {g : Part a} {x : Val a} {xs : List ValuedToken} → Spells rule _ g x xs
      → Spells rule _ (act f g) (f x) xs
  when' : {a b : Sort} {f : Val a → Option (Val b)} {g : Part a} {x : Val a} {y : Val b} {xs : List ValuedToken} → f x ≡ Some y
      → Spells rule _ g x xs → Spells rule _ (when f g) y xs
  placed' : {a : Sort} {g : Part a} {x : Val a} {t : ValuedToken} {xs : List ValuedToken} → Spells rule _ g x (t ∷ xs)
      → Spells rule _ (placed g) (t.position, x) (t ∷ xs)
  nonterminal' : {r : Rule} {x : Val (sort r)} {xs : List ValuedToken} → Spells rule _ (rule r) x xs → Spells rule _ (nonterminal r) x xs

-- ---- the reading of a part at the front of the leaves, or that it reads nothing there

mutual
  pub data Reads (rule : (r : Rule) → Part (sort r)) : (s : Sort) → Part s → List ValuedToken → Answer (Val s) → Type 0 where
    hit : {a : Sort} {p : ValuedToken → Option (Val a)} {x : Val a} {t : ValuedToken} {ts : List ValuedToken} → p t ≡ Some x
        → Reads rule _ (terminal p) (t ∷ ts) (Some (x, ts))
    miss : {a : Sort} {p : ValuedToken → Option (Val a)} {t : ValuedToken} {ts : List ValuedToken} → p t ≡ None
        → Reads rule _ (terminal p) (t ∷ ts) None
    over : {a : Sort} {p : ValuedToken → Option (Val a)} → Reads rule _ (terminal p) [] None
    free : {ts : List ValuedToken} → Reads rule _ empty ts (Some (tt, ts))
    seq-some : {a b : Sort} {g : Part a} {h : Part b} {x : Val a} {y : Val b} {ts us vs : List ValuedToken}
        → Reads rule _ g ts (Some (x, us)) → Reads rule _ h us (Some (y, vs))
        → Reads rule _ (seq g h) ts (Some ((x, y), vs))
    seq-first : {a b : Sort} {g : Part a} {h : Part b} {ts : List ValuedToken} → Reads rule _ g ts None
        → Reads rule _ (seq g h) ts None
    seq-second : {a b : Sort} {g : Part a} {h : Part b} {x : Val a} {ts us : List ValuedToken} → Reads rule _ g ts (Some (x, us))
        → Reads rule _ h us None → Reads rule _ (seq g h) ts None
    alt-first : {a : Sort} {g h : Part a} {ts : List ValuedToken} {p : Val a × List ValuedToken} → Reads rule _ g ts (Some p)
        → Reads rule _ (alt g h) ts (Some p)
    alt-second : {a : Sort} {g h : Part a} {ts : List ValuedToken} {r : Answer (Val a)} → Reads rule _ g ts None
        → Reads rule _ h ts r → Reads rule _ (alt g h) ts r
    fold-none : {a b : Sort} {f : Val a → Val b → Val a} {g : Part a} {h : Part b} {ts : List ValuedToken} → Reads rule _ g ts None
        → Reads rule _ (fold f g h) ts None
    fold-some : {a b : Sort} {f : Val a → Val b → Val a} {g : Part a} {h : Part b} {x : Val a} {ts us : List ValuedToken}
        {p : Val a × List ValuedToken} → Reads rule _ g ts (Some (x, us)) → Rounds rule _ _ f h x us p
        → Reads rule _ (fold f g h) ts (Some p)
    act-none : {a b : Sort} {f : Val a → Val b} {g : Part a} {ts : List ValuedToken} → Reads rule _ g ts None
        → Reads rule _ (act f g) ts None
    act-some : {a b : Sort} {f : Val a → Val b} {g : Part a} {x : Val a} {ts us : List ValuedToken}
        → Reads rule _ g ts (Some (x, us)) → Reads rule _ (act f g) ts (Some (f x, us))
    when-none : {a b : Sort} {f : Val a → Option (Val b)} {g : Part a} {ts : List ValuedToken} → Reads rule _ g ts None
        → Reads rule _ (when f g) ts None
    when-broken : {a b : Sort} {f : Val a → Option (Val b)} {g : Part a} {x : Val a} {ts us : List ValuedToken} → f x ≡ None
        → Reads rule _ g ts (Some (x, us)) → Reads rule _ (when f g) ts None
    when-some : {a b : Sort} {f : Val a → Option (Val b)} {g : Part a} {x : Val a} {y : Val b} {ts us : List ValuedToken} → f x
        ≡ Some y → Reads rule _ g ts (Some (x, us)) → Reads rule _ (when f g) ts (Some (y, us))
    placed-none : {a : Sort} {g : Part a} {ts : List ValuedToken} → Reads rule _ g ts None → Reads rule _ (placed g) ts None
    placed-some : {a : Sort} {g : Part a} {x : Val a} {t : ValuedToken} (xs : List ValuedToken) {us : List ValuedToken}
        → Reads rule _ g (t ∷ (xs ++ us)) (Some (x, us))
        → Reads rule _ (placed g) (t ∷ (xs ++ us)) (Some ((t.position, x), us))
    itself : {r : Rule} {ts : List ValuedToken} {a : Answer (Val (sort r))} → Reads rule _ (rule r) ts a
        → Reads rule _ (nonterminal r) ts a

  -- a further round is taken wherever one reads
  pub data Rounds (rule : (r : Rule) → Part (sort r)) : (a b : Sort) → (Val a → Val b → Val a) → Part b → Val a → List ValuedToken
      → Val a × List ValuedToken → Type 0 where
    stop : {a b : Sort} {f : Val a → Val b → Val a} {h : Part b} {x : Val a} {ts : List ValuedToken} → Reads rule _ h ts None
        → Rounds rule _ _ f h x ts (x, ts)
    more : {a b : Sort} {f : Val a → Val b → Val a} {h : Part b} {x : Val a} {y : Val b} {ts us : List ValuedToken} {p : Val a
        × List ValuedToken} → Reads rule _ h ts (Some (y, us)) → Rounds rule _ _ f h (f x y) us p → Rounds rule _ _ f h x ts p

-- ---- reading, computed

abbrev pub and_then : {A B : Type 0} → Answer A → (A → List ValuedToken → Answer B) → Answer B
and_then None f = None
and_then (Some p) f = f p.0 p.1

abbrev pub or_else : {A : Type 0} → Answer A → Answer A → Answer A
or_else None r = r
or_else (Some p) r = Some p

-- a value before the rest
abbrev pub before_rest : {A : Type 0} → Option A → List ValuedToken → Answer A
before_rest None ts = None
before_rest (Some x) ts = Some (x, ts)

abbrev pub first : {A : Type 0} → (ValuedToken → Option A) → List ValuedToken → Answer A
first p [] = None
first p (t ∷ ts) = before_rest (p t) ts

-- an answer with the position of the first leaf
abbrev pub located : {A : Type 0} → List ValuedToken → Answer A → Answer (Position × A)
located [] r = None
located (t ∷ ts) r = and_then r (λ x us. Some ((t.position, x), us))

-- the number bounds the rounds
unfoldable pub rounds : {A B : Type 0} → (A → B → A) → (List ValuedToken → Answer B) → ℕ → A → List ValuedToken → Answer A
rounds f h zero x ts = Some (x, ts)
rounds f h (suc n) x ts = elim (h ts) [ None ↦ Some (x, ts) | Some p ↦ rounds f h n (f x p.0) p.1 ]

abbrev pub Readers : Type 0
Readers = (r : Rule) → List ValuedToken → Answer (Val (sort r))

abbrev pub step : Readers → {s : Sort} → Part s → List ValuedToken → Answer (Val s)
step k (terminal p) ts = first p ts
step k empty ts = Some (tt, ts)
step k (seq g h) ts = and_then (step k g ts) (λ x us. and_then (step k h us) (λ y vs. Some ((x, y), vs)))
step k (alt g h) ts = or_else (step k g ts) (step k h ts)
step k (fold f g h) ts = and_then (step k g ts) (λ x us. rounds f (step k h) (length us) x us)
step k (act f g) ts = and_then (step k g ts) (λ x us. Some (f x, us))
step k (when f g) ts = and_then (step k g ts) (λ x us. before_rest (f x) us)
step k (placed g) ts = located ts (step k g ts)
step k (nonterminal r) ts = k r ts

unfoldable pub run : ((r : Rule) → Part (sort r)) → ℕ → Readers
run rule zero r ts = None
run rule (suc d) r ts = step (run rule d) (rule r) ts
