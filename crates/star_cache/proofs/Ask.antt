-- The facts that `ask` knows of its target.
use Rattle.std.proofs.Common.{◌≡◌, ◌↔◌, ◌<◌, ℕ, zero, suc, List, [], ◌∷◌, Option, Some, None, Bool, true, MatchOption, length, sym, subst, ◌∙◌, inl, arith}
use Rattle.star_cache.specs.declared.entry.Entry.TheVariants.{Running}
use Rattle.star_cache.specs.declared.reply.Reply.{Reply}
use Rattle.star_cache.specs.declared.reply.Reply.TheVariants.{Begun, Ready, Failed, Spoiled, Cycle, Wait}
use Rattle.star_cache.specs.Walk.{Walk}
use Rattle.star_cache.specs.State.{BookState, Links, Loads, IsIn, top_of, entry_at, stack_of}
use Rattle.star_cache.specs.Step.{IsBook, MayAsk, MeetsSeat, IsEndReply}
use Rattle.star_cache.specs.Tells.{Tells, IsCyclic}
use Rattle.star_cache.proofs.Cycles.{LeadsTo-links, top_from_member}
use Rattle.star_cache.proofs.Meets.{below_member, running_not_fresh}

-- the top is a member
pub member_from_top : (x : ℕ) (stack : List ℕ) → top_of stack ≡ Some x → IsIn x stack
member_from_top x [] t = absurd (cc)
member_from_top x (y ∷ below) t = inl (cc)

-- an entry of a book is one of an equal book
pub known-again : {P : Type 0} (b now : BookState P) (n : ℕ) → now ≡ b → n < length b.entries → n < length now.entries
known-again {P} b now n same h =
    let Known : BookState P → Type 0 = λ v. n < length v.entries in
    subst Known (sym same) h

module _ {P : Type 0} (loads : ℕ → List ℕ) (Good : ℕ → Type 0) (Reached : ℕ → Type 0) (Right : ℕ → P → Type 0) (files : ℕ) (b : BookState P) (book : IsBook loads Reached Right files b) where
  -- the target is reached
  pub Reached-target : ((n m : ℕ) → Reached n → Loads loads n m → Reached m) → (s n : ℕ) (parent : Option ℕ) → MayAsk b s parent → MatchOption parent (Reached n) (λ p. Loads loads p n) → Reached n
  Reached-target law s n None may load = load
  Reached-target law s n (Some p) may load =
      let runs = book.lawful.runs s p (member_from_top p (stack_of b s) may.on_top) in
      let on = book.lawful.reached p (running_not_fresh (entry_at b p) runs) in
      law p n on load

  -- the top loads it
  pub Loads-target : (s n : ℕ) (parent : Option ℕ) → MayAsk b s parent → MatchOption parent (Reached n) (λ p. Loads loads p n) → (x : ℕ) → top_of (stack_of b s) ≡ Some x → Loads loads x n
  Loads-target s n None may load x top = let clash = sym top ∙ may.on_top in absurd (cc)
  Loads-target s n (Some p) may load x top =
      let both = sym may.on_top ∙ top in
      let same : p ≡ x = cc in
      subst (λ v. Loads loads v n) same load

  -- a loader that is walked to has something in its stack
  top_from_walk : (k t s e : ℕ) → IsIn e (stack_of b t) → Walk (Links b) k t s → (x : ℕ) × (top_of (stack_of b s) ≡ Some x)
  top_from_walk zero t s e h w = top_from_member e (stack_of b s) (subst (λ v. IsIn e (stack_of b v)) w h)
  top_from_walk (suc k) t s e h w = top_from_walk k w.0 s w.1.0 w.1.3 w.2

  -- a target that meets its asker lies on a load cycle with the edge from the parent
  pub IsCyclic-target : (s n : ℕ) (parent : Option ℕ) → MayAsk b s parent → MatchOption parent (Reached n) (λ p. Loads loads p n) → MeetsSeat b n s → IsCyclic loads parent n
  IsCyclic-target s n None may load meets =
      let top = top_from_walk meets.2.0 meets.0 s n meets.1 meets.2.1 in
      let clash = sym top.1 ∙ may.on_top in
      absurd (cc)
  IsCyclic-target s n (Some p) may load meets =
      (load, LeadsTo-links loads Reached Right b book.lawful meets.2.0 meets.0 s n p meets.1 meets.2.1 may.on_top)

  -- a single loader meets every target that runs
  pub MeetsSeat-alone : (s n : ℕ) → s < length b.loaders → length b.loaders ≡ 1 → entry_at b n ≡ Running → MeetsSeat b n s
  MeetsSeat-alone s n there one runs =
      let at = book.lawful.stacked n runs in
      let low = below_member b at.0 n at.1 in
      (at.0, at.1, (0, omega (arith, there, one, low)))

  -- the product of an entry that has ended is right
  pub Tells-ended : (Refused MayWait : Type 0) (good : P → Bool) → ((m : ℕ) (p : P) → Right m p → (good p ≡ true) ↔ Good m) → (n : ℕ) (reply : Reply P) → IsEndReply good (entry_at b n) reply → Tells Right Good Refused MayWait n reply
  Tells-ended Refused MayWait good law n (Ready p) is = let right = book.lawful.right n p is.0 in (right, (law n p right).0 is.1)
  Tells-ended Refused MayWait good law n (Failed p) is = let right = book.lawful.right n p is.0 in (right, λ g. let yes_good = (law n p right).1 g in let clash = sym is.1 ∙ yes_good in cc)
  Tells-ended Refused MayWait good law n Spoiled is = tt
  Tells-ended Refused MayWait good law n Begun is = tt
  Tells-ended Refused MayWait good law n Cycle is = absurd is
  Tells-ended Refused MayWait good law n Wait is = absurd is
