-- JSON at a number of levels, by the number below it, and the names of entries.
use Rattle.std.proofs.Common.{◌≡◌, ℕ, zero, suc, ◌+◌, ◌-◌, ◌*◌, ◌<◌, ◌++◌, List, [], ◌∷◌, length, nat_eq, Bool, true, false, ◌&&◌, Option, Some, None, refl, sym, ap, ◌∙◌, arith, append-nil, eqb-true, length-append}
use Rattle.std.specs.Option.{option_map}
use Rattle.std.proofs.lemmas.List.{append_assoc}
use native.Mathlib.Nat.{suc-mul, zero-mul}
use Rattle.json.specs.Print.{print, print_from, quoted}
use Rattle.json.specs.Token.{string}
use Rattle.star_store.specs.declared.values.Value.{Value}
use Rattle.star_store.specs.declared.values.Cell.{Cell}
use Rattle.star_store.specs.declared.fault.StoreFault.TheVariants.{Deep}
use Rattle.star_store.specs.declared.layout.Layout.{Layout}
use Rattle.star_store.specs.Fields.{Fields}
use Rattle.star_store.specs.Json.{begun, json, put_value, times}
use Rattle.star_store.specs.Text.{same_address}
use Rattle.star_store.specs.declared.values.Value.TheVariants as value
use Rattle.star_store.specs.Spend.{Lacks, visited}

pub json_at_none : (look : Value → Option Cell) (l : Layout) (depth : ℕ) (v : Value) (out : List ℕ) (n : ℕ) → json look l 0 depth v out n ≡ Lacks Deep n
unfolding json
json_at_none look l depth v out n = refl

pub json_at : (look : Value → Option Cell) (l : Layout) (levels depth : ℕ) (v : Value) (out : List ℕ) (n : ℕ) → 0 < levels → json look l levels depth v out n ≡ visited (put_value look l depth (json look l (levels - 1)) v out) n
unfolding json
json_at look l zero depth v out n h = absurd (omega arith)
json_at look l (suc levels) depth v out n h = ap (λ k. visited (put_value look l depth (json look l k) v out) n) (let e : levels ≡ suc levels - 1 = omega arith in e)

-- one field more in front of the others
pub one_more : (front : Fields) (e : List ℕ × Value) (rest : Option Fields) → option_map (λ fs. front ++ fs) (option_map (λ fs. e ∷ fs) rest) ≡ option_map (λ fs. (front ++ e ∷ []) ++ fs) rest
one_more front e None = refl
one_more front e (Some fs) = ap Some (sym (append_assoc front (e ∷ []) fs))

-- a string alone is printed in quotes
pub print_string : (t : List ℕ) → print (string t ∷ []) ≡ quoted t
unfolding print_from
print_string t = append-nil (quoted t)

times_long : (n : ℕ) (t : List ℕ) → length (times n t) ≡ n * length t
times_long zero t = sym (zero-mul (length t))
times_long (suc n) t = omega (arith, length-append t (times n t), times_long n t, suc-mul n (length t))

pub begun_long : (prefix indent : List ℕ) (n : ℕ) → 1 + length prefix + n * length indent ≡ length (begun prefix indent n)
begun_long prefix indent n = omega (arith, length-append prefix (times n indent), times_long n indent)

times_more : (n m : ℕ) (t : List ℕ) → n ≡ m + 1 → times n t ≡ t ++ times m t
times_more zero m t h = absurd (omega arith)
times_more (suc n) m t h = ap (λ k. t ++ times k t) (let e : n ≡ m = omega arith in e)

pub times_next : (n i : ℕ) (t : List ℕ) → i < n → times (n - i) t ≡ t ++ times (n - (i + 1)) t
times_next n i t h = times_more (n - i) (n - (i + 1)) t (omega arith)

both : (a b : Bool) → (a && b) ≡ true → (a ≡ true) × (b ≡ true)
both true b e = (refl, e)
both false b e = cc

-- two values that lead to one cell are one
pub address : (v p : Value) → same_address v p ≡ true → v ≡ p
address (value.Ref h a) (value.Ref k b) e =
    let is = both (nat_eq h k) (nat_eq a b) e in
    ap (λ z. value.Ref z a) (eqb-true h k is.0) ∙ ap (λ z. value.Ref k z) (eqb-true a b is.1)
address (value.Ref h a) value.NoneValue e = absurd (let no : ⊥ = cc in no)
address (value.Ref h a) (value.Bool b) e = absurd (let no : ⊥ = cc in no)
address (value.Ref h a) (value.Int n) e = absurd (let no : ⊥ = cc in no)
address (value.Ref h a) (value.Builtin b) e = absurd (let no : ⊥ = cc in no)
address value.NoneValue p e = absurd (let no : ⊥ = cc in no)
address (value.Bool b) p e = absurd (let no : ⊥ = cc in no)
address (value.Int n) p e = absurd (let no : ⊥ = cc in no)
address (value.Builtin b) p e = absurd (let no : ⊥ = cc in no)
