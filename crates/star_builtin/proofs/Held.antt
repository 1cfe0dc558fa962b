-- An int that is held within 2^64 is outside of 64 bits exactly if it was.
use Rattle.std.proofs.Common.{◌≡◌, ℤ, pos, negsuc, Option, Some, None, ap, sym, ◌∙◌, arith}
use Rattle.std.proofs.lemmas.Int.{ints}
use Rattle.std.specs.Option.{option_map}
use Rattle.star_store.specs.Arithmetic.{checked}
use Rattle.star_strings.specs.Ints.{held_int}

pub held_checked : (z : ℤ) → checked (held_int z) ≡ checked z
held_checked (pos n) = grind (arith, ints)
held_checked (negsuc n) = grind (arith, ints)

-- the same of an int that may be there
pub spelled_checked : (o : Option ℤ) (z : ℤ) → option_map held_int o ≡ Some z → Some (checked z) ≡ option_map checked o
spelled_checked None z e = cc
spelled_checked (Some x) z e = ap (option_map checked) (sym e) ∙ ap Some (held_checked x)
