-- The contents of values, by their cells.
use Rattle.std.proofs.Common.{◌≡◌, ℕ, Some, None, ℤ, ◌*ℤ◌, refl}
use Rattle.star_meaning.specs.declared.fault.FaultCode.TheVariants.{BadType}
use Rattle.star_meaning.specs.Run.{fail}
use Rattle.star_meaning.specs.Values.{Content, Nothing, Truth, Number, BuiltInFunction, Held, Nowhere, int_of, new_int}
use Rattle.star_meaning.specs.Operators.{multiply, repeated, count_from}

-- the product of contents that are ints or not
pub product : (line : ℕ) (c d : Content) (x y : ℤ) → int_of c ≡ Some x → int_of d ≡ Some y → multiply line c d ≡ new_int line (x *ℤ y)
product line (Number a) (Number b) x y h k = let e : a ≡ x = cc in let f : b ≡ y = cc in cc
product line (Number a) Nothing x y h k = cc
product line (Number a) (Truth b) x y h k = cc
product line (Number a) (BuiltInFunction b) x y h k = cc
product line (Number a) (Held b) x y h k = cc
product line (Number a) Nowhere x y h k = cc
product line Nothing d x y h k = cc
product line (Truth b) d x y h k = cc
product line (BuiltInFunction b) d x y h k = cc
product line (Held b) d x y h k = cc
product line Nowhere d x y h k = cc

pub product_left : (line : ℕ) (c d : Content) (x : ℤ) → int_of c ≡ Some x → int_of d ≡ None → multiply line c d ≡ repeated line d (count_from x)
product_left line (Number a) (Number b) x h k = cc
product_left line (Number a) Nothing x h k = let e : a ≡ x = cc in cc
product_left line (Number a) (Truth b) x h k = let e : a ≡ x = cc in cc
product_left line (Number a) (BuiltInFunction b) x h k = let e : a ≡ x = cc in cc
product_left line (Number a) (Held b) x h k = let e : a ≡ x = cc in cc
product_left line (Number a) Nowhere x h k = let e : a ≡ x = cc in cc
product_left line Nothing d x h k = cc
product_left line (Truth b) d x h k = cc
product_left line (BuiltInFunction b) d x h k = cc
product_left line (Held b) d x h k = cc
product_left line Nowhere d x h k = cc

pub product_right : (line : ℕ) (c d : Content) (y : ℤ) → int_of c ≡ None → int_of d ≡ Some y → multiply line c d ≡ repeated line c (count_from y)
product_right line c Nothing y h k = cc
product_right line c (Truth b) y h k = cc
product_right line c (BuiltInFunction b) y h k = cc
product_right line c (Held b) y h k = cc
product_right line c Nowhere y h k = cc
product_right line (Number a) (Number b) y h k = cc
product_right line Nothing (Number b) y h k = let e : b ≡ y = cc in cc
product_right line (Truth a) (Number b) y h k = let e : b ≡ y = cc in cc
product_right line (BuiltInFunction a) (Number b) y h k = let e : b ≡ y = cc in cc
product_right line (Held a) (Number b) y h k = let e : b ≡ y = cc in cc
product_right line Nowhere (Number b) y h k = let e : b ≡ y = cc in cc

no_product_with : (line : ℕ) (c d : Content) → int_of d ≡ None → int_of c ≡ None → multiply line c d ≡ fail BadType line
no_product_with line (Number a) d h k = cc
no_product_with line c (Number b) h k = cc
no_product_with line Nothing Nothing h k = refl
no_product_with line Nothing (Truth b) h k = refl
no_product_with line Nothing (BuiltInFunction b) h k = refl
no_product_with line Nothing (Held b) h k = refl
no_product_with line Nothing Nowhere h k = refl
no_product_with line (Truth a) Nothing h k = refl
no_product_with line (Truth a) (Truth b) h k = refl
no_product_with line (Truth a) (BuiltInFunction b) h k = refl
no_product_with line (Truth a) (Held b) h k = refl
no_product_with line (Truth a) Nowhere h k = refl
no_product_with line (BuiltInFunction a) Nothing h k = refl
no_product_with line (BuiltInFunction a) (Truth b) h k = refl
no_product_with line (BuiltInFunction a) (BuiltInFunction b) h k = refl
no_product_with line (BuiltInFunction a) (Held b) h k = refl
no_product_with line (BuiltInFunction a) Nowhere h k = refl
no_product_with line (Held a) Nothing h k = refl
no_product_with line (Held a) (Truth b) h k = refl
no_product_with line (Held a) (BuiltInFunction b) h k = refl
no_product_with line (Held a) (Held b) h k = refl
no_product_with line (Held a) Nowhere h k = refl
no_product_with line Nowhere Nothing h k = refl
no_product_with line Nowhere (Truth b) h k = refl
no_product_with line Nowhere (BuiltInFunction b) h k = refl
no_product_with line Nowhere (Held b) h k = refl
no_product_with line Nowhere Nowhere h k = refl

pub no_product : (line : ℕ) (c d : Content) → int_of c ≡ None → int_of d ≡ None → multiply line c d ≡ fail BadType line
no_product line c d h k = no_product_with line c d k h
