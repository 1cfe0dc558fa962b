-- Bytes that went through in two steps.
use Rattle.std.proofs.Common.{ℕ, ◌-◌, ◌<◌, ◌≤◌, List, ◌++◌, length, take, Option, Some, None, Result, Ok, Err, false, ◌≡◌, append_assoc, length-append, length-take, arith, ◌∙◌, ap, sym}
use Rattle.std.specs.Prelude.{OnOk, is_err}
use Rattle.std.proofs.lemmas.Bool.{true≢false}
use Rattle.std.specs.Io.KnownBytes.{Consumes}
use Rattle.star_serve.specs.Stream.{Adds, Gives, Said}

pub Adds-more : (a b c : Option (List ℕ)) (x y : List ℕ) → Adds a b x → Adds b c y → Adds a c (x ++ y)
Adds-more None b c x y h g = tt
Adds-more (Some s) b c x y h g =
    let after : Adds (Some (s ++ x)) c y = rw h at g in
    after ∙ ap Some (append_assoc s x y)

Consumes-more : (a b c : Option (List ℕ)) (x y : List ℕ) → Consumes a b x → Consumes b c y → Consumes a c (x ++ y)
Consumes-more None b c x y h g = tt
Consumes-more (Some s) (Some t) (Some u) x y h g = h ∙ ap (λ r. x ++ r) g ∙ sym (append_assoc x y u)
Consumes-more (Some s) (Some t) None x y h g = absurd g
Consumes-more (Some s) None c x y h g = absurd h

pub Gives-more : (a b c : Said) (x y : List ℕ) → Gives a b x → Gives b c y → Gives a c (x ++ y)
Gives-more a b c x y h g = (Adds-more a.given b.given c.given x y h.0 g.0, Consumes-more a.left b.left c.left x y h.1 g.1)

-- bytes that take a text over the limit
pub longer : (limit : ℕ) (bytes buffer : List ℕ) (n : ℕ) → n ≤ length buffer → limit - length bytes < n → limit < length (bytes ++ take n buffer)
longer limit bytes buffer n h g = simp (length-append, length-take) (omega arith)

-- a fact of an answer that is not an error
pub went_well : {T E P : Type 0} (r : Result T E) → is_err r ≡ false → OnOk r P → P
went_well (Ok x) e h = h
went_well (Err x) e h = absurd (true≢false e)
