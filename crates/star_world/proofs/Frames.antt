-- Frames above a frame, one by one.
use Rattle.std.proofs.Common.{◌≡◌, ◌<◌, ℕ, zero, suc, ◌+◌, ◌-◌, Option, ap, arith}
use Rattle.std.specs.Option.{option_and_then}
use Rattle.star_store.specs.declared.values.Value.{Value}
use Rattle.star_meaning.specs.Run.{State}
use Rattle.star_meaning.specs.Program.{Setting, seen}
use Rattle.star_meaning.specs.Variables.{frame_of}
use Rattle.star_meaning.specs.Places.{frame_above}

abbrev pub around : Setting → State → Option Value → Option Value
around w s frame = option_and_then (λ f. f.parent) (option_and_then (λ v. frame_of (seen w s v)) frame)

above_more : (w : Setting) (s : State) (n m : ℕ) (frame : Option Value) → n ≡ m + 1 → frame_above w s n frame ≡ frame_above w s m (around w s frame)
above_more w s zero m frame h = absurd (omega arith)
above_more w s (suc n) m frame h = ap (λ k. frame_above w s k (around w s frame)) (let e : n ≡ m = omega arith in e)

pub above_next : (w : Setting) (s : State) (n i : ℕ) (frame : Option Value) → i < n → frame_above w s (n - i) frame ≡ frame_above w s (n - (i + 1)) (around w s frame)
above_next w s n i frame h = above_more w s (n - i) (n - (i + 1)) frame (omega arith)
