-- Bytes that streams give and take.
use Rattle.std.proofs.Common.{◌≡◌, ◌≢◌, ◌<◌, ◌^◌, ◌++◌, ◌∷◌, [], ℕ, List, Option, Some, None, Result, Ok, Err, OnOk, arith, rules, append_assoc, sym, length, take, ◌-◌, refl, ap, ◌∙◌, subst, All}
use Rattle.std.specs.Fmt.{decimal}
use Rattle.std.specs.Io.KnownBytes.{Appends, Consumes, IsAtEnd, Keeps}
use Rattle.star_frames.specs.Frame.{crlf, frame_of, length_line}

-- bytes, and then more, are given
pub gives_more : (old mid new : Option (List ℕ)) (xs ys : List ℕ) → Consumes old mid xs → Consumes mid new ys → Consumes old new (xs ++ ys)
gives_more None mid new xs ys h k = tt
gives_more (Some all) (Some rest) (Some last) xs ys h k = grind (arith, append_assoc, h, k)
gives_more (Some all) (Some rest) None xs ys h k = absurd k
gives_more (Some all) None new xs ys h k = absurd h

-- bytes, and then more, are taken
pub takes_more : (old mid new : Option (List ℕ)) (xs ys : List ℕ) → Appends old mid xs → Appends mid new ys → Appends old new (xs ++ ys)
takes_more None mid new xs ys h k = tt
takes_more (Some all) (Some rest) (Some last) xs ys h k = grind (arith, append_assoc, h, k)
takes_more (Some all) (Some rest) None xs ys h k = absurd k
takes_more (Some all) None new xs ys h k = absurd h

-- bytes that were taken are kept
takes_kept : (old mid new : Option (List ℕ)) (xs : List ℕ) → Appends old mid xs → Keeps mid new → Appends old new xs
takes_kept None mid new xs h k = tt
takes_kept (Some all) (Some rest) (Some last) xs h k = k ∙ h
takes_kept (Some all) (Some rest) None xs h k = absurd k
takes_kept (Some all) None new xs h k = absurd h

on_ok : {T E : Type 0} (r : Result T E) (P : Type 0) → P → OnOk r P
on_ok (Ok x) P p = p
on_ok (Err e) P p = tt

-- a header and a content are the frame of the content
pub frame_taken : {T E : Type 0} (w0 w1 w2 w3 : Option (List ℕ)) (head content : List ℕ) (r : Result T E) → head ≡ length_line (length content) ++ (crlf ++ crlf) → Appends w0 w1 head → Appends w1 w2 content → Keeps w2 w3 → OnOk r (Appends w0 w3 (frame_of content))
frame_taken w0 w1 w2 w3 head content r e h k l =
    let whole : head ++ content ≡ frame_of content = ap (λ xs. xs ++ content) e ∙ append_assoc (length_line (length content)) (crlf ++ crlf) content in
    on_ok r (Appends w0 w3 (frame_of content)) (subst (λ xs. Appends w0 w3 xs) whole (takes_kept w0 w2 w3 (head ++ content) (takes_more w0 w1 w2 head content h k) l))
