-- The line that is being taken from a stream.
use Rattle.std.proofs.Common.{◌≡◌, ◌≢◌, ◌+◌, ℕ, List, [], ◌∷◌, ◌++◌, true, false, Option, None, Some, length, take, drop, refl, ap, sym, ◌∙◌, subst, append_assoc}
use Rattle.std.specs.Prelude.{MatchOption}
use Rattle.std.specs.Io.KnownBytes.{Consumes, IsAtEnd}
use Rattle.std.proofs.lemmas.List.{append-nil, take-append-drop}
use Rattle.std.proofs.lemmas.List.Elements.{All-append}
use Rattle.std.proofs.Math.Seq.{take-length}
use Rattle.star_serve.specs.Stream.{Adds, Gives, Said}
use Rattle.star_serve.proofs.Streams.{Gives-more}
use Rattle.star_session.specs.Lines.{IsNext, IsOneLine, IsPiece, IsTaken, TakesAll, is_end}
use Rattle.star_session.specs.declared.lines.Line.{Line}
use Rattle.star_session.specs.declared.lines.Taken.{Taken}

-- some bytes of a line were taken
pub record IsBegun (old new : Said) (ahead left : List ℕ) (kind : Line) (items : List ℕ) : Type 0 where
  pub given : List ℕ
  pub gives : Gives old new given
  pub bytes : List ℕ
  pub split : ahead ++ given ≡ bytes ++ left
  pub one : IsOneLine bytes
  pub piece : IsPiece kind items bytes

pub Adds-none : (o : Option (List ℕ)) → Adds o o []
Adds-none None = tt
Adds-none (Some s) = ap Some (sym (append-nil s))

Consumes-none : (o : Option (List ℕ)) → Consumes o o []
Consumes-none None = tt
Consumes-none (Some x) = refl

pub Gives-none : (s : Said) → Gives s s []
Gives-none s = (Adds-none s.given, Consumes-none s.left)

-- all bytes ahead belong to the line, and more were read
pub goes_on : (old mid new : Said) (ahead left more : List ℕ) (kind now : Line) (items items' : List ℕ) (n : ℕ) → IsBegun old mid ahead left kind items → IsOneLine left → n ≡ length left
    → ((bytes : List ℕ) → IsPiece kind items bytes → IsPiece now items' (bytes ++ take n left)) → Gives mid new more → IsBegun old new ahead more now items'
goes_on old mid new ahead left more kind now items items' n h one all adds gives = record {
  given = h.given ++ more;
  gives = Gives-more old mid new h.given more h.gives gives;
  bytes = h.bytes ++ left;
  split = sym (append_assoc ahead h.given more) ∙ ap (λ t. t ++ more) h.split;
  one = All-append (λ b. is_end b ≡ false) h.bytes left h.one one;
  piece = subst (λ t. IsPiece now items' (h.bytes ++ t)) (ap (λ m. take m left) all ∙ take-length left) (adds h.bytes h.piece);
}

-- the line end is among the bytes ahead
pub taken : (old new : Said) (ahead left mid rest : List ℕ) (kind now : Line) (items items' : List ℕ) (at : ℕ) → IsBegun old new ahead left kind items → IsOneLine (take at left)
    → drop at left ≡ 10 ∷ drop (at + 1) left → ((bytes : List ℕ) → IsPiece kind items bytes → IsPiece now items' (bytes ++ take at left)) → mid ≡ drop at left → rest ≡ drop 1 mid
    → IsNext old new ahead rest items' (Some (record { line = now; is_last = false }))
taken old new ahead left mid rest kind now items items' at h one here adds middle after =
    let next : rest ≡ drop (at + 1) left = after ∙ ap (drop 1) (middle ∙ here) in
    let parts : left ≡ take at left ++ 10 ∷ rest = sym (take-append-drop at left) ∙ ap (λ t. take at left ++ t) (here ∙ ap (λ t. 10 ∷ t) (sym next)) in (
      h.bytes ++ take at left,
      All-append (λ b. is_end b ≡ false) h.bytes (take at left) h.one one,
      adds h.bytes h.piece,
      record {
        given = h.given;
        gives = h.gives;
        split = h.split ∙ ap (λ t. h.bytes ++ t) parts ∙ sym (append_assoc h.bytes (take at left) (10 ∷ rest));
      },
    )

-- no more comes
pub ended : (old new : Said) (ahead left rest : List ℕ) (kind : Line) (items : List ℕ) (r : Option Taken) → IsBegun old new ahead left kind items → left ≡ [] → IsAtEnd new.left → new.ended ≡ true
    → ((bytes : List ℕ) → IsPiece kind items bytes → MatchOption r (bytes ≡ []) (λ t. (t.line ≡ kind) × (t.is_last ≡ true) × (bytes ≢ []))) → IsNext old new ahead rest items r
ended old new ahead left rest kind items None h none last over says = record {
  given = h.given;
  all_read = (h.gives, last, over);
  split = h.split ∙ ap (λ t. h.bytes ++ t) none ∙ append-nil h.bytes ∙ says h.bytes h.piece;
}
ended old new ahead left rest kind items (Some t) h none last over says =
    let is = says h.bytes h.piece in
    let all : TakesAll old new ahead h.bytes = record { given = h.given; all_read = (h.gives, last, over); split = h.split ∙ ap (λ b. h.bytes ++ b) none ∙ append-nil h.bytes } in
    (h.bytes, h.one, subst (λ k. IsPiece k items h.bytes) (sym is.0) h.piece, subst (λ b. IsTaken old new ahead rest h.bytes b) (sym is.1) (all, is.2))
