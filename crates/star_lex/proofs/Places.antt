-- What is left of the tokens, step by step.
use Rattle.std.proofs.Common.{IsErrAnd, ◌≡◌, ℕ, zero, suc, Bool, true, false, cond, List, [], ◌∷◌, ◌++◌, Option, Some, None, Result, Ok, Err, refl, subst, ap, arith, sym, ◌∙◌, append_assoc, unwrap_or, is_some}
use Rattle.star_lex.specs.declared.scan.Piece.{Piece}
use Rattle.star_lex.specs.declared.scan.PieceKind.{PieceKind}
use Rattle.star_lex.specs.declared.scan.PieceKind.TheVariants.{Blank, TabbedBlank, Comment, LineEnd, Continuation, Lexeme, Bad}
use Rattle.star_lex.specs.declared.token.Kind.{Kind}
use Rattle.star_lex.specs.declared.lay.Place.{Place}
use Rattle.star_lex.specs.declared.token.Token.{Token}
use Rattle.star_lex.specs.declared.token.SyntaxFault.{SyntaxFault}
use Rattle.star_lex.specs.declared.token.SyntaxFault.TheVariants.{BadToken, BadIndent, TooNested, BadSyntax, Memory}
use Rattle.star_lex.specs.declared.lay.Place.TheVariants.{Front, Inside}
use Rattle.star_lex.specs.Lines.{Line, line_of, lines, put, ends_line, depth_after, onto, ◌>>=◌, lay, Layout, wrong, layout, layout_of, marks, opened_by, width, newline, token_of, tokens, Pushes, Answers}
use Rattle.star_lex.specs.Places.{lay_at, rest_of, Comes}

pub onto_onto : (xs ys : List Token) (r : Result (List Token) SyntaxFault) → onto xs (onto ys r) ≡ onto (xs ++ ys) r
onto_onto xs ys (Ok zs) = ap Ok (sym (append_assoc xs ys zs))
onto_onto xs ys (Err e) = refl

pub onto_none : (r : Result (List Token) SyntaxFault) → onto [] r ≡ r
onto_none (Ok ts) = refl
onto_none (Err e) = refl

pub onto_then : (xs : List Token) (r k : Result (List Token) SyntaxFault) → onto xs r >>= (λ front. onto front k) ≡ onto xs (r >>= (λ front. onto front k))
onto_then xs (Ok ys) k = sym (onto_onto xs ys k)
onto_then xs (Err e) k = refl

-- there is always a line
record HasLine (ls : List Line) : Type 0 where
  line : Line
  more : List Line
  is : ls ≡ line ∷ more

put_line : (c : Piece) (ls : List Line) → HasLine ls → HasLine (put c ls)
put_line c ls h = record { line = line_of (c ∷ h.line.content) h.line.depth; more = h.more; is = ap (put c) h.is }

has_line : (d : ℕ) (cs : List Piece) → HasLine (lines d cs)
has_line d [] = record { line = line_of [] d; more = []; is = refl }
has_line d (c ∷ cs) =
    let here : HasLine (line_of [] 0 ∷ lines 0 cs) = record { line = line_of [] 0; more = lines 0 cs; is = refl } in
    let on : HasLine (put c (lines (depth_after d c.kind) cs)) = put_line c (lines (depth_after d c.kind) cs) (has_line (depth_after d c.kind) cs) in
    elim (ends_line d c.kind) as (λ v. HasLine (cond v (line_of [] 0 ∷ lines 0 cs) (put c (lines (depth_after d c.kind) cs)))) [ true ↦ here | false ↦ on ]

-- what holds of each list that has a line holds of the lines of pieces
pub of_lines : (P : List Line → Type 0) (d : ℕ) (cs : List Piece) → ((l : Line) (more : List Line) → P (l ∷ more)) → P (lines d cs)
of_lines P d cs f = let h = has_line d cs in subst P (sym h.is) (f h.line h.more)

-- before a line, all that is left is laid as it is
pub from_front : (line at d : ℕ) (ts : List ℕ) (cs : List Piece) → lay line at ts d (lines 0 cs) ≡ rest_of line at (Front None) ts cs
from_front line at d ts cs = of_lines (λ ls. lay line at ts d ls ≡ lay_at line at (Front None) ts ls) 0 cs (λ l more. refl)

-- what holds of a piece when its kind is known
abbrev of_kind : PieceKind → Piece → Piece
of_kind kind c = record { kind = kind; line = c.line; last = c.last; span = c.span }

at_kind : (P : Piece → Type 0) (c : Piece) (kind : PieceKind) → c.kind ≡ kind → P (of_kind kind c) → P c
at_kind P c kind e p = subst (λ k. P (of_kind k c)) (sym e) p

-- ---- a piece in a line

-- the line's end
ends : (line at : ℕ) (old new : List Token) (before : Option Piece) (ts : List ℕ) (c : Piece) (cs : List Piece) → c.kind ≡ LineEnd → old ++ newline 0 before ≡ new
    → onto old (rest_of line at (Inside 0 before) ts (c ∷ cs)) ≡ onto new (rest_of line at (Front None) ts cs)
ends line at old new before ts c cs e same =
    let left = lay line at ts 0 (lines 0 cs) in
    at_kind (λ b. onto old (rest_of line at (Inside 0 before) ts (b ∷ cs)) ≡ onto new (rest_of line at (Front None) ts cs)) c LineEnd e
    (onto_onto old (newline 0 before) left ∙ ap (λ xs. onto xs left) same ∙ ap (onto new) (from_front line at 0 ts cs))

pub reads_end : (line at d : ℕ) (old new : List Token) (before : Option Piece) (ts : List ℕ) (c : Piece) (cs : List Piece) → c.kind ≡ LineEnd → d ≡ 0 → Pushes (Ok (old ++ newline d before)) (Ok tt) new
    → onto old (rest_of line at (Inside d before) ts (c ∷ cs)) ≡ onto new (rest_of line at (Front None) ts cs)
reads_end line at zero old new before ts c cs e z same = ends line at old new before ts c cs e cc
reads_end line at (suc d) old new before ts c cs e z same = absurd (omega arith)

-- a token
pub reads_token : (line at d : ℕ) (old new : List Token) (before : Option Piece) (ts : List ℕ) (c : Piece) (kind : Kind) (cs : List Piece) → c.kind ≡ Lexeme kind → new ≡ old ++ token_of kind c ∷ []
    → onto old (rest_of line at (Inside d before) ts (c ∷ cs)) ≡ onto new (rest_of line at (Inside (depth_after d c.kind) (Some c)) ts cs)
reads_token line at d old new before ts c kind cs e same =
    let more = depth_after d (Lexeme kind) in
    let b = of_kind (Lexeme kind) c in
    let one = token_of kind c ∷ [] in
    rw same (at_kind (λ b. onto old (rest_of line at (Inside d before) ts (b ∷ cs)) ≡ onto (old ++ one) (rest_of line at (Inside (depth_after d b.kind) (Some b)) ts cs)) c (Lexeme kind) e
    (of_lines (λ ls. onto old (lay_at line at (Inside d before) ts (put b ls)) ≡ onto (old ++ one) (lay_at line at (Inside more (Some b)) ts ls)) more cs
    (λ l others.
    let left = tokens l.depth (Some b) l.content in
    let after = lay line at ts l.depth others in
    ap (onto old) (onto_then one left after) ∙ onto_onto old one (left >>= (λ front. onto front after)))))

-- a bad piece, and a backslash and line end before the first token
pub refuses_bad : (line at d : ℕ) (old : List Token) (before : Option Piece) (ts : List ℕ) (c : Piece) (cs : List Piece) → c.kind ≡ Bad
    → onto old (rest_of line at (Inside d before) ts (c ∷ cs)) ≡ Err (BadToken c.line)
refuses_bad line at d old before ts c cs e =
    at_kind (λ b. onto old (rest_of line at (Inside d before) ts (b ∷ cs)) ≡ Err (BadToken b.line)) c Bad e
    (of_lines (λ ls. onto old (lay_at line at (Inside d before) ts (put (of_kind Bad c) ls)) ≡ Err (BadToken c.line)) d cs (λ l more. refl))

pub refuses_continuation : (line at d : ℕ) (old : List Token) (before : Option Piece) (ts : List ℕ) (c : Piece) (cs : List Piece) → c.kind ≡ Continuation → is_some before ≡ false
    → onto old (rest_of line at (Inside d before) ts (c ∷ cs)) ≡ Err (BadToken c.line)
refuses_continuation line at d old None ts c cs e n =
    at_kind (λ b. onto old (rest_of line at (Inside d None) ts (b ∷ cs)) ≡ Err (BadToken b.line)) c Continuation e
    (of_lines (λ ls. onto old (lay_at line at (Inside d None) ts (put (of_kind Continuation c) ls)) ≡ Err (BadToken c.line)) d cs (λ l more. refl))
refuses_continuation line at d old (Some b) ts c cs e n = cc

-- ---- a piece at the front of a line

pub reads_empty : (line at : ℕ) (old : List Token) (first : Option Piece) (ts : List ℕ) (c : Piece) (cs : List Piece) → c.kind ≡ LineEnd
    → onto old (rest_of line at (Front first) ts (c ∷ cs)) ≡ onto old (rest_of line at (Front None) ts cs)
reads_empty line at old first ts c cs e =
    at_kind (λ b. onto old (rest_of line at (Front first) ts (b ∷ cs)) ≡ onto old (rest_of line at (Front None) ts cs)) c LineEnd e
    (ap (onto old) (onto_none (lay line at ts 0 (lines 0 cs)) ∙ from_front line at 0 ts cs))

then_then : (m r k : Result (List Token) SyntaxFault)
    → (m >>= (λ front. onto front r)) >>= (λ front. onto front k) ≡ m >>= (λ front. onto front (r >>= (λ body. onto body k)))
then_then (Ok front) r k = onto_then front r k
then_then (Err e) r k = refl

-- the layout by the first piece of the line
abbrev by_first : List ℕ → Option Piece → Piece → Layout
by_first ts first c = layout_of ts (unwrap_or first c ∷ [])

-- the open indentations after it
abbrev then_open : List ℕ → Option Piece → Piece → List ℕ
then_open ts first c = opened_by ts (by_first ts first c) (width (unwrap_or first c ∷ []))

abbrev Judged : ℕ → ℕ → Option Piece → List ℕ → Piece → List Piece → Type 0
Judged line at first ts c cs =
    rest_of line at (Front first) ts (c ∷ cs)
    ≡ marks (by_first ts first c) c.line c.span.start >>= (λ front. onto front (rest_of line at (Inside 0 None) (then_open ts first c) (c ∷ cs)))

judged_line : (line at : ℕ) (first : Option Piece) (ts : List ℕ) (c : Piece) (cs : List Piece)
    → ((l : Line) (more : List Line) → lay_at line at (Front first) ts (put c (l ∷ more))
    ≡ marks (by_first ts first c) c.line c.span.start >>= (λ front. onto front (lay_at line at (Inside 0 None) (then_open ts first c) (put c (l ∷ more)))))
    → ends_line 0 c.kind ≡ false → Judged line at first ts c cs
judged_line line at first ts c cs f e =
    let P : List Line → Type 0 = λ ls. lay_at line at (Front first) ts ls ≡ marks (by_first ts first c) c.line c.span.start >>= (λ front. onto front (lay_at line at (Inside 0 None) (then_open ts first c) ls)) in
    let d = depth_after 0 c.kind in
    let here : Bool → List Line = λ v. cond v (line_of [] 0 ∷ lines 0 cs) (put c (lines d cs)) in
    subst (λ v. P (here v)) (sym e) (of_lines (λ ls. P (put c ls)) d cs f)

laid : (line at : ℕ) (first : Option Piece) (ts : List ℕ) (c : Piece) (l : Line) (more : List Line)
    → (marks (by_first ts first c) c.line c.span.start >>= (λ front. onto front (tokens l.depth None (c ∷ l.content)))) >>= (λ front. onto front (lay line at (then_open ts first c) l.depth more))
    ≡ marks (by_first ts first c) c.line c.span.start >>= (λ front. onto front (lay_at line at (Inside 0 None) (then_open ts first c) (put c (l ∷ more))))
laid line at first ts c l more = then_then (marks (by_first ts first c) c.line c.span.start) (tokens l.depth None (c ∷ l.content)) (lay line at (then_open ts first c) l.depth more)

-- not a blank, a comment or a line end
abbrev pub Significant : PieceKind → Type 0
Significant kind = (kind ≡ Blank → ⊥) × (kind ≡ TabbedBlank → ⊥) × (kind ≡ Comment → ⊥) × (kind ≡ LineEnd → ⊥)

judged_kind : (line at : ℕ) (first : Option Piece) (ts : List ℕ) (c : Piece) (cs : List Piece) (kind : PieceKind) → Significant kind → Judged line at first ts (of_kind kind c) cs
judged_kind line at first ts c cs Blank s = absurd (s.0 refl)
judged_kind line at first ts c cs TabbedBlank s = absurd (s.1 refl)
judged_kind line at first ts c cs Comment s = absurd (s.2 refl)
judged_kind line at first ts c cs LineEnd s = absurd (s.3 refl)
judged_kind line at None ts c cs Continuation s = judged_line line at None ts (of_kind Continuation c) cs (laid line at None ts (of_kind Continuation c)) refl
judged_kind line at (Some p) ts c cs Continuation s = judged_line line at (Some p) ts (of_kind Continuation c) cs (laid line at (Some p) ts (of_kind Continuation c)) refl
judged_kind line at None ts c cs (Lexeme kind) s = judged_line line at None ts (of_kind (Lexeme kind) c) cs (laid line at None ts (of_kind (Lexeme kind) c)) refl
judged_kind line at (Some p) ts c cs (Lexeme kind) s = judged_line line at (Some p) ts (of_kind (Lexeme kind) c) cs (laid line at (Some p) ts (of_kind (Lexeme kind) c)) refl
judged_kind line at None ts c cs Bad s = judged_line line at None ts (of_kind Bad c) cs (laid line at None ts (of_kind Bad c)) refl
judged_kind line at (Some p) ts c cs Bad s = judged_line line at (Some p) ts (of_kind Bad c) cs (laid line at (Some p) ts (of_kind Bad c)) refl

abbrev layout_if : List ℕ → Option ℕ → Layout
layout_if ts o = elim o [ None ↦ wrong | Some w ↦ layout ts w ]

-- the indentation is judged by a width, and the line goes on after it
pub judged_width : (line at : ℕ) (first : Option Piece) (ts : List ℕ) (c : Piece) (cs : List Piece) (o : Option ℕ) → Significant c.kind → width (unwrap_or first c ∷ []) ≡ o
    → rest_of line at (Front first) ts (c ∷ cs) ≡ marks (layout_if ts o) c.line c.span.start >>= (λ front. onto front (rest_of line at (Inside 0 None) (opened_by ts (layout_if ts o) o) (c ∷ cs)))
judged_width line at first ts c cs o s w =
    subst (λ v. rest_of line at (Front first) ts (c ∷ cs) ≡ marks (layout_if ts v) c.line c.span.start >>= (λ front. onto front (rest_of line at (Inside 0 None) (opened_by ts (layout_if ts v) v) (c ∷ cs)))) w
    (judged_kind line at first ts c cs c.kind s)

refused_at : (whole : Result (List Token) SyntaxFault) (xs : List Token) (r k : Result (List Token) SyntaxFault) (e : SyntaxFault)
    → whole ≡ onto xs (r >>= (λ front. onto front k)) → onto xs r ≡ Err e → whole ≡ Err e
refused_at whole xs (Ok ts) k e w p = cc
refused_at whole xs (Err f) k e w p = w ∙ p

-- an indentation that is refused refuses the text
pub refused : (whole : Result (List Token) SyntaxFault) (xs new : List Token) (r k : Result (List Token) SyntaxFault) (e : SyntaxFault) (after : Place → Result (List Token) SyntaxFault)
    → whole ≡ onto xs (r >>= (λ front. onto front k)) → Pushes (onto xs r) (Err e) new → Comes whole (Err e) after
refused whole xs new r k Memory after w p = tt
refused whole xs new r k (BadToken n) after w p = refused_at whole xs r k (BadToken n) w p
refused whole xs new r k (BadIndent n) after w p = refused_at whole xs r k (BadIndent n) w p
refused whole xs new r k (TooNested n) after w p = refused_at whole xs r k (TooNested n) w p
refused whole xs new r k BadSyntax after w p = refused_at whole xs r k BadSyntax w p

-- an indentation that is read, and what comes after it
pub read : (whole : Result (List Token) SyntaxFault) (xs new : List Token) (r k : Result (List Token) SyntaxFault)
    → whole ≡ onto xs (r >>= (λ front. onto front k)) → onto xs r ≡ Ok new → whole ≡ onto new k
read whole xs new (Ok ts) k w p = let e : xs ++ ts ≡ new = cc in w ∙ onto_onto xs ts k ∙ ap (λ t. onto t k) e
read whole xs new (Err e) k w p = cc

pub err_of : {A : Type 0} (r : Result A SyntaxFault) (e : SyntaxFault) → IsErrAnd r (λ x. x ≡ e) → r ≡ Err e
err_of (Ok v) e h = absurd h
err_of (Err x) e h = ap Err h

-- a fault at a piece is the text's
pub answers_fault : (whole part : Result (List Token) SyntaxFault) (e : SyntaxFault) (after : Place → Result (List Token) SyntaxFault) → whole ≡ part → Comes part (Err e) after → Answers whole (Err e)
answers_fault whole part Memory after w p = tt
answers_fault whole part (BadToken n) after w p = w ∙ p
answers_fault whole part (BadIndent n) after w p = w ∙ p
answers_fault whole part (TooNested n) after w p = w ∙ p
answers_fault whole part BadSyntax after w p = w ∙ p
