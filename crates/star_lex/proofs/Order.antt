-- The spans of the tokens are in order.
use Rattle.std.proofs.Common.{◌≡◌, ℕ, zero, suc, ◌-◌, ◌≤◌, true, false, cond, List, [], ◌∷◌, ◌++◌, length, replicate, Option, Some, None, Result, Ok, Err, Vec, IfOk, refl, subst, arith, sym, ◌∙◌}
use Rattle.std.specs.declared.alloc.Global.{Global}
use Rattle.star_lex.specs.declared.scan.Piece.{Piece}
use Rattle.star_lex.specs.declared.scan.PieceKind.{PieceKind}
use Rattle.star_lex.specs.declared.scan.PieceKind.TheVariants.{Blank, TabbedBlank, Comment, LineEnd, Continuation, Lexeme, Bad}
use Rattle.star_lex.specs.declared.token.Kind.{Kind}
use Rattle.star_lex.specs.declared.token.Kind.TheVariants as k
use Rattle.star_lex.specs.declared.token.Token.{Token}
use Rattle.star_lex.specs.declared.token.SyntaxFault.{SyntaxFault}
use Rattle.star_lex.specs.declared.token.SyntaxFault.TheVariants.{BadToken}
use Rattle.star_lex.specs.Pieces.{Tiles}
use Rattle.star_lex.specs.Lines.{Line, line_of, lines, put, ends_line, depth_after, onto, ◌>>=◌, empty_token, marks, Layout, opens, closes, wrong, layout_of, first_significant, newline, token_of, tokens, line_tokens, opened_after, finish, lay, Answers, InOrder}

pub tiles_more : (at : ℕ) (cs : List Piece) (mid : ℕ) (c : Piece) → Tiles at cs mid → c.span.start ≡ mid → mid ≤ c.span.end → Tiles at (cs ++ c ∷ []) c.span.end
tiles_more at [] mid c t s e = (s ∙ sym t, omega arith, refl)
tiles_more at (d ∷ cs) mid c t s e = (t.0, t.1, tiles_more d.span.end cs mid c t.2 s e)

tiles_le : (at : ℕ) (cs : List Piece) (hi : ℕ) → Tiles at cs hi → at ≤ hi
tiles_le at [] hi t = omega arith
tiles_le at (c ∷ cs) hi t = let h = tiles_le c.span.end cs hi t.2 in omega arith

order_lower : (lo mid : ℕ) (ts : List Token) (hi : ℕ) → lo ≤ mid → InOrder mid ts hi → InOrder lo ts hi
order_lower lo mid [] hi h o = omega arith
order_lower lo mid (t ∷ ts) hi h o = (omega arith, o.1, o.2)

order_both : (lo : ℕ) (xs : List Token) (mid : ℕ) (ys : List Token) (hi : ℕ) → InOrder lo xs mid → InOrder mid ys hi → InOrder lo (xs ++ ys) hi
order_both lo [] mid ys hi o p = order_lower lo mid ys hi o p
order_both lo (t ∷ xs) mid ys hi o p = (o.0, o.1, order_both t.span.end xs mid ys hi o.2 p)

order_marks : (n : ℕ) (kind : Kind) (line at : ℕ) → InOrder at (replicate n (empty_token kind line at)) at
order_marks zero kind line at = omega arith
order_marks (suc n) kind line at = (omega arith, omega arith, order_marks n kind line at)

-- where the last token so far ends
Ended : Option Piece → ℕ → Type 0
Ended None lo = Unit {0}
Ended (Some c) lo = c.span.end ≡ lo

order_newline : (d : ℕ) (before : Option Piece) (lo hi : ℕ) → Ended before lo → lo ≤ hi → InOrder lo (newline d before) hi
unfolding Ended
order_newline zero None lo hi e h = h
order_newline zero (Some c) lo hi e h = (omega arith, omega arith, omega arith)
order_newline (suc d) None lo hi e h = h
order_newline (suc d) (Some c) lo hi e h = h

order_ok : (xs ts : List Token) (lo hi : ℕ) → xs ≡ ts → InOrder lo xs hi → InOrder lo ts hi
order_ok xs ts lo hi e o = let P : List Token → Type 0 = λ ys. InOrder lo ys hi in subst P e o

at_piece : ℕ → Option Piece → Piece → List Piece → PieceKind → Result (List Token) SyntaxFault
at_piece d before c cs p = elim p [
  | Lexeme kind ↦ onto (token_of kind c ∷ []) (tokens d (Some c) cs)
  | Continuation ↦ elim before [ None ↦ Err (BadToken c.line) | Some b ↦ tokens d (Some b) cs ]
  | Bad ↦ Err (BadToken c.line)
  | _ ↦ tokens d before cs
]

-- a fact of the pieces after one
After : ℕ → List Piece → ℕ → ℕ → Type 0
After d cs at hi = (before : Option Piece) (lo : ℕ) (ts : List Token) → Ended before lo → lo ≤ at → tokens d before cs ≡ Ok ts → InOrder lo ts hi

order_lexeme : (d : ℕ) (c : Piece) (cs : List Piece) (kind : Kind) (lo hi : ℕ) (r : Result (List Token) SyntaxFault) (ts : List Token) → lo ≤ c.span.start → c.span.start ≤ c.span.end
    → tokens d (Some c) cs ≡ r → After d cs c.span.end hi → onto (token_of kind c ∷ []) r ≡ Ok ts → InOrder lo ts hi
unfolding After Ended
order_lexeme d c cs kind lo hi (Ok ys) ts h s e ih w =
    let same : token_of kind c ∷ ys ≡ ts = cc in
    order_ok (token_of kind c ∷ ys) ts lo hi same (h, s, ih (Some c) c.span.end ys refl (omega arith) e)
order_lexeme d c cs kind lo hi (Err f) ts h s e ih w = cc

order_piece : (d : ℕ) (before : Option Piece) (c : Piece) (cs : List Piece) (p : PieceKind) (lo hi : ℕ) (ts : List Token) → Ended before lo → lo ≤ c.span.start → c.span.start ≤ c.span.end
    → After d cs c.span.end hi → at_piece d before c cs p ≡ Ok ts → InOrder lo ts hi
unfolding at_piece After
order_piece d before c cs Blank lo hi ts e h s ih w = ih before lo ts e (omega arith) w
order_piece d before c cs TabbedBlank lo hi ts e h s ih w = ih before lo ts e (omega arith) w
order_piece d before c cs Comment lo hi ts e h s ih w = ih before lo ts e (omega arith) w
order_piece d before c cs LineEnd lo hi ts e h s ih w = ih before lo ts e (omega arith) w
order_piece d None c cs Continuation lo hi ts e h s ih w = cc
order_piece d (Some b) c cs Continuation lo hi ts e h s ih w = ih (Some b) lo ts e (omega arith) w
order_piece d before c cs (Lexeme kind) lo hi ts e h s ih w = order_lexeme d c cs kind lo hi (tokens d (Some c) cs) ts h s refl ih w
order_piece d before c cs Bad lo hi ts e h s ih w = cc

order_tokens : (d : ℕ) (cs : List Piece) (at hi : ℕ) → Tiles at cs hi → After d cs at hi
unfolding After at_piece
order_tokens d [] at hi t before lo ts e h w =
    let same : newline d before ≡ ts = cc in
    order_ok (newline d before) ts lo hi same (order_newline d before lo hi e (omega arith))
order_tokens d (c ∷ cs) at hi t before lo ts e h w =
    order_piece d before c cs c.kind lo hi ts e (omega (arith, t.0)) (omega (arith, t.0, t.1)) (order_tokens d cs c.span.end hi t.2) w

led_piece : Piece → List Piece → PieceKind → Option Piece
led_piece c cs p = elim p [ Blank ↦ first_significant cs | TabbedBlank ↦ first_significant cs | Comment ↦ first_significant cs | LineEnd ↦ first_significant cs | _ ↦ Some c ]

-- the tokens of a line begin at its first significant piece
FromLeader : ℕ → List Piece → ℕ → ℕ → Type 0
FromLeader d cs at hi = (c : Piece) (ts : List Token) → first_significant cs ≡ Some c → tokens d None cs ≡ Ok ts → (at ≤ c.span.start) × InOrder c.span.start ts hi

order_said : (d : ℕ) (b : Piece) (cs : List Piece) (at hi : ℕ) (c : Piece) (ts : List Token) → Tiles at (b ∷ cs) hi → Some b ≡ Some c → tokens d None (b ∷ cs) ≡ Ok ts
    → (at ≤ c.span.start) × InOrder c.span.start ts hi
unfolding After Ended
order_said d b cs at hi c ts t e w =
    let same : b ≡ c = cc in
    let P : Piece → Type 0 = λ x. (at ≤ x.span.start) × InOrder x.span.start ts hi in
    subst P same (omega (arith, t.0), order_tokens d (b ∷ cs) at hi t None b.span.start ts tt (omega (arith, t.0)) w)

order_blank : (d at mid : ℕ) (cs : List Piece) (hi : ℕ) → at ≤ mid → FromLeader d cs mid hi → FromLeader d cs at hi
unfolding FromLeader
order_blank d at mid cs hi h f c ts l w = let r = f c ts l w in (omega (arith, r.0), r.1)

order_led : (d : ℕ) (b : Piece) (cs : List Piece) (at hi : ℕ) (p : PieceKind) (c : Piece) (ts : List Token) → Tiles at (b ∷ cs) hi → FromLeader d cs at hi
    → led_piece b cs p ≡ Some c → at_piece d None b cs p ≡ Ok ts → tokens d None (b ∷ cs) ≡ Ok ts → (at ≤ c.span.start) × InOrder c.span.start ts hi
unfolding led_piece at_piece FromLeader
order_led d b cs at hi Blank c ts t f l v w = f c ts l v
order_led d b cs at hi TabbedBlank c ts t f l v w = f c ts l v
order_led d b cs at hi Comment c ts t f l v w = f c ts l v
order_led d b cs at hi LineEnd c ts t f l v w = f c ts l v
order_led d b cs at hi Continuation c ts t f l v w = order_said d b cs at hi c ts t l w
order_led d b cs at hi (Lexeme kind) c ts t f l v w = order_said d b cs at hi c ts t l w
order_led d b cs at hi Bad c ts t f l v w = order_said d b cs at hi c ts t l w

order_leader : (d : ℕ) (cs : List Piece) (at hi : ℕ) → Tiles at cs hi → FromLeader d cs at hi
unfolding FromLeader led_piece at_piece
order_leader d [] at hi t c ts l w = cc
order_leader d (b ∷ cs) at hi t c ts l w =
    order_led d b cs at hi b.kind c ts t (order_blank d at b.span.end cs hi t.1 (order_leader d cs b.span.end hi t.2)) l w w

order_front : (w : Layout) (line at : ℕ) (front : List Token) → marks w line at ≡ Ok front → InOrder at front at
order_front opens line at front e = let same : empty_token k.Indent line at ∷ [] ≡ front = cc in order_ok (empty_token k.Indent line at ∷ []) front at at same (omega arith, omega arith, omega arith)
order_front (closes n) line at front e = let same : replicate n (empty_token k.Outdent line at) ≡ front = cc in order_ok (replicate n (empty_token k.Outdent line at)) front at at same (order_marks n k.Outdent line at)
order_front wrong line at front e = cc

-- the tokens of a line, from the tokens of its indentation and its pieces
order_put : (at start hi : ℕ) (m b : Result (List Token) SyntaxFault) (out : List Token) → at ≤ start
    → ((front : List Token) → m ≡ Ok front → InOrder start front start) → ((body : List Token) → b ≡ Ok body → InOrder start body hi)
    → m >>= (λ front. onto front b) ≡ Ok out → InOrder at out hi
order_put at start hi (Ok front) (Ok body) out h f g w =
    let same : front ++ body ≡ out = cc in
    order_lower at start out hi h (order_ok (front ++ body) out start hi same (order_both start front start body hi (f front refl) (g body refl)))
order_put at start hi (Ok front) (Err e) out h f g w = cc
order_put at start hi (Err e) b out h f g w = cc

line_with : List ℕ → Line → Option Piece → Result (List Token) SyntaxFault
line_with ts l o = elim o [
  | None ↦ Ok []
  | Some c ↦ marks (layout_of ts l.content) c.line c.span.start >>= (λ front. onto front (tokens l.depth None l.content))
]

no_body : (m b : Result (List Token) SyntaxFault) (f : SyntaxFault) (out : List Token) → b ≡ Err f → m >>= (λ front. onto front b) ≡ Ok out → ⊥
no_body (Ok front) (Ok body) f out v w = cc
no_body (Ok front) (Err e) f out v w = cc
no_body (Err e) b f out v w = cc

order_from : (ts : List ℕ) (l : Line) (at hi : ℕ) (out : List Token) (c : Piece) → Tiles at l.content hi → first_significant l.content ≡ Some c → line_with ts l (Some c) ≡ Ok out
    → (b : Result (List Token) SyntaxFault) → tokens l.depth None l.content ≡ b → InOrder at out hi
unfolding line_with FromLeader
order_from ts l at hi out c t e w (Ok body) v =
    let r = order_leader l.depth l.content at hi t c body e v in
    order_put at c.span.start hi (marks (layout_of ts l.content) c.line c.span.start) (tokens l.depth None l.content) out r.0
    (λ front m. order_front (layout_of ts l.content) c.line c.span.start front m) (λ body' u. (order_leader l.depth l.content at hi t c body' e u).1) w
order_from ts l at hi out c t e w (Err f) v = absurd (no_body (marks (layout_of ts l.content) c.line c.span.start) (tokens l.depth None l.content) f out v w)

order_line' : (ts : List ℕ) (l : Line) (at hi : ℕ) (out : List Token) (o : Option Piece) → Tiles at l.content hi → first_significant l.content ≡ o → line_with ts l o ≡ Ok out → InOrder at out hi
unfolding line_with FromLeader
order_line' ts l at hi out None t e w = let n : [] ≡ out = cc in order_ok [] out at hi n (tiles_le at l.content hi t)
order_line' ts l at hi out (Some c) t e w = order_from ts l at hi out c t e w (tokens l.depth None l.content) refl

order_line : (ts : List ℕ) (l : Line) (at hi : ℕ) (out : List Token) → Tiles at l.content hi → line_tokens ts l ≡ Ok out → InOrder at out hi
unfolding line_with
order_line ts l at hi out t w = order_line' ts l at hi out (first_significant l.content) t refl w

-- lines whose pieces follow one another, with a line end between two lines
record Tiled (at : ℕ) (cs : List Piece) (P : ℕ → Type 0) : Type 0 where
  mid : ℕ
  next : ℕ
  tiles : Tiles at cs mid
  gap : mid ≤ next
  rest : P next

LinesTile : ℕ → List Line → ℕ → Type 0
LinesTile at [] hi = at ≤ hi
LinesTile at (l ∷ ls) hi = Tiled at l.content (λ next. LinesTile next ls hi)

put_tiles : (c : Piece) (ls : List Line) (at hi : ℕ) → c.span.start ≡ at → at ≤ c.span.end → LinesTile c.span.end ls hi → LinesTile at (put c ls) hi
unfolding LinesTile
put_tiles c [] at hi s h r = omega arith
put_tiles c (l ∷ ls) at hi s h r = record { mid = r.mid; next = r.next; tiles = (s, h, r.tiles); gap = r.gap; rest = r.rest }

tile_lines : (d : ℕ) (cs : List Piece) (at hi : ℕ) → Tiles at cs hi → LinesTile at (lines d cs) hi
unfolding LinesTile
tile_lines d [] at hi t = record { mid = at; next = at; tiles = refl; gap = omega arith; rest = omega arith }
tile_lines d (c ∷ cs) at hi t =
    let here : LinesTile at (line_of [] 0 ∷ lines 0 cs) hi = record { mid = at; next = c.span.end; tiles = refl; gap = t.1; rest = tile_lines 0 cs c.span.end hi t.2 } in
    let on : LinesTile at (put c (lines (depth_after d c.kind) cs)) hi = put_tiles c (lines (depth_after d c.kind) cs) at hi t.0 t.1 (tile_lines (depth_after d c.kind) cs c.span.end hi t.2) in
    elim (ends_line d c.kind) as (λ v. LinesTile at (cond v (line_of [] 0 ∷ lines 0 cs) (put c (lines (depth_after d c.kind) cs))) hi) [ true ↦ here | false ↦ on ]

order_finish : (d : ℕ) (ts : List ℕ) (line at hi : ℕ) → at ≤ hi → InOrder at (finish d ts line hi) hi
order_finish zero ts line at hi h =
    order_lower at hi (finish zero ts line hi) hi h (order_both hi (replicate (length ts - 1) (empty_token k.Outdent line hi)) hi (empty_token k.End line hi ∷ []) hi
    (order_marks (length ts - 1) k.Outdent line hi) (omega arith, omega arith, omega arith))
order_finish (suc d) ts line at hi h = (h, omega arith, omega arith)

order_then : (at mid next hi : ℕ) (m b : Result (List Token) SyntaxFault) (out : List Token) → mid ≤ next
    → ((front : List Token) → m ≡ Ok front → InOrder at front mid) → ((body : List Token) → b ≡ Ok body → InOrder next body hi)
    → m >>= (λ front. onto front b) ≡ Ok out → InOrder at out hi
order_then at mid next hi (Ok front) (Ok body) out h f g w =
    let same : front ++ body ≡ out = cc in
    order_ok (front ++ body) out at hi same (order_both at front mid body hi (f front refl) (order_lower mid next body hi h (g body refl)))
order_then at mid next hi (Ok front) (Err e) out h f g w = cc
order_then at mid next hi (Err e) b out h f g w = cc

order_lay : (line hi : ℕ) (ts : List ℕ) (d : ℕ) (ls : List Line) (at : ℕ) (out : List Token) → LinesTile at ls hi → lay line hi ts d ls ≡ Ok out → InOrder at out hi
unfolding LinesTile
order_lay line hi ts d [] at out t w =
    let same : finish d ts line hi ≡ out = cc in
    order_ok (finish d ts line hi) out at hi same (order_finish d ts line at hi t)
order_lay line hi ts d (l ∷ ls) at out t w =
    order_then at t.mid t.next hi (line_tokens ts l) (lay line hi (opened_after ts l) l.depth ls) out t.gap
    (λ front m. order_line ts l at t.mid front t.tiles m) (λ body u. order_lay line hi (opened_after ts l) l.depth ls t.next body t.rest u) w

pub in_order : (line hi : ℕ) (cs : List Piece) (r : Result (Vec Token Global) SyntaxFault) → IfOk r (λ v. Tiles 0 cs hi) → Answers (lay line hi (0 ∷ []) 0 (lines 0 cs)) r
    → IfOk r (λ v. InOrder 0 v.items hi)
in_order line hi cs (Ok v) t a = order_lay line hi (0 ∷ []) 0 (lines 0 cs) 0 v.items (tile_lines 0 cs 0 hi t) a
in_order line hi cs (Err e) t a = tt
