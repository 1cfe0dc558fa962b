use Rattle.std.proofs.Common.{◌≡◌, ◌⊎◌, inl, inr, sym, subst}
use Rattle.star_lex.specs.declared.token.Punctuator.{Punctuator}
use Rattle.star_lex.specs.declared.token.Punctuator.TheVariants as s
use Rattle.star_syntax.specs.declared.leaf.TokenValue.TheVariants as word
use Rattle.star_syntax.specs.Written.{EndsBefore, right-paren, right-bracket, right-brace, comma, colon, semicolon, assign}
use Rattle.star_syntax.proofs.reader.closes.Goals as goal

closing : (x : Punctuator) → (x ≡ s.Comma) ⊎ ((x ≡ s.RightParen) ⊎ ((x ≡ s.RightBracket) ⊎ ((x ≡ s.RightBrace) ⊎ ((x ≡ s.Colon) ⊎ ((x ≡ s.Assign) ⊎ (x ≡ s.Semicolon))))))
    → EndsBefore (word.Punctuator x)
closing x (inl e) = subst (λ y. EndsBefore (word.Punctuator y)) (sym e) comma
closing x (inr (inl e)) = subst (λ y. EndsBefore (word.Punctuator y)) (sym e) right-paren
closing x (inr (inr (inl e))) = subst (λ y. EndsBefore (word.Punctuator y)) (sym e) right-bracket
closing x (inr (inr (inr (inl e)))) = subst (λ y. EndsBefore (word.Punctuator y)) (sym e) right-brace
closing x (inr (inr (inr (inr (inl e))))) = subst (λ y. EndsBefore (word.Punctuator y)) (sym e) colon
closing x (inr (inr (inr (inr (inr (inl e)))))) = subst (λ y. EndsBefore (word.Punctuator y)) (sym e) assign
closing x (inr (inr (inr (inr (inr (inr e)))))) = subst (λ y. EndsBefore (word.Punctuator y)) (sym e) semicolon

pub returns-in-Comma : goal.returns-in-Comma
returns-in-Comma c = λ _. closing c.args.sign c.in-Comma.is
