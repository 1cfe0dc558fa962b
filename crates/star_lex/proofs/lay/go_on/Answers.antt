use Rattle.std.proofs.Common.{arith, ◌∙◌, sym}
use Rattle.star_lex.proofs.Places.{reads_end, reads_token, refuses_bad, refuses_continuation}
use Rattle.star_lex.proofs.lay.go_on.Goals as goal

pub returns-in_ok-push_newline-in-LineEnd-clause-tokens : goal.returns-in_ok-push_newline-in-LineEnd-clause-tokens
returns-in_ok-push_newline-in-LineEnd-clause-tokens c ts line at cs =
    reads_end line at c.args.depth c.args.out.now.items c.push_newline.new.out.items c.args.before ts c.args.piece cs c.in-LineEnd.is (omega arith) c.in_ok-push_newline-in-LineEnd.ensures

pub returns-in_ok-push-in-Lexeme-clause-tokens : goal.returns-in_ok-push-in-Lexeme-clause-tokens
returns-in_ok-push-in-Lexeme-clause-tokens c ts line at cs =
    rw c.depth_after.ensures.value (reads_token line at c.args.depth c.args.out.now.items c.push.new.self.items c.args.before ts c.args.piece c.in-Lexeme.kind cs c.in-Lexeme.is c.in_ok-push-in-Lexeme.ensures.items)

pub returns-in-Continuation-2-clause-tokens : goal.returns-in-Continuation-2-clause-tokens
returns-in-Continuation-2-clause-tokens c ts line at cs =
    refuses_continuation line at c.args.depth c.args.out.now.items c.args.before ts c.args.piece cs c.in-Continuation.is (sym c.is_some.ensures ∙ c.if-is_some.false)

pub returns-in-Bad-clause-tokens : goal.returns-in-Bad-clause-tokens
returns-in-Bad-clause-tokens c ts line at cs =
    refuses_bad line at c.args.depth c.args.out.now.items c.args.before ts c.args.piece cs c.in-Bad.is
