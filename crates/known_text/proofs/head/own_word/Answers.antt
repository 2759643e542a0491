use Rattle.known_text.proofs.Heads.{if_err, other_word}
use Rattle.known_text.proofs.head.own_word.Goals as goal

pub returns-in-Ok-clause-refused : goal.returns-in-Ok-clause-refused
returns-in-Ok-clause-refused c =
    if_err _ _ _ c.if_same.result (λ f is. other_word c.args.kind c.args.word.now c.args.bytes.now c.in-Ok.said.now c.in-Ok.rest.now c.args.line f c.in-Ok.ensures.word is) c.if_same.ensures
