use Rattle.std.proofs.Common.{◌≡◌, true, false}
use Rattle.known_text.proofs.Heads.{no_text}
use Rattle.known_text.proofs.head.is_decimal.Goals as goal

pub returns-in-Err : goal.returns-in-Err
returns-in-Err c = (λ bad. absurd (let e : false ≡ true = bad in cc), λ it. absurd (no_text c.args.word.now c.in-Err.ensures.cases.0 it))
