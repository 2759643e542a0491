use Rattle.std.proofs.Common.{rules, arith}
use Rattle.std.proofs.lemmas.Fmt.{parse-decimal}
use Rattle.report.proofs.printed.small_number.Goals as goal

pub returns-in-Ok : goal.returns-in-Ok
returns-in-Ok c = λ n small e. search (rules, parse-decimal 32 n c.args.word.now _ small (omega (arith, small)) e c.parse.ensures.value.0)

pub returns-in-Err : goal.returns-in-Err
returns-in-Err c = λ n small e. search (rules, parse-decimal 32 n c.args.word.now _ small (omega (arith, small)) e c.parse.ensures.value.0)
