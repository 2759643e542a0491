use Rattle.retold.proofs.Titles.{no_newline_no_head, own_head}
use Rattle.retold.proofs.page.words_of.Goals as goal

pub returns-in-None : goal.returns-in-None
returns-in-None c =
    no_newline_no_head c.args.options.now c.args.head.now c.in_ok-programs.programs.now c.in_ok-line.line.now c.in_ok-programs.ensures c.in_ok-line.ensures c.in-None.ensures

pub returns-in-Some : goal.returns-in-Some
returns-in-Some c =
    own_head c.args.options.now c.args.head.now c.in_ok-programs.programs.now c.in_ok-line.line.now c.in-Some.words.now c.in_ok-programs.ensures c.in_ok-line.ensures c.in-Some.ensures
