use Rattle.std.proofs.Common.{◌≡◌, is_some, true}
use Rattle.join.proofs.Heads.{head_here, no_head}
use Rattle.join.proofs.heading.after_head.Goals as goal

pub returns-then-is_some : goal.returns-then-is_some
returns-then-is_some c =
    let some : is_some c.beyond.result ≡ true = cc in
    head_here c.args.text.now _ c.in-Some.line.now c.in-Some.more.now c.beyond.result c.loop-line.invariant.0 c.utf8.text c.in-Some.ensures c.beyond.ensures some

pub returns : goal.returns
returns c = no_head c.args.text.now _ c.loop-line.invariant.0 c.in_default.ensures
