use Rattle.std.proofs.Common.{ℕ, ◌≡◌, ◌∙◌, ap, rules, length, Vec, Global}
use Rattle.join.proofs.Joins.{left_more, long_found}
use Rattle.join.proofs.joining.first_long.Goals as goal

pub returns-then-long-left : goal.returns-then-long-left
returns-then-long-left c =
    let own : c.len-long.result ≡ length c.index-files-number.result.items = search rules in
    let long = own ∙ ap (λ (f : Vec ℕ Global). length f.items) c.index-files-number.is in
    long_found (λ (f : Vec ℕ Global). f.items) c.args.files.now c.loop-number.number c.loop-number.left c.len-long.result c.index-files-number.result c.loop-number-test.true c.loop-number.invariant long c.if-long-left.true

pub loop-number-preserved : goal.loop-number-preserved
loop-number-preserved c =
    let own : c.len-long.result ≡ length c.index-files-number.result.items = search rules in
    let long = own ∙ ap (λ (f : Vec ℕ Global). length f.items) c.index-files-number.is in
    left_more (λ (f : Vec ℕ Global). f.items) c.args.files.now c.loop-number.number c.loop-number.left c.len-long.result c.index-files-number.result c.loop-number-test.true c.loop-number.invariant long c.if-long-left.false
