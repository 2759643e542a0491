use Rattle.std.proofs.Common.{◌≡◌, codes, rules}
use Rattle.join.proofs.Endings.{always, hyphen_codes}
use Rattle.join.proofs.ending.are_codes.Goals as goal

pub returns-then-eq : goal.returns-then-eq
returns-then-eq c = let is : c.args.text.now ≡ codes "-" = search rules in always c.eq.result c.if-eq.true (hyphen_codes c.args.text.now is)
