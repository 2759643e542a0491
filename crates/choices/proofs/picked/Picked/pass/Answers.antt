use Rattle.std.proofs.Common.{◌+◌, sym, subst}
use Rattle.choices.specs.Picked.{PickedValue, IsRanked}
use Rattle.choices.proofs.Passing.{picked_at, pass_leads, passed_on}
use Rattle.choices.proofs.picked.Picked.pass.Goals as goal

pub returns-clause-ranked : goal.returns-clause-ranked
returns-clause-ranked c = λ plan bound n front last h can.
    let inside : PickedValue = picked_at c.self.inside.place c.self.inside.cut c.self.inside.picks.items in
    let P : PickedValue → Type 0 = λ p. IsRanked plan bound c.args.tears (n + c.args.count) p in
    subst P
    (sym (passed_on inside c.args.self.now front last _ _ _ _ _ _ _ _ c.self.view_is can.is c.as_slice-picks.ensures.value c.fates_of.ensures.value
    c.beyond-next.ensures c.truncate.ensures.items c.push.ensures.items))
    (pass_leads plan bound c.args.tears n c.args.self.now front last c.args.count h can)
