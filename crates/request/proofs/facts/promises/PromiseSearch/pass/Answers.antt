use Rattle.std.proofs.Common.{arith, length, refl}
use Rattle.std.proofs.lemmas.Option.{slice_get_read}
use Rattle.request.proofs.Marks.{few_found, pass_other, pass_mark, judged_from}
use Rattle.request.proofs.facts.promises.PromiseSearch.pass.Goals as goal

pub judge-requires-clause-room : goal.judge-requires-clause-room
judge-requires-clause-room c = let few = few_found c.args.entries.now c.args.place _ c.requires.searched.found in omega (arith, few, c.requires.few, c.requires.inside)

pub returns-then-not-entry : goal.returns-then-not-entry
returns-then-not-entry c =
    let here = slice_get_read c.args.entries.now (length c.args.entries.now) c.args.place c.index-entries-place.result refl c.requires.inside c.index-entries-place.is in
    pass_other c.args.entries.now c.args.place c.index-entries-place.result c.args.self.now _ here c.if-not-entry.true c.requires.searched refl c.start_by-self.ensures refl

pub returns : goal.returns
returns c =
    let here = slice_get_read c.args.entries.now (length c.args.entries.now) c.args.place c.index-entries-place.result refl c.requires.inside c.index-entries-place.is in
    pass_mark c.args.entries.now c.args.place c.index-entries-place.result c.args.self.now _ here c.if-not-entry.false c.requires.searched c.in_ok-judge.ensures.old refl
    (judged_from c.args.entries.now c.args.place _ _ _ c.judge.new.self.found c.start_by-self.ensures (c.in_ok-judge.ensures.judged _ c.requires.searched.found))
