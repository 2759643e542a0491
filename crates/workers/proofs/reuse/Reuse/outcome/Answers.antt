use Rattle.std.proofs.Common.{◌∙◌, slice_set, sym, ap}
use Rattle.interp.specs.Ending.{ending_of}
use Rattle.std.proofs.lemmas.Option.{slice_get_within}
use Rattle.workers.specs.Local.{ReuseValue}
use Rattle.workers.proofs.Telling.{found_ends}
use Rattle.workers.proofs.Keeping.{known_here, found_true}
use Rattle.workers.proofs.reuse.Reuse.outcome.Goals as goal

pub find-requires-clause-known : goal.find-requires-clause-known
find-requires-clause-known c =
    known_here c.args.input.now c.args.self.now c.args.picked.now.place c.args.number c.args.checker.now c.self.inside.entries.items c.index_mut-own.result.now c.requires.known c.requires.place
    (ap (λ (r : ReuseValue). r.entries) c.self.view_is) c.requires.checker c.index_mut-own.ensures.value

pub returns-in_err-found-clause-known : goal.returns-in_err-found-clause-known
returns-in_err-found-clause-known c =
    found_true c.args.input.now c.args.self.now _ c.args.picked.now.place c.args.number c.args.checker.now c.find.new.self c.requires.known c.requires.place
    (ap (λ (r : ReuseValue). r.place) c.self.view_is) (ap (λ (r : ReuseValue). r.next) c.self.view_is) (ap (λ (r : ReuseValue). slice_set r.entries c.args.number c.find.new.self) c.self.view_is)
    c.requires.checker c.find.ensures.known

pub outcome-requires : goal.outcome-requires
outcome-requires c = let is = c.in_ok-found.ensures.found in slice_get_within c.find.new.self c.in_ok-found.found.entry is.entry is.there

pub returns-clause-known : goal.returns-clause-known
returns-clause-known c =
    found_true c.args.input.now c.args.self.now _ c.args.picked.now.place c.args.number c.args.checker.now c.find.new.self c.requires.known c.requires.place
    (ap (λ (r : ReuseValue). r.place) c.self.view_is) (ap (λ (r : ReuseValue). r.next) c.self.view_is) (ap (λ (r : ReuseValue). slice_set r.entries c.args.number c.find.new.self) c.self.view_is)
    c.requires.checker c.find.ensures.known

pub returns-clause-ends : goal.returns-clause-ends
returns-clause-ends c =
    let is = c.in_ok-found.ensures.found in
    let (n, ranked) = c.requires.member in
    ap ending_of c.copy.ensures ∙ c.outcome.ensures is.entry is.there
    ∙ sym (found_ends c.args.input.now c.args.checker.now c.find.new.self n c.args.picked.now c.in_ok-found.found c.find.ensures.known ranked is)
