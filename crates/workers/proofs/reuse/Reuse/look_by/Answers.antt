use Rattle.std.proofs.Common.{◌∙◌, slice_set, refl, sym, ap}
use Rattle.interp.specs.Ending.{ending_of}
use Rattle.std.proofs.lemmas.Option.{slice_get_within}
use Rattle.machine.specs.Outcome.{fails}
use Rattle.choices.specs.Picked.{choice_of_picked}
use Rattle.workers.specs.Local.{ReuseValue}
use Rattle.workers.proofs.Telling.{found_ends}
use Rattle.workers.proofs.Keeping.{known_here, found_true}
use Rattle.workers.proofs.Skipping.{ends_all, found_good}
use Rattle.workers.proofs.reuse.Reuse.look_by.Goals as goal

pub find-requires-clause-known : goal.find-requires-clause-known
find-requires-clause-known c =
    known_here c.args.input.now c.args.self.now c.args.picked.now.place c.args.number c.args.checker.now c.self.inside.entries.items c.index_mut-own.result.now c.requires.known c.requires.place
    (ap (λ (r : ReuseValue). r.entries) c.self.view_is) c.requires.checker c.index_mut-own.ensures.value

pub returns-in_default-clause-known : goal.returns-in_default-clause-known
returns-in_default-clause-known c =
    found_true c.args.input.now c.args.self.now _ c.args.picked.now.place c.args.number c.args.checker.now c.find.new.self c.requires.known c.requires.place
    (ap (λ (r : ReuseValue). r.place) c.self.view_is) (ap (λ (r : ReuseValue). r.next) c.self.view_is) (ap (λ (r : ReuseValue). slice_set r.entries c.args.number c.find.new.self) c.self.view_is)
    c.requires.checker c.find.ensures.known

pub outcome-outcome-requires : goal.outcome-outcome-requires
outcome-outcome-requires c = let is = c.in-Some.ensures.found in slice_get_within c.find.new.self c.in-Some.found.entry is.entry is.there

pub returns-then-fails-clause-known : goal.returns-then-fails-clause-known
returns-then-fails-clause-known c =
    found_true c.args.input.now c.args.self.now _ c.args.picked.now.place c.args.number c.args.checker.now c.find.new.self c.requires.known c.requires.place
    (ap (λ (r : ReuseValue). r.place) c.self.view_is) (ap (λ (r : ReuseValue). r.next) c.self.view_is) (ap (λ (r : ReuseValue). slice_set r.entries c.args.number c.find.new.self) c.self.view_is)
    c.requires.checker c.find.ensures.known

pub returns-then-fails-clause-told : goal.returns-then-fails-clause-told
returns-then-fails-clause-told c =
    let is = c.in-Some.ensures.found in
    let (n, ranked) = c.requires.member in (
      refl,
      ends_all c.args.input.now (choice_of_picked c.args.input.now.plan c.args.picked.now) c.args.number c.args.checker.now _ c.requires.checker
          (ap ending_of c.copy.ensures ∙ c.outcome-outcome.ensures is.entry is.there
          ∙ sym (found_ends c.args.input.now c.args.checker.now c.find.new.self n c.args.picked.now c.in-Some.found c.find.ensures.known ranked is)),
    )

pub returns-clause-known : goal.returns-clause-known
returns-clause-known c =
    found_true c.args.input.now c.args.self.now _ c.args.picked.now.place c.args.number c.args.checker.now c.find.new.self c.requires.known c.requires.place
    (ap (λ (r : ReuseValue). r.place) c.self.view_is) (ap (λ (r : ReuseValue). r.next) c.self.view_is) (ap (λ (r : ReuseValue). slice_set r.entries c.args.number c.find.new.self) c.self.view_is)
    c.requires.checker c.find.ensures.known

pub returns-clause-told : goal.returns-clause-told
returns-clause-told c =
    let is = c.in-Some.ensures.found in (
      c.alike.ensures.some,
      c.alike.ensures.most,
      found_good c.args.input.now c.args.checker.now c.find.new.self c.args.picked.now c.in-Some.found c.args.number c.args.most c.alike.result c.find.ensures.known is c.requires.checker
          (ap fails (sym (c.outcome-outcome.ensures is.entry is.there)) ∙ sym c.if-fails.ensures) c.requires.reach c.alike.ensures.most (c.alike.ensures.alike is),
    )
