use Rattle.std.proofs.Common.{◌≡◌, map, ◌++◌, ◌∷◌, [], Option, Some, None, Bor, sym, ◌∙◌, ap}
use Rattle.std.specs.Option.{option_map}
use Rattle.std.proofs.lemmas.List.{append-nil}
use Rattle.case_runs.specs.Leaves.{failing_from}
use Rattle.known.specs.declared.run.KnownRun.{KnownRun}
use Rattle.known.specs.Leaves.{told_of, open_of, sets_of_leaf, leaf_by, failing_value, open_sets}
use Rattle.known.proofs.Meeting.{told_alone, not_open_alone}
use Rattle.known.proofs.leaves.put_one.Goals as goal

pub returns-in_ok-put_failing-in-Some-clause-failing : goal.returns-in_ok-put_failing-in-Some-clause-failing
returns-in_ok-put_failing-in-Some-clause-failing c =
    let same : option_map (λ (r : Bor KnownRun). r.now) c.args.run ≡ Some c.in-Some.own.now = ap (option_map (λ (r : Bor KnownRun). r.now)) c.in-Some.is in
    c.in_ok-put_failing-in-Some.ensures
    ∙ ap (λ fs. map failing_value c.args.failing.now.items ++ fs)
    (told_alone c.args.number c.args.sets.now c.in-Some.own.now ∙ ap (λ (o : Option KnownRun). failing_from c.args.number (told_of (leaf_by c.args.sets.now o ∷ []))) (sym same))

pub returns-in_ok-put_failing-in-Some-clause-those : goal.returns-in_ok-put_failing-in-Some-clause-those
returns-in_ok-put_failing-in-Some-clause-those c =
    let same : option_map (λ (r : Bor KnownRun). r.now) c.args.run ≡ Some c.in-Some.own.now = ap (option_map (λ (r : Bor KnownRun). r.now)) c.in-Some.is in
    sym (append-nil (map open_sets c.args.cases.now.items))
    ∙ ap (λ xs. map open_sets c.args.cases.now.items ++ xs)
    (sym (not_open_alone c.args.sets.now c.in-Some.own.now) ∙ ap (λ (o : Option KnownRun). map sets_of_leaf (open_of (leaf_by c.args.sets.now o ∷ []))) (sym same))

pub returns-in_ok-put_open-in-None-clause-failing : goal.returns-in_ok-put_open-in-None-clause-failing
returns-in_ok-put_open-in-None-clause-failing c =
    let same : option_map (λ (r : Bor KnownRun). r.now) c.args.run ≡ None = ap (option_map (λ (r : Bor KnownRun). r.now)) c.in-None.is in
    sym (append-nil (map failing_value c.args.failing.now.items))
    ∙ ap (λ (o : Option KnownRun). map failing_value c.args.failing.now.items ++ failing_from c.args.number (told_of (leaf_by c.args.sets.now o ∷ []))) (sym same)
